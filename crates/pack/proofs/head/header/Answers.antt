use Rattle.laws.proofs.Answers.{passed_on}
use Rattle.pack.proofs.NeedLaws.{met, unmet}
use Rattle.pack.specs.Header.{header_of}
use mathlib.Core.Path.{refl, ◌∙◌}
use Rattle.pack.proofs.head.header.Goals as goal

pub returns-in_err-need : goal.returns-in_err-need
unfolding header_of
returns-in_err-need c = passed_on _ c.in_err-need.field-0.0 c.from_residual.ensures.1 ∙ unmet _ _ _ c.in_err-need.ensures

pub returns-in_err-need-2 : goal.returns-in_err-need-2
unfolding header_of
returns-in_err-need-2 c =
    rw (← c.letters.ensures)
    (met _ _ _ c.in_ok-need.ensures
    (passed_on _ c.in_err-need-2.field-0.0 c.from_residual-in_err-need-2.ensures.1 ∙ unmet _ _ _ c.in_err-need-2.ensures))

pub returns-in_err-need-3 : goal.returns-in_err-need-3
unfolding header_of
returns-in_err-need-3 c =
    rw (← c.letters.ensures, ← c.byte_at.ensures.same)
    (met _ _ _ c.in_ok-need.ensures
    (met _ _ _ c.in_ok-need-2.ensures
    (passed_on _ c.in_err-need-3.field-0.0 c.from_residual-in_err-need-3.ensures.1 ∙ unmet _ _ _ c.in_err-need-3.ensures)))

pub returns-in_err-need-4 : goal.returns-in_err-need-4
unfolding header_of
returns-in_err-need-4 c =
    rw (← c.letters.ensures, ← c.byte_at.ensures.same, ← c.counts_of-c.ensures, ← c.in_limits.ensures)
    (met _ _ _ c.in_ok-need.ensures
    (met _ _ _ c.in_ok-need-2.ensures
    (met _ _ _ c.in_ok-need-3.ensures
    (passed_on _ c.in_err-need-4.field-0.0 c.from_residual-in_err-need-4.ensures.1 ∙ unmet _ _ _ c.in_err-need-4.ensures))))

pub returns-in_err-need-5 : goal.returns-in_err-need-5
unfolding header_of
returns-in_err-need-5 c =
    rw (← c.letters.ensures, ← c.byte_at.ensures.same, ← c.counts_of-c.ensures, ← c.in_limits.ensures, ← c.size_of.ensures.same)
    (met _ _ _ c.in_ok-need.ensures
    (met _ _ _ c.in_ok-need-2.ensures
    (met _ _ _ c.in_ok-need-3.ensures
    (met _ _ _ c.in_ok-need-4.ensures
    (passed_on _ c.in_err-need-5.field-0.0 c.from_residual-in_err-need-5.ensures.1 ∙ unmet _ _ _ c.in_err-need-5.ensures)))))

pub returns : goal.returns
unfolding header_of
returns c =
    rw (← c.letters.ensures, ← c.byte_at.ensures.same, ← c.counts_of-c.ensures, ← c.in_limits.ensures, ← c.size_of.ensures.same)
    (met _ _ _ c.in_ok-need.ensures
    (met _ _ _ c.in_ok-need-2.ensures
    (met _ _ _ c.in_ok-need-3.ensures
    (met _ _ _ c.in_ok-need-4.ensures
    (met _ _ _ c.in_ok-need-5.ensures refl)))))
