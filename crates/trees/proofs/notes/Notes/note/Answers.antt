use Rattle.laws.specs.Bounded.{get, put}
use Rattle.laws.proofs.Choice.{yes, no}
use Rattle.laws.proofs.Bounded.{get_in, get_out, put_in, put_out}
use Rattle.trees.specs.Notes.{nodes, notes, note_one}
use borrow.Author.Tests.{lt-ltb, le-ltb}
use mathlib.Core.Path.{refl, ap, ap₂, ◌∙◌}
use Prim.Native.Nat.{ℕ, ◌+◌}
use native.Mathlib.Omega.{arith}
use Rattle.trees.proofs.notes.Notes.note.Goals as goal

pub returns-then-n-lt2-clause-noted : goal.returns-then-n-lt2-clause-noted
unfolding note_one
returns-then-n-lt2-clause-noted c =
    let uses = c.args.self.now.uses in
    let kid = c.args.kid in
    let room = c.if-k-lt-CAPACITY.true in
    let told = get_in nodes uses kid room in
    let counted = put_in nodes _ _ _ room ∙ ap (λ (x : ℕ). put nodes uses kid (x + 1)) told in
    yes _ _ _ (lt-ltb (get nodes uses kid) 2 (omega (arith, told))) (ap₂ notes counted (put_in nodes _ _ _ room))

pub returns-else-n-lt2-clause-noted : goal.returns-else-n-lt2-clause-noted
returns-else-n-lt2-clause-noted c = unfold note_one in no _ _ _ (le-ltb (get nodes c.args.self.now.uses c.args.kid) 2 (omega (arith, get_in nodes c.args.self.now.uses c.args.kid c.if-k-lt-CAPACITY.true))) refl

pub returns-else-k-lt-CAPACITY-clause-noted : goal.returns-else-k-lt-CAPACITY-clause-noted
returns-else-k-lt-CAPACITY-clause-noted c = unfold note_one in yes _ _ _ (lt-ltb (get nodes c.args.self.now.uses c.args.kid) 2 (omega (arith, get_out nodes c.args.self.now.uses c.args.kid c.if-k-lt-CAPACITY.false))) (ap₂ notes (put_out nodes _ _ _ c.if-k-lt-CAPACITY.false) (put_out nodes _ _ _ c.if-k-lt-CAPACITY.false))
