use mathlib.Core.Path.{refl, ap, ◌∙◌}
use native.Mathlib.Omega.{arith}
use Rattle.structure.specs.Buckets.{bucket_of}
use Rattle.structure.proofs.Chaining.{links_with}
use Rattle.structure.proofs.Noting.{head_is, len_word, read_more}
use Rattle.structure.proofs.words.Words.read.Goals as goal

pub loop-j-init : goal.loop-j-init
loop-j-init c = (omega arith, record { size = c.requires.0; word = λ k h. absurd (omega arith) }, c.requires.1 _)

pub loop-j-preserved : goal.loop-j-preserved
loop-j-preserved c = let e = c.list_len-word.ensures.same ∙ len_word _ _ _ in
    let b = c.bucket_of-bucket.ensures.same ∙ ap bucket_of e in
    (omega (arith, c.loop-j-test.true), read_more c.loop-j.invariant.1 c.loop-j-test.true e, links_with c.loop-j.invariant.2 c.loop-j-test.true b (head_is _ refl c.bucket_of-bucket.ensures.small b))
