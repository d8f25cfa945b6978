-- The operations of a script one after the other: what is left from operation i on leaves what the whole leaves.
--     told             an operation whose two numbers were written
--     told_length      the answers stay as long as they were
--     begins, goes, ends   the steps of the loop
-- And two results that meet the contract are equal: replays_one.
-- Assumes nothing.
use Prim.Native.Nat.{ℕ, suc, ◌+◌, ◌*◌, ◌-◌, ◌<◌, ◌≤◌}
use mathlib.Core.Path.{◌≡◌, refl, sym, ap, ◌∙◌}
use mathlib.Core.List.{List}
use native.Mathlib.Omega.{arith}
use lib.ListN.{length}
use Rattle.laws.specs.Bounded.{put}
use Rattle.laws.proofs.Bounded.{put_length}
use Rattle.unionfind.specs.Answers.{Empties}
use Rattle.cells_abi.specs.Script.{Stepped, operation_of, number_at, step_of, noted, replay_from, replay_of, Steps, Told}
use Rattle.cells_abi.specs.declared.operations.Step.{Step}

module _ (script : List ℕ) (i n : ℕ) (xs out : List ℕ) where
  pub told : {op v x : ℕ} {r : Step} {ys first after : List ℕ} → op ≡ number_at script (3 * i) → v ≡ number_at script (3 * i + 1) → x ≡ number_at script (3 * i + 2)
      → Steps (operation_of op v x n xs) r ys → first ≡ put (length out) out (2 * i) r.answer → after ≡ put (length first) first (2 * i + 1) r.place
      → Told (step_of script i n xs) i out r.len ys after
  unfolding step_of noted
  told {r = r} {first = first} e f g s a b =
      let is = rw (e, f, g) at s.same in
      let long : length first ≡ length out = ap length a ∙ put_length (length out) out (2 * i) r.answer in
      record {
        len = ap (λ (t : Stepped). t.len) is;
        cells = ap (λ (t : Stepped). t.cells) is;
        answers = b ∙ rw (long, a) (ap (λ (t : Stepped). put (length out) (put (length out) out (2 * i) t.answer) (2 * i + 1) t.place) is);
        live = s.live;
      }

pub told_length : {s : Stepped} {i r : ℕ} {out ys after : List ℕ} → Told s i out r ys after → length after ≡ length out
unfolding noted
told_length {s = s} {i = i} {out = out} t =
    ap length t.answers ∙ put_length (length out) _ (2 * i + 1) s.place ∙ put_length (length out) out (2 * i) s.answer

pub record Left (script : List ℕ) (ops i n : ℕ) (xs out whole : List ℕ) : Type 0 where
  pub says : replay_from script (ops - i) i n xs out ≡ whole

module _ (script : List ℕ) (ops : ℕ) where
  pub begins : {n : ℕ} {xs : List ℕ} (out : List ℕ) → Empties n xs → Left script ops 0 n xs out (replay_of script ops out)
  unfolding replay_of
  begins out e = let all : ops - 0 ≡ ops = omega arith in record { says = rw (all, e.none, e.cells) refl }

  pub goes : {i n r : ℕ} {xs ys out after whole : List ℕ} → i < ops → Left script ops i n xs out whole → Told (step_of script i n xs) i out r ys after
      → Left script ops (i + 1) r ys after whole
  unfolding replay_from
  goes {i = i} h l t =
      let one : ops - i ≡ suc (ops - (i + 1)) = omega arith in
      record { says = rw (t.len, t.cells, t.answers) (rw one at l.says) }

  pub ends : {i n : ℕ} {xs out whole : List ℕ} → ops ≤ i → Left script ops i n xs out whole → out ≡ whole
  unfolding replay_from
  ends {i = i} h l = let none : ops - i ≡ 0 = omega arith in rw none at l.says

pub replays_one : (script : List ℕ) (ops : ℕ) (out a b : List ℕ) → a ≡ replay_of script ops out → b ≡ replay_of script ops out → a ≡ b
replays_one script ops out a b e f = e ∙ sym f
