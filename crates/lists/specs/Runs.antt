-- A table that tells of each list word where the first word from it on stands that is not below a limit.
-- With it a list of ids is judged in one step, however many rows name it.
use Rattle.std.specs.Prelude.{ℕ, ◌≤◌, ◌≡◌, List, ltb, get_or}
use Rattle.laws.specs.First.{until}
use Rattle.pack.specs.Lists.{list_word}
use Rattle.pack.specs.declared.counts.Counts.{Counts}

-- where the words from j on stop being below the limit
abbrev pub run_end : List ℕ → Counts → ℕ → ℕ → ℕ
run_end p c limit j = until (λ k. ltb (list_word p c k) limit) j c.words

pub record Runs (p : List ℕ) (c : Counts) (limit : ℕ) (places : List ℕ) : Type 0 where
  pub each : (j : ℕ) → j ≤ c.words → get_or places j 0 ≡ run_end p c limit j
