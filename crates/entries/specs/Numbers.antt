-- "Refusal numbers": those that an entry can give. What a pack itself is refused for comes from every entry; 5 and 6 from those that have a
-- root number or a result area; the others from the entry's own module.
use Rattle.std.specs.Prelude.{ℕ, List, [], ◌∷◌, ◌++◌}

abbrev pub of_pack : List ℕ
of_pack = 1 ∷ 2 ∷ 3 ∷ 4 ∷ 10 ∷ 11 ∷ 12 ∷ 13 ∷ 14 ∷ 15 ∷ []

abbrev pub of_types : List ℕ
of_types = of_pack ++ 40 ∷ 41 ∷ []

abbrev pub of_order : List ℕ
of_order = of_pack ++ 6 ∷ 50 ∷ 51 ∷ 52 ∷ []

-- 13 and 15 stand where the rules of module 4 have nothing to check, and 38 and 39 in the layers below it; no well-formed pack leads to them
abbrev pub of_rules : List ℕ
of_rules = 13 ∷ 15 ∷ 20 ∷ 21 ∷ 22 ∷ 23 ∷ 24 ∷ 25 ∷ 26 ∷ 27 ∷ 28 ∷ 29 ∷ 30 ∷ 31 ∷ 32 ∷ 33 ∷ 34 ∷ 35 ∷ 36 ∷ 37 ∷ 38 ∷ 39 ∷ []

abbrev pub of_root : List ℕ
of_root = of_pack ++ 5 ∷ 6 ∷ of_rules
