-- The walks over the items of a list, which are loops: what is left, from item k on with the state as it is now, says what the whole says.
--     Left                                that, and that the state is ready for the next item
--     StmtsLeft, FieldsLeft, ArmsLeft     of the statements of a block, the fields given to a record, the arms of a match
-- For each of these, `-go` is from item k to the next, `-stop` a refusal of item k, and `-end` past the last.
-- Assumes nothing.
use mathlib.Core.Path.{◌≡◌, refl, ◌∙◌}
use mathlib.Core.List.{List}
use mathlib.Core.Bool.{Bool, true, false, ◌&&◌, ◌||◌}
use Prim.Native.Nat.{ℕ, ◌+◌, ◌-◌, ◌*◌, ◌<◌, ◌≤◌}
use Rattle.laws.proofs.Choice.{yes, no, lets}
use Rattle.laws.specs.declared.refusal.Refusal.{Refusal}
use Rattle.pack.specs.Lists.{list_item}
use Rattle.structure.specs.Types.{code_in}
use Rattle.members.specs.Lookup.{member_of}
use Rattle.laws.specs.declared.fault.Fault.TheVariants.{ArmAfterAny}
use Rattle.expr.specs.State.{Env, State, Ans, st, ran, outcome, refuse, Step}
use Rattle.expr.specs.Rules.{stmt_rule, stmts_rule, arm_rule, ends_arms, arms_rule, fields_rule, expr_rule}
use Rattle.expr.specs.Ready.{Coded, Ready, Fielded, Ran}
use Rattle.expr.specs.declared.answer.Outcome.{Outcome}
use Rattle.expr.proofs.Steps.{goes, stops, is}
use Rattle.expr.proofs.Recursions.{stmts_none, stmts_more, arms_none, arms_more, fields_none, fields_more}
use Rattle.expr.proofs.Kept.{after, coded_more}
use Rattle.expr.proofs.Keeps.{Given}
use Rattle.expr.proofs.Meets.{meets_stmts, meets_arms, meets_fields}
use Rattle.std.proofs.Common.{Ok, Err}

pub record Left (vars : ℕ) (s : State) (rest whole : Ans) : Type 0 where
  pub says : rest ≡ whole
  pub ready : Ready vars s

left_goes : {vars : ℕ} {s : State} {rest whole : Ans} → Left vars s rest whole → {a : Ans} {r : Step} {c l w : List ℕ} {o : Outcome} → Ran vars a r c l w → r ≡ Ok o
    → {next : Ans} → next ≡ rest → Left o.vars (st c l w) next whole
left_goes l i d p = record { says = p ∙ l.says; ready = (after i d).1 }

-- n items of a list, at the start with `start` variables in use and the state `first`; item k is the next, d what the items before told
module _ (depth : ℕ) (e : Env) where
  abbrev pub StmtsLeft : (list n start : ℕ) (first : State) (k : ℕ) (d : Bool) (vars : ℕ) (s : State) → Type 0
  StmtsLeft list n start first k d vars s =
      Left vars s (stmts_rule (expr_rule depth e) e list (n - k) k d vars s) (stmts_rule (expr_rule depth e) e list n 0 false start first)

  abbrev pub FieldsLeft : (list fields n start : ℕ) (first : State) (k : ℕ) (d : Bool) (vars : ℕ) (s : State) → Type 0
  FieldsLeft list fields n start first k d vars s =
      Left vars s (fields_rule (expr_rule depth e) e list fields (n - k) k d vars s) (fields_rule (expr_rule depth e) e list fields n 0 false start first)

  -- ended: whether the arm before was an unguarded `_`
  abbrev pub ArmsLeft : (id list arms n want start : ℕ) (first : State) (k : ℕ) (ended d : Bool) (vars : ℕ) (s : State) → Type 0
  ArmsLeft id list arms n want start first k ended d vars s =
      Left vars s (arms_rule (expr_rule depth e) e id list arms (n - k) k ended d want vars s) (arms_rule (expr_rule depth e) e id list arms n 0 false true want start first)
      × Coded vars want

module _ {e : Env} {start : ℕ} {first : State} (g : Given e start first) (depth : ℕ) (n k : ℕ) (d : Bool) {vars : ℕ} {c s w : List ℕ} where
  -- ---- the statements of a block

  module _ (list : ℕ) (l : StmtsLeft depth e list n start first k d vars (st c s w)) where
    pub stmts_end : n ≤ k → {z : Step} → z ≡ Ok (outcome d 0 vars) → Ran start (stmts_rule (expr_rule depth e) e list n 0 false start first) z c s w
    unfolding stmts_rule
    stmts_end h p = meets_stmts g depth list n 0 false (stmts_none _ e list n k d vars _ h (is p) ∙ l.says)

    module _ (h : k < n) {id : ℕ} (a : id ≡ list_item e.p e.c list k)
        {r : Step} {c1 s1 w1 : List ℕ} (i : Ran vars (stmt_rule (expr_rule depth e) e id vars (st c s w)) r c1 s1 w1) where
      pub stmts_stop : {f : Refusal} → r ≡ Err f → Ran start (stmts_rule (expr_rule depth e) e list n 0 false start first) (Err f) c1 s1 w1
      unfolding stmts_rule
      stmts_stop p = meets_stmts g depth list n 0 false (stmts_more _ e list n k d vars _ h (lets _ a (stops _ i.same p)) ∙ l.says)

      pub stmts_go : {o : Outcome} → r ≡ Ok o → {u : Bool} → u ≡ (d || o.diverges) → StmtsLeft depth e list n start first (k + 1) u o.vars (st c1 s1 w1)
      unfolding stmts_rule
      stmts_go q u = left_goes l i q (stmts_more _ e list n k d vars _ h (lets _ a (goes _ i.same q (lets _ u refl))))

  -- ---- the fields given to a record

  module _ (list fields : ℕ) (f : Fielded e list fields n 0) (l : FieldsLeft depth e list fields n start first k d vars (st c s w)) where
    pub fields_end : n ≤ k → {z : Step} → z ≡ Ok (outcome d 0 vars) → Ran start (fields_rule (expr_rule depth e) e list fields n 0 false start first) z c s w
    unfolding fields_rule
    fields_end h p = meets_fields g depth list fields n 0 false f (fields_none _ e list fields n k d vars _ h (is p) ∙ l.says)

    module _ (h : k < n) {name : ℕ} (a : name ≡ list_item e.p e.c fields (2 * k)) {value : ℕ} (v : value ≡ list_item e.p e.c fields (2 * k + 1))
        {t : ℕ} (m : t ≡ member_of e.p e.c list name) {x : ℕ} (y : x ≡ code_in e.p e.c e.same t)
        {r : Step} {c1 s1 w1 : List ℕ} (i : Ran vars (expr_rule depth e value x vars (st c s w)) r c1 s1 w1) where
      pub fields_stop : {q : Refusal} → r ≡ Err q → Ran start (fields_rule (expr_rule depth e) e list fields n 0 false start first) (Err q) c1 s1 w1
      unfolding fields_rule
      fields_stop p =
          meets_fields g depth list fields n 0 false f
          (fields_more _ e list fields n k d vars _ h (lets _ a (lets _ v (lets _ m (lets _ y (stops _ i.same p))))) ∙ l.says)

      pub fields_go : {o : Outcome} → r ≡ Ok o → {u : Bool} → u ≡ (d || o.diverges) → FieldsLeft depth e list fields n start first (k + 1) u o.vars (st c1 s1 w1)
      unfolding fields_rule
      fields_go q u =
          left_goes l i q (fields_more _ e list fields n k d vars _ h (lets _ a (lets _ v (lets _ m (lets _ y (goes _ i.same q (lets _ u refl)))))))

  -- ---- the arms of a match

  module _ {want : ℕ} (b : Coded start want) (id list arms : ℕ) (ended : Bool) (l : ArmsLeft depth e id list arms n want start first k ended d vars (st c s w)) where
    pub arms_end : n ≤ k → {z : Step} → z ≡ Ok (outcome d 0 vars) → Ran start (arms_rule (expr_rule depth e) e id list arms n 0 false true want start first) z c s w
    unfolding arms_rule
    arms_end h p = meets_arms g depth b id list arms n 0 false true (arms_none _ e id list arms n k ended d want vars _ h (is p) ∙ l.0.says)

    pub arms_ended : k < n → ended ≡ true → {body : ℕ} → body ≡ list_item e.p e.c arms (4 * k + 3) → {z : Step} → ran z c s w ≡ refuse ArmAfterAny body (st c s w)
        → Ran start (arms_rule (expr_rule depth e) e id list arms n 0 false true want start first) z c s w
    unfolding arms_rule
    arms_ended h q a p =
        meets_arms g depth b id list arms n 0 false true (arms_more _ e id list arms n k ended d want vars _ h (yes _ _ _ q (lets _ a p)) ∙ l.0.says)

    module _ (h : k < n) (q : ended ≡ false) {r : Step} {c1 s1 w1 : List ℕ} (i : Ran vars (arm_rule (expr_rule depth e) e id list arms k want vars (st c s w)) r c1 s1 w1) where
      pub arms_stop : {f : Refusal} → r ≡ Err f → Ran start (arms_rule (expr_rule depth e) e id list arms n 0 false true want start first) (Err f) c1 s1 w1
      unfolding arms_rule
      arms_stop p =
          meets_arms g depth b id list arms n 0 false true (arms_more _ e id list arms n k ended d want vars _ h (no _ _ _ q (stops _ i.same p)) ∙ l.0.says)

      pub arms_go : {o : Outcome} → r ≡ Ok o → {end : Bool} → end ≡ ends_arms e.p e.c arms k → {u : Bool} → u ≡ (d && o.diverges)
          → ArmsLeft depth e id list arms n want start first (k + 1) end u o.vars (st c1 s1 w1)
      unfolding arms_rule
      arms_go t end u = (
        left_goes l.0 i t (arms_more _ e id list arms n k ended d want vars _ h (no _ _ _ q (goes _ i.same t (lets _ end (lets _ u refl))))),
        coded_more (after i t).0 l.1,
      )
