-- Two operands, one after the other: the left one in the target, the right one in the first temporary.
use Rattle.std.proofs.Common.{◌≡◌, ℕ, ◌+◌, ◌<◌, ◌≤◌, Bool, true, false, List, length, Option, Some, None, refl, sym, ap, ◌∙◌, subst}
use Rattle.std.specs.Prelude.{slice_index, IsTrue}
use Rattle.list_denotation.specs.declared.input.Input.{Input}
use Rattle.list_denotation.specs.Terms.{Term}
use Rattle.list_denotation.specs.Values.{Got, Is, Fails, with_value, value}
use Rattle.loop_ir.specs.Statements.{Operand, Var, Block, Nil, join}
use Rattle.expr_phrases.specs.Results.{IsKnown, HasValue}
use Rattle.expr_lower.specs.Contract.{Kept, GoesOn, ComesTo, IsIn}
use Rattle.expr_constants.specs.Constants.{constant_of}
use Rattle.expr_constants.specs.Simple.{is_simple}
use Rattle.expr_forms.specs.Forms.{Lowered, as_word, operand_block, operand_in, division_operand_block, division_operand_in, into}
use Rattle.expr_lower.specs.Lowering.{lowered_term}
use Rattle.expr_lower.specs.Costs.{is_plain, temps_of}
use Rattle.expr_lower.specs.Laws.{Laws}
use Rattle.expr_lower.specs.PlainWords.{plain_word}
use Rattle.expr_lower.specs.Scopes.{EachLeaf, IsWordLeaf, IsOutside, WordsInPlace}
use Rattle.expr_lower.proofs.Disjointness.{IsDisjoint, not_outside, outside_more}
use Rattle.expr_lower.proofs.Effects.{kept_right, kept_twice, then_comes, holds_too, nothing_comes}
use Rattle.expr_lower.proofs.Plain.{simple_plain}
use Rattle.expr_lower.proofs.PlainValues.{plain_value, plain_lowered, value_plain, plain_holds, plain_is_word}
use Rattle.expr_lower.proofs.ValueUses.{IsFound, IsOperand, still_in_place, operand_comes, target_comes}

-- the value of a constant is that constant
constant_known : (laws : Laws) (e : Term) (words : List ℕ) (inputs : List Input) (x : ℕ) → value e words inputs ≡ Is x → IsKnown (constant_of e) x
constant_known laws e words inputs x h = by_constant_of (constant_of e) refl
  where
    by_constant_of : (k : Option ℕ) → constant_of e ≡ k → IsKnown k x
    by_constant_of (Some c) is = let known : value e words inputs ≡ Is c = laws.constant_value e c words inputs is in cc
    by_constant_of None is = tt

module _ (rows words : List ℕ) (inputs : List Input) where
  -- an expression whose statements may run: target and temporaries are there, and apart from what it reads
  pub record Ready (e : Term) (v t top : ℕ) (env : List ℕ) : Type 0 where
    pub has : EachLeaf IsWordLeaf e
    pub outside : IsOutside t top v
    pub room : t + temps_of e ≤ top
    pub inside : v < length env
    pub within : top ≤ length env
    pub apart : IsDisjoint rows v t top e
    pub in_place : WordsInPlace rows words inputs env e

  pub still_ready : (e : Term) (v t top : ℕ) (env env' : List ℕ) → Kept v t top env env' → Ready e v t top env → Ready e v t top env'
  still_ready e v t top env env' kept ready = record {
    has = ready.has;
    outside = ready.outside;
    room = ready.room;
    inside = subst (λ n. v < n) (sym kept.same) ready.inside;
    within = subst (λ n. top ≤ n) (sym kept.same) ready.within;
    apart = ready.apart;
    in_place = still_in_place rows words inputs e v t top env env' ready.apart kept ready.in_place;
  }

  -- what the expression is lowered to comes to its value
  abbrev pub IsLoweredTo : Term → Lowered → ℕ → ℕ → ℕ → List ℕ → Type 0
  IsLoweredTo e l v t top env = ComesTo inputs l.block env v t top (IsFound rows words inputs e l.form v) (value e words inputs)

  abbrev pub IsLowered : Term → ℕ → ℕ → ℕ → List ℕ → Type 0
  IsLowered e v t top env = IsLoweredTo e (lowered_term rows e v t) v t top env

  -- ---- the operand that is kept

  -- what is known of the value of the expression
  knowing : (laws : Laws) (e : Term) (block : Block) (v t top : ℕ) (env : List ℕ) (P : ℕ → List ℕ → Type 0) (g : Got ℕ) → value e words inputs ≡ g → ComesTo inputs block env v t top P g → ComesTo inputs block env v t top (λ x env'. P x env' × IsKnown (constant_of e) x) g
  knowing laws e block v t top env P (Is x) is h =
      record { env' = h.env'; runs = h.runs; kept = h.kept; word = h.word; holds = (h.holds, constant_known laws e words inputs x is) }
  knowing laws e block v t top env P (Fails f) is h = h

  -- what is known of an operand that stands in w, kept in v
  abbrev pub IsKeptOperand : Term → Operand → ℕ → ℕ → List ℕ → Type 0
  IsKeptOperand e w v x env' = IsOperand rows words inputs e w v x env' × IsKnown (constant_of e) x

  pub left_comes : (laws : Laws) (e : Term) (v t top : ℕ) (env : List ℕ) → Ready e v t top env → IsLowered e v t top env → ComesTo inputs (operand_block (lowered_term rows e v t) v) env v t top (IsKeptOperand e (operand_in (lowered_term rows e v t).form v) v) (value e words inputs)
  left_comes laws e v t top env ready h =
      let l : Lowered = lowered_term rows e v t in
      knowing laws e (operand_block l v) v t top env (IsOperand rows words inputs e (operand_in l.form v) v) (value e words inputs) refl
      (operand_comes rows words inputs e l.block l.form v t top env (value e words inputs) ready.inside h)

  -- an operand that is looked at more than once
  kept_target_comes : (laws : Laws) (e : Term) (v t top : ℕ) (env : List ℕ) → Ready e v t top env → IsLowered e v t top env → ComesTo inputs (into (lowered_term rows e v t) v) env v t top (IsKeptOperand e (Var v) v) (value e words inputs)
  kept_target_comes laws e v t top env ready h =
      let l : Lowered = lowered_term rows e v t in
      knowing laws e (into l v) v t top env (IsOperand rows words inputs e (Var v) v) (value e words inputs) refl
      (holds_too inputs (into l v) env v t top (IsIn v) (IsOperand rows words inputs e (Var v) v) (value e words inputs)
      (target_comes rows words inputs e l.block l.form v t top env (value e words inputs) ready.inside ready.apart ready.in_place h)
      (λ x env' word kept is. λ env'' in_place same. ap Is (same ∙ is)))

  -- ---- the right operand

  -- what is known of a right operand, whose statements keep the target v of the left one
  abbrev pub IsRight : Term → Operand → ℕ → ℕ → List ℕ → ℕ → List ℕ → Type 0
  IsRight e w v t before y env' = IsKeptOperand e w t y env' × (slice_index env' v ≡ slice_index before v)

  right_frame : (e : Term) (w : Operand) (block : Block) (v t top : ℕ) (env : List ℕ) (g : Got ℕ) → t < top → IsOutside t top v → ComesTo inputs block env t (t + 1) top (IsKeptOperand e w t) g → ComesTo inputs block env v t top (IsRight e w v t env) g
  right_frame e w block v t top env (Is y) lt outside h = record {
    env' = h.env';
    runs = h.runs;
    kept = kept_right v t top env h.env' lt h.kept;
    word = h.word;
    holds = (h.holds, h.kept.others v (not_outside t top v lt outside) (outside_more t top v outside));
  }
  right_frame e w block v t top env (Fails f) lt outside h = h

  -- ---- both operands

  -- both operands have their values
  pub record BothAre (a b : Term) (wa wb : Operand) (x y : ℕ) (env : List ℕ) : Type 0 where
    pub left : HasValue inputs (constant_of a) wa x env
    pub right : HasValue inputs (constant_of b) wb y env

  -- what comes of both operands, where their statements are followed by others
  pub operands_come : (a b : Term) (first second rest : Block) (wa wb : Operand) (v t top : ℕ) (env : List ℕ) (Q : ℕ → List ℕ → Type 0) (f : ℕ → ℕ → Got ℕ) → IsDisjoint rows v t top a → IsDisjoint rows v t top b → WordsInPlace rows words inputs env a → WordsInPlace rows words inputs env b → ComesTo inputs first env v t top (IsKeptOperand a wa v) (value a words inputs) → ((env' : List ℕ) → Kept v t top env env' → ComesTo inputs second env' v t top (IsRight b wb v t env') (value b words inputs)) → ((x y : ℕ) (env' : List ℕ) → Kept v t top env env' → BothAre a b wa wb x y env' → ComesTo inputs rest env' v t top Q (f x y)) → ComesTo inputs (join first (join second rest)) env v t top Q (with_value (value a words inputs) (λ x. with_value (value b words inputs) (λ y. f x y)))
  operands_come a b first second rest wa wb v t top env Q f apart_a apart_b in_place_a in_place_b left right more =
      then_comes inputs first (join second rest) env v t top (IsKeptOperand a wa v) Q (value a words inputs) (λ x. with_value (value b words inputs) (λ y. f x y)) left
      (λ x env1 word_x kept1 held.
      then_comes inputs second rest env1 v t top (IsRight b wb v t env1) Q (value b words inputs) (λ y. f x y) (right env1 kept1)
      (λ y env2 word_y kept2 other.
      more x y env2 (kept_twice v t top env env1 env2 kept1 kept2)
      (record {
        left = record {
          word = word_x;
          known = held.1;
          is = held.0 env2 (still_in_place rows words inputs a v t top env env2 apart_a (kept_twice v t top env env1 env2 kept1 kept2) in_place_a) other.1;
        };
        right = record {
          word = word_y;
          known = other.0.1;
          is = other.0.0 env2 (still_in_place rows words inputs b v t top env env2 apart_b (kept_twice v t top env env1 env2 kept1 kept2) in_place_b) refl;
        };
      })))

  module _ (laws : Laws) where
    -- ---- a plain expression

    pub plain_comes : (e : Term) (v t top : ℕ) (env : List ℕ) → IsTrue (is_plain e) → Ready e v t top env → IsLowered e v t top env
    plain_comes e v t top env plain ready =
        let word : Operand = plain_word rows e in
        let x : ℕ = plain_value e words inputs in
        let bare : GoesOn inputs Nil env v t top (IsFound rows words inputs e (as_word word).form v) x =
        nothing_comes inputs env v t top x (IsFound rows words inputs e (as_word word).form v) (plain_is_word laws rows words inputs env e plain ready.has ready.in_place)
        (λ env' in_place. plain_holds laws rows words inputs env' e plain in_place) in
        subst (λ g. ComesTo inputs (lowered_term rows e v t).block env v t top (IsFound rows words inputs e (lowered_term rows e v t).form v) g) (sym (value_plain laws words inputs e plain))
        (subst (λ l. ComesTo inputs l.block env v t top (IsFound rows words inputs e l.form v) (Is x)) (sym (plain_lowered rows e v t plain)) bare)

    -- ---- an operand that is looked at more than once

    simple_comes : (e : Term) (v t top : ℕ) (env : List ℕ) → IsTrue (is_simple e) → EachLeaf IsWordLeaf e → WordsInPlace rows words inputs env e → ComesTo inputs Nil env v t top (IsKeptOperand e (operand_in (lowered_term rows e v t).form v) v) (value e words inputs)
    simple_comes e v t top env simple has in_place =
        let plain = simple_plain e simple in
        let word : Operand = plain_word rows e in
        let x : ℕ = plain_value e words inputs in
        let bare : GoesOn inputs Nil env v t top (IsKeptOperand e word v) x =
        nothing_comes inputs env v t top x (IsKeptOperand e word v) (plain_is_word laws rows words inputs env e plain has in_place)
        ((λ env' there same. plain_holds laws rows words inputs env' e plain there), constant_known laws e words inputs x (value_plain laws words inputs e plain)) in
        subst (λ g. ComesTo inputs Nil env v t top (IsKeptOperand e (operand_in (lowered_term rows e v t).form v) v) g) (sym (value_plain laws words inputs e plain))
        (subst (λ l. ComesTo inputs Nil env v t top (IsKeptOperand e (operand_in l.form v) v) (Is x)) (sym (plain_lowered rows e v t plain)) bare)

    pub division_operand_comes : (e : Term) (v t top : ℕ) (env : List ℕ) (simple : Bool) → is_simple e ≡ simple → Ready e v t top env → IsLowered e v t top env → ComesTo inputs (division_operand_block e (lowered_term rows e v t) v) env v t top (IsKeptOperand e (division_operand_in e (lowered_term rows e v t).form v) v) (value e words inputs)
    division_operand_comes e v t top env true is ready h = rw (is) (simple_comes e v t top env is ready.has ready.in_place)
    division_operand_comes e v t top env false is ready h = rw (is) (kept_target_comes laws e v t top env ready h)

    -- ---- the right operand

    -- without statements
    bare_right : (e : Term) (v t top : ℕ) (env : List ℕ) → IsTrue (is_plain e) → EachLeaf IsWordLeaf e → WordsInPlace rows words inputs env e → GoesOn inputs Nil env v t top (IsRight e (plain_word rows e) v t env) (plain_value e words inputs)
    bare_right e v t top env plain has in_place =
        nothing_comes inputs env v t top (plain_value e words inputs) (IsRight e (plain_word rows e) v t env) (plain_is_word laws rows words inputs env e plain has in_place)
        (((λ env' there same. plain_holds laws rows words inputs env' e plain there), constant_known laws e words inputs (plain_value e words inputs) (value_plain laws words inputs e plain)), refl)

    pub right_comes : (e : Term) (v t top : ℕ) (env : List ℕ) (plain : Bool) → is_plain e ≡ plain → IsOutside t top v → EachLeaf IsWordLeaf e → WordsInPlace rows words inputs env e → (plain ≡ false → (t < top) × Ready e t (t + 1) top env × IsLowered e t (t + 1) top env) → ComesTo inputs (operand_block (lowered_term rows e t (t + 1)) t) env v t top (IsRight e (operand_in (lowered_term rows e t (t + 1)).form t) v t env) (value e words inputs)
    right_comes e v t top env true is outside has in_place lower =
        subst (λ g. ComesTo inputs (operand_block (lowered_term rows e t (t + 1)) t) env v t top (IsRight e (operand_in (lowered_term rows e t (t + 1)).form t) v t env) g) (sym (value_plain laws words inputs e is))
        (subst (λ l. ComesTo inputs (operand_block l t) env v t top (IsRight e (operand_in l.form t) v t env) (Is (plain_value e words inputs))) (sym (plain_lowered rows e t (t + 1) is))
        (bare_right e v t top env is has in_place))
    right_comes e v t top env false is outside has in_place lower =
        let l : Lowered = lowered_term rows e t (t + 1) in
        let h = lower refl in
        right_frame e (operand_in l.form t) (operand_block l t) v t top env (value e words inputs) h.0 outside
        (left_comes laws e t (t + 1) top env h.1 h.2)

    pub division_right_comes : (e : Term) (v t top : ℕ) (env : List ℕ) (simple : Bool) → is_simple e ≡ simple → IsOutside t top v → EachLeaf IsWordLeaf e → WordsInPlace rows words inputs env e → (simple ≡ false → (t < top) × Ready e t (t + 1) top env × IsLowered e t (t + 1) top env) → ComesTo inputs (division_operand_block e (lowered_term rows e t (t + 1)) t) env v t top (IsRight e (division_operand_in e (lowered_term rows e t (t + 1)).form t) v t env) (value e words inputs)
    division_right_comes e v t top env true is outside has in_place lower =
        let plain = simple_plain e is in
        rw (is)
        (subst (λ g. ComesTo inputs Nil env v t top (IsRight e (operand_in (lowered_term rows e t (t + 1)).form t) v t env) g) (sym (value_plain laws words inputs e plain))
        (subst (λ l. ComesTo inputs Nil env v t top (IsRight e (operand_in l.form t) v t env) (Is (plain_value e words inputs))) (sym (plain_lowered rows e t (t + 1) plain))
        (bare_right e v t top env plain has in_place)))
    division_right_comes e v t top env false is outside has in_place lower =
        let h = lower refl in
        rw (is)
        (right_frame e (Var t) (into (lowered_term rows e t (t + 1)) t) v t top env (value e words inputs) h.0 outside
        (kept_target_comes laws e t (t + 1) top env h.1 h.2))
