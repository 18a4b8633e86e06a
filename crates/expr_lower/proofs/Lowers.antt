-- The statements of an expression come to its value, by one induction over the expression.
use Rattle.std.proofs.Common.{◌≡◌, ◌≢◌, inl, ℕ, zero, suc, ◌+◌, ◌-◌, ◌<◌, ◌≤◌, ◌^◌, Bool, true, false, ◌&&◌, ◌||◌, List, [], length, max, Option, Some, None, refl, sym, ap, ◌∙◌, subst, arith}
use Rattle.std.specs.Prelude.{IsTrue, is_some, if◌then◌else◌, not}
use Rattle.std.proofs.Math.Nat.{mod-lt}
use Rattle.strm_num.specs.Words.{IsWord, negation_of, remainder_of, truth_of}
use Rattle.strm_num.specs.Magnitudes.{magnitude_of}
use Rattle.list_denotation.specs.declared.expr.BinOp.{BinOp}
use Rattle.list_denotation.specs.declared.expr.BinOp.TheVariants as sign
use Rattle.list_denotation.specs.declared.input.Input.{Input}
use Rattle.list_denotation.specs.Terms as term
use Rattle.list_denotation.specs.Terms.{Term}
use Rattle.list_denotation.specs.Values.{Trap, Got, Is, Fails, with_value, choice, unless_zero, operation_of, value}
use Rattle.loop_ir.specs.declared.syntax.WOp.{WOp}
use Rattle.loop_ir.specs.Statements.{Operand, Const, Var, Bin, Test, If, Block, Nil, Cons, join}
use Rattle.loop_ir.proofs.Copies.{join-nil}
use Rattle.loop_ir.specs.Meaning.{Runs, operand_value, test_value, run}
use Rattle.expr_phrases.specs.Results.{comparison_truth, is_equality, result_of}
use Rattle.expr_lower.specs.Contract.{is_true, Kept, GoesOn, ComesTo, IsIn}
use Rattle.expr_phrases.specs.Phrases.{Division, Quotient, Remainder, set, minus, set_truth, opposite, comparison_test, by_divisor, Connective, Conjunction, Disjunction, connected_test, connected_block, divides_modulus, magnitude_block, multiple_test}
use Rattle.expr_constants.specs.Constants.{by_constant, conjunction_constant, disjunction_constant, constant_of}
use Rattle.expr_constants.specs.Simple.{is_simple}
use Rattle.expr_forms.specs.Forms.{Lowered, Form, AWord, ATest, InTarget, is_word, as_word, in_target, operand_block, operand_in, condition_in, into, division_operand_block, division_operand_in, lowered_minus, lowered_arithmetic, lowered_comparison, lowered_division, lowered_operation, lowered_multiple, is_empty, is_neutral, lowered_truth, connective_form, lowered_connective, lowered_connected, lowered_choice, lowered_chosen}
use Rattle.expr_lower.specs.Lowering.{folded, lowered_parts, lowered_dividend, lowered_term, lowered_test}
use Rattle.expr_lower.specs.Costs.{has_plain_parts, is_plain, is_direct, unless_constant, binary_temps, connected_temps, chosen_temps, operation_temps, parts_temps, dividend_temps, temps_of}
use Rattle.expr_lower.specs.Multiples.{divisor_of, dividend_of, multiple_divisor}
use Rattle.expr_lower.specs.Laws.{Laws}
use Rattle.expr_lower.specs.PlainWords.{arithmetic_operator}
use Rattle.expr_lower.specs.Scopes.{EachLeaf, IsWordLeaf, IsLeafInPlace, WordsInPlace}
use Rattle.expr_lower.proofs.Disjointness.{IsDisjointLeaf, IsDisjoint, disjoint_right}
use Rattle.expr_lower.proofs.Effects.{then_comes, maps, holds_too, nothing_comes, assigns_comes, set_comes, first_comes, second_comes, set_truth_comes}
use Rattle.expr_lower.proofs.MultipleTests.{multiple_is, divisor_not_zero, divisor_word, dividend_leaves, dividend_room, dividend_lowered, with_same, multiple_value, left_multiple, right_multiple}
use Rattle.expr_lower.proofs.Plain.{plain_form, parts_plain}
use Rattle.expr_lower.proofs.PlainValues.{arithmetic_value, arithmetic_word, truth_word, word_unless_zero, chosen_value}
use Rattle.expr_lower.proofs.ValueUses.{HasTruth, IsFound, IsOperand, IsCondition, still_in_place, operand_comes, condition_comes, target_comes}
use Rattle.expr_lower.proofs.Operands.{Ready, still_ready, IsLoweredTo, IsLowered, IsKeptOperand, BothAre, plain_comes, left_comes, division_operand_comes, right_comes, division_right_comes, operands_come}

-- ---- operations on words

arithmetic_is : (inputs : List Input) (o : BinOp) (wx wy : Operand) (x y : ℕ) (env : List ℕ) → operand_value inputs wx env ≡ Is x → operand_value inputs wy env ≡ Is y → operand_value inputs (Bin (arithmetic_operator o) wx wy) env ≡ Is (arithmetic_value o x y)
arithmetic_is inputs sign.Sub wx wy x y env hx hy = rw (hx, hy) refl
arithmetic_is inputs sign.Mul wx wy x y env hx hy = rw (hx, hy) refl
arithmetic_is inputs _ wx wy x y env hx hy = rw (hx, hy) refl

negation_word : (x : ℕ) → negation_of x < 2 ^ 64
negation_word x = mod-lt (2 ^ 64 - x) (omega arith)

-- ---- what is chosen

not_choice : (x : ℕ) → choice x 1 0 ≡ truth_of (not (is_true x))
not_choice zero = refl
not_choice (suc x) = refl

truth_choice : (x : ℕ) → choice x 0 1 ≡ truth_of (is_true x)
truth_choice zero = refl
truth_choice (suc x) = refl

-- the second part is looked at only where the first one doesn't decide
abbrev decided : Connective → ℕ → Got ℕ → Got ℕ
decided Conjunction x rest = choice x (Is 0) rest
decided Disjunction x rest = choice x rest (Is 1)

module _ (laws : Laws) (rows words : List ℕ) (inputs : List Input) where
  -- ---- the parts of an expression that is ready

  -- of an expression that isn't constant, what its parts need
  parts_room : (e : Term) (t top : ℕ) → constant_of e ≡ None → t + temps_of e ≤ top → t + parts_temps e ≤ top
  parts_room e t top none h =
      let same : temps_of e ≡ parts_temps e = ap (λ k. unless_constant k (parts_temps e)) none in
      omega (arith, h, same)

  left_ready : (o : BinOp) (a b : Term) (v t top : ℕ) (env : List ℕ) → t + operation_temps o a b ≤ top → Ready rows words inputs (term.Bin o a b) v t top env → Ready rows words inputs a v t top env
  left_ready o a b v t top env room ready = record {
    has = ready.has.0;
    outside = ready.outside;
    room = left_room (temps_of a) (if is_direct o b then 0 else temps_of b + 1) room;
    inside = ready.inside;
    within = ready.within;
    apart = ready.apart.0;
    in_place = ready.in_place.0;
  }
    where
      left_room : (m n : ℕ) → t + max m n ≤ top → t + m ≤ top
      left_room m n h = omega (arith, h)

  right_room : (o : BinOp) (a b : Term) (t top : ℕ) → is_direct o b ≡ false → t + operation_temps o a b ≤ top → (t + 1) + temps_of b ≤ top
  right_room o a b t top kept h =
      let same : operation_temps o a b ≡ max (temps_of a) (temps_of b + 1) = ap (λ d. max (temps_of a) (if d then 0 else temps_of b + 1)) kept in
      omega (arith, h, same)

  right_ready : (o : BinOp) (a b : Term) (v t top : ℕ) (env : List ℕ) → t + operation_temps o a b ≤ top → is_direct o b ≡ false → Ready rows words inputs (term.Bin o a b) v t top env → (t < top) × Ready rows words inputs b t (t + 1) top env
  right_ready o a b v t top env enough kept ready =
      let room = right_room o a b t top kept enough in
      let below : t < top = omega (arith, room) in (
        below,
        record {
          has = ready.has.1;
          outside = inl (omega arith);
          room = room;
          inside = omega (arith, below, ready.within);
          within = ready.within;
          apart = disjoint_right rows v t top b below ready.apart.1;
          in_place = ready.in_place.1;
        },
      )

  -- ---- expressions that aren't constant

  unfolded : (e : Term) (v t : ℕ) → constant_of e ≡ None → lowered_term rows e v t ≡ lowered_parts rows e v t
  unfolding lowered_term
  unfolded e v t none = ap (λ k. folded k (lowered_parts rows e v t)) none

  plain_parts_comes : (e : Term) (v t top : ℕ) (env : List ℕ) → constant_of e ≡ None → IsTrue (has_plain_parts e) → Ready rows words inputs e v t top env → IsLoweredTo rows words inputs e (lowered_parts rows e v t) v t top env
  plain_parts_comes e v t top env none plain ready =
      subst (λ l. IsLoweredTo rows words inputs e l v t top env) (unfolded e v t none) (plain_comes rows words inputs laws e v t top env (parts_plain e plain) ready)

  -- ---- one part

  no_word : (form : Form) (v : ℕ) → is_word form ≡ false → operand_in form v ≡ Var v
  no_word (AWord w) v h = absurd cc
  no_word (ATest c) v h = refl
  no_word InTarget v h = refl

  as_minus : (l : Lowered) (v : ℕ) → is_word l.form ≡ false → lowered_minus l v ≡ in_target (join (operand_block l v) (set v (minus (Var v))))
  as_minus l v h = ap (λ b. if b then as_word (minus (operand_in l.form v)) else in_target (join (operand_block l v) (set v (minus (Var v))))) h

  minus_comes : (a : Term) (v t top : ℕ) (env : List ℕ) (plain : Bool) → is_plain a ≡ plain → constant_of (term.Neg a) ≡ None → Ready rows words inputs (term.Neg a) v t top env → Ready rows words inputs a v t top env → IsLowered rows words inputs a v t top env → IsLoweredTo rows words inputs (term.Neg a) (lowered_parts rows (term.Neg a) v t) v t top env
  unfolding lowered_term
  minus_comes a v t top env true is none ready part h = plain_parts_comes (term.Neg a) v t top env none is ready
  minus_comes a v t top env false is none ready part h =
      let l : Lowered = lowered_term rows a v t in
      let bare : is_word l.form ≡ false = plain_form rows a v t ∙ is in
      subst (λ m. ComesTo inputs m.block env v t top (IsFound rows words inputs (term.Neg a) m.form v) (value (term.Neg a) words inputs)) (sym (as_minus l v bare))
      (then_comes inputs (operand_block l v) (set v (minus (Var v))) env v t top (IsKeptOperand rows words inputs a (operand_in l.form v) v) (IsIn v) (value a words inputs) (λ x. Is (negation_of x))
      (left_comes rows words inputs laws a v t top env part h)
      (λ x env' word kept held. minus_set a l v t top x env' bare (still_ready rows words inputs a v t top env env' kept part) held))
    where
      minus_set : (a : Term) (l : Lowered) (v t top x : ℕ) (env' : List ℕ) → is_word l.form ≡ false → Ready rows words inputs a v t top env' → IsKeptOperand rows words inputs a (operand_in l.form v) v x env' → GoesOn inputs (set v (minus (Var v))) env' v t top (IsIn v) (negation_of x)
      minus_set a l v t top x env' bare part held =
          set_comes inputs env' v t top (minus (Var v)) (negation_of x) part.inside (negation_word x)
          (laws.minus_value inputs (Var v) x env' (ap (λ w. operand_value inputs w env') (sym (no_word l.form v bare)) ∙ held.0 env' part.in_place refl))

  not_comes : (a : Term) (v t top : ℕ) (env : List ℕ) → Ready rows words inputs a v t top env → IsLowered rows words inputs a v t top env → IsLoweredTo rows words inputs (term.Not a) (lowered_parts rows (term.Not a) v t) v t top env
  unfolding lowered_term
  not_comes a v t top env ready h =
      let l : Lowered = lowered_term rows a v t in
      let c : Test = condition_in l.form v in
      maps inputs l.block env v t top (IsCondition rows words inputs c) (λ x env'. HasTruth rows words inputs (opposite c) env' x) (value a words inputs) (λ x. choice x 1 0)
      (condition_comes rows words inputs a l.block l.form v t top env (value a words inputs) ready.apart ready.in_place h)
      (λ x env' word kept is. (
        subst (λ n. n < 2 ^ 64) (sym (not_choice x)) (truth_word (not (is_true x))),
        record {
          truth = not (is_true x);
          is = laws.opposite_value inputs c env' (is_true x) is;
          as_word = not_choice x;
        },
      ))

  -- ---- operations

  as_arithmetic : (o : WOp) (a b : Lowered) (v t : ℕ) → (is_word a.form && is_word b.form) ≡ false → lowered_arithmetic o a b v t ≡ in_target (join (operand_block a v) (join (operand_block b t) (set v (Bin o (operand_in a.form v) (operand_in b.form t)))))
  as_arithmetic o a b v t h =
      ap (λ c. if c then as_word (Bin o (operand_in a.form v) (operand_in b.form t)) else in_target (join (operand_block a v) (join (operand_block b t) (set v (Bin o (operand_in a.form v) (operand_in b.form t)))))) h

  both_words : (a b : Term) (v t : ℕ) → (is_word (lowered_term rows a v t).form && is_word (lowered_term rows b t (t + 1)).form) ≡ (is_plain a && is_plain b)
  both_words a b v t =
      ap (λ c. c && is_word (lowered_term rows b t (t + 1)).form) (plain_form rows a v t) ∙ ap (λ c. is_plain a && c) (plain_form rows b t (t + 1))

  -- the right operand is lowered behind the left one
  abbrev LowersRight : Term → ℕ → ℕ → Type 0
  LowersRight b t top = (env : List ℕ) → Ready rows words inputs b t (t + 1) top env → IsLowered rows words inputs b t (t + 1) top env

  module _ (o : BinOp) (a b : Term) (v t top : ℕ) (env : List ℕ) (room : t + operation_temps o a b ≤ top) (ready : Ready rows words inputs (term.Bin o a b) v t top env) (left : IsLowered rows words inputs a v t top env) (lower : LowersRight b t top) where
    abbrev first : Lowered
    first = lowered_term rows a v t

    abbrev second : Lowered
    second = lowered_term rows b t (t + 1)

    -- what is there for the right operand where it isn't direct
    kept_right_ready : (env' : List ℕ) → Kept v t top env env' → is_direct o b ≡ false → (t < top) × Ready rows words inputs b t (t + 1) top env' × IsLowered rows words inputs b t (t + 1) top env'
    kept_right_ready env' kept indirect =
        let r = right_ready o a b v t top env' room indirect (still_ready rows words inputs (term.Bin o a b) v t top env env' kept ready) in
        (r.0, r.1, lower env' r.1)

    both_come : (rest : Block) (Q : ℕ → List ℕ → Type 0) (f : ℕ → ℕ → Got ℕ) → is_direct o b ≡ is_plain b → ((x y : ℕ) (env' : List ℕ) → Kept v t top env env' → BothAre rows words inputs a b (operand_in first.form v) (operand_in second.form t) x y env' → ComesTo inputs rest env' v t top Q (f x y)) → ComesTo inputs (join (operand_block first v) (join (operand_block second t) rest)) env v t top Q (with_value (value a words inputs) (λ x. with_value (value b words inputs) (λ y. f x y)))
    both_come rest Q f direct more =
        operands_come rows words inputs a b (operand_block first v) (operand_block second t) rest (operand_in first.form v) (operand_in second.form t) v t top env Q f
        ready.apart.0 ready.apart.1 ready.in_place.0 ready.in_place.1
        (left_comes rows words inputs laws a v t top env (left_ready o a b v t top env room ready) left)
        (λ env' kept. right_comes rows words inputs laws b v t top env' (is_plain b) refl ready.outside ready.has.1
        (still_in_place rows words inputs b v t top env env' ready.apart.1 kept ready.in_place.1)
        (λ e. kept_right_ready env' kept (direct ∙ e)))
        more

    inside_still : (env' : List ℕ) → Kept v t top env env' → v < length env'
    inside_still env' kept = subst (λ n. v < n) (sym kept.same) ready.inside

    -- sums and products
    arithmetic_set : is_direct o b ≡ is_plain b → ((x y : ℕ) → operation_of o x y ≡ Is (arithmetic_value o x y)) → ComesTo inputs (join (operand_block first v) (join (operand_block second t) (set v (Bin (arithmetic_operator o) (operand_in first.form v) (operand_in second.form t))))) env v t top (IsIn v) (value (term.Bin o a b) words inputs)
    arithmetic_set direct is =
        both_come (set v (Bin (arithmetic_operator o) (operand_in first.form v) (operand_in second.form t))) (IsIn v) (λ x y. operation_of o x y) direct
        (λ x y env' kept both.
        subst (λ g. ComesTo inputs (set v (Bin (arithmetic_operator o) (operand_in first.form v) (operand_in second.form t))) env' v t top (IsIn v) g) (sym (is x y))
        (set_comes inputs env' v t top (Bin (arithmetic_operator o) (operand_in first.form v) (operand_in second.form t)) (arithmetic_value o x y) (inside_still env' kept) (arithmetic_word o x y)
        (arithmetic_is inputs o (operand_in first.form v) (operand_in second.form t) x y env' both.left.is both.right.is)))

    lowered_as : (m : Lowered) → lowered_operation o a b first second v t ≡ m → ComesTo inputs m.block env v t top (IsFound rows words inputs (term.Bin o a b) m.form v) (value (term.Bin o a b) words inputs) → IsLoweredTo rows words inputs (term.Bin o a b) (lowered_operation o a b first second v t) v t top env
    lowered_as m is h = subst (λ l. ComesTo inputs l.block env v t top (IsFound rows words inputs (term.Bin o a b) l.form v) (value (term.Bin o a b) words inputs)) (sym is) h

    pub arithmetic_comes : constant_of (term.Bin o a b) ≡ None → lowered_parts rows (term.Bin o a b) v t ≡ lowered_operation o a b first second v t → (plain : Bool) → (is_plain a && is_plain b) ≡ plain → lowered_operation o a b first second v t ≡ lowered_arithmetic (arithmetic_operator o) first second v t → has_plain_parts (term.Bin o a b) ≡ (is_plain a && is_plain b) → is_direct o b ≡ is_plain b → ((x y : ℕ) → operation_of o x y ≡ Is (arithmetic_value o x y)) → IsLoweredTo rows words inputs (term.Bin o a b) (lowered_operation o a b first second v t) v t top env
    arithmetic_comes none binary true is whole shape direct value_is =
        subst (λ l. IsLoweredTo rows words inputs (term.Bin o a b) l v t top env) binary (plain_parts_comes (term.Bin o a b) v t top env none (shape ∙ is) ready)
    arithmetic_comes none binary false is whole shape direct value_is =
        lowered_as (in_target (join (operand_block first v) (join (operand_block second t) (set v (Bin (arithmetic_operator o) (operand_in first.form v) (operand_in second.form t))))))
        (whole ∙ as_arithmetic (arithmetic_operator o) first second v t (both_words a b v t ∙ is))
        (arithmetic_set direct value_is)

    -- comparisons
    pub comparison_comes : lowered_operation o a b first second v t ≡ lowered_comparison o first second v t → is_direct o b ≡ is_plain b → ((x y : ℕ) → operation_of o x y ≡ Is (truth_of (comparison_truth o x y))) → IsLoweredTo rows words inputs (term.Bin o a b) (lowered_operation o a b first second v t) v t top env
    comparison_comes whole direct value_is =
        let c : Test = comparison_test o (operand_in first.form v) (operand_in second.form t) in
        let Q : ℕ → List ℕ → Type 0 = λ x env'. HasTruth rows words inputs c env' x in
        lowered_as (lowered_comparison o first second v t) whole
        (subst (λ block. ComesTo inputs (join (operand_block first v) block) env v t top Q (value (term.Bin o a b) words inputs)) (join-nil (operand_block second t))
        (both_come Nil Q (λ x y. operation_of o x y) direct
        (λ x y env' kept both.
        subst (λ g. ComesTo inputs Nil env' v t top Q g) (sym (value_is x y))
        (nothing_comes inputs env' v t top (truth_of (comparison_truth o x y)) Q (truth_word (comparison_truth o x y))
        (record {
          truth = comparison_truth o x y;
          is = laws.comparison_value inputs o (operand_in first.form v) (operand_in second.form t) x y env' both.left.word both.right.word both.left.is both.right.is;
          as_word = refl;
        })))))

    -- division
    pub division_comes : (d : Division) → lowered_operation o a b first second v t ≡ lowered_division d a b first second v t → is_direct o b ≡ is_simple b → ((x y : ℕ) → operation_of o x y ≡ unless_zero Trap y (result_of d x y)) → IsLoweredTo rows words inputs (term.Bin o a b) (lowered_operation o a b first second v t) v t top env
    division_comes d whole direct value_is =
        let wa : Operand = division_operand_in a first.form v in
        let wb : Operand = division_operand_in b second.form t in
        let rest : Block = by_divisor d (constant_of a) (constant_of b) wa wb v in
        let part = left_ready o a b v t top env room ready in
        lowered_as (lowered_division d a b first second v t) whole
        (operands_come rows words inputs a b (division_operand_block a first v) (division_operand_block b second t) rest wa wb v t top env (IsIn v) (λ x y. operation_of o x y)
        ready.apart.0 ready.apart.1 ready.in_place.0 ready.in_place.1
        (division_operand_comes rows words inputs laws a v t top env (is_simple a) refl part left)
        (λ env' kept. division_right_comes rows words inputs laws b v t top env' (is_simple b) refl ready.outside ready.has.1
        (still_in_place rows words inputs b v t top env env' ready.apart.1 kept ready.in_place.1)
        (λ e. kept_right_ready env' kept (direct ∙ e)))
        (λ x y env' kept both.
        subst (λ g. ComesTo inputs rest env' v t top (IsIn v) g) (sym (value_is x y))
        (assigns_comes inputs rest env' v t top (unless_zero Trap y (result_of d x y)) (inside_still env' kept) (word_unless_zero y (result_of d x y) (laws.division_word d x y))
        (laws.division_assigns inputs d (constant_of a) (constant_of b) wa wb x y v env' both.left both.right))))

  operation_comes : (o : BinOp) (a b : Term) (v t top : ℕ) (env : List ℕ) → constant_of (term.Bin o a b) ≡ None → t + operation_temps o a b ≤ top → Ready rows words inputs (term.Bin o a b) v t top env → IsLowered rows words inputs a v t top env → LowersRight b t top → IsLoweredTo rows words inputs (term.Bin o a b) (lowered_operation o a b (lowered_term rows a v t) (lowered_term rows b t (t + 1)) v t) v t top env
  unfolding lowered_term
  operation_comes sign.Add a b v t top env none room ready left lower = arithmetic_comes sign.Add a b v t top env room ready left lower none refl (is_plain a && is_plain b) refl refl refl refl (λ x y. refl)
  operation_comes sign.Sub a b v t top env none room ready left lower = arithmetic_comes sign.Sub a b v t top env room ready left lower none refl (is_plain a && is_plain b) refl refl refl refl (λ x y. refl)
  operation_comes sign.Mul a b v t top env none room ready left lower = arithmetic_comes sign.Mul a b v t top env room ready left lower none refl (is_plain a && is_plain b) refl refl refl refl (λ x y. refl)
  operation_comes sign.Div a b v t top env none room ready left lower = division_comes sign.Div a b v t top env room ready left lower Quotient refl refl (λ x y. refl)
  operation_comes sign.Rem a b v t top env none room ready left lower = division_comes sign.Rem a b v t top env room ready left lower Remainder refl refl (λ x y. refl)
  operation_comes sign.Eq a b v t top env none room ready left lower = comparison_comes sign.Eq a b v t top env room ready left lower refl refl (λ x y. refl)
  operation_comes sign.Ne a b v t top env none room ready left lower = comparison_comes sign.Ne a b v t top env room ready left lower refl refl (λ x y. refl)
  operation_comes sign.Lt a b v t top env none room ready left lower = comparison_comes sign.Lt a b v t top env room ready left lower refl refl (λ x y. refl)
  operation_comes sign.Le a b v t top env none room ready left lower = comparison_comes sign.Le a b v t top env room ready left lower refl refl (λ x y. refl)
  operation_comes sign.Gt a b v t top env none room ready left lower = comparison_comes sign.Gt a b v t top env room ready left lower refl refl (λ x y. refl)
  operation_comes sign.Ge a b v t top env none room ready left lower = comparison_comes sign.Ge a b v t top env room ready left lower refl refl (λ x y. refl)

  -- ---- comparisons of a remainder with 0

  multiple_word : (o : BinOp) (c x : ℕ) → multiple_value o c x < 2 ^ 64
  multiple_word o c x = truth_word (comparison_truth o (remainder_of x c) 0)

  module _ (o : BinOp) (x e : Term) (c v t top : ℕ) (env : List ℕ) (equality : IsTrue (is_equality o)) (c_word : IsWord c) (c_positive : c ≢ 0) (ready : Ready rows words inputs x v t top env) (lower : IsLowered rows words inputs x v t top env) where
    abbrev dividend : Lowered
    dividend = lowered_term rows x v t

    abbrev IsTested : Operand → ℕ → List ℕ → Type 0
    IsTested w y env' = HasTruth rows words inputs (multiple_test o w (magnitude_of c)) env' y

    -- the operand has the value still
    still_has : (w : Operand) (y : ℕ) (env' : List ℕ) → Kept v t top env env' → IsKeptOperand rows words inputs x w v y env' → operand_value inputs w env' ≡ Is y
    still_has w y env' kept held = held.0 env' (still_in_place rows words inputs x v t top env env' ready.apart kept ready.in_place) refl

    -- the constant divides 2 ^ 64: the word itself is tested
    word_tested : IsTrue (divides_modulus (magnitude_of c)) → ComesTo inputs (operand_block dividend v) env v t top (IsTested (operand_in dividend.form v)) (with_value (value x words inputs) (λ y. Is (multiple_value o c y)))
    word_tested modulus =
        maps inputs (operand_block dividend v) env v t top (IsKeptOperand rows words inputs x (operand_in dividend.form v) v) (IsTested (operand_in dividend.form v)) (value x words inputs) (multiple_value o c)
        (left_comes rows words inputs laws x v t top env ready lower)
        (λ y env' word kept held. (
          multiple_word o c y,
          record {
            truth = comparison_truth o (remainder_of y c) 0;
            is = laws.multiple_of_word inputs o (operand_in dividend.form v) y c env' equality word c_word c_positive modulus (still_has (operand_in dividend.form v) y env' kept held);
            as_word = refl;
          },
        ))

    -- else its magnitude, which is put into v
    magnitude_put : (w : Operand) (y : ℕ) (env' : List ℕ) → y < 2 ^ 64 → v < length env' → operand_value inputs w env' ≡ Is y → GoesOn inputs (magnitude_block w v) env' v t top (IsTested (Var v)) (multiple_value o c y)
    magnitude_put w y env' word inside is =
        let put : GoesOn inputs (magnitude_block w v) env' v t top (IsIn v) (magnitude_of y) =
        assigns_comes inputs (magnitude_block w v) env' v t top (Is (magnitude_of y)) inside (laws.magnitude_word y word) (laws.magnitude_assigns inputs w y v env' is) in
        record {
          env' = put.env';
          runs = put.runs;
          kept = put.kept;
          word = multiple_word o c y;
          holds = record {
            truth = comparison_truth o (remainder_of y c) 0;
            is = laws.multiple_of_magnitude inputs o (Var v) y c put.env' equality word c_word c_positive (ap Is put.holds);
            as_word = refl;
          };
        }

    magnitude_tested : ComesTo inputs (join (division_operand_block x dividend v) (magnitude_block (division_operand_in x dividend.form v) v)) env v t top (IsTested (Var v)) (with_value (value x words inputs) (λ y. Is (multiple_value o c y)))
    magnitude_tested =
        then_comes inputs (division_operand_block x dividend v) (magnitude_block (division_operand_in x dividend.form v) v) env v t top (IsKeptOperand rows words inputs x (division_operand_in x dividend.form v) v) (IsTested (Var v)) (value x words inputs) (λ y. Is (multiple_value o c y))
        (division_operand_comes rows words inputs laws x v t top env (is_simple x) refl ready lower)
        (λ y env' word kept held. magnitude_put (division_operand_in x dividend.form v) y env' word (subst (λ n. v < n) (sym kept.same) ready.inside) (still_has (division_operand_in x dividend.form v) y env' kept held))

    multiple_comes : value e words inputs ≡ with_value (value x words inputs) (λ y. Is (multiple_value o c y)) → IsLoweredTo rows words inputs e (lowered_multiple o x c dividend v) v t top env
    multiple_comes same =
        subst (λ g. ComesTo inputs (lowered_multiple o x c dividend v).block env v t top (IsTested (if divides_modulus (magnitude_of c) then operand_in dividend.form v else Var v)) g) (sym same)
        (by_modulus (divides_modulus (magnitude_of c)) refl)
      where
        by_modulus : (b : Bool) → divides_modulus (magnitude_of c) ≡ b → ComesTo inputs (if b then operand_block dividend v else join (division_operand_block x dividend v) (magnitude_block (division_operand_in x dividend.form v) v)) env v t top (IsTested (if b then operand_in dividend.form v else Var v)) (with_value (value x words inputs) (λ y. Is (multiple_value o c y)))
        by_modulus true is = word_tested is
        by_modulus false is = magnitude_tested

  -- ---- choices

  -- a part that is lowered behind others, in the same target
  abbrev LowersPart : Term → ℕ → ℕ → ℕ → Type 0
  LowersPart e v t top = (env : List ℕ) → Ready rows words inputs e v t top env → IsLowered rows words inputs e v t top env

  abbrev part_test : Term → ℕ → ℕ → Test
  part_test e v t = condition_in (lowered_term rows e v t).form v

  part_condition : (e : Term) (v t top : ℕ) (env : List ℕ) → Ready rows words inputs e v t top env → IsLowered rows words inputs e v t top env → ComesTo inputs (lowered_term rows e v t).block env v t top (IsCondition rows words inputs (part_test e v t)) (value e words inputs)
  part_condition e v t top env ready h =
      condition_comes rows words inputs e (lowered_term rows e v t).block (lowered_term rows e v t).form v t top env (value e words inputs) ready.apart ready.in_place h

  part_target : (e : Term) (v t top : ℕ) (env : List ℕ) → Ready rows words inputs e v t top env → IsLowered rows words inputs e v t top env → ComesTo inputs (into (lowered_term rows e v t) v) env v t top (IsIn v) (value e words inputs)
  part_target e v t top env ready h =
      target_comes rows words inputs e (lowered_term rows e v t).block (lowered_term rows e v t).form v t top env (value e words inputs) ready.inside ready.apart ready.in_place h

  -- the truth of the second part is put into the target
  second_truth : (e : Term) (v t top : ℕ) (env : List ℕ) → Ready rows words inputs e v t top env → IsLowered rows words inputs e v t top env → ComesTo inputs (join (lowered_term rows e v t).block (set_truth v (part_test e v t))) env v t top (IsIn v) (with_value (value e words inputs) (λ y. Is (choice y 0 1)))
  second_truth e v t top env ready h =
      then_comes inputs (lowered_term rows e v t).block (set_truth v (part_test e v t)) env v t top (IsCondition rows words inputs (part_test e v t)) (IsIn v) (value e words inputs) (λ y. Is (choice y 0 1))
      (part_condition e v t top env ready h)
      (λ y env' word kept is.
      subst (λ n. GoesOn inputs (set_truth v (part_test e v t)) env' v t top (IsIn v) n) (sym (truth_choice y))
      (set_truth_comes inputs env' v t top (part_test e v t) (is_true y) (subst (λ n. v < n) (sym kept.same) ready.inside) is))

  -- where the first part is constant, and doesn't decide: the truth of the second part
  truth_comes : (e : Term) (v t top : ℕ) (env : List ℕ) → Ready rows words inputs e v t top env → IsLowered rows words inputs e v t top env → ComesTo inputs (lowered_term rows e v t).block env v t top (λ x env'. HasTruth rows words inputs (part_test e v t) env' x) (with_value (value e words inputs) (λ y. Is (choice y 0 1)))
  truth_comes e v t top env ready h =
      maps inputs (lowered_term rows e v t).block env v t top (IsCondition rows words inputs (part_test e v t)) (λ x env'. HasTruth rows words inputs (part_test e v t) env' x) (value e words inputs) (λ y. choice y 0 1)
      (part_condition e v t top env ready h)
      (λ y env' word kept is. (
        subst (λ n. n < 2 ^ 64) (sym (truth_choice y)) (truth_word (is_true y)),
        record { truth = is_true y; is = is; as_word = truth_choice y },
      ))

  -- a second part that needs no statements: its test is looked at in the same state
  bare_test : (block : Block) (c both : Test) (v t top : ℕ) (env : List ℕ) (g : Got ℕ) → block ≡ Nil → ((y : ℕ) → test_value inputs c env ≡ Is (is_true y) → test_value inputs both env ≡ Is (is_true y)) → ComesTo inputs block env v t top (IsCondition rows words inputs c) g → ComesTo inputs Nil env v t top (λ x env'. HasTruth rows words inputs both env' x) (with_value g (λ y. Is (choice y 0 1)))
  bare_test block c both v t top env (Is y) empty test h =
      let here : Runs [] env 0 ≡ Runs [] h.env' 0 = ap (λ b. run inputs b env 0) (sym empty) ∙ h.runs 0 in
      let same : h.env' ≡ env = cc in
      nothing_comes inputs env v t top (choice y 0 1) (λ x env'. HasTruth rows words inputs both env' x)
      (subst (λ n. n < 2 ^ 64) (sym (truth_choice y)) (truth_word (is_true y)))
      (record {
        truth = is_true y;
        is = test y (subst (λ e. test_value inputs c e ≡ Is (is_true y)) same h.holds);
        as_word = truth_choice y;
      })
  bare_test block c both v t top env (Fails f) empty test h = λ left. ap (λ b. run inputs b env left) (sym empty) ∙ h left

  empty_is : (b : Block) → is_empty b ≡ true → b ≡ Nil
  empty_is Nil h = refl
  empty_is (Cons s b) h = absurd cc

  module _ (a b : Term) (v t top : ℕ) (env : List ℕ) (ready_a : Ready rows words inputs a v t top env) (ready_b : Ready rows words inputs b v t top env) (left : IsLowered rows words inputs a v t top env) (lower : LowersPart b v t top) where
    ready_second : (env' : List ℕ) → Kept v t top env env' → Ready rows words inputs b v t top env'
    ready_second env' kept = still_ready rows words inputs b v t top env env' kept ready_b

    inside_second : (env' : List ℕ) → Kept v t top env env' → v < length env'
    inside_second env' kept = subst (λ n. v < n) (sym kept.same) ready_b.inside

    abbrev first_block : Block
    first_block = (lowered_term rows a v t).block

    abbrev second_block : Block
    second_block = (lowered_term rows b v t).block

    abbrev second_value : Got ℕ
    second_value = with_value (value b words inputs) (λ y. Is (choice y 0 1))

    abbrev both_test : Connective → Test
    both_test o = connected_test o (part_test a v t) (part_test b v t)

    abbrev IsBothTruth : Connective → ℕ → List ℕ → Type 0
    IsBothTruth o y env' = HasTruth rows words inputs (both_test o) env' y

    abbrev second_put : Block
    second_put = join second_block (set_truth v (part_test b v t))

    -- the first part decides
    decided_test : (o : Connective) (truth : Bool) (env' : List ℕ) → test_value inputs (both_test o) env' ≡ Is truth → ComesTo inputs Nil env' v t top (IsBothTruth o) (Is (truth_of truth))
    decided_test o truth env' is =
        nothing_comes inputs env' v t top (truth_of truth) (IsBothTruth o) (truth_word truth) (record { truth = truth; is = is; as_word = refl })

    -- the second part decides, whose test is that of both then
    second_test : (o : Connective) (env' : List ℕ) → second_block ≡ Nil → Kept v t top env env' → ((y : ℕ) → test_value inputs (part_test b v t) env' ≡ Is (is_true y) → test_value inputs (both_test o) env' ≡ Is (is_true y)) → ComesTo inputs Nil env' v t top (IsBothTruth o) second_value
    second_test o env' empty kept same =
        bare_test second_block (part_test b v t) (both_test o) v t top env' (value b words inputs) empty same
        (part_condition b v t top env' (ready_second env' kept) (lower env' (ready_second env' kept)))

    connective_tested : (o : Connective) (x : ℕ) (env' : List ℕ) → second_block ≡ Nil → Kept v t top env env' → test_value inputs (part_test a v t) env' ≡ Is (is_true x) → ComesTo inputs Nil env' v t top (IsBothTruth o) (decided o x second_value)
    connective_tested Conjunction zero env' empty kept is = decided_test Conjunction false env' (rw (is) refl)
    connective_tested Conjunction (suc x) env' empty kept is = second_test Conjunction env' empty kept (λ y h. rw (is) h)
    connective_tested Disjunction zero env' empty kept is = second_test Disjunction env' empty kept (λ y h. rw (is) h)
    connective_tested Disjunction (suc x) env' empty kept is = decided_test Disjunction true env' (rw (is) refl)

    second_chosen : (env' : List ℕ) → Kept v t top env env' → ComesTo inputs second_put env' v t top (IsIn v) second_value
    second_chosen env' kept = second_truth b v t top env' (ready_second env' kept) (lower env' (ready_second env' kept))

    constant_chosen : (env' : List ℕ) (c : ℕ) → Kept v t top env env' → c < 2 ^ 64 → ComesTo inputs (set v (Const c)) env' v t top (IsIn v) (Is c)
    constant_chosen env' c kept word = set_comes inputs env' v t top (Const c) c (inside_second env' kept) word refl

    connective_chosen : (o : Connective) (x : ℕ) (env' : List ℕ) → Kept v t top env env' → test_value inputs (part_test a v t) env' ≡ Is (is_true x) → ComesTo inputs (connected_block o (part_test a v t) second_put v) env' v t top (IsIn v) (decided o x second_value)
    connective_chosen Conjunction zero env' kept is =
        second_comes inputs (part_test a v t) second_put (set v (Const 0)) env' v t top (IsIn v) (Is 0) is (constant_chosen env' 0 kept (omega arith))
    connective_chosen Conjunction (suc x) env' kept is =
        first_comes inputs (part_test a v t) second_put (set v (Const 0)) env' v t top (IsIn v) second_value is (second_chosen env' kept)
    connective_chosen Disjunction zero env' kept is =
        second_comes inputs (part_test a v t) (set v (Const 1)) second_put env' v t top (IsIn v) second_value is (second_chosen env' kept)
    connective_chosen Disjunction (suc x) env' kept is =
        first_comes inputs (part_test a v t) (set v (Const 1)) second_put env' v t top (IsIn v) (Is 1) is (constant_chosen env' 1 kept (omega arith))

    connective_comes : (o : Connective) (e : Term) (empty : Bool) → is_empty second_block ≡ empty → ComesTo inputs (lowered_connective o (lowered_test rows a v t) (lowered_test rows b v t) v).block env v t top (IsFound rows words inputs e (connective_form o (part_test a v t) (lowered_test rows b v t)) v) (with_value (value a words inputs) (λ x. decided o x second_value))
    connective_comes o e true is =
        rw (is)
        (then_comes inputs first_block Nil env v t top (IsCondition rows words inputs (part_test a v t)) (IsBothTruth o) (value a words inputs) (λ x. decided o x second_value)
        (part_condition a v t top env ready_a left)
        (λ x env' word kept h. connective_tested o x env' (empty_is second_block is) kept h))
    connective_comes o e false is =
        rw (is)
        (then_comes inputs first_block (connected_block o (part_test a v t) second_put v) env v t top (IsCondition rows words inputs (part_test a v t)) (IsIn v) (value a words inputs) (λ x. decided o x second_value)
        (part_condition a v t top env ready_a left)
        (λ x env' word kept h. connective_chosen o x env' kept h))

  -- ---- if

  module _ (c a b : Term) (v t top : ℕ) (env : List ℕ) (ready_c : Ready rows words inputs c v t top env) (ready_a : Ready rows words inputs a v t top env) (ready_b : Ready rows words inputs b v t top env) (condition : IsLowered rows words inputs c v t top env) (lower_a : LowersPart a v t top) (lower_b : LowersPart b v t top) where
    abbrev choice_block : Block
    choice_block = Cons (If (part_test c v t) (into (lowered_term rows a v t) v) (into (lowered_term rows b v t) v)) Nil

    branch_chosen : (x : ℕ) (env' : List ℕ) → Kept v t top env env' → test_value inputs (part_test c v t) env' ≡ Is (is_true x) → ComesTo inputs choice_block env' v t top (IsIn v) (choice x (value b words inputs) (value a words inputs))
    branch_chosen zero env' kept is =
        let ready = still_ready rows words inputs b v t top env env' kept ready_b in
        second_comes inputs (part_test c v t) (into (lowered_term rows a v t) v) (into (lowered_term rows b v t) v) env' v t top (IsIn v) (value b words inputs) is
        (part_target b v t top env' ready (lower_b env' ready))
    branch_chosen (suc x) env' kept is =
        let ready = still_ready rows words inputs a v t top env env' kept ready_a in
        first_comes inputs (part_test c v t) (into (lowered_term rows a v t) v) (into (lowered_term rows b v t) v) env' v t top (IsIn v) (value a words inputs) is
        (part_target a v t top env' ready (lower_a env' ready))

    choice_comes : IsLoweredTo rows words inputs (term.If c a b) (lowered_choice (lowered_test rows c v t) (into (lowered_term rows a v t) v) (into (lowered_term rows b v t) v)) v t top env
    choice_comes =
        then_comes inputs (lowered_term rows c v t).block choice_block env v t top (IsCondition rows words inputs (part_test c v t)) (IsIn v) (value c words inputs) (λ x. choice x (value b words inputs) (value a words inputs))
        (part_condition c v t top env ready_c condition)
        (λ x env' word kept h. branch_chosen x env' kept h)

  -- ---- a first part, or a condition, that is constant

  -- a part that is ready where there is room for it
  abbrev ReadyWithin : Term → ℕ → ℕ → ℕ → List ℕ → Type 0
  ReadyWithin e v t top env = t + temps_of e ≤ top → Ready rows words inputs e v t top env

  part_within : (e whole : Term) (v t top : ℕ) (env : List ℕ) → EachLeaf IsWordLeaf e → IsDisjoint rows v t top e → WordsInPlace rows words inputs env e → Ready rows words inputs whole v t top env → ReadyWithin e v t top env
  part_within e whole v t top env has apart in_place ready = λ room. record {
    has = has;
    outside = ready.outside;
    room = room;
    inside = ready.inside;
    within = ready.within;
    apart = apart;
    in_place = in_place;
  }

  abbrev truth_value : Term → Got ℕ
  truth_value b = with_value (value b words inputs) (λ y. Is (choice y 0 1))

  -- a second part that is neutral leaves it to the first one
  both_ends : (x : ℕ) → choice {A = Got ℕ} x (Is 0) (Is 1) ≡ Is (choice x 0 1)
  both_ends zero = refl
  both_ends (suc x) = refl

  neutral_value : (o : Connective) (a b : Term) (second : Option ℕ) → constant_of b ≡ second → IsTrue (is_neutral o second) → with_value (value a words inputs) (λ x. decided o x (truth_value b)) ≡ truth_value a
  neutral_value Conjunction a b (Some zero) is h = absurd cc
  neutral_value Conjunction a b (Some (suc c)) is h =
      ap (λ g. with_value (value a words inputs) (λ x. choice x (Is 0) (with_value g (λ y. Is (choice y 0 1))))) (laws.constant_value b (suc c) words inputs is)
      ∙ with_same (value a words inputs) _ _ both_ends
  neutral_value Disjunction a b (Some zero) is h =
      ap (λ g. with_value (value a words inputs) (λ x. choice x (with_value g (λ y. Is (choice y 0 1))) (Is 1))) (laws.constant_value b 0 words inputs is)
      ∙ with_same (value a words inputs) _ _ both_ends
  neutral_value Disjunction a b (Some (suc c)) is h = absurd cc
  neutral_value Conjunction a b None is h = absurd cc
  neutral_value Disjunction a b None is h = absurd cc

  connected_comes : (o : Connective) (a b e : Term) (v t top : ℕ) (env : List ℕ) (first : Option ℕ) → constant_of a ≡ first → ((c : ℕ) → constant_of a ≡ Some c → value e words inputs ≡ truth_value b) → value e words inputs ≡ with_value (value a words inputs) (λ x. decided o x (truth_value b)) → t + connected_temps first (temps_of a) (temps_of b) ≤ top → ReadyWithin a v t top env → ReadyWithin b v t top env → LowersPart a v t top → LowersPart b v t top → IsLoweredTo rows words inputs e (lowered_connected o first (constant_of b) (lowered_test rows a v t) (lowered_test rows b v t) v) v t top env
  connected_comes o a b e v t top env (Some c) is decides whole room ready_a ready_b lower_a lower_b =
      let ready = ready_b room in
      subst (λ g. ComesTo inputs (lowered_term rows b v t).block env v t top (λ x env'. HasTruth rows words inputs (part_test b v t) env' x) g) (sym (decides c is))
      (truth_comes b v t top env ready (lower_b env ready))
  connected_comes o a b e v t top env None is decides whole room ready_a ready_b lower_a lower_b = by_neutral (is_neutral o (constant_of b)) refl
    where
      by_neutral : (neutral : Bool) → is_neutral o (constant_of b) ≡ neutral → IsLoweredTo rows words inputs e (if neutral then lowered_truth (lowered_test rows a v t) else lowered_connective o (lowered_test rows a v t) (lowered_test rows b v t) v) v t top env
      by_neutral true neutral =
          subst (λ g. ComesTo inputs (lowered_term rows a v t).block env v t top (λ x env'. HasTruth rows words inputs (part_test a v t) env' x) g) (sym (whole ∙ neutral_value o a b (constant_of b) refl neutral))
          (truth_comes a v t top env (ready_a (omega (arith, room))) (lower_a env (ready_a (omega (arith, room)))))
      by_neutral false neutral =
          subst (λ g. ComesTo inputs (lowered_connective o (lowered_test rows a v t) (lowered_test rows b v t) v).block env v t top (IsFound rows words inputs e (connective_form o (part_test a v t) (lowered_test rows b v t)) v) g) (sym whole)
          (connective_comes a b v t top env (ready_a (omega (arith, room))) (ready_b (omega (arith, room))) (lower_a env (ready_a (omega (arith, room)))) lower_b o e (is_empty (lowered_term rows b v t).block) refl)

  -- the constant of the first part doesn't decide, since the whole isn't constant
  conjunction_decided : (a b : Term) (c : ℕ) → constant_of (term.And a b) ≡ None → constant_of a ≡ Some c → value (term.And a b) words inputs ≡ truth_value b
  conjunction_decided a b zero none is =
      let known : ◌≡◌ {A = Option ℕ} (Some 0) None = sym (ap (λ k. conjunction_constant k (constant_of b)) is) ∙ none in absurd cc
  conjunction_decided a b (suc c) none is = ap (λ g. with_value g (λ x. choice x (Is 0) (truth_value b))) (laws.constant_value a (suc c) words inputs is)

  disjunction_decided : (a b : Term) (c : ℕ) → constant_of (term.Or a b) ≡ None → constant_of a ≡ Some c → value (term.Or a b) words inputs ≡ truth_value b
  disjunction_decided a b zero none is = ap (λ g. with_value g (λ x. choice x (truth_value b) (Is 1))) (laws.constant_value a 0 words inputs is)
  disjunction_decided a b (suc c) none is =
      let known : ◌≡◌ {A = Option ℕ} (Some 1) None = sym (ap (λ k. disjunction_constant k (constant_of b)) is) ∙ none in absurd cc

  -- a branch that is chosen is the whole
  as_whole : (e whole : Term) (l : Lowered) (v t top : ℕ) (env : List ℕ) → ((env : List ℕ) → WordsInPlace rows words inputs env whole → WordsInPlace rows words inputs env e) → value whole words inputs ≡ value e words inputs → IsLoweredTo rows words inputs e l v t top env → IsLoweredTo rows words inputs whole l v t top env
  as_whole e whole l v t top env part same h =
      subst (λ g. ComesTo inputs l.block env v t top (IsFound rows words inputs whole l.form v) g) (sym same)
      (holds_too inputs l.block env v t top (IsFound rows words inputs e l.form v) (IsFound rows words inputs whole l.form v) (value e words inputs) h
      (λ x env' word kept found. by_form l.form x env' found))
    where
      by_form : (form : Form) (x : ℕ) (env' : List ℕ) → IsFound rows words inputs e form v x env' → IsFound rows words inputs whole form v x env'
      by_form (AWord w) x env' found = λ env'' in_place. found env'' (part env'' in_place)
      by_form (ATest c) x env' found = found
      by_form InTarget x env' found = found

  chosen_comes : (c a b : Term) (v t top : ℕ) (env : List ℕ) (condition : Option ℕ) → constant_of c ≡ condition → t + chosen_temps condition (temps_of c) (temps_of a) (temps_of b) ≤ top → ReadyWithin c v t top env → ReadyWithin a v t top env → ReadyWithin b v t top env → LowersPart c v t top → LowersPart a v t top → LowersPart b v t top → IsLoweredTo rows words inputs (term.If c a b) (lowered_chosen condition (lowered_test rows c v t) (lowered_term rows a v t) (lowered_term rows b v t) v) v t top env
  chosen_comes c a b v t top env (Some zero) is room ready_c ready_a ready_b lower_c lower_a lower_b =
      as_whole b (term.If c a b) (lowered_term rows b v t) v t top env (λ env' in_place. in_place.1.1) (chosen_value laws words inputs c a b 0 is) (lower_b env (ready_b room))
  chosen_comes c a b v t top env (Some (suc n)) is room ready_c ready_a ready_b lower_c lower_a lower_b =
      as_whole a (term.If c a b) (lowered_term rows a v t) v t top env (λ env' in_place. in_place.1.0) (chosen_value laws words inputs c a b (suc n) is) (lower_a env (ready_a room))
  chosen_comes c a b v t top env None is room ready_c ready_a ready_b lower_c lower_a lower_b =
      let ready = ready_c (omega (arith, room)) in
      choice_comes c a b v t top env ready (ready_a (omega (arith, room))) (ready_b (omega (arith, room))) (lower_c env ready) lower_a lower_b

  -- ---- every expression

  -- a constant comes to its value, and all else to what its parts come to
  abbrev LowersTo : Term → Type 0
  LowersTo e = (v t top : ℕ) (env : List ℕ) → constant_of e ≡ None → Ready rows words inputs e v t top env → IsLoweredTo rows words inputs e (lowered_parts rows e v t) v t top env

  folded_comes : (e : Term) → LowersTo e → (v t top : ℕ) (env : List ℕ) → Ready rows words inputs e v t top env → IsLowered rows words inputs e v t top env
  folded_comes e parts v t top env ready = by_constant_of (constant_of e) refl
    where
      by_constant_of : (k : Option ℕ) → constant_of e ≡ k → IsLowered rows words inputs e v t top env
      by_constant_of (Some c) is = plain_comes rows words inputs laws e v t top env (constant_plain c is) ready
        where
          constant_plain : (c : ℕ) → constant_of e ≡ Some c → IsTrue (is_plain e)
          constant_plain c is = ap (λ k. is_some k || has_plain_parts e) is
      by_constant_of None is = subst (λ l. IsLoweredTo rows words inputs e l v t top env) (sym (unfolded e v t is)) (parts v t top env is ready)

  -- the dividend of a remainder is lowered in the place of the remainder
  abbrev DividendLowers : Term → Type 0
  DividendLowers a = (c v t top : ℕ) (env : List ℕ) → divisor_of a ≡ Some c → Ready rows words inputs (dividend_of a) v t top env → IsLoweredTo rows words inputs (dividend_of a) (lowered_dividend rows a v t) v t top env

  dividend_ready : (a whole : Term) (c v t top : ℕ) (env : List ℕ) → divisor_of a ≡ Some c → EachLeaf IsWordLeaf a → IsDisjoint rows v t top a → WordsInPlace rows words inputs env a → Ready rows words inputs whole v t top env → t + dividend_temps a ≤ top → Ready rows words inputs (dividend_of a) v t top env
  dividend_ready a whole c v t top env is has apart in_place ready room =
      part_within (dividend_of a) whole v t top env (dividend_leaves IsWordLeaf a has) (dividend_leaves (IsDisjointLeaf rows v t top) a apart) (dividend_leaves (IsLeafInPlace rows words inputs env) a in_place) ready
      (omega (arith, room, dividend_room a c is))

  dividend_comes : (o : BinOp) (a e : Term) (c v t top : ℕ) (env : List ℕ) → IsTrue (is_equality o) → divisor_of a ≡ Some c → EachLeaf IsWordLeaf a → value e words inputs ≡ with_value (value (dividend_of a) words inputs) (λ y. Is (multiple_value o c y)) → DividendLowers a → Ready rows words inputs (dividend_of a) v t top env → IsLoweredTo rows words inputs e (lowered_multiple o (dividend_of a) c (lowered_dividend rows a v t) v) v t top env
  dividend_comes o a e c v t top env equality is has same lower ready =
      let there = dividend_lowered rows a c v t is in
      let part : IsLowered rows words inputs (dividend_of a) v t top env = subst (λ l. IsLoweredTo rows words inputs (dividend_of a) l v t top env) there (lower c v t top env is ready) in
      subst (λ l. IsLoweredTo rows words inputs e (lowered_multiple o (dividend_of a) c l v) v t top env) (sym there)
      (multiple_comes o (dividend_of a) e c v t top env equality (divisor_word laws a c has is) (divisor_not_zero a c is) ready part same)

  binary_comes : (o : BinOp) (a b : Term) (v t top : ℕ) (env : List ℕ) → constant_of (term.Bin o a b) ≡ None → Ready rows words inputs (term.Bin o a b) v t top env → DividendLowers a → DividendLowers b → (Ready rows words inputs a v t top env → IsLowered rows words inputs a v t top env) → LowersRight b t top → IsLoweredTo rows words inputs (term.Bin o a b) (lowered_parts rows (term.Bin o a b) v t) v t top env
  unfolding lowered_term
  binary_comes o a b v t top env none ready first second left right =
      by_left (multiple_divisor o a b) (multiple_divisor o b a) refl refl (parts_room (term.Bin o a b) t top none ready.room)
    where
      by_left : (j k : Option ℕ) → multiple_divisor o a b ≡ j → multiple_divisor o b a ≡ k → t + binary_temps j k (dividend_temps a) (dividend_temps b) (operation_temps o a b) ≤ top → IsLoweredTo rows words inputs (term.Bin o a b) (by_constant j (λ c. lowered_multiple o (dividend_of a) c (lowered_dividend rows a v t) v) (by_constant k (λ c. lowered_multiple o (dividend_of b) c (lowered_dividend rows b v t) v) (lowered_operation o a b (lowered_term rows a v t) (lowered_term rows b t (t + 1)) v t))) v t top env
      by_left (Some c) k is other room =
          let h = multiple_is o a b c is in
          dividend_comes o a (term.Bin o a b) c v t top env h.equality h.divisor ready.has.0 (left_multiple laws words inputs o a b c h) first
          (dividend_ready a (term.Bin o a b) c v t top env h.divisor ready.has.0 ready.apart.0 ready.in_place.0 ready room)
      by_left None (Some c) is other room =
          let h = multiple_is o b a c other in
          dividend_comes o b (term.Bin o a b) c v t top env h.equality h.divisor ready.has.1 (right_multiple laws words inputs o a b c h) second
          (dividend_ready b (term.Bin o a b) c v t top env h.divisor ready.has.1 ready.apart.1 ready.in_place.1 ready room)
      by_left None None is other room =
          operation_comes o a b v t top env none room ready (left (left_ready o a b v t top env room ready)) right

  mutual
    unfolding lowered_term

    parts_lower : (e : Term) → LowersTo e
    parts_lower (term.Lit c) v t top env none ready = absurd cc
    parts_lower (term.Truth b) v t top env none ready = absurd cc
    parts_lower (term.Var k) v t top env none ready = plain_parts_comes (term.Var k) v t top env none refl ready
    parts_lower (term.Param k) v t top env none ready = plain_parts_comes (term.Param k) v t top env none refl ready
    parts_lower (term.Len k) v t top env none ready = plain_parts_comes (term.Len k) v t top env none refl ready
    parts_lower (term.Neg a) v t top env none ready =
        let part = part_within a (term.Neg a) v t top env ready.has ready.apart ready.in_place ready (parts_room (term.Neg a) t top none ready.room) in
        minus_comes a v t top env (is_plain a) refl none ready part (folded_comes a (parts_lower a) v t top env part)
    parts_lower (term.Not a) v t top env none ready =
        let part = part_within a (term.Not a) v t top env ready.has ready.apart ready.in_place ready (parts_room (term.Not a) t top none ready.room) in
        not_comes a v t top env part (folded_comes a (parts_lower a) v t top env part)
    parts_lower (term.Bin o a b) v t top env none ready =
        binary_comes o a b v t top env none ready (dividend_lower a) (dividend_lower b) (λ part. folded_comes a (parts_lower a) v t top env part)
        (λ env' part. folded_comes b (parts_lower b) t (t + 1) top env' part)
    parts_lower (term.And a b) v t top env none ready =
        connected_comes Conjunction a b (term.And a b) v t top env (constant_of a) refl (λ c is. conjunction_decided a b c none is) refl
        (parts_room (term.And a b) t top none ready.room)
        (part_within a (term.And a b) v t top env ready.has.0 ready.apart.0 ready.in_place.0 ready) (part_within b (term.And a b) v t top env ready.has.1 ready.apart.1 ready.in_place.1 ready)
        (λ env' part. folded_comes a (parts_lower a) v t top env' part) (λ env' part. folded_comes b (parts_lower b) v t top env' part)
    parts_lower (term.Or a b) v t top env none ready =
        connected_comes Disjunction a b (term.Or a b) v t top env (constant_of a) refl (λ c is. disjunction_decided a b c none is) refl
        (parts_room (term.Or a b) t top none ready.room)
        (part_within a (term.Or a b) v t top env ready.has.0 ready.apart.0 ready.in_place.0 ready) (part_within b (term.Or a b) v t top env ready.has.1 ready.apart.1 ready.in_place.1 ready)
        (λ env' part. folded_comes a (parts_lower a) v t top env' part) (λ env' part. folded_comes b (parts_lower b) v t top env' part)
    parts_lower (term.If c a b) v t top env none ready =
        chosen_comes c a b v t top env (constant_of c) refl (parts_room (term.If c a b) t top none ready.room)
        (part_within c (term.If c a b) v t top env ready.has.0 ready.apart.0 ready.in_place.0 ready)
        (part_within a (term.If c a b) v t top env ready.has.1.0 ready.apart.1.0 ready.in_place.1.0 ready)
        (part_within b (term.If c a b) v t top env ready.has.1.1 ready.apart.1.1 ready.in_place.1.1 ready)
        (λ env' part. folded_comes c (parts_lower c) v t top env' part) (λ env' part. folded_comes a (parts_lower a) v t top env' part)
        (λ env' part. folded_comes b (parts_lower b) v t top env' part)

    dividend_lower : (a : Term) → DividendLowers a
    dividend_lower (term.Bin o x y) c v t top env is ready = folded_comes x (parts_lower x) v t top env ready
    dividend_lower _ c v t top env is ready = absurd cc

  pub lowers : (e : Term) (v t top : ℕ) (env : List ℕ) → Ready rows words inputs e v t top env → IsLowered rows words inputs e v t top env
  lowers e v t top env ready = folded_comes e (parts_lower e) v t top env ready

  -- the statements of an expression put its value into the target, or return 1
  pub value_comes : (e : Term) (v t top : ℕ) (env : List ℕ) → Ready rows words inputs e v t top env → ComesTo inputs (into (lowered_term rows e v t) v) env v t top (IsIn v) (value e words inputs)
  value_comes e v t top env ready = part_target e v t top env ready (lowers e v t top env ready)

  -- and those of a condition tell whether it is true
  pub condition_comes_true : (e : Term) (v t top : ℕ) (env : List ℕ) → Ready rows words inputs e v t top env → ComesTo inputs (lowered_term rows e v t).block env v t top (IsCondition rows words inputs (part_test e v t)) (value e words inputs)
  condition_comes_true e v t top env ready = part_condition e v t top env ready (lowers e v t top env ready)

  -- and those of an operand lead to its word
  pub operand_comes_to_word : (e : Term) (v t top : ℕ) (env : List ℕ) → Ready rows words inputs e v t top env → ComesTo inputs (operand_block (lowered_term rows e v t) v) env v t top (λ x env'. operand_value inputs (operand_in (lowered_term rows e v t).form v) env' ≡ Is x) (value e words inputs)
  operand_comes_to_word e v t top env ready =
      let l : Lowered = lowered_term rows e v t in
      holds_too inputs (operand_block l v) env v t top (IsOperand rows words inputs e (operand_in l.form v) v) (λ x env'. operand_value inputs (operand_in l.form v) env' ≡ Is x) (value e words inputs)
      (operand_comes rows words inputs e l.block l.form v t top env (value e words inputs) ready.inside (lowers e v t top env ready))
      (λ x env' word kept held. held env' (still_in_place rows words inputs e v t top env env' ready.apart kept ready.in_place) refl)
