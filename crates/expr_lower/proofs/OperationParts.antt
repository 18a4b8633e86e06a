-- The statements of an expression, from those of its parts. The code appends those of each part, and then those of the expression
-- itself, whose parts have run by then.
use Rattle.std.proofs.Common.{◌≡◌, ℕ, zero, suc, ◌+◌, ◌-◌, ◌<◌, ◌^◌, List, Option, Some, None, Bool, true, false, ◌&&◌, ◌||◌, refl, sym, ap, ◌∙◌, arith}
use Rattle.std.specs.Prelude.{IsTrue, if◌then◌else◌, is_some, min, max}
use Rattle.strm_num.specs.Magnitudes.{magnitude_of}
use Rattle.list_denotation.specs.declared.expr.BinOp.{BinOp}
use Rattle.list_denotation.specs.declared.expr.BinOp.TheVariants as sign
use Rattle.list_denotation.specs.Terms as term
use Rattle.list_denotation.specs.Terms.{Term}
use Rattle.loop_ir.specs.declared.syntax.WOp.{WOp}
use Rattle.loop_ir.specs.declared.syntax.WOp.TheVariants as op
use Rattle.loop_ir.specs.Statements.{Operand, Var, Block, Nil, join}
use Rattle.expr_phrases.specs.Phrases.{Division, Quotient, Remainder, minus, set, by_divisor, divides_modulus, magnitude_block}
use Rattle.expr_constants.specs.Constants.{constant_of}
use Rattle.expr_constants.specs.Simple.{is_simple}
use Rattle.expr_forms.specs.Forms.{Form, AWord, ATest, InTarget, is_word, as_word, in_target, operand_rest, operand_in, target_rest, lowered_minus, lowered_arithmetic, lowered_comparison, lowered_division, lowered_operation, lowered_multiple}
use Rattle.expr_lower.specs.Lowering.{lowered_term}
use Rattle.strm_num.proofs.Truths.{both_true}
use Rattle.expr_lower.specs.Costs.{is_arithmetic, chosen_plain, has_plain_parts, is_plain, is_direct, unless_constant, chosen_temps, operation_temps, parts_temps, temps_of}
use Rattle.expr_forms.specs.FormCopies.{after_statements, without_statements, as_operand, kept_form, kept_rest}
use Rattle.loop_ir.proofs.Copies.{join_join}
use Rattle.expr_lower.proofs.Plain.{plain_form, simple_plain}
use Rattle.expr_lower.proofs.PlainValues.{plain_lowered}

-- ---- what is a word needs no statements

pub word_bare : (rows : List ℕ) (e : Term) (v t : ℕ) → IsTrue (is_word (lowered_term rows e v t).form) → (lowered_term rows e v t).block ≡ Nil
word_bare rows e v t h = ap (λ l. l.block) (plain_lowered rows e v t (sym (plain_form rows e v t) ∙ h))

pub simple_bare : (rows : List ℕ) (e : Term) (v t : ℕ) → IsTrue (is_simple e) → (lowered_term rows e v t).block ≡ Nil
simple_bare rows e v t h = ap (λ l. l.block) (plain_lowered rows e v t (simple_plain e h))

-- ---- a minus

minus_if : (b : Bool) (w : Operand) (first rest all : Block) → (IsTrue b → first ≡ Nil) → all ≡ join first rest → (if b then as_word w else in_target all).block ≡ join first (if b then as_word w else in_target rest).block
minus_if true w first rest all h e = sym (ap (λ a. join a Nil) (h refl))
minus_if false w first rest all h e = e

form_if : (b : Bool) (w : Operand) (rest all : Block) → (if b then as_word w else in_target all).form ≡ (if b then as_word w else in_target rest).form
form_if true w rest all = refl
form_if false w rest all = refl

pub minus_block : (a : Block) (f : Form) (v : ℕ) → (IsTrue (is_word f) → a ≡ Nil) → (lowered_minus (after_statements a f) v).block ≡ join a (lowered_minus (without_statements f) v).block
minus_block a f v h = minus_if (is_word f) _ a _ _ h (join_join a (operand_rest f v) (set v (minus (Var v))))

pub minus_form : (a : Block) (f : Form) (v : ℕ) → (lowered_minus (after_statements a f) v).form ≡ (lowered_minus (without_statements f) v).form
minus_form a f v = form_if (is_word f) _ _ _

-- ---- operations, whose left operand is kept while the right one is computed

-- the first statements, those that keep the left operand, the second ones, and the rest
four : (a ra b rb s : Block) → join (join a ra) (join (join b rb) s) ≡ join a (join ra (join b (join rb s)))
four a ra b rb s = join_join a ra (join (join b rb) s) ∙ ap (λ x. join a (join ra x)) (join_join b rb s)

arithmetic_block : (o : WOp) (a b : Block) (f g : Form) (v t : ℕ) → (IsTrue (is_word f) → a ≡ Nil) → (IsTrue (is_word g) → b ≡ Nil) → (lowered_arithmetic o (after_statements a f) (after_statements b g) v t).block ≡ join a (join (operand_rest f v) (join b (lowered_arithmetic o (without_statements (as_operand f)) (without_statements g) v t).block))
arithmetic_block o a b (AWord x) (AWord y) v t h k =
    sym (ap (λ s. join s (join b Nil)) (h refl) ∙ ap (λ s. join s Nil) (k refl))
arithmetic_block o a b (AWord x) (ATest y) v t h k = four a Nil b _ _
arithmetic_block o a b (AWord x) InTarget v t h k = four a Nil b _ _
arithmetic_block o a b (ATest x) g v t h k = four a _ b _ _
arithmetic_block o a b InTarget g v t h k = four a _ b _ _

arithmetic_form : (o : WOp) (a b : Block) (f g : Form) (v t : ℕ) → (lowered_arithmetic o (after_statements a f) (after_statements b g) v t).form ≡ (lowered_arithmetic o (without_statements (as_operand f)) (without_statements g) v t).form
arithmetic_form o a b (AWord x) (AWord y) v t = refl
arithmetic_form o a b (AWord x) (ATest y) v t = refl
arithmetic_form o a b (AWord x) InTarget v t = refl
arithmetic_form o a b (ATest x) g v t = refl
arithmetic_form o a b InTarget g v t = refl

comparison_block : (o : BinOp) (a b : Block) (f g : Form) (v t : ℕ) → (lowered_comparison o (after_statements a f) (after_statements b g) v t).block ≡ join a (join (operand_rest f v) (join b (lowered_comparison o (without_statements (as_operand f)) (without_statements g) v t).block))
comparison_block o a b (AWord x) g v t = join_join a Nil (join b (operand_rest g t))
comparison_block o a b (ATest x) g v t = join_join a _ (join b (operand_rest g t))
comparison_block o a b InTarget g v t = join_join a Nil (join b (operand_rest g t))

comparison_form : (o : BinOp) (a b : Block) (f g : Form) (v t : ℕ) → (lowered_comparison o (after_statements a f) (after_statements b g) v t).form ≡ (lowered_comparison o (without_statements (as_operand f)) (without_statements g) v t).form
comparison_form o a b (AWord x) g v t = refl
comparison_form o a b (ATest x) g v t = refl
comparison_form o a b InTarget g v t = refl

-- c and d say whether the operands are simple
division_if : (c d : Bool) (a b : Block) (f g : Form) (v t : ℕ) (go : Operand → Operand → Block) → (IsTrue c → a ≡ Nil) → (IsTrue d → b ≡ Nil)
    → join (if c then Nil else join a (target_rest f v))
    (join (if d then Nil else join b (target_rest g t))
    (go (if c then operand_in f v else Var v) (if d then operand_in g t else Var t)))
    ≡ join a (join (if c then Nil else target_rest f v) (join b
    (join (if c then Nil else target_rest (if c then f else InTarget) v)
    (join (if d then Nil else target_rest g t)
    (go (if c then operand_in (if c then f else InTarget) v else Var v) (if d then operand_in g t else Var t))))))
division_if true true a b f g v t go h k =
    sym (ap (λ s. join s (join b (go (operand_in f v) (operand_in g t)))) (h refl) ∙ ap (λ s. join s (go (operand_in f v) (operand_in g t))) (k refl))
division_if true false a b f g v t go h k =
    join_join b _ _ ∙ sym (ap (λ s. join s (join b (join (target_rest g t) (go (operand_in f v) (Var t))))) (h refl))
division_if false true a b f g v t go h k =
    join_join a _ _ ∙ ap (λ s. join a (join (target_rest f v) s)) (sym (ap (λ s. join s (go (Var v) (operand_in g t))) (k refl)))
division_if false false a b f g v t go h k = four a _ b _ _

division_block : (d : Division) (x y : Term) (a b : Block) (f g : Form) (v t : ℕ) → (IsTrue (is_simple x) → a ≡ Nil) → (IsTrue (is_simple y) → b ≡ Nil) → (lowered_division d x y (after_statements a f) (after_statements b g) v t).block ≡ join a (join (if is_simple x then Nil else target_rest f v) (join b (lowered_division d x y (without_statements (if is_simple x then f else InTarget)) (without_statements g) v t).block))
division_block d x y a b f g v t h k =
    division_if (is_simple x) (is_simple y) a b f g v t (λ p q. by_divisor d (constant_of x) (constant_of y) p q v) h k

-- ---- a comparison of a remainder with 0

pub multiple_block : (o : BinOp) (x : Term) (c : ℕ) (a : Block) (f : Form) (v : ℕ) → (IsTrue (is_simple x) → a ≡ Nil) → (lowered_multiple o x c (after_statements a f) v).block ≡ join a (lowered_multiple o x c (without_statements f) v).block
multiple_block o x c a f v h = by_modulus (divides_modulus (magnitude_of c)) (is_simple x) h (λ w. magnitude_block w v)
  where
    by_modulus : (b simple : Bool) → (IsTrue simple → a ≡ Nil) → (go : Operand → Block) → (if b then join a (operand_rest f v) else join (if simple then Nil else join a (target_rest f v)) (go (if simple then operand_in f v else Var v))) ≡ join a (if b then operand_rest f v else join (if simple then Nil else target_rest f v) (go (if simple then operand_in f v else Var v)))
    by_modulus true simple h go = refl
    by_modulus false true h go = sym (ap (λ s. join s (go (operand_in f v))) (h refl))
    by_modulus false false h go = join_join a (target_rest f v) (go (Var v))

-- what is known of the statements of operands
pub record IsShort (x : Term) (a : Block) (f : Form) : Type 0 where
  pub word : IsTrue (is_word f) → a ≡ Nil
  pub simple : IsTrue (is_simple x) → a ≡ Nil

pub lowered_short : (rows : List ℕ) (e : Term) (v t : ℕ) → IsShort e (lowered_term rows e v t).block (lowered_term rows e v t).form
lowered_short rows e v t = record { word = word_bare rows e v t; simple = simple_bare rows e v t }

pub operation_block : (o : BinOp) (x y : Term) (a b : Block) (f g : Form) (v t : ℕ) → IsShort x a f → IsShort y b g → (lowered_operation o x y (after_statements a f) (after_statements b g) v t).block ≡ join a (join (kept_rest o x f v) (join b (lowered_operation o x y (without_statements (kept_form o x f)) (without_statements g) v t).block))
operation_block sign.Add x y a b f g v t h k = arithmetic_block op.Add a b f g v t h.word k.word
operation_block sign.Sub x y a b f g v t h k = arithmetic_block op.Sub a b f g v t h.word k.word
operation_block sign.Mul x y a b f g v t h k = arithmetic_block op.Mul a b f g v t h.word k.word
operation_block sign.Div x y a b f g v t h k = division_block Quotient x y a b f g v t h.simple k.simple
operation_block sign.Rem x y a b f g v t h k = division_block Remainder x y a b f g v t h.simple k.simple
operation_block sign.Eq x y a b f g v t h k = comparison_block sign.Eq a b f g v t
operation_block sign.Ne x y a b f g v t h k = comparison_block sign.Ne a b f g v t
operation_block sign.Lt x y a b f g v t h k = comparison_block sign.Lt a b f g v t
operation_block sign.Le x y a b f g v t h k = comparison_block sign.Le a b f g v t
operation_block sign.Gt x y a b f g v t h k = comparison_block sign.Gt a b f g v t
operation_block sign.Ge x y a b f g v t h k = comparison_block sign.Ge a b f g v t

pub operation_form : (o : BinOp) (x y : Term) (a b : Block) (f g : Form) (v t : ℕ) → (lowered_operation o x y (after_statements a f) (after_statements b g) v t).form ≡ (lowered_operation o x y (without_statements (kept_form o x f)) (without_statements g) v t).form
operation_form sign.Add x y a b f g v t = arithmetic_form op.Add a b f g v t
operation_form sign.Sub x y a b f g v t = arithmetic_form op.Sub a b f g v t
operation_form sign.Mul x y a b f g v t = arithmetic_form op.Mul a b f g v t
operation_form sign.Div x y a b f g v t = refl
operation_form sign.Rem x y a b f g v t = refl
operation_form sign.Eq x y a b f g v t = comparison_form sign.Eq a b f g v t
operation_form sign.Ne x y a b f g v t = comparison_form sign.Ne a b f g v t
operation_form sign.Lt x y a b f g v t = comparison_form sign.Lt a b f g v t
operation_form sign.Le x y a b f g v t = comparison_form sign.Le a b f g v t
operation_form sign.Gt x y a b f g v t = comparison_form sign.Gt a b f g v t
operation_form sign.Ge x y a b f g v t = comparison_form sign.Ge a b f g v t

-- ---- the temporaries of a right operand

direct_plain : (o : BinOp) (b : Term) → IsTrue (is_direct o b) → IsTrue (is_plain b)
direct_plain sign.Div b h = simple_plain b h
direct_plain sign.Rem b h = simple_plain b h
direct_plain _ b h = h

arithmetic_direct : (o : BinOp) (b : Term) → IsTrue (is_arithmetic o) → is_direct o b ≡ is_plain b
arithmetic_direct sign.Add b h = refl
arithmetic_direct sign.Sub b h = refl
arithmetic_direct sign.Mul b h = refl
arithmetic_direct _ b h = absurd cc

none_kept : (d : Bool) (first second : ℕ) → IsTrue d → first ≡ 0 → max first (if d then 0 else second) ≡ 0
none_kept true first second h e = omega arith
none_kept false first second h e = absurd cc

arithmetic_temps : (o : BinOp) (a b : Term) → IsTrue (is_arithmetic o) → parts_temps (term.Bin o a b) ≡ operation_temps o a b
arithmetic_temps sign.Add a b h = refl
arithmetic_temps sign.Sub a b h = refl
arithmetic_temps sign.Mul a b h = refl
arithmetic_temps _ a b h = absurd cc

none_folded : (k : Option ℕ) (parts : Bool) (n : ℕ) → (IsTrue parts → n ≡ 0) → IsTrue (is_some k || parts) → unless_constant k n ≡ 0
none_folded (Some c) parts n f h = refl
none_folded None parts n f h = f h

none_chosen : (condition : Option ℕ) (first second : Bool) (l m n : ℕ) → (IsTrue first → m ≡ 0) → (IsTrue second → n ≡ 0) → IsTrue (chosen_plain condition first second) → chosen_temps condition l m n ≡ 0
none_chosen (Some zero) first second l m n f g h = g h
none_chosen (Some (suc x)) first second l m n f g h = f h
none_chosen None first second l m n f g h = absurd cc

no_parts_temps : (e : Term) → IsTrue (has_plain_parts e) → parts_temps e ≡ 0
no_parts_temps (term.Neg a) h = none_folded (constant_of a) (has_plain_parts a) (parts_temps a) (no_parts_temps a) h
no_parts_temps (term.Bin o a b) h =
    let first = both_true (is_arithmetic o) (is_plain a && is_plain b) h in
    let rest = both_true (is_plain a) (is_plain b) first.1 in
    arithmetic_temps o a b first.0
    ∙ none_kept (is_direct o b) (temps_of a) (temps_of b + 1) (arithmetic_direct o b first.0 ∙ rest.1)
    (none_folded (constant_of a) (has_plain_parts a) (parts_temps a) (no_parts_temps a) rest.0)
no_parts_temps (term.Not a) h = absurd cc
no_parts_temps (term.And a b) h = absurd cc
no_parts_temps (term.Or a b) h = absurd cc
no_parts_temps (term.If c a b) h =
    none_chosen (constant_of c) (is_plain a) (is_plain b) (temps_of c) (temps_of a) (temps_of b)
    (none_folded (constant_of a) (has_plain_parts a) (parts_temps a) (no_parts_temps a))
    (none_folded (constant_of b) (has_plain_parts b) (parts_temps b) (no_parts_temps b)) h
no_parts_temps _ h = refl

pub plain_temps : (e : Term) → IsTrue (is_plain e) → temps_of e ≡ 0
plain_temps e h = none_folded (constant_of e) (has_plain_parts e) (parts_temps e) (no_parts_temps e) h

-- the first temporary of a right operand, which no direct one uses: t + 1, or the last variable where there is none
abbrev pub next_temp : ℕ → ℕ
next_temp t = min (t + 1) (2 ^ 32 - 1)

fits_if : (d : Bool) (first second t : ℕ) → (IsTrue d → second ≡ 0) → t + max first (if d then 0 else second + 1) < 2 ^ 32 → next_temp t + second < 2 ^ 32
fits_if true first second t h lt = let e : second ≡ 0 = h refl in omega arith
fits_if false first second t h lt = omega arith

pub right_fits : (o : BinOp) (a b : Term) (t : ℕ) → t + operation_temps o a b < 2 ^ 32 → next_temp t + temps_of b < 2 ^ 32
right_fits o a b t lt =
    fits_if (is_direct o b) (temps_of a) (temps_of b) t (λ d. plain_temps b (direct_plain o b d)) lt

at_next_if : (rows : List ℕ) (b : Term) (d : Bool) (first t : ℕ) → (IsTrue d → IsTrue (is_plain b)) → t + max first (if d then 0 else temps_of b + 1) < 2 ^ 32 → lowered_term rows b t (next_temp t) ≡ lowered_term rows b t (t + 1)
at_next_if rows b true first t h lt =
    plain_lowered rows b t (next_temp t) (h refl) ∙ sym (plain_lowered rows b t (t + 1) (h refl))
at_next_if rows b false first t h lt =
    let e : next_temp t ≡ t + 1 = omega arith in
    ap (lowered_term rows b t) e

pub at_next : (rows : List ℕ) (o : BinOp) (a b : Term) (t : ℕ) → t + operation_temps o a b < 2 ^ 32 → lowered_term rows b t (next_temp t) ≡ lowered_term rows b t (t + 1)
at_next rows o a b t lt = at_next_if rows b (is_direct o b) (temps_of a) t (direct_plain o b) lt
