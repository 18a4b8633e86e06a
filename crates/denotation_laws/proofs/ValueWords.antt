-- Values are words, where the numbers of the expression, the bound words and the inputs are words.
use Rattle.std.proofs.Common.{◌≡◌, ℕ, zero, suc, ◌^◌, ◌<◌, ◌≤◌, List, [], ◌∷◌, length, Bool, true, false, ◌&&◌, refl, ap, subst, arith, lit<}
use Rattle.std.specs.Prelude.{ℤ, pos, negsuc, int_div, int_rem, slice_get, slice_index, All, IsTrue}
use Rattle.std.proofs.lemmas.Bool.{ltb-true}
use Rattle.std.proofs.lemmas.List.Elements.{All-nil, All-cons, All-head, All-tail}
use Rattle.strm_num.proofs.Truths.{both_true}
use Rattle.strm_num.specs.Words.{IsWord, signed, word_of, quotient_of, remainder_of, truth_of}
use Rattle.list_denotation.specs.declared.expr.BinOp.{BinOp}
use Rattle.list_denotation.specs.declared.expr.BinOp.TheVariants as sign
use Rattle.list_denotation.specs.declared.input.Input.{Input}
use Rattle.list_denotation.specs.declared.input.Input.TheVariants as input
use Rattle.list_denotation.specs.declared.input.InputKind.{InputKind}
use Rattle.list_denotation.specs.declared.input.InputKind.TheVariants as kind
use Rattle.list_denotation.specs.Terms.{Term, Lit, Truth, Var, Param, Len, Neg, Not, Bin, And, Or, If}
use Rattle.list_denotation.specs.Inputs.{items_in, word_in, Fits}
use Rattle.list_denotation.specs.Literals.{has_words, all_have_words}
use Rattle.list_denotation.specs.Values.{Trap, Got, Is, Fails, with_value, choice, unless_zero, operation_of, value, row_value}
use Rattle.denotation_laws.specs.RowWords.{IsRow}

-- ---- inputs

pub record HasInputWords (inputs : List Input) (k : ℕ) : Type 0 where
  pub word : IsWord (word_in (slice_get inputs k))
  pub items : All IsWord (items_in (slice_get inputs k))
  pub few : length (items_in (slice_get inputs k)) ≤ 4194304

pub input_words : (inputs : List Input) (kinds : List InputKind) (k : ℕ) → Fits inputs kinds → HasInputWords inputs k
input_words [] [] k fits = record { word = omega arith; items = All-nil IsWord; few = omega arith }
input_words [] (kind ∷ kinds) k fits = absurd fits
input_words (i ∷ inputs) [] k fits = absurd fits
input_words (input.Array items ∷ inputs) (kind.Array ∷ kinds) zero fits = record { word = omega arith; items = fits.0.0; few = fits.0.1 }
input_words (input.Int w ∷ inputs) (kind.Array ∷ kinds) zero fits = absurd fits.0
input_words (input.Array items ∷ inputs) (kind.Int ∷ kinds) zero fits = absurd fits.0
input_words (input.Int w ∷ inputs) (kind.Int ∷ kinds) zero fits = record { word = fits.0; items = All-nil IsWord; few = omega arith }
input_words (i ∷ inputs) (kind ∷ kinds) (suc k) fits = further (input_words inputs kinds k fits.1)
  where
    further : HasInputWords inputs k → HasInputWords (i ∷ inputs) (suc k)
    further h = record { word = h.word; items = h.items; few = h.few }

-- ---- values that are so, where they are there

abbrev pub OnValue : {A : Type 0} → (A → Type 0) → Got A → Type 0
OnValue P (Is x) = P x
OnValue P (Fails f) = Unit {0}

pub on_value_is : {A : Type 0} (P : A → Type 0) (g : Got A) (x : A) → OnValue P g → g ≡ Is x → P x
on_value_is {A} P g x h e = let Q : Got A → Type 0 = λ o. OnValue P o in subst Q e h

pub on_value_weaker : {A : Type 0} (P Q : A → Type 0) → ((x : A) → P x → Q x) → (g : Got A) → OnValue P g → OnValue Q g
on_value_weaker P Q weaker (Is x) h = weaker x h
on_value_weaker P Q weaker (Fails f) h = tt

pub any_value : {A : Type 0} (g : Got A) → OnValue (λ (x : A). Unit {0}) g
any_value (Is x) = tt
any_value (Fails f) = tt

with_on : {A B : Type 0} (P : A → Type 0) (Q : B → Type 0) (x : Got A) (go : A → Got B) → OnValue P x → ((a : A) → P a → OnValue Q (go a)) → OnValue Q (with_value x go)
with_on P Q (Is a) go h k = k a h
with_on P Q (Fails f) go h k = tt

choice_on : {A : Type 0} (P : A → Type 0) (w : ℕ) (a b : Got A) → OnValue P a → OnValue P b → OnValue P (choice w a b)
choice_on P zero a b h k = h
choice_on P (suc w) a b h k = k

-- ---- words

word_of_word : (z : ℤ) → word_of z < 2 ^ 64
word_of_word (pos n) = omega arith
word_of_word (negsuc n) = omega arith

truth_word : (b : Bool) → IsWord (truth_of b)
truth_word true = omega arith
truth_word false = omega arith

chosen_word : (w x y : ℕ) → IsWord x → IsWord y → IsWord (choice w x y)
chosen_word zero x y h k = h
chosen_word (suc w) x y h k = k

unless_zero_word : (y q : ℕ) → IsWord q → OnValue IsWord (unless_zero Trap y q)
unless_zero_word zero q h = tt
unless_zero_word (suc y) q h = h

operation_word : (op : BinOp) (x y : ℕ) → OnValue IsWord (operation_of op x y)
operation_word sign.Add x y = omega arith
operation_word sign.Sub x y = omega arith
operation_word sign.Mul x y = omega arith
operation_word sign.Div x y = unless_zero_word y (quotient_of x y) (word_of_word (int_div (signed x) (signed y)))
operation_word sign.Rem x y = unless_zero_word y (remainder_of x y) (word_of_word (int_rem (signed x) (signed y)))
operation_word sign.Eq x y = truth_word _
operation_word sign.Ne x y = truth_word _
operation_word sign.Lt x y = truth_word _
operation_word sign.Le x y = truth_word _
operation_word sign.Gt x y = truth_word _
operation_word sign.Ge x y = truth_word _

-- past the end a list has the word 0
word_at : (xs : List ℕ) → All IsWord xs → (k : ℕ) → IsWord (slice_index xs k)
word_at [] all k = omega arith
word_at (x ∷ xs) all zero = All-head IsWord x xs all
word_at (x ∷ xs) all (suc k) = word_at xs (All-tail IsWord x xs all) k

module _ (inputs : List Input) (kinds : List InputKind) (fits : Fits inputs kinds) (env : List ℕ) (words : All IsWord env) where
  pub value_word : (e : Term) → IsTrue (has_words e) → OnValue IsWord (value e env inputs)
  value_word (Lit w) h = ltb-true w (2 ^ 64) h
  value_word (Truth b) h = truth_word b
  value_word (Var k) h = word_at env words k
  value_word (Param k) h = (input_words inputs kinds k fits).word
  value_word (Len k) h = let few = (input_words inputs kinds k fits).few in omega (arith, few)
  value_word (Neg a) h = with_on IsWord IsWord (value a env inputs) _ (value_word a h) (λ x w. omega arith)
  value_word (Not a) h =
      with_on IsWord IsWord (value a env inputs) _ (value_word a h) (λ x w. chosen_word x 1 0 (omega arith) (omega arith))
  value_word (Bin op a b) h =
      let parts = both_true (has_words a) (has_words b) h in
      with_on IsWord IsWord (value a env inputs) _ (value_word a parts.0) (λ x w.
      with_on IsWord IsWord (value b env inputs) _ (value_word b parts.1) (λ y v. operation_word op x y))
  value_word (And a b) h =
      let parts = both_true (has_words a) (has_words b) h in
      with_on IsWord IsWord (value a env inputs) _ (value_word a parts.0) (λ x w. choice_on IsWord x _ _ (lit< tt)
      (with_on IsWord IsWord (value b env inputs) _ (value_word b parts.1) (λ y v. chosen_word y 0 1 (omega arith) (omega arith))))
  value_word (Or a b) h =
      let parts = both_true (has_words a) (has_words b) h in
      with_on IsWord IsWord (value a env inputs) _ (value_word a parts.0) (λ x w. choice_on IsWord x _ _
      (with_on IsWord IsWord (value b env inputs) _ (value_word b parts.1) (λ y v. chosen_word y 0 1 (omega arith) (omega arith))) (lit< tt))
  value_word (If c a b) h =
      let parts = both_true (has_words c) (has_words a && has_words b) h in
      let arms = both_true (has_words a) (has_words b) parts.1 in
      with_on IsWord IsWord (value c env inputs) _ (value_word c parts.0) (λ x w. choice_on IsWord x _ _ (value_word b arms.1) (value_word a arms.0))

  pub row_words : (es : List Term) → IsTrue (all_have_words es) → OnValue (IsRow (length es)) (row_value es env inputs)
  row_words [] h = record { width = refl; words = All-nil IsWord }
  row_words (e ∷ es) h =
      let parts = both_true (has_words e) (all_have_words es) h in
      with_on IsWord (IsRow (length (e ∷ es))) (value e env inputs) _ (value_word e parts.0) (λ x w.
      with_on (IsRow (length es)) (IsRow (length (e ∷ es))) (row_value es env inputs) _ (row_words es parts.1) (λ row r. longer x row w r))
    where
      longer : (x : ℕ) (row : List ℕ) → IsWord x → IsRow (length es) row → IsRow (length (e ∷ es)) (x ∷ row)
      longer x row w r = record { width = ap suc r.width; words = All-cons IsWord x row w r.words }

  -- the same without the width
  pub row_all_words : (es : List Term) → IsTrue (all_have_words es) → OnValue (All IsWord) (row_value es env inputs)
  row_all_words es h = on_value_weaker (IsRow (length es)) (All IsWord) (λ row r. r.words) (row_value es env inputs) (row_words es h)

-- a row is as wide as it has expressions, whatever its words
pub row_width : (es : List Term) (env : List ℕ) (inputs : List Input) → OnValue (λ row. length row ≡ length es) (row_value es env inputs)
row_width [] env inputs = refl
row_width (e ∷ es) env inputs =
    with_on (λ x. Unit {0}) (λ row. length row ≡ length (e ∷ es)) (value e env inputs) _ (any_value (value e env inputs)) (λ x any.
    with_on (λ row. length row ≡ length es) (λ row. length row ≡ length (e ∷ es)) (row_value es env inputs) _ (row_width es env inputs) (λ row w. ap suc w))
