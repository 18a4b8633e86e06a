-- The names among the tokens of a program are declared exactly if those in its statements are.
use Rattle.std.proofs.Common.{◌≡◌, ℕ, ◌^◌, ◌<◌, List, [], ◌∷◌, ◌++◌, length, decimal, get_or, true, false, All, refl, sym, ap, ◌∙◌, arith, true≢false}
use Rattle.std.specs.Prelude.{IsTrue}
use Rattle.std.specs.Str.Parse.{AllDigits}
use Rattle.std.proofs.lemmas.Bool.{lt-ltb}
use Rattle.std.proofs.lemmas.Fmt.{decimal_is_IsNumeral}
use Rattle.std.proofs.lemmas.List.Elements.{All-nil, All-cons, All-head, All-tail, All-map}
use Rattle.std.proofs.lemmas.Str.Parse.{digit_from_value}
use Rattle.list_denotation.specs.declared.input.InputKind.{InputKind}
use Rattle.list_denotation.specs.Typing.{is_array, is_int}
use Rattle.loop_ir.specs.DeclaredNames.{Names, is_named_leaf, declared_names, block_names}
use Rattle.loop_ir.specs.Statements.{Routine}
use Rattle.c_tokens.specs.Characters.{is_digit}
use Rattle.c_tokens.specs.Cutting.{Token}
use Rattle.c_tokens.specs.Pieces.{What, Word}
use Rattle.c_grammar.specs.Grammar.{IsProgram}
use Rattle.c_grammar.specs.Reading.{whats}
use Rattle.c_grammar.proofs.Cuttings.{digit_tells}
use Rattle.c_grammar.proofs.FirstTokens.{numbers_apart}
use Rattle.c_grammar.proofs.OneName.{one_number}
use Rattle.c_faults.specs.Undeclared.{Sort, Variable, Array, Length, Int, letter_of, declares, IsDeclared}
use Rattle.c_faults.proofs.LeavesOfTokens.{TellsLeaves, leaves_of_tokens}
use Rattle.c_faults.proofs.TokensOfLeaves.{TellsTokens, PassDeclared, tokens_of_leaves}

-- ---- a word is one name, or none

abbrev letter_code : Sort → ℕ
letter_code Variable = 118
letter_code Array = 97
letter_code Length = 110
letter_code Int = 105

one_sort : (s t : Sort) → letter_code s ≡ letter_code t → s ≡ t
one_sort Variable Variable e = refl
one_sort Array Array e = refl
one_sort Length Length e = refl
one_sort Int Int e = refl
one_sort s t e = absurd (numbers_apart (letter_code s) (letter_code t) e refl)

name_text : (s : Sort) (k : ℕ) → letter_of s ++ decimal k ≡ letter_code s ∷ decimal k
name_text Variable k = refl
name_text Array k = refl
name_text Length k = refl
name_text Int k = refl

one_name : (s t : Sort) (k j : ℕ) → k < 2 ^ 32 → j < 2 ^ 32 → letter_of s ++ decimal k ≡ letter_of t ++ decimal j → (s ≡ t) × (k ≡ j)
one_name s t k j small small_too e =
    let same : letter_code s ∷ decimal k ≡ letter_code t ∷ decimal j = sym (name_text s k) ∙ e ∙ name_text t j in
    let letters : letter_code s ≡ letter_code t = cc in
    let numbers : decimal k ≡ decimal j = cc in
    (one_sort s t letters, one_number k j small small_too numbers)

-- the second character of a name is a digit
digit_first : (ds : List ℕ) → 0 < length ds → AllDigits 10 ds → is_digit (get_or ds 0 0) ≡ true
digit_first [] some all = absurd (omega arith)
digit_first (d ∷ ds) some all = digit_tells d (omega (arith, digit_from_value d all.0)) (omega (arith, digit_from_value d all.0))

digit_second : (s : Sort) (k : ℕ) → k < 2 ^ 32 → is_digit (get_or (letter_of s ++ decimal k) 1 0) ≡ true
digit_second s k small =
    let numeral = (decimal_is_IsNumeral k (omega arith)).0 in
    ap (λ text. is_digit (get_or text 1 0)) (name_text s k) ∙ digit_first (decimal k) numeral.0 numeral.1

same_word : (v w : List ℕ) → Word v ≡ Word w → v ≡ w
same_word v w e = cc

-- ---- names that are declared

declared_name : (names : Names) (s : Sort) (k : ℕ) → k < 2 ^ 32 → declares names s k ≡ true → IsDeclared names (Word (letter_of s ++ decimal k))
declared_name names s k small pass t j name =
    let same = one_name s t k j small name.small (same_word (letter_of s ++ decimal k) (letter_of t ++ decimal j) name.is) in
    ap (λ u. declares names u j) (sym same.0) ∙ ap (declares names s) (sym same.1) ∙ pass

no_name : (names : Names) (text : List ℕ) → is_digit (get_or text 1 0) ≡ false → IsDeclared names (Word text)
no_name names text no_digit s k name =
    let same = same_word text (letter_of s ++ decimal k) name.is in
    absurd (true≢false (sym (digit_second s k name.small) ∙ ap (λ word. is_digit (get_or word 1 0)) (sym same) ∙ no_digit))

names_tell_leaves : (names : Names) → TellsLeaves (IsDeclared names) (is_named_leaf names)
names_tell_leaves names = record {
  constant = λ n declared. refl;
  variable = λ k small declared. declared Variable k (record { small = small; is = refl });
  array = λ k small declared. declared Array k (record { small = small; is = refl });
  array_length = λ k small declared. declared Length k (record { small = small; is = refl });
  int = λ k small declared. declared Int k (record { small = small; is = refl });
}

names_tell_tokens : (names : Names) → TellsTokens (IsDeclared names) (is_named_leaf names)
names_tell_tokens names = record {
  variable = λ k small pass. declared_name names Variable k small pass;
  array = λ k small pass. declared_name names Array k small pass;
  array_length = λ k small pass. declared_name names Length k small pass;
  int = λ k small pass. declared_name names Int k small pass;
  constant = λ n s k name. absurd (let is = name.is in cc);
  bare = λ n s k name. absurd (let is = name.is in cc);
  symbol = λ sign s k name. absurd (let is = name.is in cc);
  keyword = no_name names;
}

declared_pass : (params : List InputKind) (vars : ℕ) → PassDeclared params vars (is_named_leaf (declared_names params vars))
declared_pass params vars = record {
  array = λ k is. ap is_array is;
  int = λ k is. ap is_int is;
  variable = λ k below. lt-ltb k vars below;
}

-- ---- programs

all_of_whats : (P : What → Type 0) (toks : List Token) → All P (whats toks) → All (λ (t : Token). P t.what) toks
all_of_whats P [] all = All-nil (λ (t : Token). P t.what)
all_of_whats P (t ∷ toks) all =
    All-cons (λ (u : Token). P u.what) t toks (All-head P t.what (whats toks) all) (all_of_whats P toks (All-tail P t.what (whats toks) all))

pub names_of_tokens : (q : Routine) (toks : List Token) → IsProgram q (whats toks) → All (λ (t : Token). IsDeclared (declared_names q.params q.vars) t.what) toks
    → IsTrue (block_names (declared_names q.params q.vars) q.body)
names_of_tokens q toks program all =
    let names = declared_names q.params q.vars in
    leaves_of_tokens (IsDeclared names) (is_named_leaf names) (names_tell_leaves names) q (whats toks) program
    (All-map (IsDeclared names) (λ (t : Token). t.what) toks all)

pub tokens_of_names : (q : Routine) (toks : List Token) → IsProgram q (whats toks) → IsTrue (block_names (declared_names q.params q.vars) q.body)
    → All (λ (t : Token). IsDeclared (declared_names q.params q.vars) t.what) toks
tokens_of_names q toks program pass =
    let names = declared_names q.params q.vars in
    all_of_whats (IsDeclared names) toks
    (tokens_of_leaves (IsDeclared names) (is_named_leaf names) (names_tell_tokens names) q (declared_pass q.params q.vars) (whats toks) program pass)
