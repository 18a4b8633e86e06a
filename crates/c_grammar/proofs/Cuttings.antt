-- Texts that are cut into tokens of which something holds: what is put before such a text, piece by piece.
use Rattle.std.proofs.Common.{◌≡◌, ℕ, zero, suc, ◌+◌, ◌^◌, ◌<◌, ◌≤◌, List, [], ◌∷◌, ◌++◌, length, Bool, true, false, ◌&&◌, ◌||◌, ◌==◌, not, refl, sym, ap, subst, ◌∙◌, arith, append_assoc, append-nil, decimal, codes}
use Rattle.std.specs.Prelude.{IsTrue}
use Rattle.std.specs.Str.Parse.{AllDigits}
use Rattle.std.proofs.lemmas.Bool.Decides.{nat_tests}
use Rattle.std.proofs.lemmas.Fmt.{decimal_is_IsNumeral, decimal_digit}
use Rattle.std.proofs.lemmas.Str.Parse.{digit_from_value}
use Rattle.strm_num.proofs.Truths.{both_true, true_both}
use Rattle.loop_ir.specs.Layout.{indent}
use Rattle.c_tokens.specs.Characters.{is_blank, is_digit, begins_word, continues_word}
use Rattle.c_tokens.specs.Symbols.{symbol_text}
use Rattle.c_tokens.specs.declared.symbol.Symbol.{Symbol}
use Rattle.c_tokens.specs.declared.symbol.Symbol.TheVariants.{OpenParen, CloseParen, OpenBrace, CloseBrace, OpenBracket, CloseBracket, Semicolon, Comma, Equal, EqualEqual, Less, AndAnd, BarBar, Bang, Star}
use Rattle.c_tokens.specs.Pieces.{IsRun, BeginsRun, begins_with_pair, What, Word, Bare, Const, Sym, IsLongest, BeginsNoComment, IsToken, Blank, Token}
use Rattle.c_tokens.specs.Cutting.{Part, Passes, tokens_from}
use Rattle.c_grammar.specs.Grammar.{Fixed, Then, Ends, Key, Sign, Named}
use Rattle.c_grammar.specs.Reading.{whats}

-- the text is cut into parts, and these are the tokens among them, at whatever offset it begins
pub record Cuts (cs : List ℕ) (toks : List What) : Type 0 where
  pub parts : List Part
  pub passes : Passes cs parts []
  pub tokens : (at : ℕ) → whats (tokens_from at parts) ≡ toks

-- the text is cut into tokens of which something holds
pub record IsCut (holds : List What → Type 0) (cs : List ℕ) : Type 0 where
  pub toks : List What
  pub cuts : Cuts cs toks
  pub is : holds toks

-- a word or a number ends before this text
abbrev pub Stops : List ℕ → Type 0
Stops rest = IsRun continues_word [] rest

-- a symbol with this text ends before that rest, and is no comment
abbrev pub Stands : List ℕ → List ℕ → Type 0
Stands text rest = IsLongest text rest × BeginsNoComment (text ++ rest)

-- ---- what is put before a text

pub nothing_cuts : Cuts [] []
nothing_cuts = record { parts = []; passes = refl; tokens = λ at. refl }

pub blank_cuts : (c : ℕ) (cs : List ℕ) (toks : List What) → is_blank c ≡ true → Cuts cs toks → Cuts (c ∷ cs) toks
blank_cuts c cs toks blank h = record {
  parts = record { piece = Blank; text = c ∷ [] } ∷ h.parts;
  passes = record { rest = cs; split = refl; piece = (c, refl, blank); goes_on = h.passes };
  tokens = λ at. h.tokens (at + length (c ∷ []));
}

pub token_cuts : (what : What) (text rest : List ℕ) (toks : List What) → IsToken what text rest → Cuts rest toks → Cuts (text ++ rest) (what ∷ toks)
token_cuts what text rest toks token h = record {
  parts = record { piece = Token what; text = text } ∷ h.parts;
  passes = record { rest = rest; split = refl; piece = token; goes_on = h.passes };
  tokens = λ at. ap (λ ts. what ∷ ts) (h.tokens (at + length text));
}

-- the tokens of a rest are what is left of a phrase
pub ended : {cs : List ℕ} {r : List What} → Cuts cs r → IsCut (Ends r) cs
ended {r = r} h = record { toks = r; cuts = h; is = refl }

module _ {holds : List What → Type 0} where
  pub space : {cs : List ℕ} → IsCut holds cs → IsCut holds (32 ∷ cs)
  space {cs} h = record { toks = h.toks; cuts = blank_cuts 32 cs h.toks refl h.cuts; is = h.is }

  pub line : {cs : List ℕ} → IsCut holds cs → IsCut holds (10 ∷ cs)
  line {cs} h = record { toks = h.toks; cuts = blank_cuts 10 cs h.toks refl h.cuts; is = h.is }

  pub token : {rest : List ℕ} (what : What) (text : List ℕ) → IsToken what text rest → IsCut holds rest → IsCut (Fixed what holds) (text ++ rest)
  token {rest} what text is h = record {
    toks = what ∷ h.toks;
    cuts = token_cuts what text rest h.toks is h.cuts;
    is = record { rest = h.toks; is = refl; goes_on = h.is };
  }

  -- a phrase that is cut before each rest
  pub phrase : {is_phrase : List What → List What → Type 0} {cs rest : List ℕ} → ((r : List What) → Cuts rest r → IsCut (λ x. is_phrase x r) cs) → IsCut holds rest → IsCut (Then is_phrase holds) cs
  phrase before h =
      let first = before h.toks h.cuts in record {
        toks = first.toks;
        cuts = first.cuts;
        is = record { rest = h.toks; phrase_is = first.is; goes_on = h.is };
      }

-- the blanks before a line
pub indented : {holds : List What → Type 0} {cs : List ℕ} (blanks : ℕ) → IsCut holds cs → IsCut holds (indent blanks ++ cs)
indented zero h = h
indented (suc blanks) h = space (indented blanks h)

-- ---- words and numbers

abbrev all_continue : List ℕ → Bool
all_continue [] = true
all_continue (c ∷ text) = continues_word c && all_continue text

abbrev is_word : List ℕ → Bool
is_word [] = false
is_word (c ∷ text) = begins_word c && all_continue text

-- a run goes on with a run
run_of : (text more rest : List ℕ) → IsTrue (all_continue text) → IsRun continues_word more rest → IsRun continues_word (text ++ more) rest
run_of [] more rest all run = run
run_of (c ∷ text) more rest all run =
    let parts = both_true (continues_word c) (all_continue text) all in (parts.0, run_of text more rest parts.1 run)

word_run : (text more rest : List ℕ) → IsTrue (is_word text) → IsRun continues_word more rest → BeginsRun begins_word (text ++ more) rest
word_run [] more rest word run = absurd cc
word_run (c ∷ text) more rest word run =
    let parts = both_true (begins_word c) (all_continue text) word in (parts.0, run_of text more rest parts.1 run)

pub digit_tells : (c : ℕ) → 48 ≤ c → c ≤ 57 → is_digit c ≡ true
digit_tells c low high = grind (arith, nat_tests)

digit_continues : (c : ℕ) → 48 ≤ c → c ≤ 57 → continues_word c ≡ true
digit_continues c low high = grind (arith, nat_tests)

digits_continue : (ds : List ℕ) → AllDigits 10 ds → IsTrue (all_continue ds)
digits_continue [] all = refl
digits_continue (d ∷ ds) all =
    true_both (continues_word d) (all_continue ds)
    (digit_continues d (omega (arith, digit_from_value d all.0)) (omega (arith, digit_from_value d all.0))) (digits_continue ds all.1)

number_run : (ds more rest : List ℕ) → 0 < length ds → AllDigits 10 ds → IsRun continues_word more rest → BeginsRun is_digit (ds ++ more) rest
number_run [] more rest some all run = absurd (omega arith)
number_run (d ∷ ds) more rest some all run =
    let digit = digit_tells d (omega (arith, digit_from_value d all.0)) (omega (arith, digit_from_value d all.0)) in
    (digit, run_of ds more rest (digits_continue ds all.1) run)

decimal_run : (k : ℕ) (rest : List ℕ) → k < 2 ^ 64 → Stops rest → IsRun continues_word (decimal k) rest
decimal_run k rest small stops =
    subst (λ text. IsRun continues_word text rest) (append-nil (decimal k))
    (run_of (decimal k) [] rest (digits_continue (decimal k) (decimal_is_IsNumeral k small).0.1) stops)

module _ {holds : List What → Type 0} {rest : List ℕ} where
  pub key : (text : List ℕ) → IsTrue (is_word text) → Stops rest → IsCut holds rest → IsCut (Key text holds) (text ++ rest)
  key text word stops h =
      let run = subst (λ t. BeginsRun begins_word t rest) (append-nil text) (word_run text [] rest word stops) in
      token (Word text) text (run, refl) h

  pub name : (letter : List ℕ) (k : ℕ) → IsTrue (is_word letter) → k < 2 ^ 32 → Stops rest → IsCut holds rest → IsCut (Named letter k holds) (letter ++ (decimal k ++ rest))
  name letter k word small stops h =
      let run = word_run letter (decimal k) rest word (decimal_run k rest (omega arith) stops) in
      let cut = token (Word (letter ++ decimal k)) (letter ++ decimal k) (run, refl) h in
      subst (IsCut (Named letter k holds)) (append_assoc letter (decimal k) rest)
      (record { toks = cut.toks; cuts = cut.cuts; is = record { small = small; fixed = cut.is } })

  pub constant : (n : ℕ) → n < 2 ^ 64 → Stops rest → IsCut holds rest → IsCut (Fixed (Const n) holds) (decimal n ++ (codes "ULL" ++ rest))
  constant n small stops h =
      let numeral = (decimal_is_IsNumeral n small).0 in
      let run = number_run (decimal n) (codes "ULL") rest numeral.0 numeral.1 (run_of (codes "ULL") [] rest refl stops) in
      subst (IsCut (Fixed (Const n) holds)) (append_assoc (decimal n) (codes "ULL") rest)
      (token (Const n) (decimal n ++ codes "ULL") (run, refl, small) h)

  bare : (n : ℕ) → n ≤ 1 → Stops rest → IsCut holds rest → IsCut (Fixed (Bare n) holds) (decimal n ++ rest)
  bare n small stops h =
      let numeral = (decimal_is_IsNumeral n (omega arith)).0 in
      let run = number_run (decimal n) [] rest numeral.0 numeral.1 stops in
      let alone = subst (λ text. BeginsRun is_digit text rest) (append-nil (decimal n)) run in
      token (Bare n) (decimal n) (alone, refl, small) h

  pub bare_zero : Stops rest → IsCut holds rest → IsCut (Fixed (Bare 0) holds) (48 ∷ rest)
  bare_zero stops h =
      subst (λ text. IsCut (Fixed (Bare 0) holds) (text ++ rest)) (decimal_digit 0 (omega arith)) (bare 0 (omega arith) stops h)

  pub bare_one : Stops rest → IsCut holds rest → IsCut (Fixed (Bare 1) holds) (49 ∷ rest)
  bare_one stops h =
      subst (λ text. IsCut (Fixed (Bare 1) holds) (text ++ rest)) (decimal_digit 1 (omega arith)) (bare 1 (omega arith) stops h)

  pub constant_zero : Stops rest → IsCut holds rest → IsCut (Fixed (Const 0) holds) (codes "0ULL" ++ rest)
  constant_zero stops h =
      subst (λ text. IsCut (Fixed (Const 0) holds) (text ++ (codes "ULL" ++ rest))) (decimal_digit 0 (omega arith)) (constant 0 (omega arith) stops h)

-- ---- symbols

abbrev first : List ℕ → ℕ
first [] = 0
first (c ∷ cs) = c

abbrev second : List ℕ → ℕ
second [] = 0
second (c ∷ cs) = first cs

-- the character begins no longer symbol and no comment
abbrev is_lone : ℕ → Bool
is_lone c = not ((c == 61) || ((c == 38) || ((c == 124) || (c == 47))))

other : (test : ℕ → Bool) (c d : ℕ) → IsTrue (test c) → IsTrue (not (test d)) → c ≡ d → ⊥
other test c d h fails same = let k = subst (λ e. IsTrue (not (test e))) (sym same) fails in absurd cc

no_comment : (cs : List ℕ) → ((first cs ≡ 47) → (second cs ≡ 42) → ⊥) → begins_with_pair 47 47 cs ≡ false → BeginsNoComment cs
no_comment cs other alone = record {
  no_whole = λ text rest split comment.
      let same = split ∙ ap (λ t. t ++ rest) comment.is in other (ap first same) (ap second same);
  no_line = alone;
}

-- a symbol of one character is longest where no symbol of two stands
longest : (c : ℕ) (rest : List ℕ) → (c ≡ 61 → first rest ≡ 61 → ⊥) → (c ≡ 38 → first rest ≡ 38 → ⊥) → (c ≡ 124 → first rest ≡ 124 → ⊥) → IsLongest (c ∷ []) rest
longest c rest no_equal no_and no_bar EqualEqual behind split = absurd (no_equal (ap first split) (ap second split))
longest c rest no_equal no_and no_bar AndAnd behind split = absurd (no_and (ap first split) (ap second split))
longest c rest no_equal no_and no_bar BarBar behind split = absurd (no_bar (ap first split) (ap second split))
longest c rest no_equal no_and no_bar _ behind split = omega arith

at_most_two : (s : Symbol) → length (symbol_text s) ≤ 2
at_most_two EqualEqual = omega arith
at_most_two AndAnd = omega arith
at_most_two BarBar = omega arith
at_most_two _ = omega arith

no_line_comment : (c : ℕ) (rest : List ℕ) → (c == 47) ≡ false → begins_with_pair 47 47 (c ∷ rest) ≡ false
no_line_comment c [] other = refl
no_line_comment c (d ∷ rest) other = rw other refl

lone_stands : (c : ℕ) (rest : List ℕ) → IsTrue (is_lone c) → Stands (c ∷ []) rest
lone_stands c rest lone =
    let no_equal : c ≡ 61 → ⊥ = other is_lone c 61 lone refl in
    let no_and : c ≡ 38 → ⊥ = other is_lone c 38 lone refl in
    let no_bar : c ≡ 124 → ⊥ = other is_lone c 124 lone refl in
    let no_slash : c ≡ 47 → ⊥ = other is_lone c 47 lone refl in
    let is_other : (c == 47) ≡ false = grind (arith, nat_tests) in
    (longest c rest (λ h k. no_equal h) (λ h k. no_and h) (λ h k. no_bar h), no_comment (c ∷ rest) (λ h k. no_slash h) (no_line_comment c rest is_other))

spaced_stands : (c : ℕ) (rest : List ℕ) → Stands (c ∷ []) (32 ∷ rest)
spaced_stands c rest = (
  longest c (32 ∷ rest) (λ h k. omega arith) (λ h k. omega arith) (λ h k. omega arith),
  no_comment (c ∷ 32 ∷ rest) (λ h k. omega arith) (by (c == 47)),
)
  where
    by : (b : Bool) → (b && false) ≡ false
    by true = refl
    by false = refl

pair_stands : (c d : ℕ) (rest : List ℕ) → (c == 47) ≡ false → Stands (c ∷ d ∷ []) rest
pair_stands c d rest is_other =
    let no_slash : c ≡ 47 → ⊥ = λ h. grind (arith, nat_tests) in
    (λ s behind split. at_most_two s, no_comment (c ∷ d ∷ rest) (λ h k. no_slash h) (no_line_comment c (d ∷ rest) is_other))

module _ {holds : List What → Type 0} {rest : List ℕ} where
  stands : (s : Symbol) → Stands (symbol_text s) rest → IsCut holds rest → IsCut (Sign s holds) (symbol_text s ++ rest)
  stands s h cut = token (Sym s) (symbol_text s) (refl, h.0, h.1) cut

  pub open_paren : IsCut holds rest → IsCut (Sign OpenParen holds) (40 ∷ rest)
  open_paren = stands OpenParen (lone_stands 40 rest refl)

  pub close_paren : IsCut holds rest → IsCut (Sign CloseParen holds) (41 ∷ rest)
  close_paren = stands CloseParen (lone_stands 41 rest refl)

  pub open_brace : IsCut holds rest → IsCut (Sign OpenBrace holds) (123 ∷ rest)
  open_brace = stands OpenBrace (lone_stands 123 rest refl)

  pub close_brace : IsCut holds rest → IsCut (Sign CloseBrace holds) (125 ∷ rest)
  close_brace = stands CloseBrace (lone_stands 125 rest refl)

  pub open_bracket : IsCut holds rest → IsCut (Sign OpenBracket holds) (91 ∷ rest)
  open_bracket = stands OpenBracket (lone_stands 91 rest refl)

  pub close_bracket : IsCut holds rest → IsCut (Sign CloseBracket holds) (93 ∷ rest)
  close_bracket = stands CloseBracket (lone_stands 93 rest refl)

  pub semicolon : IsCut holds rest → IsCut (Sign Semicolon holds) (59 ∷ rest)
  semicolon = stands Semicolon (lone_stands 59 rest refl)

  pub comma : IsCut holds rest → IsCut (Sign Comma holds) (44 ∷ rest)
  comma = stands Comma (lone_stands 44 rest refl)

  pub bang : IsCut holds rest → IsCut (Sign Bang holds) (33 ∷ rest)
  bang = stands Bang (lone_stands 33 rest refl)

  pub star : IsCut holds rest → IsCut (Sign Star holds) (42 ∷ rest)
  star = stands Star (lone_stands 42 rest refl)

  pub equal_equal : IsCut holds rest → IsCut (Sign EqualEqual holds) (61 ∷ 61 ∷ rest)
  equal_equal = stands EqualEqual (pair_stands 61 61 rest refl)

  pub and_and : IsCut holds rest → IsCut (Sign AndAnd holds) (38 ∷ 38 ∷ rest)
  and_and = stands AndAnd (pair_stands 38 38 rest refl)

  pub bar_bar : IsCut holds rest → IsCut (Sign BarBar holds) (124 ∷ 124 ∷ rest)
  bar_bar = stands BarBar (pair_stands 124 124 rest refl)

-- a symbol of one character that may begin a longer one or a comment stands before a space
pub spaced : {holds : List What → Type 0} {rest : List ℕ} (s : Symbol) (c : ℕ) → symbol_text s ≡ c ∷ [] → IsCut holds (32 ∷ rest) → IsCut (Sign s holds) (c ∷ 32 ∷ rest)
spaced {rest} s c is cut =
    let here : IsLongest (c ∷ []) (32 ∷ rest) × BeginsNoComment (c ∷ 32 ∷ rest) = spaced_stands c rest in
    token (Sym s) (c ∷ []) (is, here.0, here.1) cut

module _ {holds : List What → Type 0} {rest : List ℕ} where
  pub equal : IsCut holds (32 ∷ rest) → IsCut (Sign Equal holds) (61 ∷ 32 ∷ rest)
  equal = spaced Equal 61 refl

  pub less : IsCut holds rest → IsCut (Sign Less holds) (60 ∷ rest)
  less = stands Less (lone_stands 60 rest refl)
