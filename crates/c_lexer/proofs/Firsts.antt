-- Which piece stands at the start of characters, by the first of them.
use Rattle.std.proofs.Common.{◌≡◌, ◌≢◌, ℕ, ◌+◌, ◌-◌, ◌<◌, ◌≤◌, List, [], ◌∷◌, ◌++◌, length, get_or, take, drop, codes, Bool, true, false, ◌==◌, ◌&&◌, cond, Some, None, refl, sym, ap, subst, ◌∙◌, arith, lit<, true≢false}
use Rattle.std.specs.List.{prefix_len}
use Rattle.std.proofs.lemmas.Bool.Decides.{nat_tests}
use Rattle.std.proofs.lemmas.List.{take-append-drop}
use Rattle.c_tokens.specs.Characters.{is_blank, is_digit, begins_word, continues_word}
use Rattle.c_tokens.specs.Symbols.{symbol_text}
use Rattle.c_tokens.specs.Pieces as piece
use Rattle.c_tokens.specs.Pieces.{What, Word, Piece, IsPiece, IsToken, IsComment, BeginsRun, BeginsNoComment, begins_with_pair}
use Rattle.c_tokens.specs.declared.symbol.Symbol.{Symbol}
use Rattle.c_tokens.proofs.Runs.{same_begins_run}
use Rattle.c_tokens.proofs.SymbolPlaces.{two_stand}
use Rattle.c_words.specs.Words.{StandsFor}
use Rattle.c_words.specs.declared.token.CToken.{CToken}
use Rattle.c_words.specs.declared.token.CToken.TheVariants as token
use Rattle.c_lexer.specs.Numbers.{IsNumberToken}
use Rattle.c_lexer.specs.Symbols.{symbol_of_one, symbol_twice, symbol_pair}
use Rattle.c_lexer.specs.Prefixes.{StandsAtPrefix, BeginsNoPiece}
use Rattle.c_lexer.specs.declared.piece.Piece.TheVariants as found
use Rattle.c_lexer.proofs.Runs.{begins_run, begins_run_within}
use Rattle.c_lexer.proofs.SymbolPrefixes.{symbol_no_digit, longest_of_one, symbol_of_one-text, symbol_twice-text}

fails : (b : Bool) → (b ≡ true → ⊥) → b ≡ false
fails true h = absurd (h refl)
fails false h = refl

clash : (test : ℕ → Bool) (c d : ℕ) → c ≡ d → test c ≡ false → test d ≡ true → ⊥
clash test c d same fails passes = cc

-- ---- blanks, words and numbers

pub word_stands : (cs : List ℕ) (t : CToken) (n : ℕ) → 0 < length cs → begins_word (get_or cs 0 0) ≡ true → n ≡ prefix_len continues_word (take (length cs - 1) (drop 1 cs)) → StandsFor t (Word (take (1 + n) cs)) → StandsAtPrefix cs (found.Token t) (1 + n)
word_stands cs t n some letter is stands = record {
  some = omega arith;
  within = begins_run_within cs n some is;
  piece = (Word (take (1 + n) cs), (stands, (begins_run begins_word cs n some letter is, refl)));
}

number_piece : (t : CToken) (text rest : List ℕ) → BeginsRun is_digit text rest → IsNumberToken text t → (what : What) × (StandsFor t what × IsToken what text rest)
number_piece (token.Bare n) text rest run h = (piece.Bare n, (refl, (run, h.0, h.1)))
number_piece (token.Constant n) text rest run h = (piece.Const n, (refl, (run, h.0, h.1)))
number_piece (token.Key k) text rest run h = absurd h
number_piece (token.Name l n) text rest run h = absurd h
number_piece token.OtherWord text rest run h = absurd h
number_piece (token.Sym s) text rest run h = absurd h

pub number_stands : (cs : List ℕ) (t : CToken) (n : ℕ) → 0 < length cs → is_digit (get_or cs 0 0) ≡ true → n ≡ prefix_len continues_word (take (length cs - 1) (drop 1 cs)) → IsNumberToken (take (1 + n) cs) t → StandsAtPrefix cs (found.Token t) (1 + n)
number_stands cs t n some digit is number = record {
  some = omega arith;
  within = begins_run_within cs n some is;
  piece = number_piece t (take (1 + n) cs) (drop (1 + n) cs) (begins_run is_digit cs n some digit is) number;
}

-- ---- where no piece begins

no_piece : (c : ℕ) (cs : List ℕ) → is_blank c ≡ false → ((text rest : List ℕ) → c ∷ cs ≡ text ++ rest → IsComment text → ⊥) → begins_word c ≡ false → ((t : CToken) (text rest : List ℕ) → c ∷ cs ≡ text ++ rest → BeginsRun is_digit text rest → IsNumberToken text t → ⊥) → ((s : Symbol) (behind : List ℕ) → c ∷ cs ≡ symbol_text s ++ behind → BeginsNoComment (c ∷ cs) → ⊥) → BeginsNoPiece (c ∷ cs)
no_piece c cs no_blank no_comment no_letter no_number no_sign = λ p text rest e h. of p text rest e h
  where
    blank : (text rest : List ℕ) (d : ℕ) → c ∷ cs ≡ text ++ rest → text ≡ d ∷ [] → is_blank d ≡ true → ⊥
    blank text rest d e is h =
        let whole : c ∷ cs ≡ d ∷ rest = e ∙ ap (λ (xs : List ℕ). xs ++ rest) is in
        let same : c ≡ d = cc in
        clash is_blank c d same no_blank h

    word : (text rest : List ℕ) → c ∷ cs ≡ text ++ rest → BeginsRun begins_word text rest → ⊥
    word [] rest e h = h
    word (d ∷ text) rest e h = let first : c ≡ d = cc in clash begins_word c d first no_letter h.0

    of : (p : Piece) (text rest : List ℕ) → c ∷ cs ≡ text ++ rest → IsPiece p text rest → ⊥
    of piece.Blank text rest e h = blank text rest h.0 e h.1 h.2
    of piece.Comment text rest e h = no_comment text rest e h
    of (piece.Token (Word w)) text rest e h = word text rest e h.0
    of (piece.Token (piece.Bare n)) text rest e h = no_number (token.Bare n) text rest e h.0 (h.1, h.2)
    of (piece.Token (piece.Const n)) text rest e h = no_number (token.Constant n) text rest e h.0 (h.1, h.2)
    of (piece.Token (piece.Sym s)) text rest e h = no_sign s rest (e ∙ ap (λ (xs : List ℕ). xs ++ rest) (sym h.0)) (subst BeginsNoComment (sym e) h.2)

digit_between : (c : ℕ) → is_digit c ≡ true → (48 ≤ c) × (c < 58)
digit_between c h = (grind (arith, nat_tests), grind (arith, nat_tests))

blank_small : (c : ℕ) → is_blank c ≡ true → c < 48
blank_small c h = grind (arith, nat_tests)

letter_large : (c : ℕ) → begins_word c ≡ true → 58 ≤ c
letter_large c h = grind (arith, nat_tests)

comment_first : (c : ℕ) (cs text rest : List ℕ) → c ∷ cs ≡ text ++ rest → IsComment text → c ≡ 47
comment_first c cs text rest e h =
    let whole : c ∷ cs ≡ codes "/*" ++ (h.inside ++ rest) = e ∙ ap (λ (xs : List ℕ). xs ++ rest) h.is in
    cc

-- a run of digits and letters that is no number
pub no_number_there : (cs : List ℕ) (n : ℕ) → 0 < length cs → is_digit (get_or cs 0 0) ≡ true → n ≡ prefix_len continues_word (take (length cs - 1) (drop 1 cs)) → ((t : CToken) → IsNumberToken (take (1 + n) cs) t → ⊥) → BeginsNoPiece cs
no_number_there [] n some digit is none = absurd (omega arith)
no_number_there (c ∷ cs) n some digit is none =
    let between = digit_between c digit in
    let low = between.0 in
    let high = between.1 in
    no_piece c cs
    (fails (is_blank c) (λ b. let small = blank_small c b in omega arith))
    (λ text rest e h. let first = comment_first c cs text rest e h in omega arith)
    (fails (begins_word c) (λ b. let large = letter_large c b in omega arith))
    (λ t text rest e run h.
    let same = same_begins_run is_digit text rest (take (1 + n) (c ∷ cs)) (drop (1 + n) (c ∷ cs)) (sym e ∙ sym (take-append-drop (1 + n) (c ∷ cs))) run (begins_run is_digit (c ∷ cs) n some digit is) in
    none t (subst (λ (xs : List ℕ). IsNumberToken xs t) same.0 h))
    (λ s behind e h. symbol_no_digit s c cs behind e digit)

-- ---- symbols

twice_no_slash : (c : ℕ) (s : Symbol) → symbol_twice c ≡ Some s → (c == 47) ≡ false
twice_no_slash c s e = fails (c == 47) (λ h. nothing (sym (ap symbol_twice (is c h)) ∙ e))
  where
    is : (x : ℕ) → (x == 47) ≡ true → x ≡ 47
    is x h = grind (arith, nat_tests)

    nothing : None ≡ Some s → ⊥
    nothing e = cc

pub pair_stands : (cs : List ℕ) (s : Symbol) → symbol_pair cs ≡ Some s → StandsAtPrefix cs (found.Token (token.Sym s)) 2
pair_stands [] s e = absurd cc
pair_stands (c ∷ []) s e = absurd cc
pair_stands (c ∷ d ∷ cs) s e = by_test (c == d) refl e
  where
    is_same : (x y : ℕ) → (x == y) ≡ true → x ≡ y
    is_same x y e = grind (arith, nat_tests)

    no_pair : (a b : Bool) → a ≡ false → (a && b) ≡ false
    no_pair true b e = absurd (true≢false e)
    no_pair false b e = refl

    by_test : (b : Bool) → (c == d) ≡ b → cond b (symbol_twice c) None ≡ Some s → StandsAtPrefix (c ∷ d ∷ cs) (found.Token (token.Sym s)) 2
    by_test true same e = record {
      some = lit< tt;
      within = omega arith;
      piece =
          let no_slash = twice_no_slash c s e in
          let text = symbol_twice-text c s e ∙ ap (λ (x : ℕ). c ∷ x ∷ []) (is_same c d same) in
          (piece.Sym s, (refl, two_stand s c d cs text (no_pair (c == 47) (d == 42) no_slash) (no_pair (c == 47) (d == 47) no_slash)));
    }
    by_test false other e = absurd cc

-- where no slash stands, no comment begins
no_comment_there : (c : ℕ) (cs : List ℕ) → c ≢ 47 → BeginsNoComment (c ∷ cs)
no_comment_there c cs no_slash = record {
  no_whole = λ text rest e h. no_slash (comment_first c cs text rest e h);
  no_line = no_line cs;
}
  where
    other : (x : ℕ) (b : Bool) → x ≢ 47 → ((x == 47) && b) ≡ false
    other x b h = no_pair (x == 47) b (fails (x == 47) (λ e. h (is x e)))
      where
        is : (y : ℕ) → (y == 47) ≡ true → y ≡ 47
        is y e = grind (arith, nat_tests)

        no_pair : (a b : Bool) → a ≡ false → (a && b) ≡ false
        no_pair true b e = absurd (true≢false e)
        no_pair false b e = refl

    no_line : (xs : List ℕ) → begins_with_pair 47 47 (c ∷ xs) ≡ false
    no_line [] = refl
    no_line (d ∷ xs) = other c (d == 47) no_slash

pub one_symbol_stands : (cs : List ℕ) (s : Symbol) → 0 < length cs → get_or cs 0 0 ≢ 47 → symbol_pair cs ≡ None → symbol_of_one (get_or cs 0 0) ≡ Some s → StandsAtPrefix cs (found.Token (token.Sym s)) 1
one_symbol_stands [] s some no_slash none e = absurd (omega arith)
one_symbol_stands (c ∷ cs) s some no_slash none e = record {
  some = lit< tt;
  within = omega arith;
  piece = (piece.Sym s, (refl, (symbol_of_one-text c s e, longest_of_one c cs none, no_comment_there c cs no_slash)));
}
