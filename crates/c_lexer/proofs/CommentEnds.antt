-- Where comments end, and where none does.
use Rattle.std.proofs.Common.{◌≡◌, ◌≢◌, ℕ, zero, suc, ◌+◌, ◌<◌, ◌≤◌, List, [], ◌∷◌, ◌++◌, length, get_or, take, drop, Bool, true, false, ◌==◌, ◌&&◌, ◌||◌, cond, Option, Some, None, refl, sym, ap, subst, ◌∙◌, arith, append_assoc, true≢false}
use Rattle.std.proofs.lemmas.List.{drop_more}
use Rattle.std.proofs.lemmas.Bool.Decides.{nat_tests}
use Rattle.c_tokens.specs.Characters.{is_blank, is_digit, begins_word, continues_word, is_in_comment}
use Rattle.c_tokens.specs.Symbols.{symbol_text}
use Rattle.c_tokens.specs.Pieces as piece
use Rattle.c_tokens.specs.Pieces.{Word, Bare, Const, Sym, Piece, IsPiece, IsRun, BeginsRun, begins_with_pair, EndsOr, IsToItsEnd, IsComment}
use Rattle.c_tokens.specs.declared.symbol.Symbol.{Symbol}
use Rattle.c_tokens.specs.declared.symbol.Symbol.TheVariants.{OpenParen, CloseParen, OpenBrace, CloseBrace, OpenBracket, CloseBracket, Semicolon, Comma, Equal, EqualEqual, Less, AndAnd, BarBar, Bang, Plus, Minus, Star, Slash, Percent, Caret}
use Rattle.c_lexer.specs.Comments.{comment_end, further, AreInComment, IsUnclosed}

-- ---- along a text

further_more : (n : ℕ) (o : Option ℕ) → further n (further 1 o) ≡ further (n + 1) o
further_more n None = refl
further_more n (Some m) = let same : n + (1 + m) ≡ n + 1 + m = omega arith in ap Some same

by_tests : (pair good : Bool) (o : Option ℕ) → Option ℕ
by_tests pair good o = cond pair (Some 2) (cond good (further 1 o) None)

comment_end-drop : (cs : List ℕ) (i : ℕ) → i < length cs → comment_end (drop i cs) ≡ by_tests (begins_with_pair 42 47 (drop i cs)) (is_in_comment (get_or cs i 0)) (comment_end (drop (i + 1) cs))
unfolding by_tests
comment_end-drop cs i within =
    ap comment_end (drop_more cs i 0 within)
    ∙ ap (λ (xs : List ℕ). cond (begins_with_pair 42 47 xs) (Some 2) (cond (is_in_comment (get_or cs i 0)) (further 1 (comment_end (drop (i + 1) cs))) None)) (sym (drop_more cs i 0 within))

pub stops_there : (cs : List ℕ) (i : ℕ) → i < length cs → begins_with_pair 42 47 (drop i cs) ≡ false → is_in_comment (get_or cs i 0) ≡ false → further i (comment_end (drop i cs)) ≡ None
unfolding by_tests
stops_there cs i within pair bad =
    ap (further i) (comment_end-drop cs i within
    ∙ ap (λ (b : Bool). by_tests b (is_in_comment (get_or cs i 0)) (comment_end (drop (i + 1) cs))) pair
    ∙ ap (λ (b : Bool). by_tests false b (comment_end (drop (i + 1) cs))) bad)

pub goes_on_there : (cs : List ℕ) (i : ℕ) → i < length cs → begins_with_pair 42 47 (drop i cs) ≡ false → is_in_comment (get_or cs i 0) ≡ true → further (i + 1) (comment_end (drop (i + 1) cs)) ≡ further i (comment_end (drop i cs))
unfolding by_tests
goes_on_there cs i within pair good =
    sym (further_more i (comment_end (drop (i + 1) cs)))
    ∙ sym (ap (further i) (comment_end-drop cs i within
    ∙ ap (λ (b : Bool). by_tests b (is_in_comment (get_or cs i 0)) (comment_end (drop (i + 1) cs))) pair
    ∙ ap (λ (b : Bool). by_tests false b (comment_end (drop (i + 1) cs))) good))

-- ---- what an end says of comments

further_some : (o : Option ℕ) (n : ℕ) → further 1 o ≡ Some n → (m : ℕ) × (o ≡ Some m) × (n ≡ suc m)
further_some None n e = absurd cc
further_some (Some m) n e = let same : 1 + m ≡ n = cc in (m, refl, omega arith)

further_nothing : (o : Option ℕ) → further 1 o ≡ None → o ≡ None
further_nothing None e = refl
further_nothing (Some m) e = absurd cc

-- where the end is two characters
pair_stands : (c : ℕ) (cs : List ℕ) → begins_with_pair 42 47 (c ∷ cs) ≡ true → (2 ≤ length (c ∷ cs)) × IsToItsEnd (take 2 (c ∷ cs))
pair_stands c [] pair = absurd (true≢false (sym pair))
pair_stands c (d ∷ cs) pair = (omega arith, subst (λ (b : Bool). EndsOr b (d ∷ []) ((is_in_comment c ≡ true) × IsToItsEnd (d ∷ []))) (sym pair) (ap (λ (x : ℕ). x ∷ []) (second c d pair)))
  where
    second : (a b : ℕ) → ((a == 42) && (b == 47)) ≡ true → b ≡ 47
    second a b e = grind (arith, nat_tests)

-- and where it is further on
more_stands : (c : ℕ) (cs : List ℕ) (m : ℕ) → begins_with_pair 42 47 (c ∷ cs) ≡ false → is_in_comment c ≡ true → (m ≤ length cs) × IsToItsEnd (take m cs) → (suc m ≤ length (c ∷ cs)) × IsToItsEnd (take (suc m) (c ∷ cs))
more_stands c cs zero no_pair good h = absurd h.1
more_stands c [] (suc m) no_pair good h = absurd h.1
more_stands c (d ∷ cs) (suc m) no_pair good h =
    let within = h.0 in
    (omega arith, subst (λ (b : Bool). EndsOr b (d ∷ take m cs) ((is_in_comment c ≡ true) × IsToItsEnd (d ∷ take m cs))) (sym no_pair) (good, h.1))

-- behind /* this is a comment's end
pub end_stands : (cs : List ℕ) (n : ℕ) → comment_end cs ≡ Some n → (n ≤ length cs) × IsToItsEnd (take n cs)
end_stands [] n e = absurd cc
end_stands (c ∷ cs) n e = by_test (end_stands cs) (begins_with_pair 42 47 (c ∷ cs)) (is_in_comment c) refl refl e
  where
    by_test : ((m : ℕ) → comment_end cs ≡ Some m → (m ≤ length cs) × IsToItsEnd (take m cs)) → (pair good : Bool) → begins_with_pair 42 47 (c ∷ cs) ≡ pair → is_in_comment c ≡ good → cond pair (Some 2) (cond good (further 1 (comment_end cs)) None) ≡ Some n → (n ≤ length (c ∷ cs)) × IsToItsEnd (take n (c ∷ cs))
    by_test later true good p q e =
        let two : 2 ≡ n = cc in
        subst (λ (k : ℕ). (k ≤ length (c ∷ cs)) × IsToItsEnd (take k (c ∷ cs))) two (pair_stands c cs p)
    by_test later false true p q e =
        let some = further_some (comment_end cs) n e in
        subst (λ (k : ℕ). (k ≤ length (c ∷ cs)) × IsToItsEnd (take k (c ∷ cs))) (sym some.2) (more_stands c cs some.0 p q (later some.0 some.1))
    by_test later false false p q e = absurd cc

-- what goes to its end has one, whatever follows
pub has_end : (text rest : List ℕ) → IsToItsEnd text → (n : ℕ) × (comment_end (text ++ rest) ≡ Some n)
has_end [] rest h = absurd h
has_end (c ∷ text) rest h = by_test (has_end text rest) (begins_with_pair 42 47 (c ∷ text)) refl h
  where
    goes_on : (m : ℕ) → comment_end (text ++ rest) ≡ Some m → is_in_comment c ≡ true → (pair : Bool) → (n : ℕ) × (cond pair (Some 2) (cond (is_in_comment c) (further 1 (comment_end (text ++ rest))) None) ≡ Some n)
    goes_on m e good true = (2, refl)
    goes_on m e good false = (1 + m, rw (good, e) refl)

    by_test : (IsToItsEnd text → (n : ℕ) × (comment_end (text ++ rest) ≡ Some n)) → (pair : Bool) → begins_with_pair 42 47 (c ∷ text) ≡ pair → EndsOr pair text ((is_in_comment c ≡ true) × IsToItsEnd text) → (n : ℕ) × (comment_end (c ∷ (text ++ rest)) ≡ Some n)
    by_test later true p f =
        let whole : begins_with_pair 42 47 (c ∷ (text ++ rest)) ≡ true = ap (λ (xs : List ℕ). begins_with_pair 42 47 (c ∷ (xs ++ rest))) f ∙ sym (ap (λ (xs : List ℕ). begins_with_pair 42 47 (c ∷ xs)) f) ∙ p in
        (2, ap (λ (b : Bool). cond b (Some 2) (cond (is_in_comment c) (further 1 (comment_end (text ++ rest))) None)) whole)
    by_test later false p f =
        let end = later f.1 in
        goes_on end.0 end.1 f.0 (begins_with_pair 42 47 (c ∷ (text ++ rest)))

-- ---- where none ends

-- what has no end has none behind characters that may stand in a comment
pub no_end_behind : (before behind : List ℕ) → AreInComment before → comment_end (before ++ behind) ≡ None → comment_end behind ≡ None
no_end_behind [] behind all e = e
no_end_behind (c ∷ before) behind all e = no_end_behind before behind all.1 (by_test (begins_with_pair 42 47 (c ∷ (before ++ behind))) e)
  where
    by_test : (pair : Bool) → cond pair (Some 2) (cond (is_in_comment c) (further 1 (comment_end (before ++ behind))) None) ≡ None → comment_end (before ++ behind) ≡ None
    by_test true e = absurd cc
    by_test false e = further_nothing (comment_end (before ++ behind)) (sym (ap (λ (b : Bool). cond b (further 1 (comment_end (before ++ behind))) None) all.0) ∙ e)

-- where the comment at the start has no end, none does
pub unclosed_here : (cs : List ℕ) → comment_end cs ≡ None → IsUnclosed (47 ∷ 42 ∷ cs)
unclosed_here cs none [] behind all e = let same : cs ≡ behind = cc in ap comment_end (sym same) ∙ none
unclosed_here cs none (a ∷ []) behind all e = absurd (let second = ap (λ (xs : List ℕ). get_or xs 1 0) e in omega arith)
unclosed_here cs none (a ∷ b ∷ before) behind all e =
    let same : cs ≡ before ++ (47 ∷ 42 ∷ behind) = cc in
    no_end_behind (47 ∷ 42 ∷ []) behind (refl, (refl, tt)) (no_end_behind before (47 ∷ 42 ∷ behind) all.1.1 (ap comment_end (sym same) ∙ none))

both_in_comment : (s t : List ℕ) → AreInComment s → AreInComment t → AreInComment (s ++ t)
both_in_comment [] t f g = g
both_in_comment (c ∷ s) t f g = (f.0, both_in_comment s t f.1 g)

-- and so on behind characters that may stand in one
pub unclosed_behind : (cs text rest : List ℕ) → cs ≡ text ++ rest → AreInComment text → IsUnclosed cs → IsUnclosed rest
unclosed_behind cs text rest split all h = λ before behind good e.
    h (text ++ before) behind (both_in_comment text before all good) (split ∙ ap (λ (xs : List ℕ). text ++ xs) e ∙ sym (append_assoc text before (47 ∷ 42 ∷ behind)))

-- so no whole comment begins there
pub unclosed_no_comment : (cs text rest : List ℕ) → IsUnclosed cs → cs ≡ text ++ rest → IsComment text → ⊥
unclosed_no_comment cs text rest h e comment =
    let opens : cs ≡ [] ++ (47 ∷ 42 ∷ (comment.inside ++ rest)) = e ∙ ap (λ (xs : List ℕ). xs ++ rest) comment.is in
    let none = h [] (comment.inside ++ rest) tt opens in
    let some = has_end comment.inside rest comment.to_its_end in
    nothing some.0 (sym none ∙ some.1)
  where
    nothing : (n : ℕ) → None ≡ Some n → ⊥
    nothing n e = cc

-- ---- the characters of pieces

blank_in_comment : (c : ℕ) → is_blank c ≡ true → is_in_comment c ≡ true
blank_in_comment c h = rw h refl

printable : (c : ℕ) → 32 ≤ c → c ≤ 126 → c ≢ 92 → c ≢ 63 → is_in_comment c ≡ true
printable c low high no_backslash no_question = grind (arith, nat_tests)

word_in_comment : (c : ℕ) → continues_word c ≡ true → is_in_comment c ≡ true
word_in_comment c h = printable c (grind (arith, nat_tests)) (grind (arith, nat_tests)) (λ e. backslash (sym (ap continues_word e) ∙ h)) (λ e. question (sym (ap continues_word e) ∙ h))
  where
    backslash : continues_word 92 ≡ true → ⊥
    backslash e = cc

    question : continues_word 63 ≡ true → ⊥
    question e = cc

run_in_comment : (text rest : List ℕ) → IsRun continues_word text rest → AreInComment text
run_in_comment [] rest run = tt
run_in_comment (c ∷ text) rest run = (word_in_comment c run.0, run_in_comment text rest run.1)

begins_word_continues : (c : ℕ) → begins_word c ≡ true → continues_word c ≡ true
begins_word_continues c h = rw h refl

digit_continues : (c : ℕ) → is_digit c ≡ true → continues_word c ≡ true
digit_continues c h = either (begins_word c) (is_digit c) h
  where
    either : (a b : Bool) → b ≡ true → (a || b) ≡ true
    either true b e = refl
    either false b e = e

begins_run_in_comment : (begins : ℕ → Bool) → ((c : ℕ) → begins c ≡ true → continues_word c ≡ true) → (text rest : List ℕ) → BeginsRun begins text rest → AreInComment text
begins_run_in_comment begins continues [] rest run = absurd run
begins_run_in_comment begins continues (c ∷ text) rest run = (word_in_comment c (continues c run.0), run_in_comment text rest run.1)

end_in_comment : (text : List ℕ) → IsToItsEnd text → AreInComment text
end_in_comment [] h = absurd h
end_in_comment (c ∷ text) h = by_test (end_in_comment text) (begins_with_pair 42 47 (c ∷ text)) refl h
  where
    star : (xs : List ℕ) → begins_with_pair 42 47 (c ∷ xs) ≡ true → c ≡ 42
    star [] pair = absurd (true≢false (sym pair))
    star (d ∷ xs) pair = first c d pair
      where
        first : (a b : ℕ) → ((a == 42) && (b == 47)) ≡ true → a ≡ 42
        first a b e = grind (arith, nat_tests)

    by_test : (IsToItsEnd text → AreInComment text) → (pair : Bool) → begins_with_pair 42 47 (c ∷ text) ≡ pair → EndsOr pair text ((is_in_comment c ≡ true) × IsToItsEnd text) → (is_in_comment c ≡ true) × AreInComment text
    by_test later true p f = (ap is_in_comment (star text p), subst AreInComment (sym f) (refl, tt))
    by_test later false p f = (f.0, later f.1)

symbol_in_comment : (s : Symbol) → AreInComment (symbol_text s)
symbol_in_comment OpenParen = (refl, tt)
symbol_in_comment CloseParen = (refl, tt)
symbol_in_comment OpenBrace = (refl, tt)
symbol_in_comment CloseBrace = (refl, tt)
symbol_in_comment OpenBracket = (refl, tt)
symbol_in_comment CloseBracket = (refl, tt)
symbol_in_comment Semicolon = (refl, tt)
symbol_in_comment Comma = (refl, tt)
symbol_in_comment Equal = (refl, tt)
symbol_in_comment EqualEqual = (refl, (refl, tt))
symbol_in_comment Less = (refl, tt)
symbol_in_comment AndAnd = (refl, (refl, tt))
symbol_in_comment BarBar = (refl, (refl, tt))
symbol_in_comment Bang = (refl, tt)
symbol_in_comment Plus = (refl, tt)
symbol_in_comment Minus = (refl, tt)
symbol_in_comment Star = (refl, tt)
symbol_in_comment Slash = (refl, tt)
symbol_in_comment Percent = (refl, tt)
symbol_in_comment Caret = (refl, tt)

pub piece_in_comment : (p : Piece) (text rest : List ℕ) → IsPiece p text rest → AreInComment text
piece_in_comment piece.Blank text rest h = subst AreInComment (sym h.1) (blank_in_comment h.0 h.2, tt)
piece_in_comment piece.Comment text rest h = subst AreInComment (sym h.is) (refl, (refl, end_in_comment h.inside h.to_its_end))
piece_in_comment (piece.Token (Word w)) text rest h = begins_run_in_comment begins_word begins_word_continues text rest h.0
piece_in_comment (piece.Token (Bare n)) text rest h = begins_run_in_comment is_digit digit_continues text rest h.0
piece_in_comment (piece.Token (Const n)) text rest h = begins_run_in_comment is_digit digit_continues text rest h.0
piece_in_comment (piece.Token (Sym s)) text rest h = subst AreInComment h.0 (symbol_in_comment s)
