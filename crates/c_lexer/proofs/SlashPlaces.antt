-- What stands where a / does: a comment, or the symbol.
use Rattle.std.proofs.Common.{◌≡◌, ℕ, suc, ◌+◌, List, [], ◌∷◌, ◌++◌, take, drop, codes, true, false, ◌==◌, ◌&&◌, Some, None, refl, sym, ap, subst, ◌∙◌, arith, lit<, true≢false}
use Rattle.std.proofs.lemmas.Bool.Decides.{nat_tests}
use Rattle.c_tokens.specs.Pieces as piece
use Rattle.c_tokens.specs.Pieces.{IsComment, BeginsNoComment, IsToken, begins_with_pair}
use Rattle.c_tokens.specs.declared.symbol.Symbol.TheVariants.{Slash}
use Rattle.c_words.specs.declared.token.CToken.TheVariants as token
use Rattle.c_lexer.specs.Comments.{comment_end, IsUnclosed}
use Rattle.c_lexer.specs.Symbols.{symbol_pair}
use Rattle.c_lexer.specs.Prefixes.{StandsAtPrefix}
use Rattle.c_lexer.specs.declared.piece.Piece.TheVariants as found
use Rattle.c_lexer.proofs.CommentEnds.{end_stands, unclosed_here, unclosed_no_comment}
use Rattle.c_lexer.proofs.SymbolPrefixes.{longest_of_one}

pair_is : (c d : ℕ) → ((c == 47) && (d == 42)) ≡ true → (c ≡ 47) × (d ≡ 42)
pair_is c d e = (grind (arith, nat_tests), grind (arith, nat_tests))

same_pair : (c d : ℕ) (cs : List ℕ) → (c ≡ 47) × (d ≡ 42) → c ∷ d ∷ cs ≡ codes "/*" ++ cs
same_pair c d cs h = ap (λ (x : ℕ). x ∷ d ∷ cs) h.0 ∙ ap (λ (x : ℕ). 47 ∷ x ∷ cs) h.1

-- the comment goes to its end
pub comment_stands : (cs : List ℕ) (n : ℕ) → begins_with_pair 47 42 cs ≡ true → comment_end (drop 2 cs) ≡ Some n → StandsAtPrefix cs found.Comment (2 + n)
comment_stands [] n pair e = absurd (true≢false (sym pair))
comment_stands (c ∷ []) n pair e = absurd (true≢false (sym pair))
comment_stands (c ∷ d ∷ cs) n pair e =
    let ends = end_stands cs n e in
    let within = ends.0 in
    let sum : suc (suc n) ≡ 2 + n = omega arith in
    subst (StandsAtPrefix (c ∷ d ∷ cs) found.Comment) sum
    (record {
      some = omega arith;
      within = omega arith;
      piece = record { inside = take n cs; is = same_pair c d (take n cs) (pair_is c d pair); to_its_end = ends.1 };
    })

-- and where it has none, no later one has
pub open_there : (cs : List ℕ) → begins_with_pair 47 42 cs ≡ true → comment_end (drop 2 cs) ≡ None → IsUnclosed cs
open_there [] pair e = absurd (true≢false (sym pair))
open_there (c ∷ []) pair e = absurd (true≢false (sym pair))
open_there (c ∷ d ∷ cs) pair e = subst IsUnclosed (sym (same_pair c d cs (pair_is c d pair))) (unclosed_here cs e)

no_pair : (c d : ℕ) → c ≡ 47 → d ≡ 42 → ((c == 47) && (d == 47)) ≡ false
no_pair c d e f = grind (arith, nat_tests)

-- the symbol before a star
pub slash_stands_open : (cs : List ℕ) → begins_with_pair 47 42 cs ≡ true → IsUnclosed cs → StandsAtPrefix cs (found.Token (token.Sym Slash)) 1
slash_stands_open [] pair open_ = absurd (true≢false (sym pair))
slash_stands_open (c ∷ []) pair open_ = absurd (true≢false (sym pair))
slash_stands_open (c ∷ d ∷ cs) pair open_ =
    let is = pair_is c d pair in
    let stands : IsToken (piece.Sym Slash) (47 ∷ []) (d ∷ cs) =
    (refl, longest_of_one 47 (d ∷ cs) (none d cs is.1), subst BeginsNoComment (ap (λ (x : ℕ). x ∷ d ∷ cs) is.0) no_comment) in
    record {
      some = lit< tt;
      within = omega arith;
      piece = (piece.Sym Slash, (refl, subst (λ (x : ℕ). IsToken (piece.Sym Slash) (x ∷ []) (d ∷ cs)) (sym is.0) stands));
    }
  where
    no_comment : BeginsNoComment (c ∷ d ∷ cs)
    no_comment = record {
      no_whole = λ text rest e h. unclosed_no_comment (c ∷ d ∷ cs) text rest open_ e h;
      no_line = let is = pair_is c d pair in no_pair c d is.0 is.1;
    }

    none : (x : ℕ) (xs : List ℕ) → x ≡ 42 → symbol_pair (47 ∷ x ∷ xs) ≡ None
    none x xs e = ap (λ (y : ℕ). symbol_pair (47 ∷ y ∷ xs)) e
