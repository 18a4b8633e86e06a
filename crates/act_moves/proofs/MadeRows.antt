-- Rows with other numbers for their words that the code makes one by one.
use Rattle.std.proofs.Common.{◌≡◌, ℕ, ◌+◌, ◌≤◌, List, [], ◌∷◌, ◌++◌, length, drop, Some, sym, ap, ◌∙◌, subst, append-nil}
use Rattle.std.specs.Prelude.{slice_get}
use Rattle.std.proofs.lemmas.List.{drop_all}
use Rattle.strm_num.proofs.Lists.{drop_at}
use Rattle.list_denotation.specs.declared.expr.Expr.{Expr}
use Rattle.list_denotation.specs.Copies.{term_of, terms_of}
use Rattle.list_denotation.proofs.MadeRows.{terms_push}
use Rattle.act_moves.specs.Renumbering.{renumber, renumber_row}
use Rattle.act_moves.specs.WordRoom.{ReadsBelow, RowReadsBelow}

pub row_step : (f : ℕ → ℕ) (made es : List Expr) (i : ℕ) (e c : Expr) → slice_get es i ≡ Some e → term_of c ≡ renumber f (term_of e) → terms_of (made ++ c ∷ []) ++ renumber_row f (terms_of (drop (i + 1) es)) ≡ terms_of made ++ renumber_row f (terms_of (drop i es))
row_step f made es i e c h q =
    terms_push made c (renumber_row f (terms_of (drop (i + 1) es))) ∙ ap (λ t. terms_of made ++ t ∷ renumber_row f (terms_of (drop (i + 1) es))) q
    ∙ sym (ap (λ l. terms_of made ++ renumber_row f (terms_of l)) (drop_at es i e h))

pub row_end : (f : ℕ → ℕ) (made es : List Expr) (i : ℕ) → length es ≤ i → terms_of made ++ renumber_row f (terms_of (drop i es)) ≡ terms_of made
row_end f made es i h = ap (λ l. terms_of made ++ renumber_row f (terms_of l)) (drop_all i es h) ∙ append-nil (terms_of made)

pub row_below : (n : ℕ) (es : List Expr) (i : ℕ) (e : Expr) → slice_get es i ≡ Some e → RowReadsBelow n (terms_of (drop i es)) → ReadsBelow n (term_of e) × RowReadsBelow n (terms_of (drop (i + 1) es))
row_below n es i e h b = subst (λ z. RowReadsBelow n (terms_of z)) (drop_at es i e h) b

pub ruleset row_steps = (row_step, row_end, row_below)
