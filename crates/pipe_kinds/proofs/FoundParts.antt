-- Parts of rows, one after the other.
use Rattle.std.proofs.Common.{◌≡◌, ◌<◌, ◌≤◌, Bool, true, false, ◌&&◌, ℕ, zero, suc, ◌+◌, List, [], ◌∷◌, ◌++◌, Result, Ok, Err, length, map, drop, get_or, refl, ap, subst, sym, ◌∙◌, append_assoc, append-nil}
use Rattle.std.specs.Result.{IsErrAnd}
use Rattle.std.proofs.lemmas.Bool.{and_from}
use Rattle.std.proofs.lemmas.List.{drop_more}
use Rattle.list_denotation.specs.declared.expr.Expr.{Expr}
use Rattle.list_denotation.specs.declared.kind.Kind.{Kind}
use Rattle.list_denotation.specs.Copies.{term_of, terms_of}
use Rattle.list_denotation.specs.Literals.{all_have_words, has_words}
use Rattle.list_denotation.specs.Terms.{Term}
use Rattle.pipe_tree.specs.declared.tree.TExpr.{TExpr}
use Rattle.pipe_tree.specs.TreeCopies.{formula_of}
use Rattle.pipe_tree.specs.Trees.{Formula}
use Rattle.pipe_tree.proofs.Offsets.{offset_is}
use Rattle.kind_rules.specs.declared.fault.TypeFault.{TypeFault}
use Rattle.kind_rules.specs.declared.fault.TypeFault.TheVariants as fault
use Rattle.kind_rules.specs.Checked.{Checked, after, IsOneUnlessRefused}
use Rattle.kind_rules.specs.Expressions.{Typed}
use Rattle.kind_rules.specs.Rows.{TypedRow, typed_row, alike_parts, parts_of}
use Rattle.kind_rules.specs.Signs.{is_kind}
use Rattle.kind_rules.proofs.Faults.{stops, fault_after}
use Rattle.pipe_kinds.specs.declared.typed.TypedExpr.{TypedExpr}
use Rattle.pipe_kinds.specs.Copies.{typed_of}
use Rattle.pipe_kinds.proofs.ListsInLoops.{left_at, none_left}

-- one row behind another
abbrev pub joined : TypedRow → TypedRow → TypedRow
joined r s = typed_row (r.kinds ++ s.kinds) (r.terms ++ s.terms)

-- the parts that were found, and then those left
abbrev pub found_and_left : (Formula → Checked Typed) → TypedRow → ℕ → List Formula → Checked TypedRow
found_and_left part found room es = after (parts_of part room es) (λ r. Ok (joined found r))

-- the parts that were found with one more
abbrev pub with_part : TypedRow → Typed → TypedRow
with_part r t = typed_row (r.kinds ++ t.kind ∷ []) (r.terms ++ t.term ∷ [])

join : (found : TypedRow) (t : Typed) (rest : Checked TypedRow)
    → after (after rest (λ r. Ok (typed_row (t.kind ∷ r.kinds) (t.term ∷ r.terms)))) (λ r. Ok (joined found r)) ≡ after rest (λ r. Ok (joined (with_part found t) r))
join found t (Ok r) = rw (append_assoc found.kinds (t.kind ∷ []) r.kinds, append_assoc found.terms (t.term ∷ []) r.terms) refl
join found t (Err e) = refl

step : (part : Formula → Checked Typed) (found : TypedRow) (room : ℕ) (e : Formula) (es : List Formula) (t : Typed) → part e ≡ Ok t
    → found_and_left part found (suc room) (e ∷ es) ≡ found_and_left part (with_part found t) room es
step part found room e es t h = rw h (join found t (parts_of part room es))

module _ (part : Formula → Checked Typed) (es : List TExpr) (found : TypedRow) where
  -- no part is left
  pub all_found : (i room : ℕ) → length es ≤ i → found_and_left part found room (map formula_of (drop i es)) ≡ Ok found
  all_found i room h = ap (found_and_left part found room) (none_left formula_of es i h) ∙ nothing room
    where
      nothing : (room : ℕ) → found_and_left part found room [] ≡ Ok found
      nothing zero = rw (append-nil found.kinds, append-nil found.terms) refl
      nothing (suc room) = rw (append-nil found.kinds, append-nil found.terms) refl

  module _ (i : ℕ) (e : TExpr) (here : i < length es) (is : e ≡ get_or es i e) where
    left : (room : ℕ) → found_and_left part found room (map formula_of (drop i es)) ≡ found_and_left part found room (formula_of e ∷ map formula_of (drop (i + 1) es))
    left room = ap (found_and_left part found room) (left_at formula_of es i e here is)

    -- there is no room for the next part
    pub no_room : found_and_left part found 0 (map formula_of (drop i es)) ≡ Err (fault.TooWide e.at)
    no_room = left 0 ∙ ap (λ at. Err (fault.TooWide at)) (offset_is e)

    -- the next part has a fault
    pub part_stops : {Y : Type 0} (whole : Y → TypedRow) (r : Result Y TypeFault) (d : TypeFault) (room : ℕ)
        → IsErrAnd r (λ x. x ≡ d) → IsOneUnlessRefused typed_of (Err d) (part (formula_of e))
        → IsOneUnlessRefused whole r (found_and_left part found (suc room) (map formula_of (drop i es)))
    part_stops whole r d room h k =
        subst (λ v. IsOneUnlessRefused whole r v) (sym (left (suc room)))
        (stops whole whole r d (parts_of part (suc room) (formula_of e ∷ map formula_of (drop (i + 1) es))) (λ r. Ok (joined found r)) h
        (fault_after typed_of whole d (part (formula_of e)) (λ t. after (parts_of part room (map formula_of (drop (i + 1) es))) (λ r. Ok (typed_row (t.kind ∷ r.kinds) (t.term ∷ r.terms)))) k))

    -- the next part is found
    pub part_found : (t : TypedExpr) (room : ℕ) → part (formula_of e) ≡ Ok (typed_of t)
        → found_and_left part found (suc room) (map formula_of (drop i es)) ≡ found_and_left part (with_part found (typed_of t)) room (map formula_of (drop (i + 1) es))
    part_found t room h = left (suc room) ∙ step part found room (formula_of e) (map formula_of (drop (i + 1) es)) (typed_of t) h

-- the next part is not of the kind at its place
pub unlike_at : (es : List TExpr) (js ks : List Kind) (whole : List Term) (i : ℕ) (e : TExpr) (d : Kind)
    → i < length es → i < length js → i < length ks → e ≡ get_or es i e → is_kind (get_or js i d) (get_or ks i d) ≡ false
    → alike_parts (map formula_of (drop i es)) (drop i js) (drop i ks) whole ≡ Err (fault.Mismatch e.at)
unlike_at es js ks whole i e d in_es in_js in_ks e_is h =
    rw (left_at formula_of es i e in_es e_is, drop_more js i d in_js, drop_more ks i d in_ks, h) (ap (λ at. Err (fault.Mismatch at)) (offset_is e))

-- the terms of expressions with one more
pub terms_pushed : (es : List Expr) (e : Expr) → terms_of (es ++ e ∷ []) ≡ terms_of es ++ term_of e ∷ []
terms_pushed [] e = refl
terms_pushed (x ∷ es) e = ap (λ ts. term_of x ∷ ts) (terms_pushed es e)

and_split : (a b : Bool) → (a && b) ≡ true → (a ≡ true) × (b ≡ true)
and_split true b h = (refl, h)
and_split false b h = absurd cc

-- and their numbers are words where all of them are
pub words_pushed : (es : List Expr) (e : Expr) → all_have_words (terms_of es) ≡ true → has_words (term_of e) ≡ true → all_have_words (terms_of (es ++ e ∷ [])) ≡ true
words_pushed [] e h k = rw k refl
words_pushed (x ∷ es) e h k = let p = and_split (has_words (term_of x)) (all_have_words (terms_of es)) h in and_from _ _ p.0 (words_pushed es e p.1 k)
