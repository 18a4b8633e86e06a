-- Steps of the loops that make the rows of a stage.
use Rattle.std.proofs.Common.{◌≡◌, ℕ, zero, suc, ◌+◌, ◌<◌, ◌≤◌, List, [], ◌∷◌, ◌++◌, length, drop, get_or, Option, Some, None, refl, sym, ap, ◌∙◌, arith, append_assoc, append-nil, length-append}
use Rattle.std.proofs.lemmas.List.{drop_all}
use Rattle.std.proofs.lemmas.Option.{slice_get-get_or}
use Rattle.std.specs.Prelude.{slice_get, IfNone, IfSome}
use Rattle.strm_num.proofs.Lists.{drop_at}
use Rattle.list_denotation.specs.Rows.{Rows, Ends, Row, End, Broken, map_rows, filter_rows, take_rows, drop_rows, take_while_rows, scan_rows, zip_rows}
use Rattle.list_denotation.specs.Values.{Fault, Got, Is, Fails}
use Rattle.list_model.specs.declared.rows.Ending.{Ending}
use Rattle.list_model.specs.declared.rows.Ending.TheVariants as code
use Rattle.list_model.specs.Listed.{ending_of, onto, listed}
use Rattle.list_model.proofs.RowLists.{onto_push}

module _ (out rows : List (List ℕ)) (e : Ending) (i : ℕ) where
  module _ (f : List ℕ → Got (List ℕ)) where
    pub map_step : (r s : List ℕ) → slice_get rows i ≡ Some r → f r ≡ Is s → onto (out ++ s ∷ []) (map_rows f (listed (drop (i + 1) rows) e)) ≡ onto out (map_rows f (listed (drop i rows) e))
    map_step r s h q = rw (onto_push, drop_at rows i r h, q) refl

    pub map_fault : (r : List ℕ) (t : Fault) → slice_get rows i ≡ Some r → f r ≡ Fails t → onto out (Ends (Broken t)) ≡ onto out (map_rows f (listed (drop i rows) e))
    map_fault r t h q = rw (drop_at rows i r h, q) refl

  module _ (f : List ℕ → Got ℕ) where
    pub filter_keeps : (r : List ℕ) (b : ℕ) → slice_get rows i ≡ Some r → f r ≡ Is b → (b ≡ 0 → ⊥) → onto (out ++ r ∷ []) (filter_rows f (listed (drop (i + 1) rows) e)) ≡ onto out (filter_rows f (listed (drop i rows) e))
    filter_keeps r zero h q ne = absurd (ne refl)
    filter_keeps r (suc b) h q ne = rw (onto_push, drop_at rows i r h, q) refl

    pub filter_skips : (r : List ℕ) (b : ℕ) → slice_get rows i ≡ Some r → f r ≡ Is b → b ≡ 0 → onto out (filter_rows f (listed (drop (i + 1) rows) e)) ≡ onto out (filter_rows f (listed (drop i rows) e))
    filter_skips r b h q z = rw (drop_at rows i r h, q, z) refl

    pub filter_fault : (r : List ℕ) (t : Fault) → slice_get rows i ≡ Some r → f r ≡ Fails t → onto out (Ends (Broken t)) ≡ onto out (filter_rows f (listed (drop i rows) e))
    filter_fault r t h q = rw (drop_at rows i r h, q) refl

    pub take_while_keeps : (r : List ℕ) (b : ℕ) → slice_get rows i ≡ Some r → f r ≡ Is b → (b ≡ 0 → ⊥) → onto (out ++ r ∷ []) (take_while_rows f (listed (drop (i + 1) rows) e)) ≡ onto out (take_while_rows f (listed (drop i rows) e))
    take_while_keeps r zero h q ne = absurd (ne refl)
    take_while_keeps r (suc b) h q ne = rw (onto_push, drop_at rows i r h, q) refl

    pub take_while_ends : (r : List ℕ) (b : ℕ) → slice_get rows i ≡ Some r → f r ≡ Is b → b ≡ 0 → onto out (Ends End) ≡ onto out (take_while_rows f (listed (drop i rows) e))
    take_while_ends r b h q z = rw (drop_at rows i r h, q, z) refl

    pub take_while_fault : (r : List ℕ) (t : Fault) → slice_get rows i ≡ Some r → f r ≡ Fails t → onto out (Ends (Broken t)) ≡ onto out (take_while_rows f (listed (drop i rows) e))
    take_while_fault r t h q = rw (drop_at rows i r h, q) refl

  module _ (f : List ℕ → List ℕ → Got (List ℕ)) (state : List ℕ) where
    pub scan_step : (r s t : List ℕ) → slice_get rows i ≡ Some r → f state r ≡ Is s → t ≡ s → onto (out ++ t ∷ []) (scan_rows f s (listed (drop (i + 1) rows) e)) ≡ onto out (scan_rows f state (listed (drop i rows) e))
    scan_step r s t h q z = rw (onto_push, drop_at rows i r h, q, z) refl

    pub scan_fault : (r : List ℕ) (t : Fault) → slice_get rows i ≡ Some r → f state r ≡ Fails t → onto out (Ends (Broken t)) ≡ onto out (scan_rows f state (listed (drop i rows) e))
    scan_fault r t h q = rw (drop_at rows i r h, q) refl

-- ---- take and drop

pub take_few : (k : ℕ) (rows : List (List ℕ)) (e : Ending) → length rows < k → take_rows k (listed rows e) ≡ listed rows e
take_few zero rows e h = absurd (omega arith)
take_few (suc k) [] e h = refl
take_few (suc k) (r ∷ rows) e h = ap (Row r) (take_few k rows e (omega arith))

take_before : (k : ℕ) (rows : List (List ℕ)) (r : List ℕ) (e : Ending) → k ≤ length rows → take_rows k (listed (rows ++ r ∷ []) e) ≡ take_rows k (listed rows e)
take_before zero rows r e h = refl
take_before (suc k) [] r e h = absurd (omega arith)
take_before (suc k) (s ∷ rows) r e h = ap (Row s) (take_before k rows r e (omega arith))

pub take_popped : (popped : Option (List ℕ)) (k : ℕ) (old new : List (List ℕ)) (e : Ending) (rows : Rows) → IfNone popped ((old ≡ []) × (new ≡ [])) → IfSome popped (λ r. old ≡ new ++ r ∷ []) → k < length old → take_rows k (listed old e) ≡ rows → (k ≤ length new) × (take_rows k (listed new e) ≡ rows)
take_popped None k old new e rows none last more same = let h = ap length none.0 in absurd (omega arith)
take_popped (Some r) k old new e rows none last more same =
    let h : k ≤ length new = omega (arith, ap length last, length-append new (r ∷ [])) in
    (h, sym (take_before k new r e h) ∙ (ap (λ z. take_rows k (listed z e)) (sym last) ∙ same))

pub take_all : (k : ℕ) (rows : List (List ℕ)) (e : Ending) → length rows ≡ k → take_rows k (listed rows e) ≡ listed rows code.End
take_all zero [] e h = refl
take_all zero (r ∷ rows) e h = absurd (omega arith)
take_all (suc k) [] e h = absurd (omega arith)
take_all (suc k) (r ∷ rows) e h = ap (Row r) (take_all k rows e (omega arith))

drop_listed : (k : ℕ) (rows : List (List ℕ)) (e : Ending) → drop_rows k (listed rows e) ≡ listed (drop k rows) e
drop_listed zero rows e = refl
drop_listed (suc k) [] e = refl
drop_listed (suc k) (r ∷ rows) e = drop_listed k rows e

pub drop_step : (out rows : List (List ℕ)) (i : ℕ) (r : List ℕ) → slice_get rows i ≡ Some r → (out ++ r ∷ []) ++ drop (i + 1) rows ≡ out ++ drop i rows
drop_step out rows i r h = rw (drop_at rows i r h) (append_assoc out (r ∷ []) (drop (i + 1) rows))

pub drop_end : (out rows : List (List ℕ)) (e : Ending) (i k : ℕ) → length rows ≤ i → out ++ drop i rows ≡ drop k rows → listed out e ≡ drop_rows k (listed rows e)
drop_end out rows e i k h q = ap (λ z. listed z e) (sym (ap (λ z. out ++ z) (drop_all i rows h) ∙ append-nil out) ∙ q) ∙ sym (drop_listed k rows e)

-- ---- zip

pub zip_step : (out left right : List (List ℕ)) (e f : Ending) (i : ℕ) (r s : List ℕ) → slice_get left i ≡ Some r → slice_get right i ≡ Some s → onto (out ++ (r ++ s) ∷ []) (zip_rows (listed (drop (i + 1) left) e) (listed (drop (i + 1) right) f)) ≡ onto out (zip_rows (listed (drop i left) e) (listed (drop i right) f))
zip_step out left right e f i r s h q = rw (onto_push, drop_at left i r h, drop_at right i s q) refl

pub zip_right_end : (out left right : List (List ℕ)) (e f : Ending) (i : ℕ) → i < length left → length right ≤ i → onto out (zip_rows (listed (drop i left) e) (listed (drop i right) f)) ≡ onto out (Ends (ending_of f))
zip_right_end out left right e f i h q = rw (drop_all i right q, drop_at left i (get_or left i []) (slice_get-get_or left i [] h)) refl

pub ruleset map_steps = (map_step, map_fault)

pub ruleset filter_steps = (filter_keeps, filter_skips, filter_fault)

pub ruleset take_steps = (take_few, take_all)

pub ruleset drop_steps = (drop_step, drop_end)

pub ruleset take_while_steps = (take_while_keeps, take_while_ends, take_while_fault)

pub ruleset scan_steps = (scan_step, scan_fault)

pub ruleset zip_steps = (zip_step, zip_right_end)
