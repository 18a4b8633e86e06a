-- How far lists of rows are is an order, and that one that is cut short is as far as the other.
use Rattle.std.proofs.Common.{◌≡◌, ◌⊎◌, inl, inr, ℕ, List, [], ◌∷◌, refl, sym, ap, subst}
use Rattle.list_denotation.specs.Rows.{Cut, Rows, Ends, Row}
use Rattle.denotation_laws.specs.FarRows.{FarRows, CutOff, SameEnd, SameRow, rows_before, IsCutShort}

pub far_itself : (o : Rows) → FarRows o o
far_itself (Ends e) = SameEnd e
far_itself (Row r o) = SameRow r (far_itself o)

pub far_rows_trans : {o u w : Rows} → FarRows o u → FarRows u w → FarRows o w
far_rows_trans (CutOff u) k = CutOff _
far_rows_trans (SameEnd e) k = k
far_rows_trans (SameRow r h) (SameRow s k) = SameRow r (far_rows_trans h k)

cut_same : {u : Rows} → FarRows u (Ends Cut) → u ≡ Ends Cut
cut_same (CutOff v) = refl
cut_same (SameEnd e) = refl

rest_far : {r s : List ℕ} {o u : Rows} → FarRows (Row r o) (Row s u) → FarRows o u
rest_far (SameRow r h) = h

pub far_rows_same : {o u : Rows} → FarRows o u → FarRows u o → o ≡ u
far_rows_same (CutOff u) k = sym (cut_same k)
far_rows_same (SameEnd e) k = refl
far_rows_same (SameRow r h) k = ap (Row r) (far_rows_same h (rest_far k))

-- ---- cut short

row_cut_short : (r : List ℕ) (o u : Rows) → (o ≡ u) ⊎ IsCutShort o u → (Row r o ≡ Row r u) ⊎ IsCutShort (Row r o) (Row r u)
row_cut_short r o u (inl e) = inl (ap (Row r) e)
row_cut_short r o u (inr c) = inr (record { rows = r ∷ c.rows; rest = c.rest; cut = ap (Row r) c.cut; prefix = ap (Row r) c.prefix })

pub far_cut_short : {o u : Rows} → FarRows o u → (o ≡ u) ⊎ IsCutShort o u
far_cut_short (CutOff u) = inr (record { rows = []; rest = u; cut = refl; prefix = refl })
far_cut_short (SameEnd e) = inl refl
far_cut_short (SameRow r {o} {u} h) = row_cut_short r o u (far_cut_short h)

cut_before : (rs : List (List ℕ)) (rest : Rows) → FarRows (rows_before rs (Ends Cut)) (rows_before rs rest)
cut_before [] rest = CutOff rest
cut_before (r ∷ rs) rest = SameRow r (cut_before rs rest)

pub cut_short_far : (o u : Rows) → (o ≡ u) ⊎ IsCutShort o u → FarRows o u
cut_short_far o u (inl e) = subst (λ v. FarRows o v) e (far_itself o)
cut_short_far o u (inr c) =
    subst (λ v. FarRows v u) (sym c.cut)
    (subst (λ v. FarRows (rows_before c.rows (Ends Cut)) v) (sym c.prefix) (cut_before c.rows c.rest))
