-- What is made of two lists of rows keeps how far they are.
use Rattle.std.proofs.Common.{◌≡◌, inl, inr, ℕ, zero, suc, List, [], ◌∷◌, ◌++◌, refl, ap, ◌∙◌}
use Rattle.list_denotation.specs.declared.event.Event.{Event}
use Rattle.list_denotation.specs.declared.event.Event.TheVariants.{Emit}
use Rattle.list_denotation.specs.declared.input.Input.{Input}
use Rattle.list_denotation.specs.Terms.{Finish, Fold, Print}
use Rattle.list_denotation.specs.Values.{Got, Is, Fails, choice, row_value}
use Rattle.list_denotation.specs.Rows.{End, Cut, Broken, Rows, unless_broken, map_rows, filter_rows, take_rows, drop_rows, take_while_rows, scan_rows, followed_by, join_rows, zip_rows}
use Rattle.list_denotation.specs.Observation.{Seen, row_events, print_rows, unless_failed, fold_rows, finish_rows}
use Rattle.list_denotation.specs.Far.{Far}
use Rattle.denotation_laws.specs.RowWords.{IsRowOf}
use Rattle.denotation_laws.specs.FarRows.{FarRows, CutOff, SameEnd, SameRow}

-- ---- values

pub unless_far : {A : Type 0} (x : Got A) (f g : A → Rows) → ((a : A) → FarRows (f a) (g a)) → FarRows (unless_broken x f) (unless_broken x g)
unless_far (Is a) f g h = h a
unless_far (Fails e) f g h = SameEnd (Broken e)

pub choice_far : (w : ℕ) (a b c d : Rows) → FarRows a c → FarRows b d → FarRows (choice w a b) (choice w c d)
choice_far zero a b c d h k = h
choice_far (suc w) a b c d h k = k

-- ---- stages

pub map_far : (f : List ℕ → Got (List ℕ)) {o u : Rows} → FarRows o u → FarRows (map_rows f o) (map_rows f u)
map_far f (CutOff u) = CutOff _
map_far f (SameEnd e) = SameEnd e
map_far f (SameRow r h) = unless_far (f r) _ _ (λ s. SameRow s (map_far f h))

pub filter_far : (f : List ℕ → Got ℕ) {o u : Rows} → FarRows o u → FarRows (filter_rows f o) (filter_rows f u)
filter_far f (CutOff u) = CutOff _
filter_far f (SameEnd e) = SameEnd e
filter_far f (SameRow r h) =
    let rest = filter_far f h in unless_far (f r) _ _ (λ b. choice_far b _ _ _ _ rest (SameRow r rest))

pub take_far : (k : ℕ) {o u : Rows} → FarRows o u → FarRows (take_rows k o) (take_rows k u)
take_far zero h = SameEnd End
take_far (suc k) (CutOff u) = CutOff _
take_far (suc k) (SameEnd e) = SameEnd e
take_far (suc k) (SameRow r h) = SameRow r (take_far k h)

pub drop_far : (k : ℕ) {o u : Rows} → FarRows o u → FarRows (drop_rows k o) (drop_rows k u)
drop_far zero h = h
drop_far (suc k) (CutOff u) = CutOff _
drop_far (suc k) (SameEnd e) = SameEnd e
drop_far (suc k) (SameRow r h) = drop_far k h

pub take_while_far : (f : List ℕ → Got ℕ) {o u : Rows} → FarRows o u → FarRows (take_while_rows f o) (take_while_rows f u)
take_while_far f (CutOff u) = CutOff _
take_while_far f (SameEnd e) = SameEnd e
take_while_far f (SameRow r h) = unless_far (f r) _ _ (λ b. choice_far b _ _ _ _ (SameEnd End) (SameRow r (take_while_far f h)))

pub scan_far : (f : List ℕ → List ℕ → Got (List ℕ)) (state : List ℕ) {o u : Rows} → FarRows o u → FarRows (scan_rows f state o) (scan_rows f state u)
scan_far f state (CutOff u) = CutOff _
scan_far f state (SameEnd e) = SameEnd e
scan_far f state (SameRow r h) = unless_far (f state r) _ _ (λ s. SameRow s (scan_far f s h))

-- ---- streams of streams

pub followed_far : {a b : Rows} (c d : Rows) → FarRows a b → FarRows c d → FarRows (followed_by a c) (followed_by b d)
followed_far c d (CutOff u) k = CutOff _
followed_far c d (SameEnd End) k = k
followed_far c d (SameEnd Cut) k = SameEnd Cut
followed_far c d (SameEnd (Broken e)) k = SameEnd (Broken e)
followed_far c d (SameRow r h) k = SameRow r (followed_far c d h k)

pub join_far : (f g : List ℕ → Rows) {o u : Rows} → FarRows o u → ((r : List ℕ) → IsRowOf r o → FarRows (f r) (g r)) → FarRows (join_rows o f) (join_rows u g)
join_far f g (CutOff u) inner = CutOff _
join_far f g (SameEnd e) inner = SameEnd e
join_far f g (SameRow r h) inner = followed_far _ _ (inner r (inl refl)) (join_far f g h (λ s among. inner s (inr among)))

pub zip_far : {a b c d : Rows} → FarRows a b → FarRows c d → FarRows (zip_rows a c) (zip_rows b d)
zip_far (CutOff u) k = CutOff _
zip_far (SameEnd e) k = SameEnd e
zip_far (SameRow r h) (CutOff u) = CutOff _
zip_far (SameRow r h) (SameEnd e) = SameEnd e
zip_far (SameRow r h) (SameRow s k) = SameRow (r ++ s) (zip_far h k)

-- ---- what is seen

events_append : (r : List ℕ) (a b : List Event) → row_events r (a ++ b) ≡ row_events r a ++ b
events_append [] a b = refl
events_append (x ∷ r) a b = ap (λ es. Emit x ∷ es) (events_append r a b)

-- a row printed before what is seen
abbrev row_before : List ℕ → Seen → Seen
row_before r o = record { events = row_events r o.events; standing = o.standing }

far_behind : (r : List ℕ) (o u : Seen) → Far o u → Far (row_before r o) (row_before r u)
far_behind r o u (inl e) = inl (ap (row_before r) e)
far_behind r o u (inr h) = inr (record {
  going = h.going;
  rest = h.rest;
  prefix = ap (row_events r) h.prefix ∙ events_append r o.events h.rest;
})

print_far : {o u : Rows} → FarRows o u → Far (print_rows o) (print_rows u)
print_far (CutOff u) = inr (record { going = refl; rest = (print_rows u).events; prefix = refl })
print_far (SameEnd e) = inl refl
print_far (SameRow r {o} {u} h) = far_behind r (print_rows o) (print_rows u) (print_far h)

unless_seen_far : (x : Got (List ℕ)) (f g : List ℕ → Seen) → ((s : List ℕ) → Far (f s) (g s)) → Far (unless_failed x f) (unless_failed x g)
unless_seen_far (Is s) f g h = h s
unless_seen_far (Fails e) f g h = inl refl

fold_far : (f : List ℕ → List ℕ → Got (List ℕ)) (state : List ℕ) {o u : Rows} → FarRows o u → Far (fold_rows f state o) (fold_rows f state u)
fold_far f state (CutOff u) = inr (record { going = refl; rest = (fold_rows f state u).events; prefix = refl })
fold_far f state (SameEnd e) = inl refl
fold_far f state (SameRow r h) = unless_seen_far (f state r) _ _ (λ s. fold_far f s h)

pub finish_far : (t : Finish) (inputs : List Input) {o u : Rows} → FarRows o u → Far (finish_rows t inputs o) (finish_rows t inputs u)
finish_far (Fold seed next) inputs h =
    unless_seen_far (row_value seed [] inputs) _ _ (λ s. fold_far (λ state r. row_value next (state ++ r) inputs) s h)
finish_far Print inputs h = print_far h
