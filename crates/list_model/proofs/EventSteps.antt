-- Steps of the loops that give events.
use Rattle.std.proofs.Common.{◌≡◌, ℕ, ◌+◌, ◌≤◌, List, [], ◌∷◌, ◌++◌, length, drop, Some, refl, sym, ap, ◌∙◌, append_assoc, append-nil}
use Rattle.std.proofs.lemmas.List.{drop_all}
use Rattle.std.specs.Prelude.{slice_get}
use Rattle.strm_num.proofs.Lists.{drop_at}
use Rattle.list_denotation.specs.declared.event.Event.{Event}
use Rattle.list_denotation.specs.declared.event.Event.TheVariants.{Emit, EndRow}
use Rattle.list_denotation.specs.Observation.{Standing, Seen, Failed, standing_of, row_events, print_rows, fold_rows, state_at}
use Rattle.list_denotation.specs.Values.{Fault, Got, Is, Fails}
use Rattle.list_model.specs.declared.rows.Ending.{Ending}
use Rattle.list_model.specs.declared.rows.Ending.TheVariants as code
use Rattle.list_model.specs.Listed.{ending_of, listed}

pub row_step : (out : List Event) (row : List ℕ) (i x : ℕ) → slice_get row i ≡ Some x → (out ++ Emit x ∷ []) ++ row_events (drop (i + 1) row) [] ≡ out ++ row_events (drop i row) []
row_step out row i x h = rw (drop_at row i x h) (append_assoc out (Emit x ∷ []) (row_events (drop (i + 1) row) []))

pub row_end : (out : List Event) (row : List ℕ) (i : ℕ) → length row ≤ i → out ++ row_events (drop i row) [] ≡ out ++ EndRow ∷ []
row_end out row i h = rw (drop_all i row h) refl

events_split : (row : List ℕ) (events : List Event) → row_events row events ≡ row_events row [] ++ events
events_split [] events = refl
events_split (x ∷ row) events = ap (λ z. Emit x ∷ z) (events_split row events)

-- these events, and then what is seen
abbrev pub seen_after : List Event → Seen → Seen
seen_after events u = record { events = events ++ u.events; standing = u.standing }

pub print_step : (out : List Event) (rows : List (List ℕ)) (e : Ending) (i : ℕ) (r : List ℕ) → slice_get rows i ≡ Some r → seen_after (out ++ row_events r []) (print_rows (listed (drop (i + 1) rows) e)) ≡ seen_after out (print_rows (listed (drop i rows) e))
print_step out rows e i r h =
    let rest = print_rows (listed (drop (i + 1) rows) e) in
    rw (drop_at rows i r h)
    (ap (λ (z : List Event). record { events = z; standing = rest.standing })
    (append_assoc out (row_events r []) rest.events ∙ ap (λ z. out ++ z) (sym (events_split r rest.events))))

pub print_end : (out : List Event) (rows : List (List ℕ)) (e : Ending) (i : ℕ) (s : Standing) → length rows ≤ i → s ≡ standing_of (ending_of e) → seen_after out (print_rows (listed (drop i rows) e)) ≡ record { events = out; standing = s }
print_end out rows e i s h q = rw (drop_all i rows h, q) (ap (λ (z : List Event). record { events = z; standing = standing_of (ending_of e) }) (append-nil out))

module _ (f : List ℕ → List ℕ → Got (List ℕ)) (rows : List (List ℕ)) (e : Ending) (i : ℕ) (state : List ℕ) where
  pub fold_step : (r s : List ℕ) → slice_get rows i ≡ Some r → f state r ≡ Is s → fold_rows f s (listed (drop (i + 1) rows) e) ≡ fold_rows f state (listed (drop i rows) e)
  fold_step r s h q = rw (drop_at rows i r h, q) refl

  pub fold_fault : (r : List ℕ) (t : Fault) → slice_get rows i ≡ Some r → f state r ≡ Fails t → fold_rows f state (listed (drop i rows) e) ≡ record { events = []; standing = Failed t }
  fold_fault r t h q = rw (drop_at rows i r h, q) refl

  pub fold_end : (s : Standing) → length rows ≤ i → e ≡ code.End → s ≡ standing_of (ending_of e) → fold_rows f state (listed (drop i rows) e) ≡ record { events = row_events state []; standing = s }
  fold_end s h z q = rw (drop_all i rows h, q, z) refl

fold_short : (e : Ending) (state : List ℕ) → (e ≡ code.End → ⊥) → state_at (ending_of e) state ≡ record { events = []; standing = standing_of (ending_of e) }
fold_short code.End state ne = absurd (ne refl)
fold_short code.Cut state ne = refl
fold_short code.Trap state ne = refl

pub fold_other : (f : List ℕ → List ℕ → Got (List ℕ)) (rows : List (List ℕ)) (e : Ending) (i : ℕ) (state : List ℕ) (s : Standing) → length rows ≤ i → (e ≡ code.End → ⊥) → s ≡ standing_of (ending_of e) → fold_rows f state (listed (drop i rows) e) ≡ record { events = []; standing = s }
fold_other f rows e i state s h ne q = rw (drop_all i rows h, q) (fold_short e state ne)

pub ruleset row_steps = (row_step, row_end)

pub ruleset print_steps = (print_step, print_end)

pub ruleset fold_steps = (fold_step, fold_fault, fold_end, fold_other)
