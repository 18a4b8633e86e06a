-- What is seen where a terminal takes rows one by one is what the terminal gives.
use Rattle.std.proofs.Common.{◌≡◌, ℕ, List, [], ◌∷◌, ◌++◌, refl, sym, ap, ◌∙◌}
use Rattle.std.specs.Prelude.{IsTrue}
use Rattle.strm_num.proofs.Truths.{both_true}
use Rattle.list_denotation.specs.declared.event.Event.{Event}
use Rattle.list_denotation.specs.declared.event.Event.TheVariants as event
use Rattle.list_denotation.specs.declared.input.Input.{Input}
use Rattle.list_denotation.specs.Observation.{Seen, row_events, print_rows, unless_failed, fold_rows, finish_rows}
use Rattle.list_denotation.specs.Rows.{Rows, End, Cut, Broken, Ends, Row}
use Rattle.list_denotation.specs.Terms.{Term, Finish, Fold, Print}
use Rattle.list_denotation.specs.Typing.{is_undivided, all_undivided}
use Rattle.list_denotation.specs.Values.{Got, Is, Fails, with_value, value, row_value}
use Rattle.stateful_core.specs.WordValues.{or_zero, word_values}
use Rattle.turn_blocks.specs.Consumers.{print_taker, fold_taker, fed_by}
use Rattle.loop_emit.specs.Laws.{Laws}
use Rattle.loop_emit.specs.SeenRows.{fed_seen, seen_rows, finish_taker, first_held}

events_more : (row : List ℕ) (rest : List Event) → row_events row [] ++ rest ≡ row_events row rest
events_more [] rest = refl
events_more (x ∷ row) rest = ap (λ e. event.Emit x ∷ e) (events_more row rest)

printed : (held : List ℕ) (rows : Rows) → seen_rows print_taker held rows ≡ print_rows rows
printed held (Ends End) = refl
printed held (Ends Cut) = refl
printed held (Ends (Broken f)) = refl
printed held (Row r rest) =
    ap (λ (s : Seen). record { events = row_events r [] ++ s.events; standing = s.standing }) (printed held rest)
    ∙ ap (λ e. record { events = e; standing = (print_rows rest).standing }) (events_more r (print_rows rest).events)

module _ (inputs : List Input) (vars : List ℕ) (next : List Term) where
  folded : (held : List ℕ) (rows : Rows) → seen_rows (fold_taker vars next inputs) held rows ≡ fold_rows (λ state r. row_value next (state ++ r) inputs) held rows
  folded held (Ends End) = refl
  folded held (Ends Cut) = refl
  folded held (Ends (Broken f)) = refl
  folded held (Row r rest) = by_state (row_value next (held ++ r) inputs) (λ s. folded s rest)
    where
      by_state : (g : Got (List ℕ)) → ((s : List ℕ) → seen_rows (fold_taker vars next inputs) s rest ≡ fold_rows (λ state r. row_value next (state ++ r) inputs) s rest) → fed_seen (fed_by g) (λ s. seen_rows (fold_taker vars next inputs) s rest) ≡ unless_failed g (λ s. fold_rows (λ state r. row_value next (state ++ r) inputs) s rest)
      by_state (Is s) again = again s
      by_state (Fails f) again = refl

-- no division stands in the first words that the terminal holds
abbrev pub OpensUndivided : Finish → Type 0
OpensUndivided (Fold seed next) = IsTrue (all_undivided seed)
OpensUndivided Print = Unit {0}

module _ (laws : Laws) (inputs : List Input) where
  -- expressions without division have the words that are computed
  pub row_of_words : (es : List Term) (env : List ℕ) → IsTrue (all_undivided es) → row_value es env inputs ≡ Is (word_values es env inputs)
  row_of_words [] env undivided = refl
  row_of_words (e ∷ es) env undivided =
      let parts = both_true (is_undivided e) (all_undivided es) undivided in
      first_value (value e env inputs) (row_value es env inputs) (word_values es env inputs) (laws.undivided_value env inputs e parts.0) (row_of_words es env parts.1)
    where
      first_value : (g : Got ℕ) (rest : Got (List ℕ)) (row : List ℕ) → ((w : ℕ) × (g ≡ Is w)) → rest ≡ Is row → with_value g (λ x. with_value rest (λ xs. Is (x ∷ xs))) ≡ Is (or_zero g ∷ row)
      first_value (Is w) rest row is h = ap (λ r. with_value r (λ xs. Is (w ∷ xs))) h
      first_value (Fails f) rest row is h = absurd cc

  pub finished : (t : Finish) (vars : List ℕ) (rows : Rows) → OpensUndivided t → seen_rows (finish_taker t vars inputs) (first_held t inputs) rows ≡ finish_rows t inputs rows
  finished (Fold seed next) vars rows undivided =
      folded inputs vars next (word_values seed [] inputs) rows
      ∙ ap (λ g. unless_failed g (λ s. fold_rows (λ state r. row_value next (state ++ r) inputs) s rows)) (sym (row_of_words seed [] undivided))
  finished Print vars rows undivided = printed [] rows
