-- What comes of binding inputs and of placing them, by what was found of all of them.
use Rattle.std.proofs.Common.{◌≡◌, ◌⊎◌, inl, inr, ℕ, ◌+◌, ◌<◌, List, [], ◌∷◌, length, drop, get_or, Option, Some, None, Result, Ok, Err, String, string_bytes, refl, sym, ap, ◌∙◌}
use Rattle.std.proofs.lemmas.List.{length-map}
use Rattle.std.specs.Prelude.{slice_get}
use Rattle.std.specs.declared.alloc.Global.{Global}
use Rattle.strm_num.proofs.Lists.{drop_at}
use Rattle.strm_io.specs.Store.{Store}
use Rattle.command_words.specs.Commands.{texts_of}
use Rattle.list_denotation.specs.declared.input.Input.{Input}
use Rattle.list_denotation.specs.declared.input.InputKind.{InputKind}
use Rattle.pipe_tree.specs.declared.tree.Decl.{Decl}
use Rattle.status_lines.specs.declared.statuses.InputName.TheVariants.{Named, Position}
use Rattle.status_lines.specs.declared.statuses.Status.{Status}
use Rattle.status_lines.specs.declared.statuses.Status.TheVariants.{NoMemory}
use Rattle.job_steps.specs.Bindings.{Given, bound, placed, words_fault}
use Rattle.job_steps.specs.Inputs.{BindsInputs, PlacesInputs, TakesInputs}
use Rattle.job_steps.specs.Steps.{ComesOf, Is}
use Rattle.job_steps.proofs.TakenSteps.{first_gives}
use Rattle.job_inputs.specs.Faults.{absent_fault}
use Rattle.job_inputs.specs.Givens.{bound_givens, placed_givens, value_for}
use Rattle.job_inputs.specs.Names.{names_of}
use Rattle.job_inputs.proofs.Absences.{one_absent, all_bound}
use Rattle.job_inputs.proofs.Places.{left_at}
use Rattle.job_inputs.proofs.Positions.{as_many}

module _ (store : Option Store) (words : List (List ℕ)) (ds : List Decl) (kinds : List InputKind) (same : length ds ≡ length kinds) (right : words_fault (names_of ds) [] words ≡ None) where
  same_names : length (names_of ds) ≡ length kinds
  same_names = rw length-map same

  pub names_fail : (s : Status) → (s ≡ NoMemory) ⊎ (absent_fault words (names_of ds) ≡ Some s) → ComesOf (λ (is : List Input). is) (BindsInputs store words (names_of ds) kinds) (Err s)
  names_fail NoMemory h = tt
  names_fail s (inl refused) = absurd cc
  names_fail s (inr absent) =
      let b : bound words (names_of ds) kinds ≡ Err s = rw (right, one_absent words (names_of ds) kinds s same_names absent) refl in
      inl (sym b)

  pub names_pass : (end : Result (List Input) Status) → absent_fault words (names_of ds) ≡ None → ComesOf (λ (is : List Input). is) (TakesInputs store [] (bound_givens words (names_of ds) kinds)) end
      → ComesOf (λ (is : List Input). is) (BindsInputs store words (names_of ds) kinds) end
  names_pass end z h =
      let b : bound words (names_of ds) kinds ≡ Ok (bound_givens words (names_of ds) kinds) = rw (right, all_bound words (names_of ds) kinds same_names z) refl in
      first_gives (λ (gs : List Given). gs) (λ (is : List Input). is) (Is (bound words (names_of ds) kinds)) (TakesInputs store []) (bound_givens words (names_of ds) kinds) end (sym b) h

pub counts_pass : (store : Option Store) (values : List (String Global)) (kinds : List InputKind) (end : Result (List Input) Status) → length values ≡ length kinds
    → ComesOf (λ (is : List Input). is) (TakesInputs store [] (placed_givens 0 (texts_of values) kinds)) end → ComesOf (λ (is : List Input). is) (PlacesInputs store (texts_of values) kinds) end
counts_pass store values kinds end same h =
    first_gives (λ (gs : List Given). gs) (λ (is : List Input). is) (Is (placed 0 (texts_of values) kinds)) (TakesInputs store []) (placed_givens 0 (texts_of values) kinds) end (sym (as_many values kinds same)) h

-- ---- what is given at a place

pub bound_left : (words : List (List ℕ)) (ds : List Decl) (kinds : List InputKind) (i : ℕ) (d : Decl) (kind : InputKind) (name value : List ℕ) → i < length ds → d ≡ get_or ds i d → slice_get kinds i ≡ Some kind
    → name ≡ (get_or ds i d).name.text → value ≡ value_for name words
    → bound_givens words (names_of (drop i ds)) (drop i kinds) ≡ record { name = Named name; kind = kind; value = value } ∷ bound_givens words (names_of (drop (i + 1) ds)) (drop (i + 1) kinds)
bound_left words ds kinds i d kind name value h e k n v =
    let n' = n ∙ ap (λ (z : Decl). z.name.text) (sym e) in rw (v, n', left_at ds i d h e, drop_at kinds i kind k) refl

pub placed_left : (values : List (String Global)) (kinds : List InputKind) (i : ℕ) (given : String Global) (kind : InputKind) (value : List ℕ) → i < length values → given ≡ get_or values i given → slice_get kinds i ≡ Some kind
    → value ≡ string_bytes given
    → placed_givens i (texts_of (drop i values)) (drop i kinds) ≡ record { name = Position i; kind = kind; value = value } ∷ placed_givens (i + 1) (texts_of (drop (i + 1) values)) (drop (i + 1) kinds)
placed_left values kinds i given kind value h e k v = rw (v, left_at values i given h e, drop_at kinds i kind k) refl
