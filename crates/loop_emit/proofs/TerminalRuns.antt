-- What a terminal does, which holds words in variables from one on: its openings, a row, and its end.
use Rattle.std.proofs.Common.{◌≡◌, ℕ, ◌+◌, ◌<◌, ◌≤◌, ◌^◌, List, [], ◌∷◌, length, refl, sym, ap, ◌∙◌, subst, arith}
use Rattle.std.specs.Prelude.{IsTrue, slice_index}
use Rattle.std.specs.List.{range_with_len}
use Rattle.std.proofs.lemmas.List.FromFn.{length-range_with_len}
use Rattle.strm_num.specs.Words.{IsWord}
use Rattle.list_denotation.specs.declared.event.Event.TheVariants as event
use Rattle.list_denotation.specs.declared.input.Input.{Input}
use Rattle.list_denotation.specs.InputNames.{InputNames}
use Rattle.list_denotation.specs.Observation.{row_events}
use Rattle.list_denotation.specs.Scopes.{all_bound}
use Rattle.list_denotation.specs.Terms.{Term, Finish, Fold, Print}
use Rattle.denotation_laws.specs.StreamScopes.{FinishReadsScope}
use Rattle.loop_ir.specs.Meaning.{Runs, after, run}
use Rattle.turn_blocks.specs.Consumers.{print_block, IsFold}
use Rattle.turn_blocks.specs.TurnContract.{consumer_of, words_at, IsIn, HasWordInputs, IsTailOf, IsStopOf}
use Rattle.loop_emit.specs.Emission.{finish_temps, held_count, finish_tail, finish_stop, finish_ending, finish_openings}
use Rattle.loop_emit.specs.Laws.{Laws}
use Rattle.loop_emit.specs.SeenRows.{finish_taker, first_held}
use Rattle.loop_emit.proofs.OpenedWords.{AreOpen, Opens, opened}
use Rattle.loop_emit.proofs.SeenRows.{OpensUndivided}
use Rattle.loop_emit.proofs.Variables.{all_none, distinct_range}

row_printed : (inputs : List Input) (vars env : List ℕ) (left : ℕ) → run inputs (print_block vars) env left ≡ Runs (row_events (words_at env vars) []) env left
row_printed inputs [] env left = refl
row_printed inputs (v ∷ vs) env left = ap (after (event.Emit (slice_index env v) ∷ [])) (row_printed inputs vs env left)

-- it reads its scope, and so many temporaries are enough
pub record IsTerminal (may : InputNames) (temps width : ℕ) (t : Finish) : Type 0 where
  pub reads : FinishReadsScope may width t
  pub few : finish_temps t ≤ temps

pub no_inputs : HasWordInputs []
no_inputs = record { ints = λ k. omega arith; items = λ k. all_none IsWord; lengths = λ k. omega arith }

-- the variables from one on that it holds its words in
abbrev pub held_from : Finish → ℕ → List ℕ
held_from t a = range_with_len a (held_count t)

pub consumer_vars : (t : Finish) (a : ℕ) (inputs : List Input) → (finish_taker t (held_from t a) inputs).vars ≡ held_from t a
consumer_vars (Fold seed next) a inputs = refl
consumer_vars Print a inputs = refl

pub tail_width : (t : Finish) (vars : List ℕ) (width : ℕ) → (finish_tail t vars width).width ≡ width
tail_width (Fold seed next) vars width = refl
tail_width Print vars width = refl

module _ (laws : Laws) (may : InputNames) (temps width : ℕ) where
  pub seed_open : (seed next : List Term) → IsTerminal may temps width (Fold seed next) → AreOpen temps seed
  seed_open seed next is =
      let few = is.few in
      let reads = is.reads.seed_reads in
      record { bound = reads.reads.bound; undivided = reads.undivided; numbers = reads.reads.words; few = omega (arith, few) }

  pub is_fold : (seed next : List Term) (a : ℕ) → IsTerminal may temps width (Fold seed next) → IsFold (range_with_len a (length seed)) width temps next
  is_fold seed next a is =
      let few = is.few in
      let held = length-range_with_len a (length seed) in
      let scope : 0 + length seed + width ≡ length (range_with_len a (length seed)) + width = omega (arith, held) in
      record {
        distinct = distinct_range a (length seed);
        same_width = is.reads.same_width ∙ sym held;
        bound = subst (λ n. IsTrue (all_bound n next)) scope is.reads.next_reads.bound;
        are_words = is.reads.next_reads.words;
        few = omega (arith, few);
      }

  pub opens_undivided : (t : Finish) → IsTerminal may temps width t → OpensUndivided t
  opens_undivided (Fold seed next) is = is.reads.seed_reads.undivided
  opens_undivided Print is = tt

  pub is_tail : (t : Finish) (a : ℕ) (inputs : List Input) (held : List ℕ) (left : ℕ) → HasWordInputs inputs → IsTerminal may temps width t → IsTailOf inputs 0 temps [] [] (consumer_of (finish_taker t (held_from t a) inputs) held left) (finish_tail t (held_from t a) width)
  is_tail (Fold seed next) a inputs held left has is = laws.folds inputs 0 temps width left [] [] (range_with_len a (length seed)) held next has (is_fold seed next a is)
  is_tail Print a inputs held left has is = laws.prints inputs 0 temps width left [] [] held

  pub tail_grows : (t : Finish) (a : ℕ) → IsTerminal may temps width t → (row : List ℕ) (n : ℕ) → n ≤ ((finish_tail t (held_from t a) width).piece row n).next
  tail_grows t a is row n = (is_tail t a [] [] 0 no_inputs is).grows n row

  module _ (inputs : List Input) where
    pub is_stop : (t : Finish) (vars held : List ℕ) (left : ℕ) → IsStopOf inputs 0 temps (consumer_of (finish_taker t vars inputs) held left) (finish_stop t vars)
    is_stop (Fold seed next) vars held left = laws.fold_stops inputs 0 temps left vars held next
    is_stop Print vars held left = laws.print_stops inputs 0 temps left held

    -- behind the loop it shows what it holds
    pub shows : (t : Finish) (a : ℕ) (held env : List ℕ) (left : ℕ) → IsIn env (finish_taker t (held_from t a) inputs).vars held → run inputs (finish_ending t (held_from t a)) env left ≡ Runs ((finish_taker t (held_from t a) inputs).ending held) env left
    shows (Fold seed next) a held env left is =
        row_printed inputs (range_with_len a (length seed)) env left ∙ ap (λ ws. Runs (row_events ws []) env left) is.there
    shows Print a held env left is = refl

    pub finish_opened : HasWordInputs inputs → (t : Finish) (env : List ℕ) → IsTerminal may temps width t → temps + held_count t ≤ length env → length env < 2 ^ 32 → Opens temps inputs (finish_openings t temps) env temps (held_count t) (first_held t inputs)
    finish_opened has (Fold seed next) env is room small = opened laws temps inputs has seed temps env (omega arith) room small (seed_open seed next is)
    finish_opened has Print env is room small = opened laws temps inputs has [] temps env (omega arith) room small no_words
      where
        no_words : AreOpen temps []
        no_words = record { bound = refl; undivided = refl; numbers = refl; few = omega arith }
