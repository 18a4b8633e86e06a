-- What the terminals do with rows: a row is printed, or folded into the words that are held.
use Rattle.std.proofs.Common.{◌≡◌, ℕ, suc, ◌+◌, ◌-◌, ◌<◌, ◌≤◌, List, [], ◌∷◌, ◌++◌, length, refl, sym, ap, ◌∙◌, subst, inl, inr, arith, length-append, append-nil, get_or-append-add}
use Rattle.std.specs.Prelude.{IsTrue, All, Contains, nat_eq, nat_lt, slice_index}
use Rattle.std.specs.List.{IsDistinct}
use Rattle.std.proofs.lemmas.Bool.{cases_lt, eq-eqb, lt-ltb}
use Rattle.std.proofs.lemmas.List.{get_or_append_left}
use Rattle.std.proofs.lemmas.Map.Keys.{apart_from_distinct}
use Rattle.strm_num.proofs.Truths.{true_both}
use Rattle.strm_num.specs.Words.{IsWord}
use Rattle.list_denotation.specs.declared.event.Event.TheVariants as event
use Rattle.list_denotation.specs.declared.input.Input.{Input}
use Rattle.list_denotation.specs.declared.input.InputKind.{InputKind}
use Rattle.list_denotation.specs.Literals.{is_word_leaf}
use Rattle.list_denotation.specs.Observation.{Done, row_events}
use Rattle.list_denotation.specs.Scopes.{all_bound}
use Rattle.list_denotation.specs.Terms.{Term}
use Rattle.list_denotation.specs.Values.{Got, Is, Fails, row_value}
use Rattle.loop_ir.specs.Constants.{block_has_words}
use Rattle.loop_ir.specs.DeclaredNames.{declared_names, block_names}
use Rattle.loop_ir.specs.Meaning.{Runs, Over, after, run}
use Rattle.loop_ir.proofs.Joins.{goes_on}
use Rattle.state_alloc.specs.Layouts.{IsWordVariable, IsLaidOut}
use Rattle.expr_lower.specs.Scopes.{IsInVariable}
use Rattle.turn_blocks.specs.Consumers.{print_block, done, print_tail, print_taker, print_stop, fold_tail, fed_by, fold_taker, fold_stop, IsFold}
use Rattle.turn_blocks.specs.Laws.{Laws}
use Rattle.turn_blocks.specs.StateBlocks.{words_piece}
use Rattle.turn_blocks.specs.TurnContract.{consumer_of, taken, words_at, IsIn, HasWordInputs, FeedRuns, IsTailOf, IsStopOf}
use Rattle.turn_blocks.proofs.PieceSizes.{words_grow}
use Rattle.turn_blocks.proofs.SetWords.{AreFit, AreAlone, Writes, row_writes}
use Rattle.turn_blocks.proofs.Values.{Readable}
use Rattle.turn_blocks.proofs.WordLists.{all_of, each_joined, differs_of, in_at, in_word, in_long, is_in}

-- ---- rows that are printed

print_runs : (inputs : List Input) (vars env : List ℕ) (left : ℕ) → run inputs (print_block vars) env left ≡ Runs (row_events (words_at env vars) []) env left
print_runs inputs [] env left = refl
print_runs inputs (v ∷ vars) env left = ap (after (event.Emit (slice_index env v) ∷ [])) (print_runs inputs vars env left)

pub prints : (inputs : List Input) (first_temp temps width left : ℕ) (scope_vars scope_words held : List ℕ) → IsTailOf inputs first_temp temps scope_vars scope_words (consumer_of print_taker held left) (print_tail width)
prints inputs t temps width left scope_vars scope_words held = record {
  runs = λ next vars row env laid_out none long room small scope_in row_in held_in. record {
    env' = env;
    runs = print_runs inputs vars env left ∙ ap (λ ws. Runs (row_events ws []) env left) row_in.there;
    same = refl;
    holds = held_in;
    kept = λ v lt apart other. refl;
  };
  grows = λ next vars. omega arith;
}

pub print_stops : (inputs : List Input) (first_temp temps left : ℕ) (held : List ℕ) → IsStopOf inputs first_temp temps (consumer_of print_taker held left) print_stop
print_stops inputs t temps left held next env laid_out room small held_in = refl

print_names_below : (kinds : List InputKind) (vars : ℕ) (row : List ℕ) → ((k : ℕ) → k < length row → slice_index row k < vars) → IsTrue (block_names (declared_names kinds vars) (print_block row))
print_names_below kinds vars [] below = refl
print_names_below kinds vars (v ∷ row) below =
    true_both (nat_lt v vars) (block_names (declared_names kinds vars) (print_block row)) (lt-ltb v vars (below 0 (omega arith))) (print_names_below kinds vars row (λ k lt. below (suc k) (omega arith)))

pub print_names : (kinds : List InputKind) (vars width n : ℕ) (row : List ℕ) → All (λ v. v < n) row → n ≤ vars → IsTrue (block_names (declared_names kinds vars) ((print_tail width).piece row n).block)
print_names kinds vars width n row below le = print_names_below kinds vars row (λ k lt. let h = below k 0 lt in omega (arith, h, le))

print_words : (row : List ℕ) → IsTrue (block_has_words (print_block row))
print_words [] = refl
print_words (v ∷ row) = print_words row

pub print_constants : (width n : ℕ) (row : List ℕ) → IsTrue (block_has_words ((print_tail width).piece row n).block)
print_constants width n row = print_words row

-- ---- rows that are folded

distinct_at : (vars : List ℕ) (i j : ℕ) → IsDistinct nat_eq vars → i < length vars → j < length vars → slice_index vars i ≡ slice_index vars j → i ≡ j
distinct_at vars i j distinct low high same = elim (cases_lt i j) [
  | inl before ↦ absurd (apart i j before high same)
  | inr le ↦ elim (cases_lt j i) [ inl behind ↦ absurd (apart j i behind low (sym same)) | inr ge ↦ omega (arith, le, ge) ]
]
  where
    apart : (i j : ℕ) → i < j → j < length vars → slice_index vars i ≡ slice_index vars j → ⊥
    apart i j lt high same =
        let no = apart_from_distinct nat_eq vars i j 0 distinct lt high in
        let yes = eq-eqb (slice_index vars i) (slice_index vars j) same in absurd cc

module _ (laws : Laws) (inputs : List Input) (small : HasWordInputs inputs) (t temps width left : ℕ) (scope_vars scope_words vars held : List ℕ) (next : List Term) (fold : IsFold vars width temps next) where
  module _ (n : ℕ) (rows row env : List ℕ) (laid_out : IsLaidOut (vars ++ (scope_vars ++ rows)) t temps n) (none : All (λ v. ¬ Contains vars v) (scope_vars ++ rows)) (long : length rows ≡ width) (row_in : IsIn env rows row) (held_in : IsIn env vars held) where
    rows_apart : (j : ℕ) → j < length rows → ¬ Contains vars (slice_index rows j)
    rows_apart j lt = subst (λ v. ¬ Contains vars v) (get_or-append-add scope_vars rows j 0) (none (length scope_vars + j) 0 (omega (arith, lt, length-append scope_vars rows)))

    -- without the scope
    near : IsLaidOut (vars ++ rows) t temps n
    near = record {
      few = laid_out.few;
      temporaries = laid_out.temporaries;
      words = all_of (IsWordVariable t temps n) (vars ++ rows) (each_joined (IsWordVariable t temps n) vars rows
          (λ k lt. subst (IsWordVariable t temps n) (get_or_append_left vars (scope_vars ++ rows) 0 k lt) (laid_out.words k 0 (omega (arith, lt, length-append vars (scope_vars ++ rows)))))
          (λ k lt. subst (IsWordVariable t temps n) (get_or-append-add vars (scope_vars ++ rows) (length scope_vars + k) 0 ∙ get_or-append-add scope_vars rows k 0)
          (laid_out.words (length vars + (length scope_vars + k)) 0 (omega (arith, lt, length-append vars (scope_vars ++ rows), length-append scope_vars rows)))));
    }

    both_long : length (vars ++ rows) ≡ length vars + length rows
    both_long = length-append vars rows

    readable : Readable laws inputs small t temps (vars ++ rows) (held ++ row) is_word_leaf env
    readable k lt is = elim (cases_lt k (length vars)) [ inl low ↦ first low | inr high ↦ second (k - length vars) (omega (arith, high)) ]
      where
        held_long : length held ≡ length vars
        held_long = in_long env vars held held_in

        first : k < length vars → IsInVariable (vars ++ rows) (held ++ row) inputs env k
        first low =
            let w : slice_index (held ++ row) k ≡ slice_index held k = get_or_append_left held row 0 k (omega (arith, low, held_long)) in
            record {
              same = ap (slice_index env) (get_or_append_left vars rows 0 k low) ∙ (in_at env vars held held_in k low ∙ sym w);
              word = subst IsWord (sym w) (in_word env vars held held_in k (omega (arith, low, held_long)));
            }

        second : (i : ℕ) → k ≡ length vars + i → IsInVariable (vars ++ rows) (held ++ row) inputs env k
        second i e =
            let less : i < length rows = omega (arith, lt, e, both_long) in
            let q : k ≡ length held + i = omega (arith, e, held_long) in
            let w : slice_index (held ++ row) k ≡ slice_index row i = ap (slice_index (held ++ row)) q ∙ get_or-append-add held row i 0 in
            record {
              same = ap (λ m. slice_index env (slice_index (vars ++ rows) m)) e ∙ (ap (slice_index env) (get_or-append-add vars rows i 0) ∙ (in_at env rows row row_in i less ∙ sym w));
              word = subst IsWord (sym w) (in_word env rows row row_in i (omega (arith, less, in_long env rows row row_in)));
            }

    alone_at : (i : ℕ) → i < length vars → (m : ℕ) → m < length (vars ++ rows) → slice_index (vars ++ rows) m ≡ slice_index (vars ++ rows) i → m ≡ i
    alone_at i high m lt same = elim (cases_lt m (length vars)) [
      | inl low ↦ distinct_at vars m i fold.distinct low high (sym (get_or_append_left vars rows 0 m low) ∙ (same ∙ get_or_append_left vars rows 0 i high))
      | inr past ↦ in_row (m - length vars) (omega (arith, past))
    ]
      where
        in_row : (j : ℕ) → m ≡ length vars + j → m ≡ i
        in_row j e =
            let less : j < length rows = omega (arith, lt, e, both_long) in
            absurd (differs_of vars (slice_index rows j) (rows_apart j less) i high
            (sym (get_or_append_left vars rows 0 i high) ∙ (sym same ∙ (ap (slice_index (vars ++ rows)) e ∙ get_or-append-add vars rows j 0))))

    alone : AreAlone laws inputs small t temps (vars ++ rows) (held ++ row) is_word_leaf 0 (length next)
    alone = record {
      read = λ i low high m lt is same. alone_at i (omega (arith, high, fold.same_width)) m lt same;
      set = λ i j low high least most same. alone_at j (omega (arith, most, fold.same_width)) i (omega (arith, high, fold.same_width, both_long)) same;
    }

    fits : AreFit laws inputs small t temps (vars ++ rows) (held ++ row) is_word_leaf next
    fits = record { numbers = fold.are_words; bound = subst (λ m. IsTrue (all_bound m next)) (omega (arith, both_long, long)) fold.bound; few = fold.few; leaves = fold.are_words }

    feeds : (g : Got (List ℕ)) → Writes laws inputs small t temps (vars ++ rows) (held ++ row) (words_piece (vars ++ rows) t 0 next n).block 0 (length next) n env g → FeedRuns inputs (record { first_temp = t; temps = temps; next = n }) (consumer_of (fold_taker vars next inputs) held left) (words_piece (vars ++ rows) t 0 next n).block env (taken left (fed_by g))
    feeds (Is xs) w = record {
      env' = w.env';
      runs = w.runs left;
      same = w.same;
      holds = is_in w.env' vars xs (omega (arith, w.long, fold.same_width))
          (λ i lt. let q : 0 + i ≡ i = omega arith in sym (ap (slice_index w.env') (ap (slice_index (vars ++ rows)) q ∙ get_or_append_left vars rows 0 i lt)) ∙ w.sets i (omega (arith, lt, fold.same_width)))
          (λ i lt. w.are_words i (omega (arith, lt, w.long)));
      kept = λ v lt temporary other. w.kept v lt temporary (λ i low high e. differs_of vars v other i (omega (arith, high, fold.same_width)) (sym (get_or_append_left vars rows 0 i (omega (arith, high, fold.same_width))) ∙ e));
    }
    feeds (Fails f) w = w left

  pub folds : IsTailOf inputs t temps scope_vars scope_words (consumer_of (fold_taker vars next inputs) held left) (fold_tail vars t width next)
  folds = record {
    runs = λ n rows row env laid_out none long room few scope_in row_in held_in.
        feeds n rows row env laid_out none long row_in held_in (row_value next (held ++ row) inputs)
        (row_writes laws inputs small t temps (vars ++ rows) (held ++ row) next 0 n is_word_leaf env (near n rows row env laid_out none long row_in held_in)
        (omega (arith, fold.same_width, length-append vars rows)) (fits n rows row env laid_out none long row_in held_in) (readable n rows row env laid_out none long row_in held_in)
        (alone n rows row env laid_out none long row_in held_in) (omega (arith, room, words_grow (vars ++ rows) t next 0 n)) room few);
    grows = λ n rows. words_grow (vars ++ rows) t next 0 n;
  }

pub fold_stops : (inputs : List Input) (first_temp temps left : ℕ) (vars held : List ℕ) (next : List Term) → IsStopOf inputs first_temp temps (consumer_of (fold_taker vars next inputs) held left) (fold_stop vars)
fold_stops inputs t temps left vars held next n env laid_out room small held_in =
    goes_on inputs (print_block vars) done (row_events (words_at env vars) []) env env left (print_runs inputs vars env left)
    ∙ (ap (λ e. Over e Done) (append-nil (row_events (words_at env vars) [])) ∙ ap (λ ws. Over (row_events ws []) Done) held_in.there)
