-- The core of a stream has its rows and its work.
use Rattle.std.proofs.Common.{◌≡◌, ℕ, zero, suc, ◌+◌, List, ◌++◌, length, Bool, true, false, ◌&&◌, refl, sym, ap, ◌∙◌, subst, arith}
use Rattle.std.specs.Prelude.{All, IsTrue}
use Rattle.strm_num.specs.Words.{IsWord, signed, is_less, truth_of}
use Rattle.strm_num.proofs.Truths.{both_true}
use Rattle.list_denotation.specs.declared.input.Input.{Input}
use Rattle.list_denotation.specs.declared.input.InputKind.{InputKind}
use Rattle.list_denotation.specs.Denotation.{count_of, words_between, denotation}
use Rattle.list_denotation.specs.InputNames.{InputNames}
use Rattle.list_denotation.specs.Inputs.{Fits}
use Rattle.list_denotation.specs.Literals.{has_words, all_have_words, pipe_has_words}
use Rattle.list_denotation.specs.Rows.{Rows, firsts, single_rows}
use Rattle.list_denotation.specs.Scopes.{is_bound, all_bound}
use Rattle.list_denotation.specs.Terms.{Term, Pipe, Array, Range, Unfold, Map, Filter, Take, Drop, TakeWhile, Scan, FlatMap, Zip}
use Rattle.list_denotation.specs.Typing.{is_undivided}
use Rattle.list_denotation.specs.Values.{Got, Is, with_value, choice, value}
use Rattle.list_denotation.specs.Work.{row_count, stream_work}
use Rattle.denotation_laws.specs.RowWords.{AreRows, IsRowOf}
use Rattle.denotation_laws.specs.StreamScopes.{StreamReadsScope}
use Rattle.denotation_laws.specs.Widths as rows
use Rattle.stateful_core.specs.CoreTerms.{CoreTerm, Lin}
use Rattle.stateful_core.specs.WordValues.{or_zero, word_value, word_values}
use Rattle.stateful_core.specs.CoreRows.{core_rows}
use Rattle.stateful_core.specs.CoreWork.{core_work}
use Rattle.stateful_core.specs.CoreShapes.{are_exact_actions}
use Rattle.stateful_core.specs.Laws.{Laws}
use Rattle.stateful_core.specs.StreamCores.{next_state, rows_asked, stream_width, core_at}
use Rattle.stateful_core.proofs.ExactTurns.{exact_count, exact_lets, exact_state}
use Rattle.stateful_core.proofs.SourceRows.{array_turns, range_turns, unfold_turns}
use Rattle.stateful_core.proofs.StageRows.{map_stage, filter_stage, while_stage, take_stage, drop_stage, scan_stage}
use Rattle.stateful_core.proofs.StreamScopes.{over_rows}
use Rattle.stateful_core.proofs.UndividedValues.{HasValue, undivided_value, undivided_row, undivided_word}
use Rattle.stateful_core.proofs.VariableRows.{length_word_values}
use Rattle.stateful_core.proofs.WordOrder.{not_less_itself, not_both_less, count_is, count_small}

module _ (laws : Laws) (may : InputNames) (kinds : List InputKind) (inputs : List Input) (fits : Fits inputs kinds) (n : ℕ) where
  wide_rows : (p : Pipe) (env : List ℕ) → All IsWord env → StreamReadsScope may (length env) p → IsTrue (pipe_has_words p) → AreRows (stream_width p) (denotation p env inputs n)
  wide_rows p env w s l = over_rows may (λ k. AreRows k (denotation p env inputs n)) p (length env) s (laws.rows kinds inputs p env n fits l w)

  -- what is said of a stream's core over any bound words is said of it behind each row of another stream
  behind_rows : (of inner : Pipe) (env : List ℕ) → All IsWord env → StreamReadsScope may (length env) of → StreamReadsScope may (length env + rows.stream_width of) inner → IsTrue (pipe_has_words of) → (R : CoreTerm → List ℕ → Type 0) → ((v : List ℕ) → All IsWord v → StreamReadsScope may (length v) inner → R (core_at (length v) inner) v) → (r : List ℕ) → IsRowOf r (denotation of env inputs n) → R (core_at (length env + stream_width of) inner) (env ++ r)
  behind_rows of inner env w s t l R here r among =
      let row = laws.each_row (stream_width of) r (denotation of env inputs n) (wide_rows of env w s l) among in
      let all = laws.side_by_side (length env) (stream_width of) env r (record { width = refl; words = w }) row in
      let scoped = over_rows may (λ k. StreamReadsScope may (length env + k) inner) of (length env) s t in
      subst (λ k. R (core_at k inner) (env ++ r)) all.width (here (env ++ r) all.words (subst (λ k. StreamReadsScope may k inner) (sym all.width) scoped))

  -- the count that is asked for, as the state has it
  asked : (count : Term) (env : List ℕ) → IsTrue (is_undivided count) → word_value (rows_asked count) env inputs ≡ count_of (signed (word_value count env inputs))
  asked count env h = by_value (value count env inputs) (undivided_value laws inputs env count h)
    where
      by_value : (g : Got ℕ) → HasValue g → or_zero (with_value (with_value g (λ x. Is (truth_of (is_less x 0)))) (λ x. choice x g (Is 0))) ≡ count_of (signed (or_zero g))
      by_value (Is x) q = chosen (truth_of (is_less x 0)) x ∙ count_is x
        where
          chosen : (w x : ℕ) → or_zero (choice w (Is x) (Is 0)) ≡ choice w x 0
          chosen zero x = refl
          chosen (suc w) x = refl
      by_value _ q = absurd cc

  -- a range that begins at its end where it has no number
  module _ (env : List ℕ) (low high : Term) (l h : ℕ) (low_is : value low env inputs ≡ Is l) (high_is : value high env inputs ≡ Is h) (low_word : IsWord l) (high_word : IsWord h) (bound : IsTrue (is_bound (length env) high)) where
    range_from : (t : Bool) → is_less h l ≡ t → core_rows (core_at (length env) (Range low high)) env inputs n ≡ firsts n (single_rows (words_between l h))
    range_from true e =
        rw (low_is, high_is, e)
        (range_turns laws env inputs high h bound high_is high_word n h high_word (not_less_itself h)
        ∙ ap (λ r. firsts n (single_rows r)) (laws.range_is_over h h (not_less_itself h) ∙ sym (laws.range_is_over l h (not_both_less h l e))))
    range_from false e = rw (low_is, high_is, e) (range_turns laws env inputs high h bound high_is high_word n l low_word e)

  pub rows_at : (p : Pipe) (env : List ℕ) → All IsWord env → StreamReadsScope may (length env) p → IsTrue (pipe_has_words p) → core_rows (core_at (length env) p) env inputs n ≡ denotation p env inputs n
  rows_at (Array k) env w s l = array_turns laws env inputs k (laws.few_items kinds inputs k fits) n 0 (omega arith)
  rows_at (Range a b) env w s l =
      let va = undivided_value laws inputs env a s.0.undivided in
      let vb = undivided_value laws inputs env b s.1.undivided in
      let wa = undivided_word laws inputs env kinds a fits w s.0.undivided s.0.reads.words in
      let wb = undivided_word laws inputs env kinds b fits w s.1.undivided s.1.reads.words in
      range_from env a b (word_value a env inputs) (word_value b env inputs) va vb wa wb s.1.reads.bound (is_less (word_value b env inputs) (word_value a env inputs)) refl
      ∙ sym (rw (va, vb) refl)
  rows_at (Unfold seed guard item next) env w s l =
      unfold_turns laws env inputs (length seed) guard item next s.guard_reads.undivided s.item_reads.bound s.next_reads.bound s.same_width n (word_values seed env inputs) (length_word_values inputs seed env)
      ∙ sym (rw (undivided_row laws inputs env seed s.seed_reads.undivided) refl)
  rows_at (Map of body) env w s l =
      let p = both_true (pipe_has_words of) (all_have_words body) l in
      let e = rows_at of env w s.0 p.0 in
      let bound = over_rows may (λ k. IsTrue (all_bound (length env + k) body)) of (length env) s.0 s.1.bound in
      rw e (map_stage laws env inputs (stream_width of) body bound (denotation of env inputs n) (wide_rows of env w s.0 p.0))
  rows_at (Filter of body) env w s l =
      let p = both_true (pipe_has_words of) (has_words body) l in
      let e = rows_at of env w s.0 p.0 in
      rw e (filter_stage laws env inputs (stream_width of) body (denotation of env inputs n) (wide_rows of env w s.0 p.0))
  rows_at (Take of count) env w s l =
      let p = both_true (pipe_has_words of) (has_words count) l in
      let e = rows_at of env w s.0 p.0 in
      rw (e, asked count env s.1.undivided, undivided_value laws inputs env count s.1.undivided)
      (take_stage laws env inputs (stream_width of) (count_of (signed (word_value count env inputs))) (count_small (word_value count env inputs)) (denotation of env inputs n) (wide_rows of env w s.0 p.0))
  rows_at (Drop of count) env w s l =
      let p = both_true (pipe_has_words of) (has_words count) l in
      let e = rows_at of env w s.0 p.0 in
      rw (e, asked count env s.1.undivided, undivided_value laws inputs env count s.1.undivided)
      (drop_stage laws env inputs (stream_width of) (count_of (signed (word_value count env inputs))) (count_small (word_value count env inputs)) (denotation of env inputs n) (wide_rows of env w s.0 p.0))
  rows_at (TakeWhile of body) env w s l =
      let p = both_true (pipe_has_words of) (has_words body) l in
      let e = rows_at of env w s.0 p.0 in
      rw e (while_stage laws env inputs (stream_width of) body (denotation of env inputs n) (wide_rows of env w s.0 p.0))
  rows_at (Scan of seed next) env w s l =
      let p = both_true (pipe_has_words of) (all_have_words seed && all_have_words next) l in
      let e = rows_at of env w s.0 p.0 in
      let bound = over_rows may (λ k. IsTrue (all_bound (length env + length seed + k) next)) of (length env) s.0 s.1.next_reads.bound in
      rw (e, undivided_row laws inputs env seed s.1.seed_reads.undivided)
      (scan_stage laws env inputs (stream_width of) next (length seed) bound s.1.same_width (word_values seed env inputs) (length_word_values inputs seed env) (denotation of env inputs n) (wide_rows of env w s.0 p.0))
  rows_at (FlatMap of inner) env w s l =
      let p = both_true (pipe_has_words of) (pipe_has_words inner) l in
      rw (rows_at of env w s.0 p.0)
      (laws.joins (λ r. core_rows (core_at (length env + stream_width of) inner) (env ++ r) inputs n) (λ r. denotation inner (env ++ r) inputs n) (denotation of env inputs n)
      (behind_rows of inner env w s.0 s.1 p.0 (λ c v. core_rows c v inputs n ≡ denotation inner v inputs n) (λ v u t. rows_at inner v u t p.1)))
  rows_at (Zip left right) env w s l =
      let p = both_true (pipe_has_words left) (pipe_has_words right) l in rw (rows_at left env w s.0 p.0, rows_at right env w s.1 p.1) refl

  -- a source whose turns each give a row, unless they stop or break
  abbrev IsExactLin : CoreTerm → Type 0
  IsExactLin (Lin scope init guard acts item) = IsTrue (are_exact_actions acts)
  IsExactLin _ = ⊥

  lin_work : (c : CoreTerm) (env : List ℕ) → IsExactLin c → (x : Rows) → core_rows c env inputs n ≡ x → core_work c env inputs n ≡ row_count x + 1
  lin_work (Lin scope init guard acts item) env exact x e =
      ap (λ k. k + 1) (exact_count env inputs guard acts item exact n (word_values init env inputs) ∙ ap row_count e)
  lin_work _ env exact x e = absurd exact

  pub work_at : (p : Pipe) (env : List ℕ) → All IsWord env → StreamReadsScope may (length env) p → IsTrue (pipe_has_words p) → core_work (core_at (length env) p) env inputs n ≡ stream_work p env inputs n
  work_at (Array k) env w s l = lin_work (core_at (length env) (Array k)) env refl (denotation (Array k) env inputs n) (rows_at (Array k) env w s l)
  work_at (Range a b) env w s l = lin_work (core_at (length env) (Range a b)) env refl (denotation (Range a b) env inputs n) (rows_at (Range a b) env w s l)
  work_at (Unfold seed guard item next) env w s l =
      lin_work (core_at (length env) (Unfold seed guard item next)) env
      (exact_lets item (next_state (length env + length seed + length item) next) ∙ exact_state (length env + length seed + length item) next)
      (denotation (Unfold seed guard item next) env inputs n) (rows_at (Unfold seed guard item next) env w s l)
  work_at (Map of body) env w s l = let p = both_true (pipe_has_words of) (all_have_words body) l in work_at of env w s.0 p.0
  work_at (Filter of body) env w s l = let p = both_true (pipe_has_words of) (has_words body) l in work_at of env w s.0 p.0
  work_at (Take of count) env w s l = let p = both_true (pipe_has_words of) (has_words count) l in work_at of env w s.0 p.0
  work_at (Drop of count) env w s l = let p = both_true (pipe_has_words of) (has_words count) l in work_at of env w s.0 p.0
  work_at (TakeWhile of body) env w s l = let p = both_true (pipe_has_words of) (has_words body) l in work_at of env w s.0 p.0
  work_at (Scan of seed next) env w s l = let p = both_true (pipe_has_words of) (all_have_words seed && all_have_words next) l in work_at of env w s.0 p.0
  work_at (FlatMap of inner) env w s l =
      let p = both_true (pipe_has_words of) (pipe_has_words inner) l in
      let e = length env + stream_width of in
      rw (rows_at of env w s.0 p.0, work_at of env w s.0 p.0)
      (ap (λ k. stream_work of env inputs n + k)
      (laws.sums ◌+◌ 0 (λ r. core_rows (core_at e inner) (env ++ r) inputs n) (λ r. denotation inner (env ++ r) inputs n)
      (λ r. core_work (core_at e inner) (env ++ r) inputs n) (λ r. stream_work inner (env ++ r) inputs n) (denotation of env inputs n)
      (behind_rows of inner env w s.0 s.1 p.0 (λ c v. core_rows c v inputs n ≡ denotation inner v inputs n) (λ v u t. rows_at inner v u t p.1))
      (behind_rows of inner env w s.0 s.1 p.0 (λ c v. core_work c v inputs n ≡ stream_work inner v inputs n) (λ v u t. work_at inner v u t p.1))))
  work_at (Zip left right) env w s l =
      let p = both_true (pipe_has_words left) (pipe_has_words right) l in rw (work_at left env w s.0 p.0, work_at right env w s.1 p.1) refl
