-- What a typed stream's expressions read, and how wide its rows are.
use Rattle.std.proofs.Common.{◌≡◌, ℕ, suc, ◌+◌, ◌≤◌, List, [], ◌∷◌, ◌++◌, length, Option, Some, None, Bool, true, false, ◌&&◌, refl, sym, ap, ◌∙◌, subst, arith, length-append}
use Rattle.std.specs.Prelude.{All, IsTrue, IsSome, nat_le, slice_get, if◌then◌else◌}
use Rattle.std.proofs.lemmas.Bool.{leb-true}
use Rattle.strm_num.proofs.Truths.{both_true, true_both}
use Rattle.strm_num.specs.Words.{IsWord}
use Rattle.list_denotation.specs.declared.input.Input.{Input}
use Rattle.list_denotation.specs.declared.input.InputKind.{InputKind}
use Rattle.list_denotation.specs.declared.kind.Kind.{Kind}
use Rattle.list_denotation.specs.declared.kind.Kind.TheVariants as kind
use Rattle.list_denotation.specs.declared.stream.Stream.{Stream}
use Rattle.list_denotation.specs.declared.terminal.Terminal.{Terminal}
use Rattle.list_denotation.specs.Copies.{pipe_of, finish_of}
use Rattle.list_denotation.specs.Terms.{Term, Pipe, Array, Range, Unfold, Map, Filter, Take, Drop, TakeWhile, Scan, FlatMap, Zip, Finish, Fold, Print}
use Rattle.list_denotation.specs.Denotation.{denotation}
use Rattle.list_denotation.specs.InputNames.{InputNames, names_inputs, all_name_inputs, declared_inputs}
use Rattle.list_denotation.specs.Inputs.{Fits}
use Rattle.list_denotation.specs.Literals.{has_words, all_have_words, pipe_has_words, finish_has_words, program_has_words}
use Rattle.list_denotation.specs.Scopes.{is_bound, all_bound}
use Rattle.list_denotation.specs.Typing.{is_array, is_kind, kind_of, is_undivided, all_undivided, one_more, kinds_of, row_kinds, same_kinds, seed_kinds, opens, with_kinds, kinds_where, state_kinds, unfold_kinds, joined_kinds, stream_kinds, finish_kinds, program_kinds, has_kinds, is_within_limits, is_typed}
use Rattle.denotation_laws.specs.RowWords.{AreRows}
use Rattle.denotation_laws.specs.Widths.{stream_width}
use Rattle.denotation_laws.specs.StreamScopes.{ReadsScope, RowReadsScope, IsOpening, IsSeed, StateReadsScope, StreamReadsScope, FinishReadsScope}
use Rattle.denotation_laws.proofs.StreamRows.{stream_rows}

-- ---- conditions

chosen : {A : Type 0} (b : Bool) (o : Option A) (x : A) → (if b then o else None) ≡ Some x → IsTrue b × (o ≡ Some x)
chosen true o x h = (refl, h)
chosen false o x h = absurd cc

some_same : {A : Type 0} (x y : A) → Some x ≡ Some y → x ≡ y
some_same x y h = cc

kind_some : (k : Kind) (o : Option Kind) → IsTrue (is_kind k o) → IsSome o
kind_some kind.Int None h = absurd cc
kind_some kind.Bool None h = absurd cc
kind_some k (Some j) h = refl

some_kinds : (o : Option (List Kind)) → IsTrue (has_kinds o) → (ks : List Kind) × (o ≡ Some ks)
some_kinds None h = absurd cc
some_kinds (Some ks) h = (ks, refl)

under_kinds : (o : Option (List Kind)) (f : List Kind → Option (List Kind)) (ks : List Kind) → with_kinds o f ≡ Some ks → (row : List Kind) × ((o ≡ Some row) × (f row ≡ Some ks))
under_kinds None f ks h = absurd cc
under_kinds (Some row) f ks h = (row, (refl, h))

first_some : (k : Option Kind) (rest : Option (List Kind)) (ks : List Kind) → one_more k rest ≡ Some ks → IsSome k
first_some None rest ks h = absurd cc
first_some (Some k) rest ks h = refl

rest_some : (k : Option Kind) (rest : Option (List Kind)) (ks : List Kind) → one_more k rest ≡ Some ks → (js : List Kind) × ((rest ≡ Some js) × (length ks ≡ suc (length js)))
rest_some None rest ks h = absurd cc
rest_some (Some k) None ks h = absurd cc
rest_some (Some k) (Some js) ks h = (js, (refl, sym (ap length (some_same (k ∷ js) ks h))))

same_length : (ks js : List Kind) → IsTrue (same_kinds ks (Some js)) → length js ≡ length ks
same_length [] [] h = refl
same_length [] (j ∷ js) h = absurd cc
same_length (k ∷ ks) [] h = absurd cc
same_length (k ∷ ks) (j ∷ js) h = ap suc (same_length ks js (both_true (is_kind k (Some j)) (same_kinds ks (Some js)) h).1)

same_some : (ks : List Kind) (o : Option (List Kind)) → IsTrue (same_kinds ks o) → (js : List Kind) × ((o ≡ Some js) × (length js ≡ length ks))
same_some [] None h = absurd cc
same_some (k ∷ ks) None h = absurd cc
same_some ks (Some js) h = (js, (refl, same_length ks js h))

-- ---- expressions and rows

-- a row reads these bound words and inputs, and has this width
record IsReading (may : InputNames) (n : ℕ) (es : List Term) (width : ℕ) : Type 0 where
  bound : IsTrue (all_bound n es)
  names : IsTrue (all_name_inputs may es)
  same : length es ≡ width

-- the stream reads these bound words, and its rows have this width
pub record TypedStreamReads (may : InputNames) (n : ℕ) (p : Pipe) (width : ℕ) : Type 0 where
  pub reads : StreamReadsScope may n p
  pub same : stream_width p ≡ width

module _ (reads_bound : (inputs : List InputKind) (scope : List Kind) (e : Term) → IsSome (kind_of inputs scope e) → IsTrue (is_bound (length scope) e)) (names_declared : (inputs : List InputKind) (scope : List Kind) (e : Term) → IsSome (kind_of inputs scope e) → IsTrue (names_inputs (declared_inputs inputs) e)) (inputs : List InputKind) where
  test_reads : (scope : List Kind) (k : Kind) (e : Term) → IsTrue (is_kind k (kind_of inputs scope e)) → IsTrue (has_words e) → ReadsScope (declared_inputs inputs) (length scope) e
  test_reads scope k e h w =
      let has = kind_some k (kind_of inputs scope e) h in
      record { bound = reads_bound inputs scope e has; names = names_declared inputs scope e has; words = w }

  opening_reads : (scope : List Kind) (k : Kind) (e : Term) → IsTrue (opens inputs scope k e) → IsTrue (has_words e) → IsOpening (declared_inputs inputs) (length scope) e
  opening_reads scope k e h w =
      let parts = both_true (is_kind k (kind_of inputs scope e)) (is_undivided e) h in
      record { reads = test_reads scope k e parts.0 w; undivided = parts.1 }

  kinds_read : (scope : List Kind) (es : List Term) (ks : List Kind) → kinds_of inputs scope es ≡ Some ks → IsReading (declared_inputs inputs) (length scope) es (length ks)
  kinds_read scope [] ks h = record { bound = refl; names = refl; same = ap length (some_same [] ks h) }
  kinds_read scope (e ∷ es) ks h =
      let has = first_some (kind_of inputs scope e) (kinds_of inputs scope es) ks h in
      let rest = rest_some (kind_of inputs scope e) (kinds_of inputs scope es) ks h in
      let more = kinds_read scope es rest.0 rest.1.0 in
      record {
        bound = true_both (is_bound (length scope) e) (all_bound (length scope) es) (reads_bound inputs scope e has) more.bound;
        names = true_both (names_inputs (declared_inputs inputs) e) (all_name_inputs (declared_inputs inputs) es) (names_declared inputs scope e has) more.names;
        same = ap suc more.same ∙ sym rest.1.1;
      }

  row_reads : (scope : List Kind) (es : List Term) (ks : List Kind) → row_kinds inputs scope es ≡ Some ks → IsTrue (all_have_words es) → RowReadsScope (declared_inputs inputs) (length scope) es × (length es ≡ length ks)
  row_reads scope es ks h w =
      let test = chosen (nat_le 1 (length es) && nat_le (length es) 8) (kinds_of inputs scope es) ks h in
      let sides = both_true (nat_le 1 (length es)) (nat_le (length es) 8) test.0 in
      let kinds = kinds_read scope es ks test.1 in (
        record { bound = kinds.bound; names = kinds.names; words = w; not_empty = leb-true 1 (length es) sides.0; few = leb-true (length es) 8 sides.1 },
        kinds.same,
      )

  seed_reads : (scope : List Kind) (es : List Term) (ks : List Kind) → seed_kinds inputs scope es ≡ Some ks → IsTrue (all_have_words es) → IsSeed (declared_inputs inputs) (length scope) es × (length es ≡ length ks)
  seed_reads scope es ks h w =
      let test = chosen (all_undivided es) (row_kinds inputs scope es) ks h in
      let row = row_reads scope es ks test.1 w in
      (record { reads = row.0; undivided = test.0 }, row.1)

  -- the state of a scan or fold over rows of this width
  state_reads : (scope row : List Kind) (seed next : List Term) (ks : List Kind) (width : ℕ) → width ≡ length row → state_kinds inputs scope row seed next ≡ Some ks → IsTrue (all_have_words seed) → IsTrue (all_have_words next) → StateReadsScope (declared_inputs inputs) (length scope) width seed next × (length next ≡ length ks)
  state_reads scope row seed next ks width wide h sw nw =
      let under = under_kinds (seed_kinds inputs scope seed) (λ state. kinds_where (same_kinds state (row_kinds inputs ((scope ++ state) ++ row) next)) state) ks h in
      let state = under.0 in
      let test = chosen (same_kinds state (row_kinds inputs ((scope ++ state) ++ row) next)) (Some state) ks under.1.1 in
      let seeds = seed_reads scope seed state under.1.0 sw in
      let kinds = same_some state (row_kinds inputs ((scope ++ state) ++ row) next) test.0 in
      let nexts = row_reads ((scope ++ state) ++ row) next kinds.0 kinds.1.0 nw in
      let at : length ((scope ++ state) ++ row) ≡ length scope + length seed + width =
      omega (arith, length-append (scope ++ state) row, length-append scope state, seeds.1, wide) in (
        record {
          seed_reads = seeds.0;
          next_reads = subst (λ n. RowReadsScope (declared_inputs inputs) n next) at nexts.0;
          same_width = nexts.1 ∙ kinds.1.1 ∙ sym seeds.1;
        },
        nexts.1 ∙ kinds.1.1 ∙ ap length (some_same state ks test.1),
      )

  -- ---- stages that hand rows on

  module _ (scope : List Kind) (of : Pipe) (below : (row : List Kind) → stream_kinds inputs scope of ≡ Some row → TypedStreamReads (declared_inputs inputs) (length scope) of (length row)) (e : Term) (w : IsTrue (has_words e)) where
    tested_reads : (ks : List Kind) → with_kinds (stream_kinds inputs scope of) (λ row. kinds_where (is_kind kind.Bool (kind_of inputs (scope ++ row) e)) row) ≡ Some ks → (StreamReadsScope (declared_inputs inputs) (length scope) of × ReadsScope (declared_inputs inputs) (length scope + stream_width of) e) × (stream_width of ≡ length ks)
    tested_reads ks h =
        let under = under_kinds (stream_kinds inputs scope of) (λ row. kinds_where (is_kind kind.Bool (kind_of inputs (scope ++ row) e)) row) ks h in
        let row = under.0 in
        let test = chosen (is_kind kind.Bool (kind_of inputs (scope ++ row) e)) (Some row) ks under.1.1 in
        let rows = below row under.1.0 in
        let at : length (scope ++ row) ≡ length scope + stream_width of = omega (arith, length-append scope row, rows.same) in (
          (rows.reads, subst (λ n. ReadsScope (declared_inputs inputs) n e) at (test_reads (scope ++ row) kind.Bool e test.0 w)),
          rows.same ∙ ap length (some_same row ks test.1),
        )

    opened_reads : (ks : List Kind) → with_kinds (stream_kinds inputs scope of) (λ row. kinds_where (opens inputs scope kind.Int e) row) ≡ Some ks → (StreamReadsScope (declared_inputs inputs) (length scope) of × IsOpening (declared_inputs inputs) (length scope) e) × (stream_width of ≡ length ks)
    opened_reads ks h =
        let under = under_kinds (stream_kinds inputs scope of) (λ row. kinds_where (opens inputs scope kind.Int e) row) ks h in
        let row = under.0 in
        let test = chosen (opens inputs scope kind.Int e) (Some row) ks under.1.1 in
        let rows = below row under.1.0 in
        ((rows.reads, opening_reads scope kind.Int e test.0 w), rows.same ∙ ap length (some_same row ks test.1))

  -- ---- streams

  pub stream_reads : (p : Pipe) (scope ks : List Kind) → stream_kinds inputs scope p ≡ Some ks → IsTrue (pipe_has_words p) → TypedStreamReads (declared_inputs inputs) (length scope) p (length ks)
  stream_reads (Array k) scope ks h w =
      let test = chosen (is_array (slice_get inputs k)) (Some (kind.Int ∷ [])) ks h in
      record { reads = test.0; same = ap length (some_same (kind.Int ∷ []) ks test.1) }
  stream_reads (Range a b) scope ks h w =
      let test = chosen (opens inputs scope kind.Int a && opens inputs scope kind.Int b) (Some (kind.Int ∷ [])) ks h in
      let sides = both_true (opens inputs scope kind.Int a) (opens inputs scope kind.Int b) test.0 in
      let words = both_true (has_words a) (has_words b) w in
      record {
        reads = (opening_reads scope kind.Int a sides.0 words.0, opening_reads scope kind.Int b sides.1 words.1);
        same = ap length (some_same (kind.Int ∷ []) ks test.1);
      }
  stream_reads (Unfold seed guard item next) scope ks h w =
      let under = under_kinds (seed_kinds inputs scope seed) (λ state. unfold_kinds inputs scope guard item next state) ks h in
      let state = under.0 in
      let test = chosen (opens inputs (scope ++ state) kind.Bool guard && same_kinds state (row_kinds inputs (scope ++ state) next)) (row_kinds inputs (scope ++ state) item) ks under.1.1 in
      let sides = both_true (opens inputs (scope ++ state) kind.Bool guard) (same_kinds state (row_kinds inputs (scope ++ state) next)) test.0 in
      let a = both_true (all_have_words seed) (has_words guard && (all_have_words item && all_have_words next)) w in
      let b = both_true (has_words guard) (all_have_words item && all_have_words next) a.1 in
      let c = both_true (all_have_words item) (all_have_words next) b.1 in
      let seeds = seed_reads scope seed state under.1.0 a.0 in
      let kinds = same_some state (row_kinds inputs (scope ++ state) next) sides.1 in
      let items = row_reads (scope ++ state) item ks test.1 c.0 in
      let nexts = row_reads (scope ++ state) next kinds.0 kinds.1.0 c.1 in
      let at : length (scope ++ state) ≡ length scope + length seed = omega (arith, length-append scope state, seeds.1) in
      record {
        reads = record {
          seed_reads = seeds.0;
          guard_reads = subst (λ n. IsOpening (declared_inputs inputs) n guard) at (opening_reads (scope ++ state) kind.Bool guard sides.0 b.0);
          item_reads = subst (λ n. RowReadsScope (declared_inputs inputs) n item) at items.0;
          next_reads = subst (λ n. RowReadsScope (declared_inputs inputs) n next) at nexts.0;
          same_width = nexts.1 ∙ kinds.1.1 ∙ sym seeds.1;
        };
        same = items.1;
      }
  stream_reads (Map of body) scope ks h w =
      let under = under_kinds (stream_kinds inputs scope of) (λ row. row_kinds inputs (scope ++ row) body) ks h in
      let row = under.0 in
      let words = both_true (pipe_has_words of) (all_have_words body) w in
      let below = stream_reads of scope row under.1.0 words.0 in
      let bodies = row_reads (scope ++ row) body ks under.1.1 words.1 in
      let at : length (scope ++ row) ≡ length scope + stream_width of = omega (arith, length-append scope row, below.same) in
      record { reads = (below.reads, subst (λ n. RowReadsScope (declared_inputs inputs) n body) at bodies.0); same = bodies.1 }
  stream_reads (Filter of e) scope ks h w =
      let words = both_true (pipe_has_words of) (has_words e) w in
      let stage = tested_reads scope of (λ row q. stream_reads of scope row q words.0) e words.1 ks h in
      record { reads = stage.0; same = stage.1 }
  stream_reads (Take of e) scope ks h w =
      let words = both_true (pipe_has_words of) (has_words e) w in
      let stage = opened_reads scope of (λ row q. stream_reads of scope row q words.0) e words.1 ks h in
      record { reads = stage.0; same = stage.1 }
  stream_reads (Drop of e) scope ks h w =
      let words = both_true (pipe_has_words of) (has_words e) w in
      let stage = opened_reads scope of (λ row q. stream_reads of scope row q words.0) e words.1 ks h in
      record { reads = stage.0; same = stage.1 }
  stream_reads (TakeWhile of e) scope ks h w =
      let words = both_true (pipe_has_words of) (has_words e) w in
      let stage = tested_reads scope of (λ row q. stream_reads of scope row q words.0) e words.1 ks h in
      record { reads = stage.0; same = stage.1 }
  stream_reads (Scan of seed next) scope ks h w =
      let under = under_kinds (stream_kinds inputs scope of) (λ row. state_kinds inputs scope row seed next) ks h in
      let a = both_true (pipe_has_words of) (all_have_words seed && all_have_words next) w in
      let b = both_true (all_have_words seed) (all_have_words next) a.1 in
      let below = stream_reads of scope under.0 under.1.0 a.0 in
      let state = state_reads scope under.0 seed next ks (stream_width of) below.same under.1.1 b.0 b.1 in
      record { reads = (below.reads, state.0); same = state.1 }
  stream_reads (FlatMap of inner) scope ks h w =
      let under = under_kinds (stream_kinds inputs scope of) (λ row. stream_kinds inputs (scope ++ row) inner) ks h in
      let row = under.0 in
      let words = both_true (pipe_has_words of) (pipe_has_words inner) w in
      let below = stream_reads of scope row under.1.0 words.0 in
      let inners = stream_reads inner (scope ++ row) ks under.1.1 words.1 in
      let at : length (scope ++ row) ≡ length scope + stream_width of = omega (arith, length-append scope row, below.same) in
      record { reads = (below.reads, subst (λ n. StreamReadsScope (declared_inputs inputs) n inner) at inners.reads); same = inners.same }
  stream_reads (Zip left right) scope ks h w =
      let first = under_kinds (stream_kinds inputs scope left) (λ a. with_kinds (stream_kinds inputs scope right) (λ b. joined_kinds a b)) ks h in
      let second = under_kinds (stream_kinds inputs scope right) (λ b. joined_kinds first.0 b) ks first.1.1 in
      let both = first.0 ++ second.0 in
      let test = chosen (nat_le (length both) 8) (Some both) ks second.1.1 in
      let words = both_true (pipe_has_words left) (pipe_has_words right) w in
      let lefts = stream_reads left scope first.0 first.1.0 words.0 in
      let rights = stream_reads right scope second.0 second.1.0 words.1 in
      let joined : stream_width left + stream_width right ≡ length both = omega (arith, length-append first.0 second.0, lefts.same, rights.same) in
      let few : stream_width left + stream_width right ≤ 8 = omega (arith, joined, leb-true (length both) 8 test.0) in
      record { reads = (lefts.reads, rights.reads, few); same = joined ∙ ap length (some_same both ks test.1) }

  -- ---- programs

  finish_reads : (t : Finish) (row ks : List Kind) (width : ℕ) → width ≡ length row → finish_kinds inputs t row ≡ Some ks → IsTrue (finish_has_words t) → FinishReadsScope (declared_inputs inputs) width t
  finish_reads (Fold seed next) row ks width wide h w =
      let words = both_true (all_have_words seed) (all_have_words next) w in
      (state_reads [] row seed next ks width wide h words.0 words.1).0
  finish_reads Print row ks width wide h w = tt

  pub program_reads : (s : Stream) (t : Terminal) → IsTrue (is_typed inputs s t) → IsTrue (program_has_words s t) → StreamReadsScope (declared_inputs inputs) 0 (pipe_of s) × FinishReadsScope (declared_inputs inputs) (stream_width (pipe_of s)) (finish_of t)
  program_reads s t h w =
      let typed = both_true (has_kinds (program_kinds inputs (pipe_of s) (finish_of t))) (is_within_limits inputs (pipe_of s) (finish_of t)) h in
      let kinds = some_kinds (program_kinds inputs (pipe_of s) (finish_of t)) typed.0 in
      let under = under_kinds (stream_kinds inputs [] (pipe_of s)) (λ row. finish_kinds inputs (finish_of t) row) kinds.0 kinds.1 in
      let words = both_true (pipe_has_words (pipe_of s)) (finish_has_words (finish_of t)) w in
      let below = stream_reads (pipe_of s) [] under.0 under.1.0 words.0 in
      (below.reads, finish_reads (finish_of t) under.0 kinds.0 (stream_width (pipe_of s)) below.same under.1.1 words.1)

  -- the rows of a typed stream are words, as many as it has kinds
  pub typed_rows : (scope ks : List Kind) (p : Pipe) → stream_kinds inputs scope p ≡ Some ks → IsTrue (pipe_has_words p) → (values : List Input) → Fits values inputs → (env : List ℕ) → All IsWord env → (n : ℕ) → AreRows (length ks) (denotation p env values n)
  typed_rows scope ks p h w values fits env words n =
      subst (λ m. AreRows m (denotation p env values n)) (stream_reads p scope ks h w).same (stream_rows values inputs fits n p w env words)

-- no row is too wide
pub width_few : (may : InputNames) (n : ℕ) (p : Pipe) → StreamReadsScope may n p → stream_width p ≤ 8
width_few may n (Array k) h = omega arith
width_few may n (Range a b) h = omega arith
width_few may n (Unfold seed guard item next) h = h.item_reads.few
width_few may n (Map of body) h = h.1.few
width_few may n (Filter of e) h = width_few may n of h.0
width_few may n (Take of e) h = width_few may n of h.0
width_few may n (Drop of e) h = width_few may n of h.0
width_few may n (TakeWhile of e) h = width_few may n of h.0
width_few may n (Scan of seed next) h = h.1.next_reads.few
width_few may n (FlatMap of inner) h = width_few may (n + stream_width of) inner h.1
width_few may n (Zip left right) h = h.2
