-- The kinds of typed expressions, rows and streams.
use Rattle.std.proofs.Common.{◌≡◌, ℕ, ◌+◌, ◌≤◌, List, [], ◌∷◌, ◌++◌, length, drop, Option, Some, None, Bool, true, false, ◌&&◌, refl, sym, ap, subst, ◌∙◌, append_assoc}
use Rattle.std.specs.Prelude.{IsTrue, IsSome, slice_get, nat_le, if◌then◌else◌}
use Rattle.std.proofs.lemmas.List.{drop_all}
use Rattle.strm_num.proofs.Lists.{drop_at}
use Rattle.list_denotation.specs.declared.expr.Expr.{Expr}
use Rattle.list_denotation.specs.declared.input.InputKind.{InputKind}
use Rattle.list_denotation.specs.declared.kind.Kind.{Kind}
use Rattle.list_denotation.specs.declared.kind.Kind.TheVariants as kind
use Rattle.list_denotation.specs.declared.stream.Stream.{Stream}
use Rattle.list_denotation.specs.declared.terminal.Terminal.{Terminal}
use Rattle.list_denotation.specs.Terms.{Term, Pipe, Array, Range, Unfold, Map, Filter, Take, Drop, TakeWhile, Scan, FlatMap, Zip, Finish, Fold, Print}
use Rattle.list_denotation.specs.Copies.{term_of, terms_of, pipe_of, finish_of}
use Rattle.list_denotation.specs.Typing.{kind_if, kind_of, is_kind, all_undivided, one_more, kinds_of, row_kinds, same_kinds, seed_kinds, opens, with_kinds, kinds_where, is_array, state_kinds, unfold_kinds, joined_kinds, append_kinds, stream_kinds, finish_kinds, program_kinds, has_kinds, is_typed}
use Rattle.list_denotation.proofs.Limits.{is_kinded}

-- ---- expressions

pub kind_where : (b : Bool) (k : Kind) → IsSome (kind_if b k) → kind_if b k ≡ Some k
kind_where true k h = refl
kind_where false k h = absurd cc

pub branch_kind : (b : Bool) (k : Option Kind) → IsSome (if b then k else None) → (if b then k else None) ≡ k
branch_kind true k h = refl
branch_kind false k h = absurd cc

pub ruleset kind_steps = (kind_where, branch_kind)

-- ---- rows

append_push : (ks : List Kind) (k : Kind) (rest : Option (List Kind)) → append_kinds (ks ++ k ∷ []) rest ≡ append_kinds ks (one_more (Some k) rest)
append_push ks k None = refl
append_push ks k (Some js) = ap Some (append_assoc ks (k ∷ []) js)

append_none : (ks : List Kind) → ks ++ [] ≡ ks
append_none [] = refl
append_none (k ∷ ks) = ap (λ js. k ∷ js) (append_none ks)

has_appended : (ks : List Kind) (o : Option (List Kind)) → has_kinds (append_kinds ks o) ≡ has_kinds o
has_appended ks None = refl
has_appended ks (Some js) = refl

first_some : (o : Option Kind) (rest : Option (List Kind)) → IsTrue (has_kinds (one_more o rest)) → IsSome o
first_some None rest h = absurd cc
first_some (Some k) rest h = refl

module _ (inputs : List InputKind) (scope : List Kind) where
  rest_at : (row : List Expr) (i : ℕ) (e : Expr) → slice_get row i ≡ Some e → kinds_of inputs scope (terms_of (drop i row)) ≡ one_more (kind_of inputs scope (term_of e)) (kinds_of inputs scope (terms_of (drop (i + 1) row)))
  rest_at row i e h = ap (λ l. kinds_of inputs scope (terms_of l)) (drop_at row i e h)

  pub kinds_step : (kinds : List Kind) (row : List Expr) (i : ℕ) (e : Expr) (k : Kind) → slice_get row i ≡ Some e → kind_of inputs scope (term_of e) ≡ Some k → append_kinds (kinds ++ k ∷ []) (kinds_of inputs scope (terms_of (drop (i + 1) row))) ≡ append_kinds kinds (kinds_of inputs scope (terms_of (drop i row)))
  kinds_step kinds row i e k h q =
      append_push kinds k (kinds_of inputs scope (terms_of (drop (i + 1) row)))
      ∙ ap (append_kinds kinds) (sym (rest_at row i e h ∙ ap (λ o. one_more o (kinds_of inputs scope (terms_of (drop (i + 1) row)))) q))

  -- each expression of a row that has kinds has one
  pub kind_is_some : (old kinds : List Kind) (row : List Expr) (i : ℕ) (e : Expr) → slice_get row i ≡ Some e → append_kinds kinds (kinds_of inputs scope (terms_of (drop i row))) ≡ append_kinds old (kinds_of inputs scope (terms_of row)) → IsTrue (has_kinds (kinds_of inputs scope (terms_of row))) → IsSome (kind_of inputs scope (term_of e))
  kind_is_some old kinds row i e h q has =
      first_some (kind_of inputs scope (term_of e)) (kinds_of inputs scope (terms_of (drop (i + 1) row)))
      (sym (ap has_kinds (rest_at row i e h)) ∙ sym (has_appended kinds (kinds_of inputs scope (terms_of (drop i row))))
      ∙ ap has_kinds q ∙ has_appended old (kinds_of inputs scope (terms_of row)) ∙ has)

  pub kinds_end : (kinds : List Kind) (row : List Expr) (i : ℕ) → length row ≤ i → append_kinds kinds (kinds_of inputs scope (terms_of (drop i row))) ≡ Some kinds
  kinds_end kinds row i h = ap (λ l. append_kinds kinds (kinds_of inputs scope (terms_of l))) (drop_all i row h) ∙ ap Some (append_none kinds)

pub ruleset row_steps = (kinds_step, kinds_end)

-- ---- what stands under a condition

guarded : (b : Bool) (o : Option (List Kind)) → IsTrue (has_kinds (if b then o else None)) → (if b then o else None) ≡ o
guarded true o h = refl
guarded false o h = absurd cc

kept_where : (b : Bool) (ks : List Kind) → IsTrue (has_kinds (kinds_where b ks)) → kinds_where b ks ≡ Some ks
kept_where true ks h = refl
kept_where false ks h = absurd cc

first_has : (o : Option (List Kind)) (f : List Kind → Option (List Kind)) → IsTrue (has_kinds (with_kinds o f)) → IsTrue (has_kinds o)
first_has None f h = h
first_has (Some ks) f h = refl

-- where the conditions hold, a test passes the kinds on
passed_on : (o : Option (List Kind)) (test : List Kind → Bool) → IsTrue (has_kinds (with_kinds o (λ ks. kinds_where (test ks) ks))) → with_kinds o (λ ks. kinds_where (test ks) ks) ≡ o
passed_on None test h = refl
passed_on (Some ks) test h = kept_where (test ks) ks h

-- what is the same under each row, and asked for some row
state_after : (o : Option (List Kind)) (f : List Kind → Option (List Kind)) (state : Option (List Kind)) → ((row : List Kind) → IsTrue (has_kinds (f row)) → f row ≡ state) → IsTrue (has_kinds (with_kinds o f)) → with_kinds o f ≡ state
state_after None f state same h = absurd cc
state_after (Some row) f state same h = same row h

-- what was appended behind some kinds
appended : (first all : List Kind) (o : Option (List Kind)) → append_kinds first o ≡ Some all → (ks : List Kind) × (o ≡ Some ks) × (all ≡ first ++ ks)
appended first all None h = absurd cc
appended first all (Some ks) h = let e : first ++ ks ≡ all = cc in (ks, refl, sym e)

along : {a b : Option (List Kind)} → a ≡ b → IsTrue (has_kinds a) → IsTrue (has_kinds b)
along e h = sym (ap has_kinds e) ∙ h

module _ (inputs : List InputKind) where
  row_is : (scope : List Kind) (es : List Term) → IsTrue (has_kinds (row_kinds inputs scope es)) → row_kinds inputs scope es ≡ kinds_of inputs scope es
  row_is scope es h = guarded (nat_le 1 (length es) && nat_le (length es) 8) (kinds_of inputs scope es) h

  seed_is : (scope : List Kind) (es : List Term) → IsTrue (has_kinds (seed_kinds inputs scope es)) → seed_kinds inputs scope es ≡ kinds_of inputs scope es
  seed_is scope es h =
      let e : seed_kinds inputs scope es ≡ row_kinds inputs scope es = guarded (all_undivided es) (row_kinds inputs scope es) h in
      e ∙ row_is scope es (along e h)

  state_is : (scope row : List Kind) (seed next : List Term) → IsTrue (has_kinds (state_kinds inputs scope row seed next)) → state_kinds inputs scope row seed next ≡ kinds_of inputs scope seed
  state_is scope row seed next h =
      let e : state_kinds inputs scope row seed next ≡ seed_kinds inputs scope seed = passed_on (seed_kinds inputs scope seed) (λ state. same_kinds state (row_kinds inputs ((scope ++ state) ++ row) next)) h in
      e ∙ seed_is scope seed (along e h)

  -- ---- sources

  array_is : (scope : List Kind) (k : ℕ) → IsTrue (has_kinds (stream_kinds inputs scope (Array k))) → stream_kinds inputs scope (Array k) ≡ Some (kind.Int ∷ [])
  array_is scope k h = kept_where (is_array (slice_get inputs k)) (kind.Int ∷ []) h

  range_is : (scope : List Kind) (a b : Term) → IsTrue (has_kinds (stream_kinds inputs scope (Range a b))) → stream_kinds inputs scope (Range a b) ≡ Some (kind.Int ∷ [])
  range_is scope a b h = kept_where (opens inputs scope kind.Int a && opens inputs scope kind.Int b) (kind.Int ∷ []) h

  pub array_pushed : (scope : List Kind) (k : ℕ) (old new : List Kind) → IsTrue (has_kinds (stream_kinds inputs scope (Array k))) → new ≡ old ++ kind.Int ∷ [] → append_kinds old (stream_kinds inputs scope (Array k)) ≡ Some new
  array_pushed scope k old new h e = ap (append_kinds old) (array_is scope k h) ∙ ap Some (sym e)

  pub range_pushed : (scope : List Kind) (a b : Term) (old new : List Kind) → IsTrue (has_kinds (stream_kinds inputs scope (Range a b))) → new ≡ old ++ kind.Int ∷ [] → append_kinds old (stream_kinds inputs scope (Range a b)) ≡ Some new
  range_pushed scope a b old new h e = ap (append_kinds old) (range_is scope a b h) ∙ ap Some (sym e)

  pub unfold_seed : (scope : List Kind) (seed : List Term) (guard : Term) (item next : List Term) → IsTrue (has_kinds (stream_kinds inputs scope (Unfold seed guard item next))) → IsTrue (has_kinds (kinds_of inputs scope seed))
  unfold_seed scope seed guard item next h =
      let has = first_has (seed_kinds inputs scope seed) (λ state. unfold_kinds inputs scope guard item next state) h in
      along (seed_is scope seed has) has

  unfold_at : (scope : List Kind) (seed : List Term) (guard : Term) (item next : List Term) (state : List Kind) → IsTrue (has_kinds (stream_kinds inputs scope (Unfold seed guard item next))) → kinds_of inputs scope seed ≡ Some state → stream_kinds inputs scope (Unfold seed guard item next) ≡ row_kinds inputs (scope ++ state) item
  unfold_at scope seed guard item next state h q =
      let f : List Kind → Option (List Kind) = λ ks. unfold_kinds inputs scope guard item next ks in
      let has = first_has (seed_kinds inputs scope seed) f h in
      let e : stream_kinds inputs scope (Unfold seed guard item next) ≡ unfold_kinds inputs scope guard item next state = ap (λ o. with_kinds o f) (seed_is scope seed has ∙ q) in
      e ∙ guarded (opens inputs (scope ++ state) kind.Bool guard && same_kinds state (row_kinds inputs (scope ++ state) next)) (row_kinds inputs (scope ++ state) item) (along e h)

  pub unfold_is : (scope : List Kind) (seed : List Term) (guard : Term) (item next : List Term) (bound : List Kind) → IsTrue (has_kinds (stream_kinds inputs scope (Unfold seed guard item next))) → append_kinds scope (kinds_of inputs scope seed) ≡ Some bound → stream_kinds inputs scope (Unfold seed guard item next) ≡ kinds_of inputs bound item
  unfold_is scope seed guard item next bound h q =
      let state = appended scope bound (kinds_of inputs scope seed) q in
      let e = unfold_at scope seed guard item next state.0 h state.1 in
      e ∙ row_is (scope ++ state.0) item (along e h) ∙ ap (λ ks. kinds_of inputs ks item) (sym state.2)

  pub unfold_item : (scope : List Kind) (seed : List Term) (guard : Term) (item next : List Term) (bound : List Kind) → IsTrue (has_kinds (stream_kinds inputs scope (Unfold seed guard item next))) → append_kinds scope (kinds_of inputs scope seed) ≡ Some bound → IsTrue (has_kinds (kinds_of inputs bound item))
  unfold_item scope seed guard item next bound h q = along (unfold_is scope seed guard item next bound h q) h

  -- ---- stages

  map_at : (scope : List Kind) (of : Pipe) (body : List Term) (row : List Kind) → stream_kinds inputs scope of ≡ Some row → stream_kinds inputs scope (Map of body) ≡ row_kinds inputs (scope ++ row) body
  map_at scope of body row q = ap (λ o. with_kinds o (λ ks. row_kinds inputs (scope ++ ks) body)) q

  pub map_first : (scope : List Kind) (of : Pipe) (body : List Term) → IsTrue (has_kinds (stream_kinds inputs scope (Map of body))) → IsTrue (has_kinds (stream_kinds inputs scope of))
  map_first scope of body h = first_has (stream_kinds inputs scope of) (λ row. row_kinds inputs (scope ++ row) body) h

  pub map_is : (scope : List Kind) (of : Pipe) (body : List Term) (bound : List Kind) → IsTrue (has_kinds (stream_kinds inputs scope (Map of body))) → append_kinds scope (stream_kinds inputs scope of) ≡ Some bound → stream_kinds inputs scope (Map of body) ≡ kinds_of inputs bound body
  map_is scope of body bound h q =
      let row = appended scope bound (stream_kinds inputs scope of) q in
      let e = map_at scope of body row.0 row.1 in
      e ∙ row_is (scope ++ row.0) body (along e h) ∙ ap (λ ks. kinds_of inputs ks body) (sym row.2)

  pub map_body : (scope : List Kind) (of : Pipe) (body : List Term) (bound : List Kind) → IsTrue (has_kinds (stream_kinds inputs scope (Map of body))) → append_kinds scope (stream_kinds inputs scope of) ≡ Some bound → IsTrue (has_kinds (kinds_of inputs bound body))
  map_body scope of body bound h q = along (map_is scope of body bound h q) h

  pub filter_is : (scope : List Kind) (of : Pipe) (e : Term) → IsTrue (has_kinds (stream_kinds inputs scope (Filter of e))) → stream_kinds inputs scope (Filter of e) ≡ stream_kinds inputs scope of
  filter_is scope of e h = passed_on (stream_kinds inputs scope of) (λ row. is_kind kind.Bool (kind_of inputs (scope ++ row) e)) h

  pub take_is : (scope : List Kind) (of : Pipe) (e : Term) → IsTrue (has_kinds (stream_kinds inputs scope (Take of e))) → stream_kinds inputs scope (Take of e) ≡ stream_kinds inputs scope of
  take_is scope of e h = passed_on (stream_kinds inputs scope of) (λ row. opens inputs scope kind.Int e) h

  pub drop_is : (scope : List Kind) (of : Pipe) (e : Term) → IsTrue (has_kinds (stream_kinds inputs scope (Drop of e))) → stream_kinds inputs scope (Drop of e) ≡ stream_kinds inputs scope of
  drop_is scope of e h = passed_on (stream_kinds inputs scope of) (λ row. opens inputs scope kind.Int e) h

  pub take_while_is : (scope : List Kind) (of : Pipe) (e : Term) → IsTrue (has_kinds (stream_kinds inputs scope (TakeWhile of e))) → stream_kinds inputs scope (TakeWhile of e) ≡ stream_kinds inputs scope of
  take_while_is scope of e h = passed_on (stream_kinds inputs scope of) (λ row. is_kind kind.Bool (kind_of inputs (scope ++ row) e)) h

  pub scan_is : (scope : List Kind) (of : Pipe) (seed next : List Term) → IsTrue (has_kinds (stream_kinds inputs scope (Scan of seed next))) → stream_kinds inputs scope (Scan of seed next) ≡ kinds_of inputs scope seed
  scan_is scope of seed next h = state_after (stream_kinds inputs scope of) (λ row. state_kinds inputs scope row seed next) (kinds_of inputs scope seed) (λ row. state_is scope row seed next) h

  -- ---- streams of streams

  pub flat_first : (scope : List Kind) (of inner : Pipe) → IsTrue (has_kinds (stream_kinds inputs scope (FlatMap of inner))) → IsTrue (has_kinds (stream_kinds inputs scope of))
  flat_first scope of inner h = first_has (stream_kinds inputs scope of) (λ row. stream_kinds inputs (scope ++ row) inner) h

  pub flat_is : (scope : List Kind) (of inner : Pipe) (bound : List Kind) → append_kinds scope (stream_kinds inputs scope of) ≡ Some bound → stream_kinds inputs scope (FlatMap of inner) ≡ stream_kinds inputs bound inner
  flat_is scope of inner bound q =
      let row = appended scope bound (stream_kinds inputs scope of) q in
      ap (λ o. with_kinds o (λ ks. stream_kinds inputs (scope ++ ks) inner)) row.1 ∙ ap (λ ks. stream_kinds inputs ks inner) (sym row.2)

  pub flat_inner : (scope : List Kind) (of inner : Pipe) (bound : List Kind) → IsTrue (has_kinds (stream_kinds inputs scope (FlatMap of inner))) → append_kinds scope (stream_kinds inputs scope of) ≡ Some bound → IsTrue (has_kinds (stream_kinds inputs bound inner))
  flat_inner scope of inner bound h q = along (flat_is scope of inner bound q) h

  pub zip_first : (scope : List Kind) (left right : Pipe) → IsTrue (has_kinds (stream_kinds inputs scope (Zip left right))) → IsTrue (has_kinds (stream_kinds inputs scope left))
  zip_first scope left right h = first_has (stream_kinds inputs scope left) (λ a. with_kinds (stream_kinds inputs scope right) (λ b. joined_kinds a b)) h

  zip_at : (scope : List Kind) (left right : Pipe) (a : List Kind) → stream_kinds inputs scope left ≡ Some a → stream_kinds inputs scope (Zip left right) ≡ with_kinds (stream_kinds inputs scope right) (λ b. joined_kinds a b)
  zip_at scope left right a q = ap (λ o. with_kinds o (λ ks. with_kinds (stream_kinds inputs scope right) (λ b. joined_kinds ks b))) q

  pub zip_second : (scope : List Kind) (left right : Pipe) (old mid : List Kind) → IsTrue (has_kinds (stream_kinds inputs scope (Zip left right))) → append_kinds old (stream_kinds inputs scope left) ≡ Some mid → IsTrue (has_kinds (stream_kinds inputs scope right))
  zip_second scope left right old mid h q =
      let a = appended old mid (stream_kinds inputs scope left) q in
      first_has (stream_kinds inputs scope right) (λ b. joined_kinds a.0 b) (along (zip_at scope left right a.0 a.1) h)

  zip_is : (scope : List Kind) (left right : Pipe) (a b : List Kind) → IsTrue (has_kinds (stream_kinds inputs scope (Zip left right))) → stream_kinds inputs scope left ≡ Some a → stream_kinds inputs scope right ≡ Some b → stream_kinds inputs scope (Zip left right) ≡ Some (a ++ b)
  zip_is scope left right a b h q r =
      let e : stream_kinds inputs scope (Zip left right) ≡ joined_kinds a b = zip_at scope left right a q ∙ ap (λ o. with_kinds o (λ ks. joined_kinds a ks)) r in
      e ∙ kept_where (nat_le (length (a ++ b)) 8) (a ++ b) (along e h)

  pub zip_pushed : (scope : List Kind) (left right : Pipe) (old mid new : List Kind) → IsTrue (has_kinds (stream_kinds inputs scope (Zip left right))) → append_kinds old (stream_kinds inputs scope left) ≡ Some mid → append_kinds mid (stream_kinds inputs scope right) ≡ Some new → append_kinds old (stream_kinds inputs scope (Zip left right)) ≡ Some new
  zip_pushed scope left right old mid new h q r =
      let a = appended old mid (stream_kinds inputs scope left) q in
      let b = appended mid new (stream_kinds inputs scope right) r in
      ap (append_kinds old) (zip_is scope left right a.0 b.0 h a.1 b.1)
      ∙ ap Some (sym (append_assoc old a.0 b.0) ∙ ap (λ ks. ks ++ b.0) (sym a.2) ∙ sym b.2)

  -- ---- programs

  fold_is : (s : Pipe) (seed next : List Term) → IsTrue (has_kinds (program_kinds inputs s (Fold seed next))) → program_kinds inputs s (Fold seed next) ≡ kinds_of inputs [] seed
  fold_is s seed next h =
      state_after (stream_kinds inputs [] s) (λ row. finish_kinds inputs (Fold seed next) row) (kinds_of inputs [] seed) (λ row. state_is [] row seed next) h

print_is : (o : Option (List Kind)) → with_kinds o (λ row. Some row) ≡ o
print_is None = refl
print_is (Some row) = refl

behind_nothing : (o : Option (List Kind)) → append_kinds [] o ≡ o
behind_nothing None = refl
behind_nothing (Some ks) = refl

module _ (inputs : List InputKind) (s : Stream) (t : Terminal) (h : IsTrue (is_typed inputs s t)) where
  pub typed_stream : IsTrue (has_kinds (stream_kinds inputs [] (pipe_of s)))
  typed_stream = first_has (stream_kinds inputs [] (pipe_of s)) (λ row. finish_kinds inputs (finish_of t) row) (is_kinded inputs s t h)

  pub typed_fold : (seed next : List Term) → finish_of t ≡ Fold seed next → program_kinds inputs (pipe_of s) (finish_of t) ≡ kinds_of inputs [] seed
  typed_fold seed next e =
      let P : Finish → Type 0 = λ f. IsTrue (has_kinds (program_kinds inputs (pipe_of s) f)) in
      ap (program_kinds inputs (pipe_of s)) e ∙ fold_is inputs (pipe_of s) seed next (subst P e (is_kinded inputs s t h))

  pub typed_seed : (seed next : List Term) → finish_of t ≡ Fold seed next → IsTrue (has_kinds (kinds_of inputs [] seed))
  typed_seed seed next e = along (typed_fold seed next e) (is_kinded inputs s t h)

  pub fold_pushed : (seed next : List Term) (kinds : List Kind) → finish_of t ≡ Fold seed next → append_kinds [] (kinds_of inputs [] seed) ≡ Some kinds → program_kinds inputs (pipe_of s) (finish_of t) ≡ Some kinds
  fold_pushed seed next kinds e q = typed_fold seed next e ∙ sym (behind_nothing (kinds_of inputs [] seed)) ∙ q

pub print_pushed : (inputs : List InputKind) (s : Stream) (t : Terminal) (kinds : List Kind) → finish_of t ≡ Print → append_kinds [] (stream_kinds inputs [] (pipe_of s)) ≡ Some kinds → program_kinds inputs (pipe_of s) (finish_of t) ≡ Some kinds
print_pushed inputs s t kinds e q =
    ap (program_kinds inputs (pipe_of s)) e ∙ print_is (stream_kinds inputs [] (pipe_of s)) ∙ sym (behind_nothing (stream_kinds inputs [] (pipe_of s))) ∙ q

pub ruleset stream_steps = (array_pushed, range_pushed, unfold_seed, unfold_is, unfold_item, map_first, map_is, map_body, filter_is, take_is, drop_is, take_while_is, scan_is, flat_first, flat_is, flat_inner, zip_first, zip_second, zip_pushed)

pub ruleset program_steps = (typed_stream, typed_seed, fold_pushed, print_pushed)
