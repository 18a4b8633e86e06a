-- With one pull more, a pipeline's rows go at least as far, and so do what is seen of them and its work.
use Rattle.std.proofs.Common.{◌≡◌, ℕ, zero, suc, ◌+◌, ◌-◌, ◌≤◌, List, [], ◌∷◌, ◌++◌, subst, arith}
use Rattle.std.specs.Prelude.{slice_get}
use Rattle.strm_num.specs.Words.{signed}
use Rattle.list_denotation.specs.declared.input.Input.{Input}
use Rattle.list_denotation.specs.Terms.{Pipe, Array, Range, Unfold, Map, Filter, Take, Drop, TakeWhile, Scan, FlatMap, Zip, Pipeline}
use Rattle.list_denotation.specs.Inputs.{items_in}
use Rattle.list_denotation.specs.Values.{Got, value, row_value}
use Rattle.list_denotation.specs.Rows.{End, Rows, firsts, single_rows, unfold_rows}
use Rattle.list_denotation.specs.Denotation.{count_of, words_between, denotation}
use Rattle.list_denotation.specs.Observation.{observation}
use Rattle.list_denotation.specs.Far.{Far}
use Rattle.list_denotation.specs.Work.{row_count, stream_work, work}
use Rattle.denotation_laws.specs.FarRows.{FarRows, CutOff, SameEnd, SameRow}
use Rattle.denotation_laws.proofs.FarRowsOrder.{far_itself, far_rows_trans}
use Rattle.denotation_laws.proofs.OpeningSums.{sum_at_most}
use Rattle.denotation_laws.proofs.FarStages.{unless_far, choice_far, map_far, filter_far, take_far, drop_far, take_while_far, scan_far, join_far, zip_far, finish_far}

-- ---- sources

firsts_far : (n : ℕ) (rs : List (List ℕ)) → FarRows (firsts n rs) (firsts (suc n) rs)
firsts_far n [] = SameEnd End
firsts_far zero (r ∷ rs) = CutOff _
firsts_far (suc n) (r ∷ rs) = SameRow r (firsts_far n rs)

unfold_far : (guard : List ℕ → Got ℕ) (item next : List ℕ → Got (List ℕ)) (n : ℕ) (state : List ℕ) → FarRows (unfold_rows guard item next n state) (unfold_rows guard item next (suc n) state)
unfold_far guard item next zero state = unless_far (guard state) _ _ (λ w. choice_far w _ _ _ _ (SameEnd End) (CutOff _))
unfold_far guard item next (suc n) state =
    unless_far (guard state) _ _ (λ w. choice_far w _ _ _ _ (SameEnd End)
    (unless_far (item state) _ _ (λ r. unless_far (next state) _ _ (λ s. SameRow r (unfold_far guard item next n s)))))

-- ---- streams

module _ (inputs : List Input) (n : ℕ) where
  stream_far : (p : Pipe) (env : List ℕ) → FarRows (denotation p env inputs n) (denotation p env inputs (suc n))
  stream_far (Array k) env = firsts_far n (single_rows (items_in (slice_get inputs k)))
  stream_far (Range a b) env =
      unless_far (value a env inputs) _ _ (λ low. unless_far (value b env inputs) _ _ (λ high. firsts_far n (single_rows (words_between low high))))
  stream_far (Unfold seed guard item next) env = unless_far (row_value seed env inputs) _ _ (λ s. unfold_far _ _ _ n s)
  stream_far (Map of body) env = map_far (λ r. row_value body (env ++ r) inputs) (stream_far of env)
  stream_far (Filter of e) env = filter_far (λ r. value e (env ++ r) inputs) (stream_far of env)
  stream_far (Take of e) env = unless_far (value e env inputs) _ _ (λ k. take_far (count_of (signed k)) (stream_far of env))
  stream_far (Drop of e) env = unless_far (value e env inputs) _ _ (λ k. drop_far (count_of (signed k)) (stream_far of env))
  stream_far (TakeWhile of e) env = take_while_far (λ r. value e (env ++ r) inputs) (stream_far of env)
  stream_far (Scan of seed next) env =
      unless_far (row_value seed env inputs) _ _ (λ s.
      scan_far (λ state r. row_value next (env ++ (state ++ r)) inputs) s (stream_far of env))
  stream_far (FlatMap of inner) env =
      join_far (λ r. denotation inner (env ++ r) inputs n) (λ r. denotation inner (env ++ r) inputs (suc n)) (stream_far of env)
      (λ r among. stream_far inner (env ++ r))
  stream_far (Zip left right) env = zip_far (stream_far left env) (stream_far right env)

-- ---- any greater bound

-- what holds from each number to the next, holds from one number to any that isn't less
module _ (R : ℕ → ℕ → Type 0) (itself : (n : ℕ) → R n n) (further : (l m n : ℕ) → R l m → R m n → R l n) (step : (n : ℕ) → R n (n + 1)) where
  climb_by : (n k : ℕ) → R n (n + k)
  climb_by n zero = let e : n ≡ n + 0 = omega arith in subst (λ m. R n m) e (itself n)
  climb_by n (suc k) =
      let e : n + k + 1 ≡ n + suc k = omega arith in
      further n (n + k) (n + suc k) (climb_by n k) (subst (λ m. R (n + k) m) e (step (n + k)))

  climb : (n m : ℕ) → n ≤ m → R n m
  climb n m le = let e : n + (m - n) ≡ m = omega arith in subst (λ x. R n x) e (climb_by n (m - n))

one_more : (n : ℕ) → suc n ≡ n + 1
one_more n = omega arith

pub rows_grow : (p : Pipe) (env : List ℕ) (inputs : List Input) (n : ℕ) → FarRows (denotation p env inputs n) (denotation p env inputs (n + 1))
rows_grow p env inputs n = subst (λ m. FarRows (denotation p env inputs n) (denotation p env inputs m)) (one_more n) (stream_far inputs n p env)

pub observation_grows : (p : Pipeline) (inputs : List Input) (n : ℕ) → Far (observation p inputs n) (observation p inputs (n + 1))
observation_grows p inputs n = finish_far p.terminal inputs (rows_grow p.stream [] inputs n)

pub rows_grow_on : (p : Pipe) (env : List ℕ) (inputs : List Input) (n m : ℕ) → n ≤ m → FarRows (denotation p env inputs n) (denotation p env inputs m)
rows_grow_on p env inputs n m le =
    climb (λ a b. FarRows (denotation p env inputs a) (denotation p env inputs b)) (λ a. far_itself (denotation p env inputs a))
    (λ a b c h k. far_rows_trans h k) (λ a. rows_grow p env inputs a) n m le

pub observation_grows_on : (p : Pipeline) (inputs : List Input) (n m : ℕ) → n ≤ m → Far (observation p inputs n) (observation p inputs m)
observation_grows_on p inputs n m le = finish_far p.terminal inputs (rows_grow_on p.stream [] inputs n m le)

-- ---- work

count_far : {o u : Rows} → FarRows o u → row_count o ≤ row_count u
count_far (CutOff u) = omega arith
count_far (SameEnd e) = omega arith
count_far (SameRow r h) = omega (arith, count_far h)

module _ (inputs : List Input) (n : ℕ) where
  source_grows : (p : Pipe) (env : List ℕ) → row_count (denotation p env inputs n) + 1 ≤ row_count (denotation p env inputs (suc n)) + 1
  source_grows p env = omega (arith, count_far (stream_far inputs n p env))

  stream_work_grows : (p : Pipe) (env : List ℕ) → stream_work p env inputs n ≤ stream_work p env inputs (suc n)
  stream_work_grows (Array k) env = source_grows (Array k) env
  stream_work_grows (Range a b) env = source_grows (Range a b) env
  stream_work_grows (Unfold seed guard item next) env = source_grows (Unfold seed guard item next) env
  stream_work_grows (Map of body) env = stream_work_grows of env
  stream_work_grows (Filter of e) env = stream_work_grows of env
  stream_work_grows (Take of e) env = stream_work_grows of env
  stream_work_grows (Drop of e) env = stream_work_grows of env
  stream_work_grows (TakeWhile of e) env = stream_work_grows of env
  stream_work_grows (Scan of seed next) env = stream_work_grows of env
  stream_work_grows (FlatMap of inner) env =
      let sum = sum_at_most (λ r. denotation inner (env ++ r) inputs n) (λ r. denotation inner (env ++ r) inputs (suc n))
      (λ r. stream_work inner (env ++ r) inputs n) (λ r. stream_work inner (env ++ r) inputs (suc n)) _ _ (stream_far inputs n of env)
      (λ r among. stream_far inputs n inner (env ++ r)) (λ r among. stream_work_grows inner (env ++ r)) in
      omega (arith, stream_work_grows of env, sum)
  stream_work_grows (Zip left right) env = omega (arith, stream_work_grows left env, stream_work_grows right env)

pub work_grows : (p : Pipeline) (inputs : List Input) (n : ℕ) → work p inputs n ≤ work p inputs (n + 1)
work_grows p inputs n =
    subst (λ m. work p inputs n ≤ work p inputs m) (one_more n) (stream_work_grows inputs n p.stream [])

pub work_grows_on : (p : Pipeline) (inputs : List Input) (n m : ℕ) → n ≤ m → work p inputs n ≤ work p inputs m
work_grows_on p inputs n m le =
    climb (λ a b. work p inputs a ≤ work p inputs b) (λ a. omega arith) (λ a b c h k. omega arith) (λ a. work_grows p inputs a) n m le
