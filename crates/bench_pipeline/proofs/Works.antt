-- How many rows a list has, and how much work the openings of inner lists are, where each is little; and so the work of the pipeline.
use Rattle.std.proofs.Common.{ℕ, zero, suc, ◌+◌, ◌*◌, ◌≤◌, List, [], ◌∷◌, length, arith}
use Rattle.std.specs.Prelude.{All}
use Rattle.list_denotation.specs.declared.input.Input.{Input}
use Rattle.list_denotation.specs.declared.input.Input.TheVariants as input
use Rattle.list_denotation.specs.Values.{Got, Is, Fails, row_value}
use Rattle.list_denotation.specs.Rows.{End, Cut, Broken, Rows, Ends, Row, unless_broken, firsts, single_rows, map_rows}
use Rattle.list_denotation.specs.Denotation.{words_between, denotation}
use Rattle.list_denotation.specs.Work.{row_count, after_end, sum_over, stream_work, work}
use Rattle.bench_pipeline.specs.Pipelines.{left_arm, right_arm, bench_pipeline}
use Rattle.bench_pipeline.proofs.Generator.{IsItem}
use Rattle.bench_pipeline.proofs.Remainders.{few_between}
use Rattle.bench_pipeline.proofs.Endings.{ComesToEnd}
use Rattle.bench_pipeline.proofs.Arms.{left_key, right_key, left_outer, left_inner, right_outer, right_inner, IsLeftKey, IsRightKey, left_outer_ends, right_outer_ends}

-- ---- how many rows

singles_number : (n : ℕ) (xs : List ℕ) → row_count (firsts n (single_rows xs)) ≤ length xs
singles_number n [] = omega arith
singles_number zero (x ∷ xs) = omega arith
singles_number (suc n) (x ∷ xs) = omega (arith, singles_number n xs)

mapped_number : (f : List ℕ → Got (List ℕ)) (rows : Rows) → row_count (map_rows f rows) ≤ row_count rows
mapped_number f (Ends e) = omega arith
mapped_number f (Row r rest) = by_value (f r) (mapped_number f rest)
  where
    by_value : (x : Got (List ℕ)) → row_count (map_rows f rest) ≤ row_count rest → row_count (unless_broken x (λ s. Row s (map_rows f rest))) ≤ row_count rest + 1
    by_value (Is s) fewer = omega (arith, fewer)
    by_value (Fails e) fewer = omega arith

-- ---- openings

after_any : (rows : Rows) (m : ℕ) → after_end rows m 0 ≤ m
after_any (Ends End) m = omega arith
after_any (Ends Cut) m = omega arith
after_any (Ends (Broken e)) m = omega arith
after_any (Row r rest) m = after_any rest m

-- where each opening adds at most k, all of them add at most k for each outer row
module _ (P : List ℕ → Type 0) (inner : List ℕ → Rows) (part : List ℕ → ℕ) (k : ℕ) (little : (r : List ℕ) → P r → part r ≤ k) where
  openings_are_little : (rows : Rows) → ComesToEnd P rows → sum_over rows inner part ◌+◌ 0 ≤ k * row_count rows
  openings_are_little (Ends e) h = omega arith
  openings_are_little (Row r rest) h =
      omega (arith, little r h.0, after_any (inner r) (sum_over rest inner part ◌+◌ 0), openings_are_little rest h.1)

-- ---- the pipeline

-- each arm reads the items, and opens a range of at most 3 or 2 numbers for each
module _ (items : List ℕ) (n : ℕ) (low : All IsItem items) (few : length items ≤ n) (room : 3 ≤ n) where
  abbrev inputs : List Input
  inputs = input.Array items ∷ []

  left_opening : (r : List ℕ) → IsLeftKey r → stream_work left_inner r inputs n ≤ 4
  left_opening [] h = absurd h
  left_opening (k ∷ []) h = omega (arith, singles_number n (words_between 0 k), few_between k h, h)
  left_opening (k ∷ (j ∷ row)) h = absurd h

  right_opening : (r : List ℕ) → IsRightKey r → stream_work right_inner r inputs n ≤ 3
  right_opening [] h = absurd h
  right_opening (y ∷ []) h = absurd h
  right_opening (y ∷ (k ∷ [])) h = omega (arith, singles_number n (words_between 0 k), few_between k (omega (arith, h)), h)
  right_opening (y ∷ (k ∷ (j ∷ row))) h = absurd h

  outer_number : (f : List ℕ → Got (List ℕ)) → row_count (map_rows f (firsts n (single_rows items))) ≤ length items
  outer_number f = omega (arith, mapped_number f (firsts n (single_rows items)), singles_number n items)

  left_openings : sum_over (denotation left_outer [] inputs n) (λ r. denotation left_inner r inputs n) (λ r. stream_work left_inner r inputs n) ◌+◌ 0 ≤ 4 * row_count (denotation left_outer [] inputs n)
  left_openings =
      openings_are_little IsLeftKey (λ r. denotation left_inner r inputs n) (λ r. stream_work left_inner r inputs n) 4 left_opening
      (denotation left_outer [] inputs n) (left_outer_ends items n low few room)

  right_openings : sum_over (denotation right_outer [] inputs n) (λ r. denotation right_inner r inputs n) (λ r. stream_work right_inner r inputs n) ◌+◌ 0 ≤ 3 * row_count (denotation right_outer [] inputs n)
  right_openings =
      openings_are_little IsRightKey (λ r. denotation right_inner r inputs n) (λ r. stream_work right_inner r inputs n) 3 right_opening
      (denotation right_outer [] inputs n) (right_outer_ends items n low few room)

  left_work : stream_work left_arm [] inputs n ≤ 5 * length items + 1
  left_work = omega (arith, singles_number n items, left_openings, outer_number (λ r. row_value left_key r inputs))

  right_work : stream_work right_arm [] inputs n ≤ 4 * length items + 1
  right_work = omega (arith, singles_number n items, right_openings, outer_number (λ r. row_value right_key r inputs))

  pub work_is_little : work bench_pipeline inputs n ≤ 9 * length items + 2
  work_is_little = omega (arith, left_work, right_work)
