-- The rows of the pipeline's two arms come to their end, and a state of two words is seen of both side by side.
use Rattle.std.proofs.Common.{◌≡◌, ℕ, ◌≤◌, List, [], ◌∷◌, ◌++◌, length, arith}
use Rattle.std.specs.Prelude.{All}
use Rattle.list_denotation.specs.declared.expr.BinOp.TheVariants.{Add, Mul, Rem}
use Rattle.list_denotation.specs.declared.event.Event.TheVariants.{Emit, EndRow}
use Rattle.list_denotation.specs.declared.input.Input.{Input}
use Rattle.list_denotation.specs.declared.input.Input.TheVariants as input
use Rattle.list_denotation.specs.Terms.{Term, Lit, Var, Bin, Pipe, Array, Range, Map}
use Rattle.list_denotation.specs.Values.{row_value}
use Rattle.list_denotation.specs.Rows.{End, firsts, single_rows}
use Rattle.list_denotation.specs.Denotation.{words_between, denotation}
use Rattle.list_denotation.specs.Observation.{Seen, Done, observation, state_at}
use Rattle.bench_pipeline.specs.Pipelines.{left_arm, right_arm, bench_pipeline}
use Rattle.bench_pipeline.proofs.Generator.{IsItem}
use Rattle.bench_pipeline.proofs.Remainders.{remainder_by_4, remainder_by_3, few_between}
use Rattle.bench_pipeline.proofs.Endings.{Gives, ComesToEnd, IsOne, IsTwo, Any, Shows, singles_end, mapped_end, joined_end, zipped_end, folded_shows}

-- ---- the parts of the arms

-- each arm is the flatMap of an outer stream over the items and an inner stream over a few numbers; a row of the outer
-- stream ends with a key, of which the remainder is known

abbrev pub left_key : List Term
left_key = Bin Rem (Var 0) (Lit 4) ∷ []

abbrev left_sum : List Term
left_sum = Bin Add (Bin Mul (Var 0) (Lit 10)) (Var 1) ∷ []

abbrev pub right_key : List Term
right_key = Var 0 ∷ Bin Rem (Var 0) (Lit 3) ∷ []

abbrev right_sum : List Term
right_sum = Bin Add (Var 0) (Var 2) ∷ []

abbrev next_sums : List Term
next_sums = Bin Add (Var 0) (Bin Mul (Var 2) (Var 3)) ∷ Bin Add (Var 1) (Lit 1) ∷ []

abbrev pub left_outer : Pipe
left_outer = Map (Array 0) left_key

abbrev pub left_inner : Pipe
left_inner = Map (Range (Lit 0) (Var 0)) left_sum

abbrev pub right_outer : Pipe
right_outer = Map (Array 0) right_key

abbrev pub right_inner : Pipe
right_inner = Map (Range (Lit 0) (Var 1)) right_sum

abbrev pub IsLeftKey : List ℕ → Type 0
IsLeftKey = IsOne (λ k. k ≤ 3)

abbrev pub IsRightKey : List ℕ → Type 0
IsRightKey = IsTwo (λ k. k ≤ 2)

-- ---- values

left_key_gives : (inputs : List Input) (r : List ℕ) → IsOne IsItem r → Gives IsLeftKey (row_value left_key r inputs)
left_key_gives inputs [] h = absurd h
left_key_gives inputs (x ∷ []) h = remainder_by_4 x h
left_key_gives inputs (x ∷ (y ∷ row)) h = absurd h

left_sum_gives : (inputs : List Input) (k : ℕ) (r : List ℕ) → IsOne Any r → Gives (IsOne Any) (row_value left_sum (k ∷ r) inputs)
left_sum_gives inputs k [] h = absurd h
left_sum_gives inputs k (i ∷ []) h = tt
left_sum_gives inputs k (i ∷ (j ∷ row)) h = absurd h

right_key_gives : (inputs : List Input) (r : List ℕ) → IsOne IsItem r → Gives IsRightKey (row_value right_key r inputs)
right_key_gives inputs [] h = absurd h
right_key_gives inputs (y ∷ []) h = remainder_by_3 y h
right_key_gives inputs (y ∷ (z ∷ row)) h = absurd h

right_sum_gives : (inputs : List Input) (y k : ℕ) (r : List ℕ) → IsOne Any r → Gives (IsOne Any) (row_value right_sum (y ∷ (k ∷ r)) inputs)
right_sum_gives inputs y k [] h = absurd h
right_sum_gives inputs y k (i ∷ []) h = tt
right_sum_gives inputs y k (i ∷ (j ∷ row)) h = absurd h

two_side_by_side : (r s : List ℕ) → IsOne Any r → IsOne Any s → IsTwo Any (r ++ s)
two_side_by_side [] s h k = absurd h
two_side_by_side (u ∷ []) [] h k = absurd k
two_side_by_side (u ∷ []) (v ∷ []) h k = tt
two_side_by_side (u ∷ []) (v ∷ (w ∷ row)) h k = absurd k
two_side_by_side (u ∷ (v ∷ row)) s h k = absurd h

next_sums_give : (inputs : List Input) (state r : List ℕ) → IsTwo Any state → IsTwo Any r → Gives (IsTwo Any) (row_value next_sums (state ++ r) inputs)
next_sums_give inputs [] r h k = absurd h
next_sums_give inputs (s ∷ []) r h k = absurd h
next_sums_give inputs (s ∷ (c ∷ [])) [] h k = absurd k
next_sums_give inputs (s ∷ (c ∷ [])) (u ∷ []) h k = absurd k
next_sums_give inputs (s ∷ (c ∷ [])) (u ∷ (v ∷ [])) h k = tt
next_sums_give inputs (s ∷ (c ∷ [])) (u ∷ (v ∷ (w ∷ row))) h k = absurd k
next_sums_give inputs (s ∷ (c ∷ (d ∷ state))) r h k = absurd h

-- ---- what is seen of two words

-- one row of two words is seen, and the run is done
abbrev pub ShowsTwoWords : Seen → Type 0
ShowsTwoWords o = (s : ℕ) × ((c : ℕ) × (o ≡ record { events = Emit s ∷ Emit c ∷ EndRow ∷ []; standing = Done }))

two_words_shown : (o : Seen) (t : List ℕ) → IsTwo Any t → o ≡ state_at End t → ShowsTwoWords o
two_words_shown o [] h e = absurd h
two_words_shown o (s ∷ []) h e = absurd h
two_words_shown o (s ∷ (c ∷ [])) h e = (s, (c, e))
two_words_shown o (s ∷ (c ∷ (d ∷ t))) h e = absurd h

-- ---- rows

-- few items, each of them low, and room for at least three rows of each source
module _ (items : List ℕ) (n : ℕ) (low : All IsItem items) (few : length items ≤ n) (room : 3 ≤ n) where
  abbrev inputs : List Input
  inputs = input.Array items ∷ []

  items_end : ComesToEnd (IsOne IsItem) (firsts n (single_rows items))
  items_end = singles_end IsItem n items few low

  range_ends : (k : ℕ) → k ≤ 3 → ComesToEnd (IsOne Any) (firsts n (single_rows (words_between 0 k)))
  range_ends k le = singles_end Any n (words_between 0 k) (omega (arith, few_between k le, room)) (λ j d less. tt)

  pub left_outer_ends : ComesToEnd IsLeftKey (denotation left_outer [] inputs n)
  left_outer_ends =
      mapped_end (IsOne IsItem) IsLeftKey (λ r. row_value left_key r inputs) (left_key_gives inputs) (firsts n (single_rows items)) items_end

  pub left_inner_ends : (r : List ℕ) → IsLeftKey r → ComesToEnd (IsOne Any) (denotation left_inner r inputs n)
  left_inner_ends [] h = absurd h
  left_inner_ends (k ∷ []) h =
      mapped_end (IsOne Any) (IsOne Any) (λ r. row_value left_sum (k ∷ r) inputs) (left_sum_gives inputs k)
      (firsts n (single_rows (words_between 0 k))) (range_ends k h)
  left_inner_ends (k ∷ (j ∷ row)) h = absurd h

  pub right_outer_ends : ComesToEnd IsRightKey (denotation right_outer [] inputs n)
  right_outer_ends =
      mapped_end (IsOne IsItem) IsRightKey (λ r. row_value right_key r inputs) (right_key_gives inputs) (firsts n (single_rows items)) items_end

  pub right_inner_ends : (r : List ℕ) → IsRightKey r → ComesToEnd (IsOne Any) (denotation right_inner r inputs n)
  right_inner_ends [] h = absurd h
  right_inner_ends (y ∷ []) h = absurd h
  right_inner_ends (y ∷ (k ∷ [])) h =
      mapped_end (IsOne Any) (IsOne Any) (λ r. row_value right_sum (y ∷ (k ∷ r)) inputs) (right_sum_gives inputs y k)
      (firsts n (single_rows (words_between 0 k))) (range_ends k (omega (arith, h)))
  right_inner_ends (y ∷ (k ∷ (j ∷ row))) h = absurd h

  left_ends : ComesToEnd (IsOne Any) (denotation left_arm [] inputs n)
  left_ends =
      joined_end IsLeftKey (IsOne Any) (λ r. denotation left_inner r inputs n) left_inner_ends (denotation left_outer [] inputs n) left_outer_ends

  right_ends : ComesToEnd (IsOne Any) (denotation right_arm [] inputs n)
  right_ends =
      joined_end IsRightKey (IsOne Any) (λ r. denotation right_inner r inputs n) right_inner_ends (denotation right_outer [] inputs n) right_outer_ends

  both_end : ComesToEnd (IsTwo Any) (denotation bench_pipeline.stream [] inputs n)
  both_end =
      zipped_end (IsOne Any) (IsOne Any) (IsTwo Any) two_side_by_side (denotation left_arm [] inputs n) (denotation right_arm [] inputs n)
      left_ends right_ends

  -- ---- what is seen

  sums_are_seen : Shows (IsTwo Any) (observation bench_pipeline inputs n)
  sums_are_seen =
      folded_shows (IsTwo Any) (IsTwo Any) (λ state r. row_value next_sums (state ++ r) inputs) (next_sums_give inputs)
      (denotation bench_pipeline.stream [] inputs n) both_end (0 ∷ 0 ∷ []) tt

  pub one_row_is_seen : ShowsTwoWords (observation bench_pipeline inputs n)
  one_row_is_seen = two_words_shown (observation bench_pipeline inputs n) sums_are_seen.0 sums_are_seen.1.0 sums_are_seen.1.1
