-- No pipeline is undefined: a value, a row and a list of rows fail by a trap alone.
use Rattle.std.proofs.Common.{ℕ, zero, suc, List, [], ◌∷◌, ◌++◌}
use Rattle.std.specs.Prelude.{◌≢◌, slice_get}
use Rattle.strm_num.specs.Words.{signed}
use Rattle.list_denotation.specs.declared.expr.BinOp.{BinOp}
use Rattle.list_denotation.specs.declared.expr.BinOp.TheVariants.{Add, Sub, Mul, Div, Rem, Eq, Ne, Lt, Le, Gt, Ge}
use Rattle.list_denotation.specs.declared.input.Input.{Input}
use Rattle.list_denotation.specs.Terms.{Term, Lit, Truth, Var, Param, Len, Neg, Not, Bin, And, Or, If, Pipe, Array, Range, Unfold, Map, Filter, Take, Drop, TakeWhile, Scan, FlatMap, Zip, Finish, Fold, Print, Pipeline}
use Rattle.list_denotation.specs.Inputs.{items_in}
use Rattle.list_denotation.specs.Values.{Fault, Trap, Stuck, Got, Is, Fails, with_value, choice, unless_zero, operation_of, value, row_value}
use Rattle.list_denotation.specs.Rows.{Ending, End, Cut, Broken, Rows, Ends, Row, unless_broken, firsts, single_rows, unfold_rows, map_rows, filter_rows, take_rows, drop_rows, take_while_rows, scan_rows, followed_by, join_rows, zip_rows}
use Rattle.list_denotation.specs.Denotation.{count_of, words_between, denotation}
use Rattle.list_denotation.specs.Observation.{Failed, Seen, standing_of, print_rows, state_at, unless_failed, fold_rows, finish_rows, observation}

-- ---- what isn't undefined

abbrev IsTrap : Fault → Type 0
IsTrap Trap = Unit {0}
IsTrap Stuck = ⊥

abbrev Traps : {A : Type 0} → Got A → Type 0
Traps (Is x) = Unit {0}
Traps (Fails f) = IsTrap f

abbrev EndsSoundly : Ending → Type 0
EndsSoundly End = Unit {0}
EndsSoundly Cut = Unit {0}
EndsSoundly (Broken f) = IsTrap f

abbrev AreSound : Rows → Type 0
AreSound (Ends e) = EndsSoundly e
AreSound (Row r rest) = AreSound rest

abbrev pub IsSoundSight : Seen → Type 0
IsSoundSight o = o.standing ≢ Failed Stuck

-- ---- values

with_traps : {A B : Type 0} (x : Got A) (go : A → Got B) → Traps x → ((a : A) → Traps (go a)) → Traps (with_value x go)
with_traps (Is a) go h k = k a
with_traps (Fails f) go h k = h

choice_traps : {A : Type 0} (w : ℕ) (a b : Got A) → Traps a → Traps b → Traps (choice w a b)
choice_traps zero a b h k = h
choice_traps (suc w) a b h k = k

quotient_traps : (y q : ℕ) → Traps (unless_zero Trap y q)
quotient_traps zero q = tt
quotient_traps (suc y) q = tt

operation_traps : (op : BinOp) (x y : ℕ) → Traps (operation_of op x y)
operation_traps Add x y = tt
operation_traps Sub x y = tt
operation_traps Mul x y = tt
operation_traps Div x y = quotient_traps y _
operation_traps Rem x y = quotient_traps y _
operation_traps Eq x y = tt
operation_traps Ne x y = tt
operation_traps Lt x y = tt
operation_traps Le x y = tt
operation_traps Gt x y = tt
operation_traps Ge x y = tt

module _ (env : List ℕ) (inputs : List Input) where
  value_traps : (e : Term) → Traps (value e env inputs)
  value_traps (Lit w) = tt
  value_traps (Truth b) = tt
  value_traps (Var k) = tt
  value_traps (Param k) = tt
  value_traps (Len k) = tt
  value_traps (Neg a) = with_traps (value a env inputs) _ (value_traps a) (λ x. tt)
  value_traps (Not a) = with_traps (value a env inputs) _ (value_traps a) (λ x. tt)
  value_traps (Bin op a b) =
      with_traps (value a env inputs) _ (value_traps a) (λ x.
      with_traps (value b env inputs) _ (value_traps b) (λ y. operation_traps op x y))
  value_traps (And a b) =
      with_traps (value a env inputs) _ (value_traps a) (λ x.
      choice_traps x _ _ tt (with_traps (value b env inputs) _ (value_traps b) (λ y. tt)))
  value_traps (Or a b) =
      with_traps (value a env inputs) _ (value_traps a) (λ x.
      choice_traps x _ _ (with_traps (value b env inputs) _ (value_traps b) (λ y. tt)) tt)
  value_traps (If c a b) =
      with_traps (value c env inputs) _ (value_traps c) (λ x. choice_traps x _ _ (value_traps b) (value_traps a))

  row_traps : (es : List Term) → Traps (row_value es env inputs)
  row_traps [] = tt
  row_traps (e ∷ es) =
      with_traps (value e env inputs) _ (value_traps e) (λ x. with_traps (row_value es env inputs) _ (row_traps es) (λ row. tt))

-- ---- rows

unless_sound : {A : Type 0} (x : Got A) (go : A → Rows) → Traps x → ((a : A) → AreSound (go a)) → AreSound (unless_broken x go)
unless_sound (Is a) go h k = k a
unless_sound (Fails f) go h k = h

choice_sound : (w : ℕ) (a b : Rows) → AreSound a → AreSound b → AreSound (choice w a b)
choice_sound zero a b h k = h
choice_sound (suc w) a b h k = k

firsts_sound : (n : ℕ) (rs : List (List ℕ)) → AreSound (firsts n rs)
firsts_sound n [] = tt
firsts_sound zero (r ∷ rs) = tt
firsts_sound (suc n) (r ∷ rs) = firsts_sound n rs

unfold_sound : (guard : List ℕ → Got ℕ) (item next : List ℕ → Got (List ℕ)) → ((s : List ℕ) → Traps (guard s)) → ((s : List ℕ) → Traps (item s)) → ((s : List ℕ) → Traps (next s)) → (n : ℕ) (state : List ℕ) → AreSound (unfold_rows guard item next n state)
unfold_sound guard item next g i s zero state = unless_sound (guard state) _ (g state) (λ w. choice_sound w _ _ tt tt)
unfold_sound guard item next g i s (suc n) state =
    unless_sound (guard state) _ (g state) (λ w. choice_sound w _ _ tt
    (unless_sound (item state) _ (i state) (λ r. unless_sound (next state) _ (s state) (λ s'. unfold_sound guard item next g i s n s'))))

map_sound : (f : List ℕ → Got (List ℕ)) → ((r : List ℕ) → Traps (f r)) → (rows : Rows) → AreSound rows → AreSound (map_rows f rows)
map_sound f t (Ends e) h = h
map_sound f t (Row r rest) h = unless_sound (f r) _ (t r) (λ s. map_sound f t rest h)

filter_sound : (f : List ℕ → Got ℕ) → ((r : List ℕ) → Traps (f r)) → (rows : Rows) → AreSound rows → AreSound (filter_rows f rows)
filter_sound f t (Ends e) h = h
filter_sound f t (Row r rest) h =
    unless_sound (f r) _ (t r) (λ b. choice_sound b _ _ (filter_sound f t rest h) (filter_sound f t rest h))

take_sound : (k : ℕ) (rows : Rows) → AreSound rows → AreSound (take_rows k rows)
take_sound zero rows h = tt
take_sound (suc k) (Ends e) h = h
take_sound (suc k) (Row r rest) h = take_sound k rest h

drop_sound : (k : ℕ) (rows : Rows) → AreSound rows → AreSound (drop_rows k rows)
drop_sound zero rows h = h
drop_sound (suc k) (Ends e) h = h
drop_sound (suc k) (Row r rest) h = drop_sound k rest h

take_while_sound : (f : List ℕ → Got ℕ) → ((r : List ℕ) → Traps (f r)) → (rows : Rows) → AreSound rows → AreSound (take_while_rows f rows)
take_while_sound f t (Ends e) h = h
take_while_sound f t (Row r rest) h = unless_sound (f r) _ (t r) (λ b. choice_sound b _ _ tt (take_while_sound f t rest h))

scan_sound : (f : List ℕ → List ℕ → Got (List ℕ)) → ((s r : List ℕ) → Traps (f s r)) → (state : List ℕ) (rows : Rows) → AreSound rows → AreSound (scan_rows f state rows)
scan_sound f t state (Ends e) h = h
scan_sound f t state (Row r rest) h = unless_sound (f state r) _ (t state r) (λ s. scan_sound f t s rest h)

followed_sound : (rows rest : Rows) → AreSound rows → AreSound rest → AreSound (followed_by rows rest)
followed_sound (Ends End) rest h k = k
followed_sound (Ends Cut) rest h k = tt
followed_sound (Ends (Broken f)) rest h k = h
followed_sound (Row r rows) rest h k = followed_sound rows rest h k

join_sound : (rows : Rows) (inner : List ℕ → Rows) → ((r : List ℕ) → AreSound (inner r)) → AreSound rows → AreSound (join_rows rows inner)
join_sound (Ends e) inner k h = h
join_sound (Row r rest) inner k h = followed_sound (inner r) (join_rows rest inner) (k r) (join_sound rest inner k h)

zip_sound : (left right : Rows) → AreSound left → AreSound right → AreSound (zip_rows left right)
zip_sound (Ends e) right h k = h
zip_sound (Row r left) (Ends e) h k = k
zip_sound (Row r left) (Row s right) h k = zip_sound left right h k

-- ---- streams

module _ (inputs : List Input) (n : ℕ) where
  stream_sound : (p : Pipe) (env : List ℕ) → AreSound (denotation p env inputs n)
  stream_sound (Array k) env = firsts_sound n (single_rows (items_in (slice_get inputs k)))
  stream_sound (Range a b) env =
      unless_sound (value a env inputs) _ (value_traps env inputs a) (λ low.
      unless_sound (value b env inputs) _ (value_traps env inputs b) (λ high. firsts_sound n (single_rows (words_between low high))))
  stream_sound (Unfold seed guard item next) env =
      unless_sound (row_value seed env inputs) _ (row_traps env inputs seed) (λ s.
      unfold_sound _ _ _
      (λ s'. value_traps (env ++ s') inputs guard) (λ s'. row_traps (env ++ s') inputs item) (λ s'. row_traps (env ++ s') inputs next) n s)
  stream_sound (Map of body) env =
      map_sound (λ r. row_value body (env ++ r) inputs) (λ r. row_traps (env ++ r) inputs body) _ (stream_sound of env)
  stream_sound (Filter of e) env =
      filter_sound (λ r. value e (env ++ r) inputs) (λ r. value_traps (env ++ r) inputs e) _ (stream_sound of env)
  stream_sound (Take of e) env =
      unless_sound (value e env inputs) _ (value_traps env inputs e) (λ k. take_sound (count_of (signed k)) _ (stream_sound of env))
  stream_sound (Drop of e) env =
      unless_sound (value e env inputs) _ (value_traps env inputs e) (λ k. drop_sound (count_of (signed k)) _ (stream_sound of env))
  stream_sound (TakeWhile of e) env =
      take_while_sound (λ r. value e (env ++ r) inputs) (λ r. value_traps (env ++ r) inputs e) _ (stream_sound of env)
  stream_sound (Scan of seed next) env =
      unless_sound (row_value seed env inputs) _ (row_traps env inputs seed) (λ s.
      scan_sound (λ state r. row_value next (env ++ (state ++ r)) inputs) (λ state r. row_traps (env ++ (state ++ r)) inputs next) s _ (stream_sound of env))
  stream_sound (FlatMap of inner) env =
      join_sound (denotation of env inputs n) (λ r. denotation inner (env ++ r) inputs n) (λ r. stream_sound inner (env ++ r)) (stream_sound of env)
  stream_sound (Zip left right) env =
      zip_sound (denotation left env inputs n) (denotation right env inputs n) (stream_sound left env) (stream_sound right env)

-- ---- what is seen

trap_sound : (f : Fault) → IsTrap f → Failed f ≢ Failed Stuck
trap_sound Trap h e = cc
trap_sound Stuck h e = h

standing_sound : (e : Ending) → EndsSoundly e → standing_of e ≢ Failed Stuck
standing_sound End h e = cc
standing_sound Cut h e = cc
standing_sound (Broken f) h e = trap_sound f h e

print_sound : (rows : Rows) → AreSound rows → IsSoundSight (print_rows rows)
print_sound (Ends e) h = standing_sound e h
print_sound (Row r rest) h = print_sound rest h

state_sound : (e : Ending) (state : List ℕ) → EndsSoundly e → IsSoundSight (state_at e state)
state_sound End state h = standing_sound End tt
state_sound Cut state h = standing_sound Cut tt
state_sound (Broken f) state h = trap_sound f h

unless_failed_sound : (x : Got (List ℕ)) (go : List ℕ → Seen) → Traps x → ((s : List ℕ) → IsSoundSight (go s)) → IsSoundSight (unless_failed x go)
unless_failed_sound (Is s) go h k = k s
unless_failed_sound (Fails f) go h k = trap_sound f h

fold_sound : (f : List ℕ → List ℕ → Got (List ℕ)) → ((s r : List ℕ) → Traps (f s r)) → (state : List ℕ) (rows : Rows) → AreSound rows → IsSoundSight (fold_rows f state rows)
fold_sound f t state (Ends e) h = state_sound e state h
fold_sound f t state (Row r rest) h = unless_failed_sound (f state r) (λ s. fold_rows f s rest) (t state r) (λ s. fold_sound f t s rest h)

finish_sound : (t : Finish) (inputs : List Input) (rows : Rows) → AreSound rows → IsSoundSight (finish_rows t inputs rows)
finish_sound (Fold seed next) inputs rows h =
    unless_failed_sound (row_value seed [] inputs) _ (row_traps [] inputs seed) (λ s.
    fold_sound (λ state r. row_value next (state ++ r) inputs) (λ state r. row_traps (state ++ r) inputs next) s rows h)
finish_sound Print inputs rows h = print_sound rows h

pub never_stuck : (p : Pipeline) (inputs : List Input) (n : ℕ) → (observation p inputs n).standing ≢ Failed Stuck
never_stuck p inputs n = finish_sound p.terminal inputs (denotation p.stream [] inputs n) (stream_sound inputs n p.stream [])
