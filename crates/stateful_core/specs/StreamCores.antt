-- The core term of a stream, in a scope of so many bound words.
use Rattle.std.specs.Prelude.{ℕ, ◌+◌, Bool, true, false, ◌||◌, List, [], ◌∷◌, length, if◌then◌else◌}
use Rattle.list_denotation.specs.declared.expr.BinOp.TheVariants.{Add, Sub, Ne, Lt}
use Rattle.list_denotation.specs.Terms as stream
use Rattle.list_denotation.specs.Terms.{Term, Lit, Truth, Var, Len, Bin, If, Pipe}
use Rattle.list_denotation.specs.TermRows.{variables}
use Rattle.list_denotation.specs.Typing.{all_undivided, is_undivided}
use Rattle.stateful_core.specs.CoreTerms.{Action, Let, Read, KeepIf, StopUnless, Update, When, Actions, Nil, Cons, CoreTerm, Lin, Tr, Nest, Zip}

-- ---- pieces

-- a local word for each expression of a row, before other acts
abbrev pub let_all : List Term → Actions → Actions
let_all [] more = more
let_all (e ∷ es) more = Cons (Let e) (let_all es more)

-- a single act that writes these over the state
abbrev pub set_state : List Term → Actions
set_state es = Cons (Update 0 es) Nil

-- the acts that write a row over the state, where k words are bound. Where none of the row can trap it is written at once,
-- else from local words
abbrev pub next_state : ℕ → List Term → Actions
next_state k es = if all_undivided es then set_state es else let_all es (set_state (variables k (length es)))

-- the acts that test a truth, where k words are bound
abbrev pub test_acts : (Term → Action) → ℕ → Term → Actions
test_acts test k e = if is_undivided e then Cons (test e) Nil else Cons (Let e) (Cons (test (Var k)) Nil)

-- a guard that is always true
abbrev pub always : Term
always = Truth true

-- word k, and one more, or one less
abbrev pub one_more : ℕ → Term
one_more k = Bin Add (Var k) (Lit 1)

abbrev pub one_less : ℕ → Term
one_less k = Bin Sub (Var k) (Lit 1)

-- how many rows a count asks for: none where it is below 0
abbrev pub rows_asked : Term → Term
rows_asked count = If (Bin Lt count (Lit 0)) (Lit 0) count

-- ---- sources

-- the state is the index of the next item
abbrev pub array_core : ℕ → ℕ → CoreTerm
array_core e k = Lin e (Lit 0 ∷ []) (Bin Ne (Var e) (Len k)) (Cons (Read k (Var e)) (set_state (one_more e ∷ []))) (Var (e + 1) ∷ [])

-- a range begins at its end where it has no number, so that it comes to its end by steps of one
abbrev pub range_start : Term → Term → Term
range_start low high = If (Bin Lt high low) high low

-- the state is the next number
abbrev pub range_core : ℕ → Term → Term → CoreTerm
range_core e low high =
    Lin e (range_start low high ∷ []) (Bin Ne (Var e) high) (Cons (Let (Var e)) (set_state (one_more e ∷ []))) (Var (e + 1) ∷ [])

abbrev pub unfold_core : ℕ → List Term → Term → List Term → List Term → CoreTerm
unfold_core e seed guard item next =
    Lin e seed guard (let_all item (next_state (e + length seed + length item) next)) (variables (e + length seed) (length item))

-- ---- stages, over the term of the stream before, whose rows have w words

abbrev pub map_core : ℕ → ℕ → CoreTerm → List Term → CoreTerm
map_core e w of body = Tr e of [] always (let_all body Nil) (variables (e + w) (length body))

-- a stage that tests each row
abbrev pub test_core : (Term → Action) → ℕ → ℕ → CoreTerm → Term → CoreTerm
test_core test e w of body = Tr e of [] always (test_acts test (e + w) body) (variables e w)

-- the state is how many rows are still asked for
abbrev pub take_core : ℕ → ℕ → CoreTerm → Term → CoreTerm
take_core e w of count = Tr e of (rows_asked count ∷ []) (Var e) (set_state (one_less e ∷ [])) (variables (e + 1) w)

-- while word e, the state, isn't 0, it goes down, and there is no row
abbrev pub drop_acts : ℕ → Actions
drop_acts e = Cons (When (Var e) (Cons (Update 0 (one_less e ∷ [])) (Cons (KeepIf (Truth false)) Nil)) Nil) Nil

-- the state is how many rows are still passed over
abbrev pub drop_core : ℕ → ℕ → CoreTerm → Term → CoreTerm
drop_core e w of count = Tr e of (rows_asked count ∷ []) always (drop_acts e) (variables (e + 1) w)

abbrev pub scan_core : ℕ → ℕ → CoreTerm → List Term → List Term → CoreTerm
scan_core e w of seed next = Tr e of seed always (next_state (e + length seed + w) next) (variables e (length seed))

-- ---- streams

-- the words of the rows of a stream's core. Those of a scan are the words of its state, which has as many as the seed. The
-- width in denotation_laws counts the next state, whose words the denotation gives: the same for each stream that is typed,
-- but a core has its width for any stream
abbrev pub stream_width : Pipe → ℕ
stream_width (stream.Array k) = 1
stream_width (stream.Range a b) = 1
stream_width (stream.Unfold seed guard item next) = length item
stream_width (stream.Map of body) = length body
stream_width (stream.Filter of e) = stream_width of
stream_width (stream.Take of e) = stream_width of
stream_width (stream.Drop of e) = stream_width of
stream_width (stream.TakeWhile of e) = stream_width of
stream_width (stream.Scan of seed next) = length seed
stream_width (stream.FlatMap of inner) = stream_width inner
stream_width (stream.Zip left right) = stream_width left + stream_width right

abbrev pub core_at : ℕ → Pipe → CoreTerm
core_at e (stream.Array k) = array_core e k
core_at e (stream.Range low high) = range_core e low high
core_at e (stream.Unfold seed guard item next) = unfold_core e seed guard item next
core_at e (stream.Map of body) = map_core e (stream_width of) (core_at e of) body
core_at e (stream.Filter of body) = test_core KeepIf e (stream_width of) (core_at e of) body
core_at e (stream.Take of count) = take_core e (stream_width of) (core_at e of) count
core_at e (stream.Drop of count) = drop_core e (stream_width of) (core_at e of) count
core_at e (stream.TakeWhile of body) = test_core StopUnless e (stream_width of) (core_at e of) body
core_at e (stream.Scan of seed next) = scan_core e (stream_width of) (core_at e of) seed next
core_at e (stream.FlatMap of inner) = Nest (core_at e of) (core_at (e + stream_width of) inner)
core_at e (stream.Zip left right) = Zip (core_at e left) (core_at e right)

-- whether a `zip` stands in the stream, at any depth
abbrev pub stream_has_zip : Pipe → Bool
stream_has_zip (stream.Array k) = false
stream_has_zip (stream.Range a b) = false
stream_has_zip (stream.Unfold seed guard item next) = false
stream_has_zip (stream.Map of body) = stream_has_zip of
stream_has_zip (stream.Filter of e) = stream_has_zip of
stream_has_zip (stream.Take of e) = stream_has_zip of
stream_has_zip (stream.Drop of e) = stream_has_zip of
stream_has_zip (stream.TakeWhile of e) = stream_has_zip of
stream_has_zip (stream.Scan of seed next) = stream_has_zip of
stream_has_zip (stream.FlatMap of inner) = stream_has_zip of || stream_has_zip inner
stream_has_zip (stream.Zip left right) = true
