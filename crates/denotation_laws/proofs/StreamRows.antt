-- The rows of a stream have its width, and their words are words.
use Rattle.std.proofs.Common.{inl, inr, ℕ, zero, suc, ◌+◌, List, [], ◌∷◌, ◌++◌, length, ◌&&◌, refl, sym, subst, arith, length-append}
use Rattle.std.specs.Prelude.{◌-ℤ◌, slice_get, All, IsTrue}
use Rattle.std.proofs.lemmas.List.Elements.{All-nil, All-cons, All-head, All-tail, All-append}
use Rattle.strm_num.proofs.Truths.{both_true}
use Rattle.strm_num.specs.Words.{IsWord, signed, sum_of}
use Rattle.list_denotation.specs.declared.input.Input.{Input}
use Rattle.list_denotation.specs.declared.input.InputKind.{InputKind}
use Rattle.list_denotation.specs.Terms.{Pipe, Array, Range, Unfold, Map, Filter, Take, Drop, TakeWhile, Scan, FlatMap, Zip}
use Rattle.list_denotation.specs.Inputs.{items_in, Fits}
use Rattle.list_denotation.specs.Literals.{has_words, all_have_words, pipe_has_words}
use Rattle.list_denotation.specs.Values.{Got, Is, Fails, choice, value, row_value}
use Rattle.list_denotation.specs.Rows.{End, Cut, Broken, Rows, Ends, Row, unless_broken, firsts, single_rows, unfold_rows, map_rows, filter_rows, take_rows, drop_rows, take_while_rows, scan_rows, followed_by, join_rows, zip_rows}
use Rattle.list_denotation.specs.Denotation.{count_of, words_from, words_between, denotation}
use Rattle.denotation_laws.specs.RowWords.{IsRow, EachRow, AreRows, IsRowOf}
use Rattle.denotation_laws.specs.Widths.{stream_width}
use Rattle.denotation_laws.proofs.ValueWords.{OnValue, any_value, input_words, value_word, row_words, row_all_words}

-- ---- rows

pub row_append : (m n : ℕ) (r s : List ℕ) → IsRow m r → IsRow n s → IsRow (m + n) (r ++ s)
row_append m n r s h k = record {
  width = omega (arith, length-append r s, h.width, k.width);
  words = All-append IsWord r s h.words k.words;
}

row_of : (P : List ℕ → Type 0) (r : List ℕ) (rows : Rows) → EachRow P rows → IsRowOf r rows → P r
row_of P r (Ends e) each among = absurd among
row_of P r (Row s rest) each (inl e) = subst P (sym e) each.0
row_of P r (Row s rest) each (inr among) = row_of P r rest each.1 among

pub is_row_of : (n : ℕ) (r : List ℕ) (rows : Rows) → AreRows n rows → IsRowOf r rows → IsRow n r
is_row_of n r rows each among = row_of (IsRow n) r rows each among

-- ---- stages

module _ (P : List ℕ → Type 0) where
  unless_each : {A : Type 0} (Q : A → Type 0) (x : Got A) (go : A → Rows) → OnValue Q x → ((a : A) → Q a → EachRow P (go a)) → EachRow P (unless_broken x go)
  unless_each Q (Is a) go h k = k a h
  unless_each Q (Fails f) go h k = tt

  choice_each : (w : ℕ) (a b : Rows) → EachRow P a → EachRow P b → EachRow P (choice w a b)
  choice_each zero a b h k = h
  choice_each (suc w) a b h k = k

  map_each : (Q : List ℕ → Type 0) (f : List ℕ → Got (List ℕ)) → ((r : List ℕ) → Q r → OnValue P (f r)) → (rows : Rows) → EachRow Q rows → EachRow P (map_rows f rows)
  map_each Q f k (Ends e) h = tt
  map_each Q f k (Row r rest) h = unless_each P (f r) _ (k r h.0) (λ s p. (p, map_each Q f k rest h.1))

  filter_each : (f : List ℕ → Got ℕ) (rows : Rows) → EachRow P rows → EachRow P (filter_rows f rows)
  filter_each f (Ends e) h = tt
  filter_each f (Row r rest) h =
      let more = filter_each f rest h.1 in
      unless_each (λ b. Unit {0}) (f r) _ (any_value (f r)) (λ b any. choice_each b _ _ more (h.0, more))

  take_each : (k : ℕ) (rows : Rows) → EachRow P rows → EachRow P (take_rows k rows)
  take_each zero rows h = tt
  take_each (suc k) (Ends e) h = tt
  take_each (suc k) (Row r rest) h = (h.0, take_each k rest h.1)

  drop_each : (k : ℕ) (rows : Rows) → EachRow P rows → EachRow P (drop_rows k rows)
  drop_each zero rows h = h
  drop_each (suc k) (Ends e) h = tt
  drop_each (suc k) (Row r rest) h = drop_each k rest h.1

  take_while_each : (f : List ℕ → Got ℕ) (rows : Rows) → EachRow P rows → EachRow P (take_while_rows f rows)
  take_while_each f (Ends e) h = tt
  take_while_each f (Row r rest) h =
      unless_each (λ b. Unit {0}) (f r) _ (any_value (f r)) (λ b any. choice_each b _ _ tt (h.0, take_while_each f rest h.1))

  followed_each : (rows rest : Rows) → EachRow P rows → EachRow P rest → EachRow P (followed_by rows rest)
  followed_each (Ends End) rest h k = k
  followed_each (Ends Cut) rest h k = tt
  followed_each (Ends (Broken f)) rest h k = tt
  followed_each (Row r rows) rest h k = (h.0, followed_each rows rest h.1 k)

  join_each : (Q : List ℕ → Type 0) (inner : List ℕ → Rows) → ((r : List ℕ) → Q r → EachRow P (inner r)) → (rows : Rows) → EachRow Q rows → EachRow P (join_rows rows inner)
  join_each Q inner k (Ends e) h = tt
  join_each Q inner k (Row r rest) h = followed_each (inner r) (join_rows rest inner) (k r h.0) (join_each Q inner k rest h.1)

  -- states are words, and so is each row
  module _ (words : (r : List ℕ) → P r → All IsWord r) where
    scan_each : (Q : List ℕ → Type 0) (f : List ℕ → List ℕ → Got (List ℕ)) → ((s r : List ℕ) → All IsWord s → Q r → OnValue P (f s r)) → (state : List ℕ) (rows : Rows) → All IsWord state → EachRow Q rows → EachRow P (scan_rows f state rows)
    scan_each Q f k state (Ends e) s h = tt
    scan_each Q f k state (Row r rest) s h =
        unless_each P (f state r) _ (k state r s h.0) (λ t p. (p, scan_each Q f k t rest (words t p) h.1))

  unfold_each : (guard : List ℕ → Got ℕ) (item next : List ℕ → Got (List ℕ)) → ((s : List ℕ) → All IsWord s → OnValue P (item s)) → ((s : List ℕ) → All IsWord s → OnValue (All IsWord) (next s)) → (n : ℕ) (state : List ℕ) → All IsWord state → EachRow P (unfold_rows guard item next n state)
  unfold_each guard item next i k zero state s =
      unless_each (λ b. Unit {0}) (guard state) _ (any_value (guard state)) (λ b any. choice_each b _ _ tt tt)
  unfold_each guard item next i k (suc n) state s =
      unless_each (λ b. Unit {0}) (guard state) _ (any_value (guard state)) (λ b any. choice_each b _ _ tt
      (unless_each P (item state) _ (i state s) (λ r p.
      unless_each (All IsWord) (next state) _ (k state s) (λ t q. (p, unfold_each guard item next i k n t q)))))

zip_each : (m n : ℕ) (left right : Rows) → AreRows m left → AreRows n right → AreRows (m + n) (zip_rows left right)
zip_each m n (Ends e) right h k = tt
zip_each m n (Row r left) (Ends e) h k = tt
zip_each m n (Row r left) (Row s right) h k = (row_append m n r s h.0 k.0, zip_each m n left right h.1 k.1)

-- ---- sources

singles_each : (n : ℕ) (xs : List ℕ) → All IsWord xs → AreRows 1 (firsts n (single_rows xs))
singles_each n [] all = tt
singles_each zero (x ∷ xs) all = tt
singles_each (suc n) (x ∷ xs) all = (
  record { width = refl; words = All-cons IsWord x [] (All-head IsWord x xs all) (All-nil IsWord) },
  singles_each n xs (All-tail IsWord x xs all),
)

words_from_words : (k x : ℕ) → IsWord x → All IsWord (words_from k x)
words_from_words zero x h = All-nil IsWord
words_from_words (suc k) x h = All-cons IsWord x (words_from k (sum_of x 1)) h (words_from_words k (sum_of x 1) (omega arith))

-- ---- streams

module _ (inputs : List Input) (kinds : List InputKind) (fits : Fits inputs kinds) (n : ℕ) where
  pub stream_rows : (p : Pipe) → IsTrue (pipe_has_words p) → (env : List ℕ) → All IsWord env → AreRows (stream_width p) (denotation p env inputs n)
  stream_rows (Array k) h env words = singles_each n (items_in (slice_get inputs k)) (input_words inputs kinds k fits).items
  stream_rows (Range a b) h env words =
      let parts = both_true (has_words a) (has_words b) h in
      unless_each (IsRow 1) IsWord (value a env inputs) _ (value_word inputs kinds fits env words a parts.0) (λ low w.
      unless_each (IsRow 1) IsWord (value b env inputs) _ (value_word inputs kinds fits env words b parts.1) (λ high v.
      singles_each n (words_between low high) (words_from_words (count_of (signed high -ℤ signed low)) low w)))
  stream_rows (Unfold seed guard item next) h env words =
      let seeds = both_true (all_have_words seed) (has_words guard && (all_have_words item && all_have_words next)) h in
      let guards = both_true (has_words guard) (all_have_words item && all_have_words next) seeds.1 in
      let parts = both_true (all_have_words item) (all_have_words next) guards.1 in
      unless_each (IsRow (length item)) (All IsWord) (row_value seed env inputs) _ (row_all_words inputs kinds fits env words seed seeds.0) (λ s t.
      unfold_each (IsRow (length item)) (λ s. value guard (env ++ s) inputs) (λ s. row_value item (env ++ s) inputs) (λ s. row_value next (env ++ s) inputs)
      (λ s t. row_words inputs kinds fits (env ++ s) (All-append IsWord env s words t) item parts.0)
      (λ s t. row_all_words inputs kinds fits (env ++ s) (All-append IsWord env s words t) next parts.1) n s t)
  stream_rows (Map of body) h env words =
      let parts = both_true (pipe_has_words of) (all_have_words body) h in
      map_each (IsRow (length body)) (IsRow (stream_width of)) (λ r. row_value body (env ++ r) inputs)
      (λ r row. row_words inputs kinds fits (env ++ r) (All-append IsWord env r words row.words) body parts.1)
      (denotation of env inputs n) (stream_rows of parts.0 env words)
  stream_rows (Filter of e) h env words =
      let parts = both_true (pipe_has_words of) (has_words e) h in
      filter_each (IsRow (stream_width of)) (λ r. value e (env ++ r) inputs) (denotation of env inputs n) (stream_rows of parts.0 env words)
  stream_rows (Take of e) h env words =
      let parts = both_true (pipe_has_words of) (has_words e) h in
      unless_each (IsRow (stream_width of)) (λ k. Unit {0}) (value e env inputs) _ (any_value (value e env inputs)) (λ k any.
      take_each (IsRow (stream_width of)) (count_of (signed k)) (denotation of env inputs n) (stream_rows of parts.0 env words))
  stream_rows (Drop of e) h env words =
      let parts = both_true (pipe_has_words of) (has_words e) h in
      unless_each (IsRow (stream_width of)) (λ k. Unit {0}) (value e env inputs) _ (any_value (value e env inputs)) (λ k any.
      drop_each (IsRow (stream_width of)) (count_of (signed k)) (denotation of env inputs n) (stream_rows of parts.0 env words))
  stream_rows (TakeWhile of e) h env words =
      let parts = both_true (pipe_has_words of) (has_words e) h in
      take_while_each (IsRow (stream_width of)) (λ r. value e (env ++ r) inputs) (denotation of env inputs n) (stream_rows of parts.0 env words)
  stream_rows (Scan of seed next) h env words =
      let parts = both_true (pipe_has_words of) (all_have_words seed && all_have_words next) h in
      let states = both_true (all_have_words seed) (all_have_words next) parts.1 in
      unless_each (IsRow (length next)) (All IsWord) (row_value seed env inputs) _ (row_all_words inputs kinds fits env words seed states.0) (λ s t.
      scan_each (IsRow (length next)) (λ r row. row.words) (IsRow (stream_width of)) (λ state r. row_value next (env ++ (state ++ r)) inputs)
      (λ state r w row. row_words inputs kinds fits (env ++ (state ++ r))
      (All-append IsWord env (state ++ r) words (All-append IsWord state r w row.words)) next states.1)
      s (denotation of env inputs n) t (stream_rows of parts.0 env words))
  stream_rows (FlatMap of inner) h env words =
      let parts = both_true (pipe_has_words of) (pipe_has_words inner) h in
      join_each (IsRow (stream_width inner)) (IsRow (stream_width of)) (λ r. denotation inner (env ++ r) inputs n)
      (λ r row. stream_rows inner parts.1 (env ++ r) (All-append IsWord env r words row.words))
      (denotation of env inputs n) (stream_rows of parts.0 env words)
  stream_rows (Zip left right) h env words =
      let parts = both_true (pipe_has_words left) (pipe_has_words right) h in
      zip_each (stream_width left) (stream_width right) (denotation left env inputs n) (denotation right env inputs n)
      (stream_rows left parts.0 env words) (stream_rows right parts.1 env words)
