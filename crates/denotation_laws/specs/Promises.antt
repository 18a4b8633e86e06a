-- What is promised of the definitions. Each statement has one name, which its law and those who stand on it cite.
use Rattle.pipe_limits.specs.declared.TheConstants.{MOST_COMPONENTS, MOST_ITEMS}
use Rattle.std.specs.Prelude.{◌≡◌, ◌≢◌, ◌≤◌, ◌<◌, ◌+◌, ◌^◌, ◌⊎◌, ◌↔◌, ℕ, suc, false, nat_lt}
use Rattle.std.specs.Prelude.{List, [], ◌∷◌, ◌++◌, length, slice_get, Some, All, IsTrue}
use Rattle.strm_num.specs.Words.{IsWord, signed, sum_of, difference_of, is_less}
use Rattle.list_denotation.specs.declared.input.Input.{Input}
use Rattle.list_denotation.specs.declared.input.InputKind.{InputKind}
use Rattle.list_denotation.specs.declared.kind.Kind.{Kind}
use Rattle.list_denotation.specs.declared.stream.Stream.{Stream}
use Rattle.list_denotation.specs.declared.terminal.Terminal.{Terminal}
use Rattle.list_denotation.specs.Copies.{pipe_of, finish_of}
use Rattle.list_denotation.specs.Denotation.{count_of, words_between, denotation}
use Rattle.list_denotation.specs.Far.{Far}
use Rattle.list_denotation.specs.InputNames.{InputNames, declared_inputs}
use Rattle.list_denotation.specs.Inputs.{items_in, word_in, Fits}
use Rattle.list_denotation.specs.Literals.{has_words, all_have_words}
use Rattle.list_denotation.specs.Literals.{pipe_has_words, program_has_words}
use Rattle.list_denotation.specs.Observation.{Failed, Seen, finish_rows, observation}
use Rattle.list_denotation.specs.Rows.{Rows, map_rows, filter_rows, take_rows, drop_rows}
use Rattle.list_denotation.specs.Rows.{take_while_rows, scan_rows}
use Rattle.list_denotation.specs.Rows.{followed_by, join_rows, zip_rows}
use Rattle.list_denotation.specs.Scopes.{is_bound, all_bound}
use Rattle.list_denotation.specs.Terms.{Term, Pipe, Finish, Pipeline}
use Rattle.list_denotation.specs.Typing.{is_undivided, all_undivided, stream_kinds, is_typed}
use Rattle.list_denotation.specs.Values.{Stuck, Got, Is, value, row_value}
use Rattle.list_denotation.specs.Work.{sum_over, work}
use Rattle.denotation_laws.specs.FarRows.{FarRows, IsCutShort}
use Rattle.denotation_laws.specs.RowWords.{IsRow, AreRows, IsRowOf}
use Rattle.denotation_laws.specs.StreamScopes.{StreamReadsScope, FinishReadsScope}
use Rattle.denotation_laws.specs.Widths.{stream_width}

-- ---- observations

-- What is seen of a pipeline is never undefined: at each input and bound it is done, going, or
-- over at a trap.
abbrev pub NoObservationIsStuck : Type 0
NoObservationIsStuck =
    (p : Pipeline) (inputs : List Input) (n : ℕ)
    → (observation p inputs n).standing ≢ Failed Stuck

-- With one pull more, the rows of a stream and what is seen of a pipeline go at least as far, and
-- its work isn't less; so too with any greater bound.
abbrev pub RowsGrow : Type 0
RowsGrow =
    (p : Pipe) (env : List ℕ) (inputs : List Input) (n : ℕ)
    → FarRows (denotation p env inputs n) (denotation p env inputs (n + 1))

abbrev pub ObservationsGrow : Type 0
ObservationsGrow =
    (p : Pipeline) (inputs : List Input) (n : ℕ)
    → Far (observation p inputs n) (observation p inputs (n + 1))

abbrev pub WorkGrows : Type 0
WorkGrows =
    (p : Pipeline) (inputs : List Input) (n : ℕ)
    → work p inputs n ≤ work p inputs (n + 1)

abbrev pub RowsGrowWithTheBound : Type 0
RowsGrowWithTheBound =
    (p : Pipe) (env : List ℕ) (inputs : List Input) (n m : ℕ)
    → n ≤ m → FarRows (denotation p env inputs n) (denotation p env inputs m)

abbrev pub ObservationsGrowWithTheBound : Type 0
ObservationsGrowWithTheBound =
    (p : Pipeline) (inputs : List Input) (n m : ℕ)
    → n ≤ m → Far (observation p inputs n) (observation p inputs m)

abbrev pub WorkGrowsWithTheBound : Type 0
WorkGrowsWithTheBound =
    (p : Pipeline) (inputs : List Input) (n m : ℕ)
    → n ≤ m → work p inputs n ≤ work p inputs m

-- `Far` is an order: it is transitive, and two that are as far as one another are the same.
abbrev pub FarIsTransitive : Type 0
FarIsTransitive =
    (o u w : Seen) → Far o u → Far u w → Far o w

abbrev pub FarIsAntisymmetric : Type 0
FarIsAntisymmetric =
    (o u : Seen) → Far o u → Far u o → o ≡ u

-- ---- lists of rows

-- `FarRows` is an order, and says of lists of rows what `Far` says of observations: they are the
-- same, or the first is cut off and its rows are a prefix of the other's.
abbrev pub FarRowsAreEqualOrCutShort : Type 0
FarRowsAreEqualOrCutShort =
    (o u : Rows) → FarRows o u ↔ ((o ≡ u) ⊎ IsCutShort o u)

abbrev pub FarRowsIsReflexive : Type 0
FarRowsIsReflexive =
    (o : Rows) → FarRows o o

abbrev pub FarRowsIsTransitive : Type 0
FarRowsIsTransitive =
    (o u w : Rows) → FarRows o u → FarRows u w → FarRows o w

abbrev pub FarRowsIsAntisymmetric : Type 0
FarRowsIsAntisymmetric =
    (o u : Rows) → FarRows o u → FarRows u o → o ≡ u

-- What a stage or a terminal makes of two lists of rows, of which one is as far as the other, is
-- as far too. The inner lists of a `flatMap` have to be so for the rows of the shorter list.
abbrev pub MapsKeepFarRows : Type 0
MapsKeepFarRows =
    (f : List ℕ → Got (List ℕ)) (o u : Rows) → FarRows o u
    → FarRows (map_rows f o) (map_rows f u)

abbrev pub FiltersKeepFarRows : Type 0
FiltersKeepFarRows =
    (f : List ℕ → Got ℕ) (o u : Rows) → FarRows o u
    → FarRows (filter_rows f o) (filter_rows f u)

abbrev pub TakesKeepFarRows : Type 0
TakesKeepFarRows =
    (k : ℕ) (o u : Rows) → FarRows o u
    → FarRows (take_rows k o) (take_rows k u)

abbrev pub DropsKeepFarRows : Type 0
DropsKeepFarRows =
    (k : ℕ) (o u : Rows) → FarRows o u
    → FarRows (drop_rows k o) (drop_rows k u)

abbrev pub TakeWhilesKeepFarRows : Type 0
TakeWhilesKeepFarRows =
    (f : List ℕ → Got ℕ) (o u : Rows) → FarRows o u
    → FarRows (take_while_rows f o) (take_while_rows f u)

abbrev pub ScansKeepFarRows : Type 0
ScansKeepFarRows =
    (f : List ℕ → List ℕ → Got (List ℕ)) (state : List ℕ) (o u : Rows)
    → FarRows o u → FarRows (scan_rows f state o) (scan_rows f state u)

abbrev pub RowsThatFollowKeepFarRows : Type 0
RowsThatFollowKeepFarRows =
    (a b c d : Rows) → FarRows a b → FarRows c d
    → FarRows (followed_by a c) (followed_by b d)

abbrev pub JoinedRowsKeepFarRows : Type 0
JoinedRowsKeepFarRows =
    (f g : List ℕ → Rows) (o u : Rows) → FarRows o u
    → ((r : List ℕ) → IsRowOf r o → FarRows (f r) (g r))
    → FarRows (join_rows o f) (join_rows u g)

abbrev pub ZippedRowsKeepFarRows : Type 0
ZippedRowsKeepFarRows =
    (a b c d : Rows) → FarRows a b → FarRows c d
    → FarRows (zip_rows a c) (zip_rows b d)

abbrev pub TerminalsKeepFar : Type 0
TerminalsKeepFar =
    (t : Finish) (inputs : List Input) (o u : Rows) → FarRows o u
    → Far (finish_rows t inputs o) (finish_rows t inputs u)

-- What is made of the inner lists of a `flatMap` depends on those of its own rows alone: the lists
-- joined, and the sum of what their openings add, whatever is added.
abbrev pub JoinedRowsDependOnInnerLists : Type 0
JoinedRowsDependOnInnerLists =
    (f g : List ℕ → Rows) (rows : Rows)
    → ((r : List ℕ) → IsRowOf r rows → f r ≡ g r) → join_rows rows f ≡ join_rows rows g

abbrev pub SumsDependOnInnerLists : (A : Type 0) → Type 0
SumsDependOnInnerLists A =
    (add : A → A → A) (none : A) (f g : List ℕ → Rows) (a b : List ℕ → A) (rows : Rows)
    → ((r : List ℕ) → IsRowOf r rows → f r ≡ g r)
    → ((r : List ℕ) → IsRowOf r rows → a r ≡ b r)
    → sum_over rows f a add none ≡ sum_over rows g b add none

-- Where rows and the inner lists are as far as others, and each opening adds at most as much, the sum is
-- at most as much.
abbrev pub SumsGrowWithTheirRows : Type 0
SumsGrowWithTheirRows =
    (f g : List ℕ → Rows) (a b : List ℕ → ℕ) (o u : Rows) → FarRows o u
    → ((r : List ℕ) → IsRowOf r o → FarRows (f r) (g r))
    → ((r : List ℕ) → IsRowOf r o → a r ≤ b r)
    → sum_over o f a ◌+◌ 0 ≤ sum_over u g b ◌+◌ 0

-- ---- values

-- An expression or a row that reads the first words of a scope alone has the same value whatever
-- words follow these. What reads the first n words reads the first m, where n is at most m.
abbrev pub ExpressionsReadBoundWordsAlone : Type 0
ExpressionsReadBoundWordsAlone =
    (env more : List ℕ) (inputs : List Input) (e : Term)
    → IsTrue (is_bound (length env) e) → value e (env ++ more) inputs ≡ value e env inputs

abbrev pub RowsReadBoundWordsAlone : Type 0
RowsReadBoundWordsAlone =
    (env more : List ℕ) (inputs : List Input) (es : List Term)
    → IsTrue (all_bound (length env) es)
    → row_value es (env ++ more) inputs ≡ row_value es env inputs

abbrev pub BoundExpressionsStayBound : Type 0
BoundExpressionsStayBound =
    (n m : ℕ) (e : Term)
    → n ≤ m → IsTrue (is_bound n e) → IsTrue (is_bound m e)

abbrev pub BoundRowsStayBound : Type 0
BoundRowsStayBound =
    (n m : ℕ) (es : List Term)
    → n ≤ m → IsTrue (all_bound n es) → IsTrue (all_bound m es)

-- An expression or a row without division has a value, over any bound words and inputs.
abbrev pub UndividedExpressionsHaveValues : Type 0
UndividedExpressionsHaveValues =
    (env : List ℕ) (inputs : List Input) (e : Term)
    → IsTrue (is_undivided e) → ((w : ℕ) × (value e env inputs ≡ Is w))

abbrev pub UndividedRowsHaveValues : Type 0
UndividedRowsHaveValues =
    (env : List ℕ) (inputs : List Input) (es : List Term)
    → IsTrue (all_undivided es) → ((row : List ℕ) × (row_value es env inputs ≡ Is row))

-- Inputs that fit are words, and an array has at most 4,194,304 of them. Where the inputs fit and
-- the bound words and the numbers of an expression are words, its value is a word, and the value
-- of a row is as many words as it has expressions.
abbrev pub IntInputsAreWords : Type 0
IntInputsAreWords =
    (kinds : List InputKind) (inputs : List Input) (k : ℕ)
    → Fits inputs kinds → IsWord (word_in (slice_get inputs k))

abbrev pub ItemsAreWords : Type 0
ItemsAreWords =
    (kinds : List InputKind) (inputs : List Input) (k : ℕ)
    → Fits inputs kinds → All IsWord (items_in (slice_get inputs k))

abbrev pub ArraysHaveFewItems : Type 0
ArraysHaveFewItems =
    (kinds : List InputKind) (inputs : List Input) (k : ℕ)
    → Fits inputs kinds → length (items_in (slice_get inputs k)) ≤ MOST_ITEMS

abbrev pub ValuesAreWords : Type 0
ValuesAreWords =
    (kinds : List InputKind) (inputs : List Input) (env : List ℕ) (e : Term)
    (w : ℕ) → Fits inputs kinds → All IsWord env → IsTrue (has_words e)
    → value e env inputs ≡ Is w → IsWord w

abbrev pub RowValuesAreWords : Type 0
RowValuesAreWords =
    (kinds : List InputKind) (inputs : List Input) (env : List ℕ) (es : List Term)
    (row : List ℕ) → Fits inputs kinds → All IsWord env → IsTrue (all_have_words es)
    → row_value es env inputs ≡ Is row → IsRow (length es) row

abbrev pub RowValuesHaveTheirWidth : Type 0
RowValuesHaveTheirWidth =
    (inputs : List Input) (env : List ℕ) (es : List Term) (row : List ℕ)
    → row_value es env inputs ≡ Is row → length row ≡ length es

-- Where the inputs fit and the bound words and the numbers of a stream are words, its rows have
-- its width, and what stands in them are words. Rows side by side have the sum of their widths.
abbrev pub StreamsHaveRowsOfTheirWidth : Type 0
StreamsHaveRowsOfTheirWidth =
    (kinds : List InputKind) (inputs : List Input) (p : Pipe) (env : List ℕ)
    (n : ℕ) → Fits inputs kinds → IsTrue (pipe_has_words p) → All IsWord env
    → AreRows (stream_width p) (denotation p env inputs n)

abbrev pub RowsSideBySideAreARow : Type 0
RowsSideBySideAreARow =
    (m n : ℕ) (r s : List ℕ)
    → IsRow m r → IsRow n s → IsRow (m + n) (r ++ s)

abbrev pub EachOfRowsIsARow : Type 0
EachOfRowsIsARow =
    (n : ℕ) (r : List ℕ) (rows : Rows)
    → AreRows n rows → IsRowOf r rows → IsRow n r

-- Each expression of a typed stream, and of a program's terminal, reads only the bound words of
-- its scope and declared inputs; no opening expression has a division; states keep their width,
-- and no row has more than 8 words. The stream's width is the number of its kinds, and its rows
-- have so many words.
abbrev pub TypedStreamsReadTheirScopes : Type 0
TypedStreamsReadTheirScopes =
    (inputs : List InputKind) (scope ks : List Kind) (p : Pipe)
    → stream_kinds inputs scope p ≡ Some ks → IsTrue (pipe_has_words p)
    → StreamReadsScope (declared_inputs inputs) (length scope) p

abbrev pub TypedStreamsHaveTheWidthOfTheirKinds : Type 0
TypedStreamsHaveTheWidthOfTheirKinds =
    (inputs : List InputKind) (scope ks : List Kind) (p : Pipe)
    → stream_kinds inputs scope p ≡ Some ks → IsTrue (pipe_has_words p)
    → stream_width p ≡ length ks

abbrev pub StreamsAreAtMostSoWide : Type 0
StreamsAreAtMostSoWide =
    (may : InputNames) (n : ℕ) (p : Pipe)
    → StreamReadsScope may n p → stream_width p ≤ MOST_COMPONENTS

abbrev pub TypedProgramsReadTheirScopes : Type 0
TypedProgramsReadTheirScopes =
    (inputs : List InputKind) (s : Stream) (t : Terminal)
    → IsTrue (is_typed inputs s t) → IsTrue (program_has_words s t)
    → StreamReadsScope (declared_inputs inputs) 0 (pipe_of s)
    × FinishReadsScope (declared_inputs inputs) (stream_width (pipe_of s)) (finish_of t)

abbrev pub TypedStreamsHaveRowsOfTheirKinds : Type 0
TypedStreamsHaveRowsOfTheirKinds =
    (kinds : List InputKind) (scope ks : List Kind) (p : Pipe)
    (inputs : List Input) (env : List ℕ) (n : ℕ)
    → stream_kinds kinds scope p ≡ Some ks → IsTrue (pipe_has_words p)
    → Fits inputs kinds → All IsWord env → AreRows (length ks) (denotation p env inputs n)

-- ---- counting

-- A range that isn't over begins with its lower bound and goes on from the next word; a count
-- above 0 is one more than that of the word before it. Words below 2^63 are ordered as numbers.
abbrev pub RangesGoUpByOne : Type 0
RangesGoUpByOne =
    (low high : ℕ) → IsWord low → IsWord high → IsTrue (is_less low high)
    → words_between low high ≡ low ∷ words_between (sum_of low 1) high

abbrev pub RangesEndAtTheirBound : Type 0
RangesEndAtTheirBound =
    (low high : ℕ) → is_less low high ≡ false
    → words_between low high ≡ []

abbrev pub CountsGoDownByOne : Type 0
CountsGoDownByOne =
    (k : ℕ) → IsWord k → IsTrue (is_less 0 k)
    → count_of (signed k) ≡ suc (count_of (signed (difference_of k 1)))

abbrev pub CountsEndAtZero : Type 0
CountsEndAtZero =
    (k : ℕ) → is_less 0 k ≡ false → count_of (signed k) ≡ 0

abbrev pub LowWordsAreOrderedAsNumbers : Type 0
LowWordsAreOrderedAsNumbers =
    (x y : ℕ) → x < 2 ^ 63 → y < 2 ^ 63 → is_less x y ≡ nat_lt x y
