-- The kinds of streams and terminals, and what they stand for.
use Rattle.std.specs.Prelude.{ℕ, List, [], ◌∷◌, ◌++◌, length, nat_le, Ok}
use Rattle.pipe_limits.specs.declared.TheConstants.{MOST_COMPONENTS}
use Rattle.list_denotation.specs.declared.kind.Kind.{Kind}
use Rattle.list_denotation.specs.declared.kind.Kind.TheVariants as kind
use Rattle.list_denotation.specs.Terms.{Term, Pipe, Finish}
use Rattle.list_denotation.specs.Terms as term
use Rattle.pipe_tree.specs.Trees.{Formula, Label, Row, Pattern, Stream, From, Source, Array, Range, Unfold, Zip, Stage, Map, Filter, TakeWhile, Take, Drop, Scan, FlatMap, Stages, Nil, Cons, Terminal, Fold, Print}
use Rattle.kind_rules.specs.declared.fault.TypeFault.TheVariants as fault
use Rattle.kind_rules.specs.Checked.{Checked, after, unless}
use Rattle.kind_rules.specs.Expressions.{array_named, of_this_kind, opening_kind}
use Rattle.kind_rules.specs.PatternScopes.{inside_of, inside_both_of}
use Rattle.kind_rules.specs.Rows.{TypedRow, row_of, seed_of, next_of}
use Rattle.kind_rules.specs.Scopes.{Scope, meaning_of}

-- a stream with the kinds of its rows
pub record TypedStream : Type 0 where
  pub kinds : List Kind
  pub pipe : Pipe

abbrev pub stream : List Kind → Pipe → TypedStream
stream ks p = record { kinds = ks; pipe = p }

-- a state and what it becomes with each row
pub record State : Type 0 where
  pub seed : TypedRow
  pub next : List Term

-- what stands behind `scan` and `fold`, over rows of these kinds
abbrev pub folding_of : Scope → Row → Pattern → Pattern → Row → List Kind → Checked State
folding_of scope seed state pat next row =
    after (seed_of scope seed) (λ s.
    after (inside_both_of scope state s.kinds pat row) (λ inside.
    after (next_of inside s.kinds next) (λ es. Ok (record { seed = s; next = es }))))

-- a turn of an `unfold` over a state of these kinds
pub record Turn : Type 0 where
  pub guard : Term
  pub item : TypedRow
  pub next : List Term

abbrev pub turn_of : Scope → List Kind → Formula → Row → Row → Checked Turn
turn_of scope state guard item next =
    after (opening_kind scope kind.Bool guard) (λ g.
    after (row_of scope item) (λ i.
    after (next_of scope state next) (λ es. Ok (record { guard = g; item = i; next = es }))))

abbrev pub array_of : Scope → Label → Checked TypedStream
array_of scope n = after (array_named n.at (meaning_of scope n.text)) (λ i. Ok (stream (kind.Int ∷ []) (term.Array i)))

abbrev pub range_of : Scope → Formula → Formula → Checked TypedStream
range_of scope a b =
    after (opening_kind scope kind.Int a) (λ x. after (opening_kind scope kind.Int b) (λ y. Ok (stream (kind.Int ∷ []) (term.Range x y))))

abbrev pub unfold_of : Scope → Row → Pattern → Formula → Row → Row → Checked TypedStream
unfold_of scope seed pat guard item next =
    after (seed_of scope seed) (λ s.
    after (inside_of scope pat s.kinds) (λ inside.
    after (turn_of inside s.kinds guard item next) (λ t. Ok (stream t.item.kinds (term.Unfold s.terms t.guard t.item.terms t.next)))))

-- the rows of both arms of a `zip` at this offset
abbrev pub zip_of : ℕ → TypedStream → TypedStream → Checked TypedStream
zip_of at a b = unless (nat_le (length (a.kinds ++ b.kinds)) MOST_COMPONENTS) (fault.TooWide at) (Ok (stream (a.kinds ++ b.kinds) (term.Zip a.pipe b.pipe)))

abbrev pub map_of : Scope → Pattern → Row → TypedStream → Checked TypedStream
map_of scope p body of = after (inside_of scope p of.kinds) (λ inside. after (row_of inside body) (λ r. Ok (stream r.kinds (term.Map of.pipe r.terms))))

-- a test of rows of these kinds
abbrev pub row_test : Scope → Pattern → Formula → List Kind → Checked Term
row_test scope p e ks = after (inside_of scope p ks) (λ inside. of_this_kind inside kind.Bool e)

-- a stage that binds a row and tests it
abbrev pub test_of : Scope → Pattern → Formula → TypedStream → (Pipe → Term → Pipe) → Checked TypedStream
test_of scope p e of make = after (row_test scope p e of.kinds) (λ t. Ok (stream of.kinds (make of.pipe t)))

-- a stage that counts
abbrev pub count_of : Scope → Formula → TypedStream → (Pipe → Term → Pipe) → Checked TypedStream
count_of scope e of make = after (opening_kind scope kind.Int e) (λ t. Ok (stream of.kinds (make of.pipe t)))

abbrev pub scan_of : Scope → Row → Pattern → Pattern → Row → TypedStream → Checked TypedStream
scan_of scope seed state p next of = after (folding_of scope seed state p next of.kinds) (λ s. Ok (stream s.seed.kinds (term.Scan of.pipe s.seed.terms s.next)))

abbrev mutual
  pub stream_of : Scope → Stream → Checked TypedStream
  stream_of scope (From at source stages) = after (source_of scope at source) (λ s. stages_of scope stages s)

  pub source_of : Scope → ℕ → Source → Checked TypedStream
  source_of scope at (Array n) = array_of scope n
  source_of scope at (Range a b) = range_of scope a b
  source_of scope at (Unfold seed pat guard item next) = unfold_of scope seed pat guard item next
  source_of scope at (Zip a b) = after (stream_of scope a) (λ x. after (stream_of scope b) (λ y. zip_of at x y))

  pub stages_of : Scope → Stages → TypedStream → Checked TypedStream
  stages_of scope Nil of = Ok of
  stages_of scope (Cons s ss) of = after (stage_of scope s of) (λ t. stages_of scope ss t)

  pub stage_of : Scope → Stage → TypedStream → Checked TypedStream
  stage_of scope (Map at p body) of = map_of scope p body of
  stage_of scope (Filter at p e) of = test_of scope p e of term.Filter
  stage_of scope (TakeWhile at p e) of = test_of scope p e of term.TakeWhile
  stage_of scope (Take at e) of = count_of scope e of term.Take
  stage_of scope (Drop at e) of = count_of scope e of term.Drop
  stage_of scope (Scan at seed state p next) of = scan_of scope seed state p next of
  stage_of scope (FlatMap at p inner) of =
      after (inside_of scope p of.kinds) (λ inside. after (stream_of inside inner) (λ t. Ok (stream t.kinds (term.FlatMap of.pipe t.pipe))))

-- a terminal over rows of these kinds
abbrev pub terminal_of : Scope → Terminal → List Kind → Checked Finish
terminal_of scope (Fold seed state p next) row = after (folding_of scope seed state p next row) (λ s. Ok (term.Fold s.seed.terms s.next))
terminal_of scope Print row = Ok term.Print
