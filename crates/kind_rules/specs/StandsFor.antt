-- What a tree stands for, by cases: a rule for each row of the table of kinds, with no order and no
-- faults. Parentheses are dropped, and names are numbered as their scope has them.
use Rattle.std.specs.Prelude.{◌≡◌, ℕ, ◌≤◌, List, [], ◌∷◌, ◌++◌, length, Some, Bool, true, false}
use Rattle.pipe_limits.specs.declared.TheConstants.{MOST_COMPONENTS}
use Rattle.list_denotation.specs.declared.kind.Kind.{Kind}
use Rattle.list_denotation.specs.declared.kind.Kind.TheVariants as kind
use Rattle.list_denotation.specs.Terms.{Term, Pipe, Finish, Pipeline}
use Rattle.list_denotation.specs.Terms as term
use Rattle.pipe_tree.specs.Trees.{Formula, Num, Truth, Name, Len, Neg, Not, Paren, Bin, And, Or, If, Label, Row, Pattern, Stream, From, Source, Array, Range, Unfold, Zip, Stage, Map, Filter, TakeWhile, Take, Drop, Scan, FlatMap, Stages, Nil, Cons, Terminal, Fold, Print, Text}
use Rattle.pipe_lexer.specs.declared.operator.BinOp.{BinOp as Sign}
use Rattle.pipe_lexer.specs.declared.operator.InputKind.TheVariants as input
use Rattle.kind_rules.specs.declared.meaning.Meaning.TheVariants as meaning
use Rattle.kind_rules.specs.Expressions.{has_division}
use Rattle.kind_rules.specs.Inputs.{declared_names, input_kinds, outermost}
use Rattle.kind_rules.specs.PatternScopes.{inside, inside_both}
use Rattle.kind_rules.specs.Scopes.{Scope, meaning_of, AreDistinct}
use Rattle.kind_rules.specs.Signs.{op_of, takes_ints, result_kind}

-- an expression in a scope stands for a term of this kind
pub data Stands (scope : Scope) : Formula → Kind → Term → Type 0 where
  number : {at w : ℕ} → Stands scope (Num at w) kind.Int (term.Lit w)
  truth : {at : ℕ} {b : Bool} → Stands scope (Truth at b) kind.Bool (term.Truth b)
  bound_word : {at i : ℕ} {n : List ℕ} {k : Kind} → meaning_of scope n ≡ Some (meaning.Bound i k) → Stands scope (Name at n) k (term.Var i)
  int_input : {at i : ℕ} {n : List ℕ} → meaning_of scope n ≡ Some (meaning.Input i input.Int) → Stands scope (Name at n) kind.Int (term.Param i)
  array_length : {at q i : ℕ} {n : List ℕ} → meaning_of scope n ≡ Some (meaning.Input i input.Array) → Stands scope (Len at q n) kind.Int (term.Len i)
  parentheses : {at : ℕ} {a : Formula} {k : Kind} {x : Term} → Stands scope a k x → Stands scope (Paren at a) k x
  minus : {at : ℕ} {a : Formula} {x : Term} → Stands scope a kind.Int x → Stands scope (Neg at a) kind.Int (term.Neg x)
  not : {at : ℕ} {a : Formula} {x : Term} → Stands scope a kind.Bool x → Stands scope (Not at a) kind.Bool (term.Not x)
  ints : {at q : ℕ} {o : Sign} {a b : Formula} {x y : Term} → takes_ints o ≡ true
      → Stands scope a kind.Int x → Stands scope b kind.Int y → Stands scope (Bin at o q a b) (result_kind o) (term.Bin (op_of o) x y)
  one_kind : {at q : ℕ} {o : Sign} {a b : Formula} {k : Kind} {x y : Term} → takes_ints o ≡ false
      → Stands scope a k x → Stands scope b k y → Stands scope (Bin at o q a b) (result_kind o) (term.Bin (op_of o) x y)
  conjunction : {at q : ℕ} {a b : Formula} {x y : Term} → Stands scope a kind.Bool x → Stands scope b kind.Bool y → Stands scope (And at q a b) kind.Bool (term.And x y)
  disjunction : {at q : ℕ} {a b : Formula} {x y : Term} → Stands scope a kind.Bool x → Stands scope b kind.Bool y → Stands scope (Or at q a b) kind.Bool (term.Or x y)
  choice : {at : ℕ} {c a b : Formula} {k : Kind} {z x y : Term} → Stands scope c kind.Bool z
      → Stands scope a k x → Stands scope b k y → Stands scope (If at c a b) k (term.If z x y)

-- an opening expression, in which no `/` and no `%` stands
pub record Opens (scope : Scope) (e : Formula) (k : Kind) (x : Term) : Type 0 where
  pub stands : Stands scope e k x
  pub undivided : has_division e ≡ false

-- ---- rows

-- expressions side by side, each with its kind and its term
pub data Each (R : Formula → Kind → Term → Type 0) : List Formula → List Kind → List Term → Type 0 where
  none : Each R [] [] []
  one_more : {e : Formula} {es : List Formula} {k : Kind} {ks : List Kind} {x : Term} {xs : List Term} → R e k x → Each R es ks xs → Each R (e ∷ es) (k ∷ ks) (x ∷ xs)

-- a row of at least one part and at most as many as a row may have
pub record RowOf (R : Formula → Kind → Term → Type 0) (row : Row) (ks : List Kind) (xs : List Term) : Type 0 where
  pub some : 1 ≤ length row.parts
  pub few : length row.parts ≤ MOST_COMPONENTS
  pub parts : Each R row.parts ks xs

abbrev pub RowStands : Scope → Row → List Kind → List Term → Type 0
RowStands scope row ks xs = RowOf (Stands scope) row ks xs

-- the first state of a scan, a fold or an unfold: its parts are opening expressions
abbrev pub SeedStands : Scope → Row → List Kind → List Term → Type 0
SeedStands scope row ks xs = RowOf (Opens scope) row ks xs

-- ---- patterns

-- a pattern is as wide as the row that it binds, and its names differ
pub record Binds (p : Pattern) (ks : List Kind) : Type 0 where
  pub width : length p.names ≡ length ks
  pub names : AreDistinct p.names

-- the same of a state's pattern and a row's, whose names all differ
pub record BindsBoth (state : Pattern) (js : List Kind) (pat : Pattern) (ks : List Kind) : Type 0 where
  pub state_width : length state.names ≡ length js
  pub row_width : length pat.names ≡ length ks
  pub names : AreDistinct (state.names ++ pat.names)

-- ---- streams

-- what stands behind `scan` and `fold`, over rows of these kinds: the next state has the kinds of the first
pub record Folds (scope : Scope) (seed : Row) (state pat : Pattern) (next : Row) (row ks : List Kind) (xs ys : List Term) : Type 0 where
  pub first_state : SeedStands scope seed ks xs
  pub binds : BindsBoth state ks pat row
  pub next_state : RowStands (inside_both scope state ks pat row) next ks ys

mutual
  -- a stream stands for a pipe whose rows have these kinds
  pub data StreamStands : Scope → Stream → List Kind → Pipe → Type 0 where
    from : {scope : Scope} {at : ℕ} {so : Source} {ss : Stages} {js ks : List Kind} {p q : Pipe} → SourceStands scope so js p → StagesStand scope ss js p ks q → StreamStands scope (From at so ss) ks q

  pub data SourceStands : Scope → Source → List Kind → Pipe → Type 0 where
    array : {scope : Scope} {n : Label} {i : ℕ} → meaning_of scope n.text ≡ Some (meaning.Input i input.Array) → SourceStands scope (Array n) (kind.Int ∷ []) (term.Array i)
    range : {scope : Scope} {a b : Formula} {x y : Term} → Opens scope a kind.Int x → Opens scope b kind.Int y → SourceStands scope (Range a b) (kind.Int ∷ []) (term.Range x y)
    unfold_from : {scope : Scope} {seed : Row} {pat : Pattern} {guard : Formula} {item next : Row} {ks js : List Kind} {xs ys zs : List Term} {g : Term} → SeedStands scope seed ks xs → Binds pat ks
        → Opens (inside scope pat ks) guard kind.Bool g → RowStands (inside scope pat ks) item js ys → RowStands (inside scope pat ks) next ks zs
        → SourceStands scope (Unfold seed pat guard item next) js (term.Unfold xs g ys zs)
    zip : {scope : Scope} {a b : Stream} {js ks : List Kind} {p q : Pipe} → StreamStands scope a js p → StreamStands scope b ks q → length (js ++ ks) ≤ MOST_COMPONENTS → SourceStands scope (Zip a b) (js ++ ks) (term.Zip p q)

  -- stages over rows of these kinds, which a pipe gives, stand for a pipe whose rows have those kinds
  pub data StagesStand : Scope → Stages → List Kind → Pipe → List Kind → Pipe → Type 0 where
    no_stage : {scope : Scope} {ks : List Kind} {p : Pipe} → StagesStand scope Nil ks p ks p
    one_stage : {scope : Scope} {s : Stage} {ss : Stages} {is js ks : List Kind} {o p q : Pipe} → StageStands scope s is o js p → StagesStand scope ss js p ks q → StagesStand scope (Cons s ss) is o ks q

  pub data StageStands : Scope → Stage → List Kind → Pipe → List Kind → Pipe → Type 0 where
    map : {scope : Scope} {at : ℕ} {p : Pattern} {body : Row} {ks js : List Kind} {of : Pipe} {xs : List Term} → Binds p ks → RowStands (inside scope p ks) body js xs
        → StageStands scope (Map at p body) ks of js (term.Map of xs)
    filter : {scope : Scope} {at : ℕ} {p : Pattern} {e : Formula} {ks : List Kind} {of : Pipe} {x : Term} → Binds p ks → Stands (inside scope p ks) e kind.Bool x
        → StageStands scope (Filter at p e) ks of ks (term.Filter of x)
    take_while : {scope : Scope} {at : ℕ} {p : Pattern} {e : Formula} {ks : List Kind} {of : Pipe} {x : Term} → Binds p ks → Stands (inside scope p ks) e kind.Bool x
        → StageStands scope (TakeWhile at p e) ks of ks (term.TakeWhile of x)
    take : {scope : Scope} {at : ℕ} {e : Formula} {ks : List Kind} {of : Pipe} {x : Term} → Opens scope e kind.Int x → StageStands scope (Take at e) ks of ks (term.Take of x)
    drop : {scope : Scope} {at : ℕ} {e : Formula} {ks : List Kind} {of : Pipe} {x : Term} → Opens scope e kind.Int x → StageStands scope (Drop at e) ks of ks (term.Drop of x)
    scan : {scope : Scope} {at : ℕ} {seed : Row} {state pat : Pattern} {next : Row} {ks js : List Kind} {of : Pipe} {xs ys : List Term} → Folds scope seed state pat next ks js xs ys
        → StageStands scope (Scan at seed state pat next) ks of js (term.Scan of xs ys)
    flat_map : {scope : Scope} {at : ℕ} {p : Pattern} {inner : Stream} {ks js : List Kind} {of q : Pipe} → Binds p ks → StreamStands (inside scope p ks) inner js q
        → StageStands scope (FlatMap at p inner) ks of js (term.FlatMap of q)

-- a terminal over rows of these kinds
pub data TerminalStands (scope : Scope) : Terminal → List Kind → Finish → Type 0 where
  fold : {seed : Row} {state pat : Pattern} {next : Row} {row ks : List Kind} {xs ys : List Term} → Folds scope seed state pat next row ks xs ys → TerminalStands scope (Fold seed state pat next) row (term.Fold xs ys)
  print : {row : List Kind} → TerminalStands scope Print row term.Print

-- ---- texts

-- the tree of a text stands for a pipeline: the names of its inputs differ, and its stream and its terminal
-- stand for those of the pipeline
pub record StandsFor (t : Text) (p : Pipeline) : Type 0 where
  pub names : AreDistinct (declared_names t.inputs)
  pub inputs : p.inputs ≡ input_kinds t.inputs
  pub row : List Kind
  pub stream_stands : StreamStands (outermost t) t.stream row p.stream
  pub terminal_stands : TerminalStands (outermost t) t.terminal row p.terminal
