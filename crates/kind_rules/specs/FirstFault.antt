-- The first fault of a tree, by cases along its text: either one part has it and the parts before stand
-- for something, or all parts stand for something and the whole breaks its own rule.
use Rattle.std.specs.Prelude.{◌≡◌, ◌≢◌, ℕ, zero, suc, ◌<◌, List, [], ◌∷◌, ◌++◌, length, Some, None, true, false}
use Rattle.pipe_limits.specs.declared.TheConstants.{MOST_COMPONENTS}
use Rattle.list_denotation.specs.declared.kind.Kind.{Kind}
use Rattle.list_denotation.specs.declared.kind.Kind.TheVariants as kind
use Rattle.list_denotation.specs.Terms.{Term, Pipe}
use Rattle.pipe_tree.specs.Trees.{Formula, offset_of, Name, Len, Neg, Not, Paren, Bin, And, Or, If, Label, Row, Pattern, Stream, From, Source, Array, Range, Unfold, Zip, Stage, Map, Filter, TakeWhile, Take, Drop, Scan, FlatMap, Stages, Cons, Terminal, Fold, Text}
use Rattle.pipe_lexer.specs.declared.operator.BinOp.{BinOp as Sign}
use Rattle.pipe_lexer.specs.declared.operator.InputKind.TheVariants as input
use Rattle.kind_rules.specs.declared.fault.TypeFault.{TypeFault}
use Rattle.kind_rules.specs.declared.fault.TypeFault.TheVariants as fault
use Rattle.kind_rules.specs.declared.meaning.Meaning.TheVariants as meaning
use Rattle.kind_rules.specs.Expressions.{first_division}
use Rattle.kind_rules.specs.Inputs.{declared_names, outermost}
use Rattle.kind_rules.specs.PatternScopes.{inside, inside_both}
use Rattle.kind_rules.specs.Scopes.{Scope, meaning_of, names_of, AreDistinct, is_among}
use Rattle.kind_rules.specs.Signs.{takes_ints}
use Rattle.kind_rules.specs.StandsFor.{Stands, Opens, RowStands, SeedStands, Binds, BindsBoth, StreamStands, SourceStands, StageStands}

-- ---- expressions

-- a name that has to be that of an array input
pub data NoArray (scope : Scope) (at : ℕ) (n : List ℕ) : TypeFault → Type 0 where
  absent : meaning_of scope n ≡ None → NoArray scope at n (fault.Unknown at)
  word : {i : ℕ} {k : Kind} → meaning_of scope n ≡ Some (meaning.Bound i k) → NoArray scope at n (fault.NotArray at)
  int : {i : ℕ} → meaning_of scope n ≡ Some (meaning.Input i input.Int) → NoArray scope at n (fault.NotArray at)

mutual
  -- an expression
  pub data Fails : Scope → Formula → TypeFault → Type 0 where
    unknown_name : {scope : Scope} {at : ℕ} {n : List ℕ} → meaning_of scope n ≡ None → Fails scope (Name at n) (fault.Unknown at)
    array_name : {scope : Scope} {at i : ℕ} {n : List ℕ} → meaning_of scope n ≡ Some (meaning.Input i input.Array) → Fails scope (Name at n) (fault.Mismatch at)
    no_array : {scope : Scope} {at q : ℕ} {n : List ℕ} {f : TypeFault} → NoArray scope q n f → Fails scope (Len at q n) f
    parentheses : {scope : Scope} {at : ℕ} {a : Formula} {f : TypeFault} → Fails scope a f → Fails scope (Paren at a) f
    minus : {scope : Scope} {at : ℕ} {a : Formula} {f : TypeFault} → FailsAs scope kind.Int a f → Fails scope (Neg at a) f
    not : {scope : Scope} {at : ℕ} {a : Formula} {f : TypeFault} → FailsAs scope kind.Bool a f → Fails scope (Not at a) f
    ints : {scope : Scope} {at q : ℕ} {o : Sign} {a b : Formula} {f : TypeFault} → takes_ints o ≡ true → BothFail scope kind.Int a b f → Fails scope (Bin at o q a b) f
    one_kind : {scope : Scope} {at q : ℕ} {o : Sign} {a b : Formula} {f : TypeFault} → takes_ints o ≡ false → AlikeFail scope a b f → Fails scope (Bin at o q a b) f
    conjunction : {scope : Scope} {at q : ℕ} {a b : Formula} {f : TypeFault} → BothFail scope kind.Bool a b f → Fails scope (And at q a b) f
    disjunction : {scope : Scope} {at q : ℕ} {a b : Formula} {f : TypeFault} → BothFail scope kind.Bool a b f → Fails scope (Or at q a b) f
    condition : {scope : Scope} {at : ℕ} {c a b : Formula} {f : TypeFault} → FailsAs scope kind.Bool c f → Fails scope (If at c a b) f
    branches : {scope : Scope} {at : ℕ} {c a b : Formula} {z : Term} {f : TypeFault} → Stands scope c kind.Bool z → AlikeFail scope a b f → Fails scope (If at c a b) f

  -- an expression that has to be of this kind
  pub data FailsAs : Scope → Kind → Formula → TypeFault → Type 0 where
    itself : {scope : Scope} {k : Kind} {e : Formula} {f : TypeFault} → Fails scope e f → FailsAs scope k e f
    other_kind : {scope : Scope} {j k : Kind} {e : Formula} {x : Term} → Stands scope e j x → j ≢ k → FailsAs scope k e (fault.Mismatch (offset_of e))

  -- two operands of this kind
  pub data BothFail : Scope → Kind → Formula → Formula → TypeFault → Type 0 where
    left : {scope : Scope} {k : Kind} {a b : Formula} {f : TypeFault} → FailsAs scope k a f → BothFail scope k a b f
    right : {scope : Scope} {k : Kind} {a b : Formula} {x : Term} {f : TypeFault} → Stands scope a k x → FailsAs scope k b f → BothFail scope k a b f

  -- two operands of any one kind
  pub data AlikeFail : Scope → Formula → Formula → TypeFault → Type 0 where
    first : {scope : Scope} {a b : Formula} {f : TypeFault} → Fails scope a f → AlikeFail scope a b f
    second : {scope : Scope} {k : Kind} {a b : Formula} {x : Term} {f : TypeFault} → Stands scope a k x → FailsAs scope k b f → AlikeFail scope a b f

-- an opening expression of any kind: once it is typed, no division may stand in it
pub data OpeningFails (scope : Scope) (e : Formula) : TypeFault → Type 0 where
  untyped : {f : TypeFault} → Fails scope e f → OpeningFails scope e f
  divided : {k : Kind} {x : Term} {at : ℕ} → Stands scope e k x → first_division e ≡ Some at → OpeningFails scope e (fault.DivisionInOpening at)

-- an opening expression of this kind
pub data OpeningFailsAs (scope : Scope) (k : Kind) (e : Formula) : TypeFault → Type 0 where
  untyped_as : {f : TypeFault} → FailsAs scope k e f → OpeningFailsAs scope k e f
  divided_as : {x : Term} {at : ℕ} → Stands scope e k x → first_division e ≡ Some at → OpeningFailsAs scope k e (fault.DivisionInOpening at)

-- ---- rows

-- expressions side by side, where so many more have room
pub data PartsFail (R : Formula → Kind → Term → Type 0) (F : Formula → TypeFault → Type 0) : ℕ → List Formula → TypeFault → Type 0 where
  no_room : {e : Formula} {es : List Formula} → PartsFail R F zero (e ∷ es) (fault.TooWide (offset_of e))
  here : {room : ℕ} {e : Formula} {es : List Formula} {f : TypeFault} → F e f → PartsFail R F (suc room) (e ∷ es) f
  later : {room : ℕ} {e : Formula} {es : List Formula} {k : Kind} {x : Term} {f : TypeFault} → R e k x → PartsFail R F room es f → PartsFail R F (suc room) (e ∷ es) f

-- a row, of which the ninth part is one too many
pub data RowOfFails (R : Formula → Kind → Term → Type 0) (F : Formula → TypeFault → Type 0) (row : Row) : TypeFault → Type 0 where
  no_parts : row.parts ≡ [] → RowOfFails R F row (fault.WidthMismatch row.at)
  in_parts : {f : TypeFault} → PartsFail R F MOST_COMPONENTS row.parts f → RowOfFails R F row f

abbrev pub RowFails : Scope → Row → TypeFault → Type 0
RowFails scope row f = RowOfFails (Stands scope) (Fails scope) row f

abbrev pub SeedFails : Scope → Row → TypeFault → Type 0
SeedFails scope row f = RowOfFails (Opens scope) (OpeningFails scope) row f

-- parts of these kinds beside a state of those: the first that differs
pub data FirstUnlike : List Formula → List Kind → List Kind → TypeFault → Type 0 where
  unlike : {e : Formula} {es : List Formula} {j k : Kind} {js ks : List Kind} → j ≢ k → FirstUnlike (e ∷ es) (j ∷ js) (k ∷ ks) (fault.Mismatch (offset_of e))
  unlike_later : {e : Formula} {es : List Formula} {k : Kind} {js ks : List Kind} {f : TypeFault} → FirstUnlike es js ks f → FirstUnlike (e ∷ es) (k ∷ js) (k ∷ ks) f

-- a next state over a state of these kinds
pub data NextFails (scope : Scope) (state : List Kind) (row : Row) : TypeFault → Type 0 where
  no_row : {f : TypeFault} → RowFails scope row f → NextFails scope state row f
  other_width : {ks : List Kind} {xs : List Term} → RowStands scope row ks xs → length ks ≢ length state → NextFails scope state row (fault.WidthMismatch row.at)
  other_kinds : {ks : List Kind} {xs : List Term} {f : TypeFault} → RowStands scope row ks xs → length ks ≡ length state → FirstUnlike row.parts ks state f → NextFails scope state row f

-- ---- patterns

-- the first name that is spelled as one before it, or as one of these
pub data Repeats : List (List ℕ) → List Label → TypeFault → Type 0 where
  repeated : {before : List (List ℕ)} {n : Label} {ns : List Label} → is_among n.text before ≡ true → Repeats before (n ∷ ns) (fault.Twice n.at)
  repeated_later : {before : List (List ℕ)} {n : Label} {ns : List Label} {f : TypeFault} → is_among n.text before ≡ false → Repeats (before ++ n.text ∷ []) ns f → Repeats before (n ∷ ns) f

-- a pattern beside these names, over a row of these kinds
pub data PatternFails (before : List (List ℕ)) (p : Pattern) (ks : List Kind) : TypeFault → Type 0 where
  narrow_or_wide : length p.names ≢ length ks → PatternFails before p ks (fault.WidthMismatch p.at)
  twice : {f : TypeFault} → length p.names ≡ length ks → Repeats before p.names f → PatternFails before p ks f

-- a state's pattern and then a row's
pub data PatternsFail (state : Pattern) (js : List Kind) (pat : Pattern) (ks : List Kind) : TypeFault → Type 0 where
  state_fails : {f : TypeFault} → PatternFails [] state js f → PatternsFail state js pat ks f
  row_fails : {f : TypeFault} → Binds state js → PatternFails (names_of state.names) pat ks f → PatternsFail state js pat ks f

-- ---- streams

-- what stands behind `scan` and `fold`, over rows of these kinds
pub data FoldingFails (scope : Scope) (seed : Row) (state pat : Pattern) (next : Row) (row : List Kind) : TypeFault → Type 0 where
  in_seed : {f : TypeFault} → SeedFails scope seed f → FoldingFails scope seed state pat next row f
  in_patterns : {ks : List Kind} {xs : List Term} {f : TypeFault} → SeedStands scope seed ks xs → PatternsFail state ks pat row f → FoldingFails scope seed state pat next row f
  in_next : {ks : List Kind} {xs : List Term} {f : TypeFault} → SeedStands scope seed ks xs → BindsBoth state ks pat row → NextFails (inside_both scope state ks pat row) ks next f → FoldingFails scope seed state pat next row f

-- a turn of an `unfold`, over a state of these kinds
pub data TurnFails (scope : Scope) (state : List Kind) (guard : Formula) (item next : Row) : TypeFault → Type 0 where
  in_guard : {f : TypeFault} → OpeningFailsAs scope kind.Bool guard f → TurnFails scope state guard item next f
  in_item : {g : Term} {f : TypeFault} → Opens scope guard kind.Bool g → RowFails scope item f → TurnFails scope state guard item next f
  in_next_state : {g : Term} {ks : List Kind} {xs : List Term} {f : TypeFault} → Opens scope guard kind.Bool g → RowStands scope item ks xs → NextFails scope state next f → TurnFails scope state guard item next f

-- a test of rows of these kinds
pub data TestFails (scope : Scope) (p : Pattern) (e : Formula) (ks : List Kind) : TypeFault → Type 0 where
  in_pattern : {f : TypeFault} → PatternFails [] p ks f → TestFails scope p e ks f
  in_test : {f : TypeFault} → Binds p ks → FailsAs (inside scope p ks) kind.Bool e f → TestFails scope p e ks f

mutual
  pub data StreamFails : Scope → Stream → TypeFault → Type 0 where
    in_source : {scope : Scope} {at : ℕ} {so : Source} {ss : Stages} {f : TypeFault} → SourceFails scope at so f → StreamFails scope (From at so ss) f
    in_stages : {scope : Scope} {at : ℕ} {so : Source} {ss : Stages} {ks : List Kind} {p : Pipe} {f : TypeFault} → SourceStands scope so ks p → StagesFail scope ss ks p f → StreamFails scope (From at so ss) f

  pub data SourceFails : Scope → ℕ → Source → TypeFault → Type 0 where
    array : {scope : Scope} {at : ℕ} {n : Label} {f : TypeFault} → NoArray scope n.at n.text f → SourceFails scope at (Array n) f
    low_bound : {scope : Scope} {at : ℕ} {a b : Formula} {f : TypeFault} → OpeningFailsAs scope kind.Int a f → SourceFails scope at (Range a b) f
    high_bound : {scope : Scope} {at : ℕ} {a b : Formula} {x : Term} {f : TypeFault} → Opens scope a kind.Int x → OpeningFailsAs scope kind.Int b f → SourceFails scope at (Range a b) f
    unfold_seed : {scope : Scope} {at : ℕ} {seed : Row} {pat : Pattern} {guard : Formula} {item next : Row} {f : TypeFault} → SeedFails scope seed f → SourceFails scope at (Unfold seed pat guard item next) f
    unfold_pattern : {scope : Scope} {at : ℕ} {seed : Row} {pat : Pattern} {guard : Formula} {item next : Row} {ks : List Kind} {xs : List Term} {f : TypeFault} → SeedStands scope seed ks xs → PatternFails [] pat ks f
        → SourceFails scope at (Unfold seed pat guard item next) f
    unfold_turn : {scope : Scope} {at : ℕ} {seed : Row} {pat : Pattern} {guard : Formula} {item next : Row} {ks : List Kind} {xs : List Term} {f : TypeFault} → SeedStands scope seed ks xs → Binds pat ks
        → TurnFails (inside scope pat ks) ks guard item next f → SourceFails scope at (Unfold seed pat guard item next) f
    left_arm : {scope : Scope} {at : ℕ} {a b : Stream} {f : TypeFault} → StreamFails scope a f → SourceFails scope at (Zip a b) f
    right_arm : {scope : Scope} {at : ℕ} {a b : Stream} {ks : List Kind} {p : Pipe} {f : TypeFault} → StreamStands scope a ks p → StreamFails scope b f → SourceFails scope at (Zip a b) f
    wide_arms : {scope : Scope} {at : ℕ} {a b : Stream} {js ks : List Kind} {p q : Pipe} → StreamStands scope a js p → StreamStands scope b ks q → MOST_COMPONENTS < length (js ++ ks) → SourceFails scope at (Zip a b) (fault.TooWide at)

  -- stages over rows of these kinds, which this pipe gives
  pub data StagesFail : Scope → Stages → List Kind → Pipe → TypeFault → Type 0 where
    this_stage : {scope : Scope} {s : Stage} {ss : Stages} {ks : List Kind} {p : Pipe} {f : TypeFault} → StageFails scope s ks f → StagesFail scope (Cons s ss) ks p f
    later_stage : {scope : Scope} {s : Stage} {ss : Stages} {js ks : List Kind} {p q : Pipe} {f : TypeFault} → StageStands scope s js p ks q → StagesFail scope ss ks q f → StagesFail scope (Cons s ss) js p f

  pub data StageFails : Scope → Stage → List Kind → TypeFault → Type 0 where
    map_pattern : {scope : Scope} {at : ℕ} {p : Pattern} {body : Row} {ks : List Kind} {f : TypeFault} → PatternFails [] p ks f → StageFails scope (Map at p body) ks f
    map_body : {scope : Scope} {at : ℕ} {p : Pattern} {body : Row} {ks : List Kind} {f : TypeFault} → Binds p ks → RowFails (inside scope p ks) body f → StageFails scope (Map at p body) ks f
    filter : {scope : Scope} {at : ℕ} {p : Pattern} {e : Formula} {ks : List Kind} {f : TypeFault} → TestFails scope p e ks f → StageFails scope (Filter at p e) ks f
    take_while : {scope : Scope} {at : ℕ} {p : Pattern} {e : Formula} {ks : List Kind} {f : TypeFault} → TestFails scope p e ks f → StageFails scope (TakeWhile at p e) ks f
    take : {scope : Scope} {at : ℕ} {e : Formula} {ks : List Kind} {f : TypeFault} → OpeningFailsAs scope kind.Int e f → StageFails scope (Take at e) ks f
    drop : {scope : Scope} {at : ℕ} {e : Formula} {ks : List Kind} {f : TypeFault} → OpeningFailsAs scope kind.Int e f → StageFails scope (Drop at e) ks f
    scan : {scope : Scope} {at : ℕ} {seed : Row} {state pat : Pattern} {next : Row} {ks : List Kind} {f : TypeFault} → FoldingFails scope seed state pat next ks f → StageFails scope (Scan at seed state pat next) ks f
    flat_map_pattern : {scope : Scope} {at : ℕ} {p : Pattern} {inner : Stream} {ks : List Kind} {f : TypeFault} → PatternFails [] p ks f → StageFails scope (FlatMap at p inner) ks f
    flat_map_stream : {scope : Scope} {at : ℕ} {p : Pattern} {inner : Stream} {ks : List Kind} {f : TypeFault} → Binds p ks → StreamFails (inside scope p ks) inner f → StageFails scope (FlatMap at p inner) ks f

-- a terminal over rows of these kinds
pub data TerminalFails (scope : Scope) (row : List Kind) : Terminal → TypeFault → Type 0 where
  fold : {seed : Row} {state pat : Pattern} {next : Row} {f : TypeFault} → FoldingFails scope seed state pat next row f → TerminalFails scope row (Fold seed state pat next) f

-- ---- texts

pub data FirstFault (t : Text) : TypeFault → Type 0 where
  input_twice : {f : TypeFault} → Repeats [] (declared_names t.inputs) f → FirstFault t f
  in_stream : {f : TypeFault} → AreDistinct (declared_names t.inputs) → StreamFails (outermost t) t.stream f → FirstFault t f
  in_terminal : {row : List Kind} {p : Pipe} {f : TypeFault} → AreDistinct (declared_names t.inputs) → StreamStands (outermost t) t.stream row p → TerminalFails (outermost t) row t.terminal f → FirstFault t f
