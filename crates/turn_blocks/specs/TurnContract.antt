-- What is promised of the statements of a turn.
use Rattle.std.specs.Prelude.{◌≡◌, ℕ, ◌+◌, ◌<◌, ◌≤◌, ◌^◌, List, [], ◌∷◌, ◌++◌, length, slice_get, slice_index, IsTrue, All, Contains}
use Rattle.strm_num.specs.Words.{IsWord}
use Rattle.list_denotation.specs.declared.event.Event.{Event}
use Rattle.list_denotation.specs.declared.input.Input.{Input}
use Rattle.list_denotation.specs.Inputs.{items_in, word_in}
use Rattle.list_denotation.specs.Literals.{is_word_leaf, all_have_words}
use Rattle.list_denotation.specs.Observation.{Standing, Done, Failed}
use Rattle.list_denotation.specs.Terms.{Term}
use Rattle.list_denotation.specs.Values.{Fault}
use Rattle.loop_ir.specs.Statements.{Block}
use Rattle.loop_ir.specs.Meaning.{Runs, Over, run}
use Rattle.state_alloc.specs.Layouts.{IsLaidOut, IsTemporary, IsWordVariable}
use Rattle.stateful_core.specs.Actions.{ActResult, Continue, Skip, Halt, Break}
use Rattle.stateful_core.specs.CoreLeaves.{actions_leaves}
use Rattle.stateful_core.specs.CoreShapes.{actions_locals}
use Rattle.stateful_core.specs.CoreTerms.{Actions}
use Rattle.stateful_core.specs.Turns.{Turn, Gives, Skips, Stops, Breaks}
use Rattle.stateful_core.specs.WellFormed.{all_sure, are_sound_actions}
use Rattle.turn_blocks.specs.Pieces.{Tail}
use Rattle.turn_blocks.specs.Temporaries.{row_temps, acts_temps}

-- ---- who takes the rows

-- what comes of a row: events, what is held then and the turns that are left; or the run is over, with these events
pub data Fed : Type 0 where
  Takes : (events : List Event) → (held : List ℕ) → (left : ℕ) → Fed
  Halts : (events : List Event) → Standing → Fed

-- the variables of the words that it holds, these words, and how many turns of loops are left; what comes of a row, and what
-- comes of a stop
pub record Consumer : Type 0 where
  pub vars : List ℕ
  pub held : List ℕ
  pub left : ℕ
  pub feed : List ℕ → Fed
  pub stopped : Fed

-- what a terminal does with a row, which takes no turns: events, and what is held then; or a fault
pub data Taken : Type 0 where
  Holds : (events : List Event) → (held : List ℕ) → Taken
  Refuses : Fault → Taken

-- a terminal: the variables of the words that it holds, what it does with what is held and a row, and what is seen of what it
-- holds where the stream stops
pub record Taker : Type 0 where
  pub vars : List ℕ
  pub feed : List ℕ → List ℕ → Taken
  pub ending : List ℕ → List Event

abbrev pub taken : ℕ → Taken → Fed
taken left (Holds events held) = Takes events held left
taken left (Refuses f) = Halts [] (Failed f)

abbrev pub consumer_of : Taker → List ℕ → ℕ → Consumer
consumer_of taker held left = record {
  vars = taker.vars;
  held = held;
  left = left;
  feed = λ row. taken left (taker.feed held row);
  stopped = Halts (taker.ending held) Done;
}

-- how a turn ends: what follows begins with this state, what is held and the turns that are left; or the run is over
pub data TurnEnd : Type 0 where
  Goes : (events : List Event) → (state held : List ℕ) → (left : ℕ) → TurnEnd
  Ends : (events : List Event) → Standing → TurnEnd

abbrev pub fed_end : List ℕ → Fed → TurnEnd
fed_end state (Takes events held left) = Goes events state held left
fed_end state (Halts events standing) = Ends events standing

-- the state that acts come to, wherever they lead
abbrev pub come_to : ActResult → List ℕ
come_to (Continue state locals) = state
come_to (Skip state) = state
come_to (Halt state) = state
come_to (Break f) = []

-- a stop leaves the state that the acts have come to
abbrev pub turn_end_of : Consumer → List ℕ → Turn (List ℕ) → TurnEnd
turn_end_of c come (Gives row state) = fed_end state (c.feed row)
turn_end_of c come (Skips state) = Goes [] state c.held c.left
turn_end_of c come Stops = fed_end come c.stopped
turn_end_of c come (Breaks f) = Ends [] (Failed f)

-- ---- where words stand

-- the words of these variables
abbrev pub words_at : List ℕ → List ℕ → List ℕ
words_at env [] = []
words_at env (v ∷ vs) = slice_index env v ∷ words_at env vs

-- words that stand in these variables
pub record IsIn (env vars words : List ℕ) : Type 0 where
  pub there : words_at env vars ≡ words
  pub are_words : All IsWord words

-- what inputs hold are words
pub record HasWordInputs (inputs : List Input) : Type 0 where
  pub ints : (k : ℕ) → IsWord (word_in (slice_get inputs k))
  pub items : (k : ℕ) → All IsWord (items_in (slice_get inputs k))
  pub lengths : (k : ℕ) → IsWord (length (items_in (slice_get inputs k)))

-- which variables are temporaries, and the first that was never given out
pub record Frame : Type 0 where
  pub first_temp : ℕ
  pub temps : ℕ
  pub next : ℕ

-- each variable that was given out is as it was, but for temporaries and these
abbrev pub IsKept : Frame → List ℕ → List ℕ → List ℕ → Type 0
IsKept frame but env env' =
    (v : ℕ) → v < frame.next → ¬ IsTemporary frame.first_temp frame.temps v → ¬ Contains but v → slice_index env' v ≡ slice_index env v

-- ---- what the statements behind the acts do

module _ (inputs : List Input) where
  pub record TakesRow (frame : Frame) (c : Consumer) (block : Block) (env : List ℕ) (events : List Event) (held : List ℕ) (left : ℕ) : Type 0 where
    pub env' : List ℕ
    pub runs : run inputs block env c.left ≡ Runs events env' left
    pub same : length env' ≡ length env
    pub holds : IsIn env' c.vars held
    pub kept : IsKept frame c.vars env env'

  abbrev pub FeedRuns : Frame → Consumer → Block → List ℕ → Fed → Type 0
  FeedRuns frame c block env (Takes events held left) = TakesRow frame c block env events held left
  FeedRuns frame c block env (Halts events standing) = run inputs block env c.left ≡ Over events standing

  -- whatever the row, the statements do with it what the consumer does, where the words of the scope stand in its variables and
  -- what is held in those of the consumer
  pub record IsTailOf (first_temp temps : ℕ) (scope_vars scope_words : List ℕ) (c : Consumer) (tail : Tail) : Type 0 where
    pub runs : (next : ℕ) (vars row env : List ℕ)
        → IsLaidOut (c.vars ++ (scope_vars ++ vars)) first_temp temps next → All (λ v. ¬ Contains c.vars v) (scope_vars ++ vars)
        → length vars ≡ tail.width
        → (tail.piece vars next).next ≤ length env → length env < 2 ^ 32
        → IsIn env scope_vars scope_words → IsIn env vars row → IsIn env c.vars c.held
        → FeedRuns (record { first_temp = first_temp; temps = temps; next = next }) c (tail.piece vars next).block env (c.feed row)
    pub grows : (next : ℕ) (vars : List ℕ) → next ≤ (tail.piece vars next).next

  -- where the stream stops, the statements do what the consumer does at a stop. They take no variable
  abbrev pub IsStopOf : ℕ → ℕ → Consumer → Block → Type 0
  IsStopOf first_temp temps c stop =
      (next : ℕ) (env : List ℕ) → IsLaidOut c.vars first_temp temps next → next ≤ length env → length env < 2 ^ 32 → IsIn env c.vars c.held
      → FeedRuns (record { first_temp = first_temp; temps = temps; next = next }) c stop env c.stopped

  -- ---- what the statements of a turn do

  pub record Leads (frame : Frame) (c : Consumer) (state_vars : List ℕ) (block : Block) (env : List ℕ) (events : List Event) (state held : List ℕ) (left : ℕ) : Type 0 where
    pub env' : List ℕ
    pub runs : run inputs block env c.left ≡ Runs events env' left
    pub same : length env' ≡ length env
    pub states : IsIn env' state_vars state
    pub holds : IsIn env' c.vars held
    pub kept : IsKept frame (state_vars ++ c.vars) env env'

  abbrev pub TurnRuns : Frame → Consumer → List ℕ → Block → List ℕ → TurnEnd → Type 0
  TurnRuns frame c state_vars block env (Goes events state held left) = Leads frame c state_vars block env events state held left
  TurnRuns frame c state_vars block env (Ends events standing) = run inputs block env c.left ≡ Over events standing

-- ---- what is asked for

-- the words of the scope stand in these variables, those of the state in those, and the first local words, which are a row, in
-- others still; the variables of the state differ from one another, from those of the scope and from those of the row, and what
-- the consumer holds stands in others still
pub record IsTurnLayout (frame : Frame) (scope_vars state_vars row_vars held_vars : List ℕ) : Type 0 where
  pub laid_out : IsLaidOut (scope_vars ++ (state_vars ++ row_vars)) frame.first_temp frame.temps frame.next
  pub states_differ : (i j : ℕ) → i < length state_vars → j < length state_vars → slice_index state_vars i ≡ slice_index state_vars j → i ≡ j
  pub scope_differs : All (λ v. ¬ Contains state_vars v) scope_vars
  pub row_differs : All (λ v. ¬ Contains state_vars v) row_vars
  pub held_given : All (IsWordVariable frame.first_temp frame.temps frame.next) held_vars
  pub held_differs : All (λ v. ¬ Contains (scope_vars ++ (state_vars ++ row_vars)) v) held_vars

-- acts and a row that are well formed where so many words are bound before the state, so many are the state, and so many local
-- words are there already; their numbers are words, and so many temporaries are enough
pub record IsTurn (scope states locals temps : ℕ) (acts : Actions) (item : List Term) : Type 0 where
  pub acts_sound : IsTrue (are_sound_actions states (scope + states + locals) acts)
  pub item_sound : IsTrue (all_sure (scope + states + locals + actions_locals acts) item)
  pub acts_words : IsTrue (actions_leaves is_word_leaf acts)
  pub item_words : IsTrue (all_have_words item)
  pub acts_few : acts_temps acts ≤ temps
  pub item_few : row_temps item ≤ temps
