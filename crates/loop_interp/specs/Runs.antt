-- What a part of a run does, from one state to another.
use Rattle.std.specs.Prelude.{◌≡◌, ◌⊎◌, ℕ, ◌+◌, ◌≤◌, List, [], ◌∷◌, take, length, Bool, true, false, Option, Some, None, Result, Ok, Err, slice_set}
use Rattle.list_denotation.specs.declared.event.Event.{Event}
use Rattle.list_denotation.specs.declared.event.Event.TheVariants.{Emit, EndRow}
use Rattle.list_denotation.specs.Observation.{Standing}
use Rattle.list_denotation.specs.Values.{Got, Is, Fails, Stuck}
use Rattle.loop_ir.specs.Meaning.{Outcome, Runs, Over, seen_of}
use Rattle.event_texts.specs.Texts.{text_after}
use Rattle.strm_io.specs.Counts.{Rose}
use Rattle.strm_io.specs.Appending.{AppendsPrefix}
use Rattle.strm_io.specs.Writing.{Appends}
use Rattle.strm_io.specs.declared.appending.WriteFault.{WriteFault}
use Rattle.loop_interp.specs.declared.outcome.Outcome.{Outcome as Answer}
use Rattle.loop_interp.specs.declared.outcome.Outcome.TheVariants as answer
use Rattle.loop_interp.specs.declared.machine.Registers.{Registers}
use Rattle.loop_interp.specs.declared.machine.Progress.{Progress}
use Rattle.loop_interp.specs.Output.{Adds, IsCut, event_before}
use Rattle.loop_interp.specs.Answers.{answer_of}

-- how the output stands: what was put, the faults, what is pending, and whether a row is open
pub record Output : Type 0 where
  pub written : Option (List ℕ)
  pub faults : ℕ
  pub pending : List ℕ
  pub in_row : Bool

-- whether a row is open after events
abbrev pub row_after : Bool → List Event → Bool
row_after in_row [] = in_row
row_after in_row (Emit w ∷ events) = row_after true events
row_after in_row (EndRow ∷ events) = row_after false events

-- the text of events after those before
abbrev pub text_from : Output → List Event → List ℕ
text_from o events = text_after (event_before o.in_row) events

-- the text of these events is added
pub record Wrote (o o' : Output) (events : List Event) : Type 0 where
  pub text : Adds o.written o'.written o.pending o'.pending (text_from o events)
  pub row : o'.in_row ≡ row_after o.in_row events
  pub faults : o.faults ≤ o'.faults

-- the text of these events is cut by a fault
pub record CutsOff (o o' : Output) (events : List Event) : Type 0 where
  pub cut : IsCut o.written o'.written o.pending (text_from o events)
  pub rose : Rose o.faults o'.faults
  pub faults : o.faults ≤ o'.faults

-- an event is written
abbrev pub WritesEvent : Event → Output → Output → Result (Unit {0}) WriteFault → Type 0
WritesEvent event o o' (Ok done) = Wrote o o' (event ∷ [])
WritesEvent event o o' (Err fault) = CutsOff o o' (event ∷ [])

-- the output, the variables and the turns left
pub record State : Type 0 where
  pub out : Output
  pub env : List ℕ
  pub left : ℕ

-- the run goes on from this state
pub record GoesOn (o : Outcome) (s s' : State) : Type 0 where
  pub events : List Event
  pub is : o ≡ Runs events s'.env s'.left
  pub wrote : Wrote s.out s'.out events
  pub turns : s'.left ≤ s.left

-- the run is over, with this answer
pub record Ends (o : Outcome) (s s' : State) (result : Answer) : Type 0 where
  pub events : List Event
  pub standing : Standing
  pub is : o ≡ Over events standing
  pub answer : result ≡ answer_of standing
  pub wrote : Wrote s.out s'.out events

-- a write failed
pub record Breaks (o : Outcome) (s s' : State) (result : Answer) : Type 0 where
  pub answer : result ≡ answer.Write
  pub cut : CutsOff s.out s'.out (seen_of o).events

-- what is done and answered is what the outcome says
abbrev pub Follows : Outcome → State → State → Result (Unit {0}) Answer → Type 0
Follows o s s' (Ok done) = GoesOn o s s'
Follows o s s' (Err result) = Ends o s s' result ⊎ Breaks o s s' result

abbrev pub state_of : ℕ → Option (List ℕ) → ℕ → Registers → Progress → State
state_of vars written faults regs progress = record {
  out = record { written = written; faults = faults; pending = take regs.fill regs.pending; in_row = progress.in_row };
  env = take vars regs.words;
  left = progress.left;
}

-- the registers have the variables, and no more is pending than fits
pub record IsReady (vars : ℕ) (regs : Registers) : Type 0 where
  pub words : vars ≤ length regs.words
  pub fill : regs.fill ≤ 4096

-- a variable is set to a value, and without one the run is undefined
abbrev pub Assigns : Option ℕ → ℕ → List ℕ → List ℕ → Result (Unit {0}) Answer → Type 0
Assigns (Some x) v env env' (Ok done) = env' ≡ slice_set env v x
Assigns (Some x) v env env' (Err result) = ⊥
Assigns None v env env' (Ok done) = ⊥
Assigns None v env env' (Err result) = (result ≡ answer.Undefined) × (env' ≡ env)

-- a turn of a loop begins where its test holds, and one of those that are left is spent
abbrev pub BeginsTurn : Got Bool → ℕ → ℕ → Result Bool Answer → Type 0
BeginsTurn guard left left' (Ok true) = (guard ≡ Is true) × (left ≡ left' + 1)
BeginsTurn guard left left' (Ok false) = (guard ≡ Is false) × (left ≡ left')
BeginsTurn guard left left' (Err answer.Undefined) = (guard ≡ Fails Stuck) × (left ≡ left')
BeginsTurn guard left left' (Err answer.Spent) = (guard ≡ Is true) × (left ≡ left') × (left ≡ 0)
BeginsTurn guard left left' (Err result) = ⊥

-- the output with a pending text, of which PutsRest and Finishes speak
pub record Pending : Type 0 where
  pub written : Option (List ℕ)
  pub faults : ℕ
  pub pending : List ℕ

abbrev pub output_of : Option (List ℕ) → ℕ → Registers → Pending
output_of written faults regs = record { written = written; faults = faults; pending = take regs.fill regs.pending }

-- what is pending is put at the end, and the answer stands, or a write failed
abbrev pub PutsRest : Answer → Pending → Pending → Answer → Type 0
PutsRest before o o' result =
    ((result ≡ before) × Appends o.written o'.written o.pending)
    ⊎ ((result ≡ answer.Write) × AppendsPrefix o.written o'.written o.pending × Rose o.faults o'.faults)

-- after a run what is pending is put, unless a write failed before
abbrev pub Finishes : Result (Unit {0}) Answer → Pending → Pending → Answer → Type 0
Finishes (Ok done) o o' result = PutsRest answer.Done o o' result
Finishes (Err answer.Write) o o' result = (result ≡ answer.Write) × (o'.written ≡ o.written) × (o'.faults ≡ o.faults)
Finishes (Err before) o o' result = PutsRest before o o' result
