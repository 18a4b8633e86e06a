-- What a run answers.
use Rattle.std.specs.Prelude.{◌≡◌, ℕ, List, Option}
use Rattle.list_denotation.specs.Observation.{Standing, Done, Going, Failed, Seen}
use Rattle.list_denotation.specs.Values.{Trap, Stuck}
use Rattle.event_texts.specs.Texts.{events_text}
use Rattle.strm_io.specs.Appending.{AppendsPrefix}
use Rattle.strm_io.specs.Counts.{Rose}
use Rattle.strm_io.specs.Writing.{Appends}
use Rattle.loop_interp.specs.declared.outcome.Outcome.{Outcome}
use Rattle.loop_interp.specs.declared.outcome.Outcome.TheVariants as answer

-- the answer for how a run stands
abbrev pub answer_of : Standing → Outcome
answer_of Done = answer.Done
answer_of Going = answer.Spent
answer_of (Failed Trap) = answer.Trap
answer_of (Failed Stuck) = answer.Undefined

-- the answer says how the run stands and its text was appended, or a prefix of it where a write failed
abbrev pub Answers : Seen → Option (List ℕ) → Option (List ℕ) → Outcome → Type 0
Answers seen written written' answer.Write = AppendsPrefix written written' (events_text seen.events)
Answers seen written written' result =
    (result ≡ answer_of seen.standing) × Appends written written' (events_text seen.events)

-- a write failed only where the faults rose
abbrev pub AnswerHasCause : ℕ → ℕ → Outcome → Type 0
AnswerHasCause faults faults' answer.Write = Rose faults faults'
AnswerHasCause faults faults' result = Unit {0}
