-- The number of each status, and the line that is written for it.
use Rattle.std.specs.Prelude.{ℕ, List, [], ◌++◌, ◌⊎◌, Option, codes, decimal}
use Rattle.strm_io.specs.Counts.{Rose}
use Rattle.strm_io.specs.Writing.{Appends}
use Rattle.strm_io.specs.Appending.{AppendsPrefix}
use Rattle.status_lines.specs.FaultTexts.{refusal_text, input_fault_text}
use Rattle.status_lines.specs.declared.statuses.InputName.{InputName}
use Rattle.status_lines.specs.declared.statuses.InputName.TheVariants.{Named, Position}
use Rattle.status_lines.specs.declared.statuses.Status.{Status}
use Rattle.status_lines.specs.declared.statuses.Status.TheVariants.{Done, Words, Missing, Refused, Trap, Spent, ReadFault, WriteFault, NoMemory, BadInput, TooLong, Undefined, TooMuch}

abbrev pub code_of : Status → ℕ
code_of Done = 0
code_of Words = 1
code_of (Missing name) = 2
code_of (Refused r) = 3
code_of Trap = 4
code_of (Spent n) = 5
code_of (ReadFault name) = 6
code_of WriteFault = 7
code_of NoMemory = 8
code_of (BadInput name fault) = 9
code_of (TooLong name) = 10
code_of Undefined = 11
code_of TooMuch = 12

abbrev pub input_text : InputName → List ℕ
input_text (Named name) = name
input_text (Position k) = decimal k

-- what stands in the line behind the program's name; nothing where all was done
abbrev pub status_text : Status → List ℕ
status_text Done = []
status_text Words = codes "words"
status_text (Missing name) = codes "missing: " ++ name
status_text (Refused r) = codes "refused: " ++ refusal_text r
status_text Trap = codes "trap"
status_text (Spent n) = codes "spent: " ++ decimal n
status_text (ReadFault name) = codes "read fault: " ++ name
status_text WriteFault = codes "write fault"
status_text NoMemory = codes "no memory"
status_text (BadInput name fault) = codes "bad input: " ++ input_text name ++ codes ": " ++ input_fault_text fault
status_text (TooLong name) = codes "too long: " ++ name
status_text Undefined = codes "undefined"
status_text TooMuch = codes "too much"

-- the line for a status; none where all was done
abbrev pub line_of : Status → List ℕ
line_of Done = []
line_of status = codes "strymonas: " ++ status_text status ++ codes "\n"

-- a text is written whole, or a prefix of it where the faults rose
abbrev pub Reports : Option (List ℕ) → Option (List ℕ) → List ℕ → ℕ → ℕ → Type 0
Reports written written' text faults faults' =
    Appends written written' text ⊎ (AppendsPrefix written written' text × Rose faults faults')
