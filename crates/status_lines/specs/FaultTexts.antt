-- The texts of faults in the line of a status: the kind of the fault, which is its name in the code, and its
-- place in bytes. Want of memory has a text like the others, which no line has.
use Rattle.std.specs.Prelude.{ℕ, List, ◌++◌, codes, decimal}
use Rattle.c_faults.specs.declared.fault.CFault.{CFault}
use Rattle.c_faults.specs.declared.fault.CFault.TheVariants as c_fault
use Rattle.kind_rules.specs.declared.fault.TypeFault.{TypeFault}
use Rattle.kind_rules.specs.declared.fault.TypeFault.TheVariants as type_fault
use Rattle.pipe_lexer.specs.declared.fault.LexFault.{LexFault}
use Rattle.pipe_lexer.specs.declared.fault.LexFault.TheVariants as lex_fault
use Rattle.pipe_tree.specs.declared.fault.ParseFault.{ParseFault}
use Rattle.pipe_tree.specs.declared.fault.ParseFault.TheVariants as parse_fault
use Rattle.value_files.specs.declared.fault.ValueFault.{ValueFault}
use Rattle.value_files.specs.declared.fault.ValueFault.TheVariants as value_fault
use Rattle.status_lines.specs.declared.refusals.Refusal.{Refusal}
use Rattle.status_lines.specs.declared.refusals.Refusal.TheVariants.{Lex, Parse, Kinds, C}
use Rattle.status_lines.specs.declared.statuses.InputFault.{InputFault}
use Rattle.status_lines.specs.declared.statuses.InputFault.TheVariants.{Unknown, Twice, Absent, NotANumber, Values}

-- a kind and a place
abbrev pub placed_text : List ℕ → ℕ → List ℕ
placed_text kind at = kind ++ codes " at " ++ decimal at

abbrev pub lex_text : LexFault → List ℕ
lex_text (lex_fault.NotUtf8 at) = placed_text (codes "NotUtf8") at
lex_text (lex_fault.BadChar at) = placed_text (codes "BadChar") at
lex_text (lex_fault.NumberTooLarge at) = placed_text (codes "NumberTooLarge") at
lex_text lex_fault.NoMemory = placed_text (codes "NoMemory") 0

abbrev pub parse_text : ParseFault → List ℕ
parse_text (parse_fault.Syntax at) = placed_text (codes "Syntax") at
parse_text (parse_fault.TooDeep at) = placed_text (codes "TooDeep") at
parse_text (parse_fault.TooManyInputs at) = placed_text (codes "TooManyInputs") at
parse_text (parse_fault.TooManyOps at) = placed_text (codes "TooManyOps") at
parse_text (parse_fault.TooManyNodes at) = placed_text (codes "TooManyNodes") at
parse_text parse_fault.NoMemory = placed_text (codes "NoMemory") 0

abbrev pub type_text : TypeFault → List ℕ
type_text (type_fault.Unknown at) = placed_text (codes "Unknown") at
type_text (type_fault.Twice at) = placed_text (codes "Twice") at
type_text (type_fault.Mismatch at) = placed_text (codes "Mismatch") at
type_text (type_fault.WidthMismatch at) = placed_text (codes "WidthMismatch") at
type_text (type_fault.TooWide at) = placed_text (codes "TooWide") at
type_text (type_fault.DivisionInOpening at) = placed_text (codes "DivisionInOpening") at
type_text (type_fault.NotArray at) = placed_text (codes "NotArray") at
type_text type_fault.NoMemory = placed_text (codes "NoMemory") 0

abbrev pub c_text : CFault → List ℕ
c_text (c_fault.Lex at) = placed_text (codes "Lex") at
c_text (c_fault.TooDeep at) = placed_text (codes "TooDeep") at
c_text (c_fault.Syntax at) = placed_text (codes "Syntax") at
c_text (c_fault.Unbound at) = placed_text (codes "Unbound") at
c_text c_fault.NoMemory = placed_text (codes "NoMemory") 0

abbrev pub refusal_text : Refusal → List ℕ
refusal_text (Lex fault) = lex_text fault
refusal_text (Parse fault) = parse_text fault
refusal_text (Kinds fault) = type_text fault
refusal_text (C fault) = c_text fault

abbrev pub value_text : ValueFault → List ℕ
value_text (value_fault.Bad at) = placed_text (codes "Bad") at
value_text (value_fault.Range at) = placed_text (codes "Range") at
value_text (value_fault.TooMany at) = placed_text (codes "TooMany") at
value_text value_fault.NoMemory = placed_text (codes "NoMemory") 0

abbrev pub input_fault_text : InputFault → List ℕ
input_fault_text Unknown = codes "unknown"
input_fault_text Twice = codes "twice"
input_fault_text Absent = codes "absent"
input_fault_text NotANumber = codes "not a number"
input_fault_text (Values fault) = value_text fault
