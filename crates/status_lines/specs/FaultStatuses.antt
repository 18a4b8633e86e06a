-- The status that a fault of a reader ends the program with: a refusal of the file, or want of memory.
use Rattle.c_faults.specs.declared.fault.CFault.{CFault}
use Rattle.c_faults.specs.declared.fault.CFault.TheVariants as c_fault
use Rattle.kind_rules.specs.declared.fault.TypeFault.{TypeFault}
use Rattle.kind_rules.specs.declared.fault.TypeFault.TheVariants as type_fault
use Rattle.pipe_lexer.specs.declared.fault.LexFault.{LexFault}
use Rattle.pipe_lexer.specs.declared.fault.LexFault.TheVariants as lex_fault
use Rattle.pipe_tree.specs.declared.fault.ParseFault.{ParseFault}
use Rattle.pipe_tree.specs.declared.fault.ParseFault.TheVariants as parse_fault
use Rattle.status_lines.specs.declared.refusals.Refusal.TheVariants.{Lex, Parse, Kinds, C}
use Rattle.status_lines.specs.declared.statuses.Status.{Status}
use Rattle.status_lines.specs.declared.statuses.Status.TheVariants.{Refused, NoMemory}

abbrev pub lex_status : LexFault → Status
lex_status lex_fault.NoMemory = NoMemory
lex_status fault = Refused (Lex fault)

abbrev pub parse_status : ParseFault → Status
parse_status parse_fault.NoMemory = NoMemory
parse_status fault = Refused (Parse fault)

abbrev pub type_status : TypeFault → Status
type_status type_fault.NoMemory = NoMemory
type_status fault = Refused (Kinds fault)

abbrev pub c_status : CFault → Status
c_status c_fault.NoMemory = NoMemory
c_status fault = Refused (C fault)
