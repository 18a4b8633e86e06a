-- What a text behind the line of the header is answered with. Each place is an offset in this text.
use Rattle.std.specs.Prelude.{◌≡◌, ℕ, ◌+◌, ◌≤◌, List, length, IsTrue, Result, Ok, Err, true}
use Rattle.loop_ir.specs.DeclaredNames.{declared_names, block_names}
use Rattle.loop_ir.specs.Statements.{Routine}
use Rattle.loop_ir.specs.declared.program.Prog.{Prog}
use Rattle.loop_ir.specs.Routines.{routine_of}
use Rattle.c_tokens.specs.Cutting.{Token, AreTokensOf}
use Rattle.c_grammar.specs.Grammar.{IsProgram}
use Rattle.c_grammar.specs.Reading.{whats}
use Rattle.c_faults.specs.Answers.{Answer, HasTokenAt, IsCutWithin, IsDepthFault, IsLexFault, IsTooDeep, NamesFrom, StopsThere}
use Rattle.c_faults.specs.Brackets.{is_within}
use Rattle.c_faults.specs.declared.fault.CFault.{CFault}
use Rattle.c_faults.specs.declared.fault.CFault.TheVariants as fault

-- the text's tokens are those of this program, which names nothing that it doesn't declare
pub record IsTextOf (text : List ℕ) (q : Routine) : Type 0 where
  pub toks : List Token
  pub tokens : AreTokensOf text toks
  pub within : is_within 0 (whats toks) ≡ true
  pub program : IsProgram q (whats toks)
  pub declared : IsTrue (block_names (declared_names q.params q.vars) q.body)

abbrev pub HasFault : List ℕ → CFault → Type 0
HasFault text (fault.Lex at) = IsLexFault text at
HasFault text (fault.TooDeep at) = IsDepthFault text at
HasFault text (fault.Syntax at) = IsCutWithin (StopsThere (length text) at) text
HasFault text (fault.Unbound at) = IsCutWithin (NamesFrom at) text
HasFault text fault.NoMemory = Unit {0}

-- a bracket is too deep at the place of the fault; or none is, and the tokens begin a program up to that
-- place; or memory was refused
abbrev pub IsTokenFault : List ℕ → List Token → CFault → Type 0
IsTokenFault text toks (fault.TooDeep at) = HasTokenAt at IsTooDeep toks
IsTokenFault text toks (fault.Syntax at) = (is_within 0 (whats toks) ≡ true) × StopsThere (length text) at toks
IsTokenFault text toks fault.NoMemory = Unit {0}
IsTokenFault text toks f = ⊥

-- the place of a fault is in a text of this length, or at its end
abbrev pub IsPlaceWithin : ℕ → CFault → Type 0
IsPlaceWithin end (fault.Lex at) = at ≤ end
IsPlaceWithin end (fault.TooDeep at) = at ≤ end
IsPlaceWithin end (fault.Syntax at) = at ≤ end
IsPlaceWithin end (fault.Unbound at) = at ≤ end
IsPlaceWithin end fault.NoMemory = Unit {0}

-- the fault of a text with a line of so many bytes before it
abbrev pub fault_behind : ℕ → CFault → CFault
fault_behind head (fault.Lex at) = fault.Lex (head + at)
fault_behind head (fault.TooDeep at) = fault.TooDeep (head + at)
fault_behind head (fault.Syntax at) = fault.Syntax (head + at)
fault_behind head (fault.Unbound at) = fault.Unbound (head + at)
fault_behind head fault.NoMemory = fault.NoMemory

-- what a reader answered
abbrev pub answer_of : Result Prog CFault → Answer
answer_of (Ok q) = Ok (routine_of q)
answer_of (Err f) = Err f
