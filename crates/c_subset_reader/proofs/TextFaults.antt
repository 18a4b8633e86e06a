-- What a text is answered with, by what holds behind the line of its header.
use Rattle.std.proofs.Common.{◌≡◌, ℕ, ◌-◌, ◌^◌, ◌≤◌, List, length, All, Ok, Err, true, refl, inr, subst}
use Rattle.std.specs.Prelude.{IsTrue}
use Rattle.loop_ir.specs.Constants.{block_has_words}
use Rattle.loop_ir.specs.DeclaredNames.{Names, declared_names, block_names}
use Rattle.loop_ir.specs.Statements.{Routine}
use Rattle.loop_ir.specs.WellFormed.{IsWellFormed}
use Rattle.c_faults.specs.Answers.{ReadsAs, HasTokenAt, IsCutWithin, NamesFrom}
use Rattle.c_faults.specs.Undeclared.{IsDeclared, IsUndeclared}
use Rattle.c_faults.specs.Brackets.{is_within}
use Rattle.c_faults.specs.declared.fault.CFault.{CFault}
use Rattle.c_faults.specs.declared.fault.CFault.TheVariants as fault
use Rattle.c_grammar.specs.Grammar.{IsProgram}
use Rattle.c_grammar.specs.Reading.{HasHeader, whats}
use Rattle.c_program_reader.specs.StateCopies.{routine_of}
use Rattle.c_program_reader.specs.declared.reader.Parsed.{Parsed}
use Rattle.c_tokens.specs.Cutting.{Token, AreTokensOf}
use Rattle.c_tokens.specs.Pieces.{What}
use Rattle.c_subset_reader.specs.TextAnswers.{HasFault, IsTokenFault, IsTextOf, fault_behind}

pub token_fault : (text : List ℕ) (toks : List Token) (f : CFault) → AreTokensOf text toks → IsTokenFault text toks f → HasFault text f
token_fault text toks (fault.TooDeep at) tokens h = record { toks = toks; tokens = tokens; fault = h }
token_fault text toks (fault.Syntax at) tokens h = record { toks = toks; tokens = tokens; within = h.0; goes_on = h.1 }
token_fault text toks fault.NoMemory tokens h = tt
token_fault text toks (fault.Lex at) tokens h = absurd h
token_fault text toks (fault.Unbound at) tokens h = absurd h

pub reads_program : (c text : List ℕ) (q : Routine) → HasHeader c text → IsTextOf text q → ReadsAs c (Ok q)
reads_program c text q header h = (
  record { rest = text; header = header; toks = h.toks; tokens = h.tokens; program = h.program; declared = h.declared },
  record { rest = text; header = header; cut = record { toks = h.toks; tokens = h.tokens; within = h.within; goes_on = tt } },
)

pub reads_fault : (c text : List ℕ) (head : ℕ) (f : CFault) → HasHeader c text → head ≡ length c - length text → HasFault text f → ReadsAs c (Err (fault_behind head f))
reads_fault c text head (fault.Lex at) header e h = record { rest = text; header = header; offset = at; place = rw e refl; holds_there = h }
reads_fault c text head (fault.TooDeep at) header e h = record { rest = text; header = header; offset = at; place = rw e refl; holds_there = h }
reads_fault c text head (fault.Syntax at) header e h = inr (record { rest = text; header = header; offset = at; place = rw e refl; holds_there = h })
reads_fault c text head (fault.Unbound at) header e h = record { rest = text; header = header; offset = at; place = rw e refl; holds_there = h }
reads_fault c text head fault.NoMemory header e h = tt

-- ---- names

-- the name at this offset is the first that isn't declared
abbrev pub IsFirstUndeclared : Names → ℕ → List Token → Type 0
IsFirstUndeclared names at toks = HasTokenAt at (λ before t. All (λ (u : Token). IsDeclared names u.what) before × IsUndeclared names t.what) toks

pub names_fault : (text : List ℕ) (toks : List Token) (at : ℕ) (p d : Parsed) → d ≡ p → AreTokensOf text toks → is_within 0 (whats toks) ≡ true
    → IsProgram (routine_of p) (whats toks) → IsFirstUndeclared (declared_names d.params d.vars) at toks → IsCutWithin (NamesFrom at) text
names_fault text toks at p d e tokens within program h = record {
  toks = toks;
  tokens = tokens;
  within = within;
  goes_on = record {
    program = routine_of p;
    is = program;
    fault = subst (λ (x : Parsed). IsFirstUndeclared (declared_names x.params x.vars) at toks) e h;
  };
}

-- ---- programs

-- what the laws say of programs
abbrev pub NamesLaw : Type 0
NamesLaw = (q : Routine) (toks : List Token) → IsProgram q (whats toks) → All (λ (t : Token). IsDeclared (declared_names q.params q.vars) t.what) toks
    → IsTrue (block_names (declared_names q.params q.vars) q.body)

abbrev pub WordsLaw : Type 0
WordsLaw = (text : List ℕ) (toks : List Token) (q : Routine) → AreTokensOf text toks → IsProgram q (whats toks) → IsTrue (block_has_words q.body)

abbrev pub ParamsLaw : Type 0
ParamsLaw = (q : Routine) (toks : List What) → IsProgram q toks → length q.params ≤ 2 ^ 32

pub text_is : NamesLaw → (text : List ℕ) (toks : List Token) (p d : Parsed) → d ≡ p → AreTokensOf text toks → is_within 0 (whats toks) ≡ true
    → IsProgram (routine_of p) (whats toks) → All (λ (t : Token). IsDeclared (declared_names d.params d.vars) t.what) toks → IsTextOf text (routine_of p)
text_is law text toks p d e tokens within program h = record {
  toks = toks;
  tokens = tokens;
  within = within;
  program = program;
  declared = law (routine_of p) toks program
      (subst (λ (x : Parsed). All (λ (t : Token). IsDeclared (declared_names x.params x.vars) t.what) toks) e h);
}

pub text_is_well_formed : WordsLaw → ParamsLaw → (text : List ℕ) (q : Routine) → IsTextOf text q → IsWellFormed q
text_is_well_formed words params text q h = record {
  few = params q (whats h.toks) h.program;
  names = h.declared;
  constants = words text h.toks q h.tokens h.program;
}
