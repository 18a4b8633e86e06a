-- Each text has an answer that is no refusal of memory.
use Rattle.std.proofs.Common.{◌≡◌, ◌≢◌, ◌⊎◌, ℕ, ◌+◌, ◌-◌, List, length, true, Err, Ok, refl, inl, inr}
use Rattle.std.specs.Prelude.{IsTrue}
use Rattle.loop_ir.specs.DeclaredNames.{Names, declared_names, block_names}
use Rattle.loop_ir.specs.Statements.{Routine}
use Rattle.c_tokens.specs.Cutting.{Token, AreTokensOf}
use Rattle.c_grammar.specs.Grammar.{IsProgram}
use Rattle.c_grammar.specs.Reading.{HasHeader, whats, Reads}
use Rattle.c_faults.specs.Answers.{offset_or_end, IsWithinBrackets, Answer, ReadsAs}
use Rattle.c_faults.specs.Brackets.{is_within}
use Rattle.c_faults.specs.declared.fault.CFault.TheVariants as fault
use Rattle.c_answers.proofs.SomeCutting.{CutOrFault, cut_or_fault}
use Rattle.c_answers.proofs.SomeDepth.{WithinOrTooDeep, within_or_too_deep}
use Rattle.c_answers.proofs.SomeHeader.{HeaderOrNone, header_or_none}
use Rattle.c_answers.proofs.SomeNames.{AreDeclared, FirstUndeclared, declared_or_first}
use Rattle.c_answers.proofs.SomeProgram.{ProgramOrStop}

abbrev pub SomeAnswer : List ℕ → Type 0
SomeAnswer src = (a : Answer) × (ReadsAs src a × (a ≢ Err fault.NoMemory))

-- names that a program declares
abbrev names_of : Routine → Names
names_of q = declared_names q.params q.vars

module _ (program_or_stop : (toks : List Token) → ProgramOrStop toks)
    (names : (q : Routine) (toks : List Token) → IsProgram q (whats toks) → AreDeclared (names_of q) toks → IsTrue (block_names (names_of q) q.body)) where
  module _ (src rest : List ℕ) (header : HasHeader src rest) where
    module _ (toks : List Token) (tokens : AreTokensOf rest toks) where
      module _ (within : is_within 0 (whats toks) ≡ true) where
        by_names : (q : Routine) → IsProgram q (whats toks) → AreDeclared (names_of q) toks ⊎ FirstUndeclared (names_of q) toks → SomeAnswer src
        by_names q program (inl all) =
            let reads : Reads src q = record {
              rest = rest;
              header = header;
              toks = toks;
              tokens = tokens;
              program = program;
              declared = names q toks program all;
            } in
            let brackets : IsWithinBrackets src = record {
              rest = rest;
              header = header;
              cut = record { toks = toks; tokens = tokens; within = within; goes_on = tt };
            } in
            (Ok q, ((reads, brackets), λ e. cc))
        by_names q program (inr first) =
            let at = (length src - length rest) + first.0 in
            let reads : ReadsAs src (Err (fault.Unbound at)) = record {
              rest = rest;
              header = header;
              offset = first.0;
              place = refl;
              holds_there = record { toks = toks; tokens = tokens; within = within; goes_on = record { program = q; is = program; fault = first.1 } };
            } in
            (Err (fault.Unbound at), (reads, λ e. cc))

        by_program : ProgramOrStop toks → SomeAnswer src
        by_program (inl program) = by_names program.0 program.1 (declared_or_first (names_of program.0) toks)
        by_program (inr stop) =
            let offset = offset_or_end (length rest) stop.0 in
            let at = (length src - length rest) + offset in
            let reads : ReadsAs src (Err (fault.Syntax at)) = inr (record {
              rest = rest;
              header = header;
              offset = offset;
              place = refl;
              holds_there = record { toks = toks; tokens = tokens; within = within; goes_on = record { rest = stop.0; stops = stop.1; offset = refl } };
            }) in
            (Err (fault.Syntax at), (reads, λ e. cc))

      by_depth : WithinOrTooDeep toks → SomeAnswer src
      by_depth (inl within) = by_program within (program_or_stop toks)
      by_depth (inr deep) =
          let at = (length src - length rest) + deep.0 in
          let reads : ReadsAs src (Err (fault.TooDeep at)) = record {
            rest = rest;
            header = header;
            offset = deep.0;
            place = refl;
            holds_there = record { toks = toks; tokens = tokens; fault = deep.1 };
          } in
          (Err (fault.TooDeep at), (reads, λ e. cc))

    by_cut : CutOrFault rest → SomeAnswer src
    by_cut (inl cut) = by_depth cut.0 cut.1 (within_or_too_deep cut.0)
    by_cut (inr stuck) =
        let at = (length src - length rest) + stuck.0 in
        let reads : ReadsAs src (Err (fault.Lex at)) = record {
          rest = rest;
          header = header;
          offset = stuck.0;
          place = refl;
          holds_there = stuck.1;
        } in
        (Err (fault.Lex at), (reads, λ e. cc))

  by_header : (src : List ℕ) → HeaderOrNone src → SomeAnswer src
  by_header src (inl header) = by_cut src header.0 header.1 (cut_or_fault header.0)
  by_header src (inr none) =
      let reads : ReadsAs src (Err (fault.Syntax 0)) = inl (none, refl) in
      (Err (fault.Syntax 0), (reads, λ e. cc))

  pub some_answer : (src : List ℕ) → SomeAnswer src
  some_answer src = by_header src (header_or_none src)
