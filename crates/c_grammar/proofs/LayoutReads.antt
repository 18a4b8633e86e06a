-- The layout of a well-formed program reads as this program.
use Rattle.std.proofs.Common.{ℕ, ◌^◌, ◌≤◌, List, ◌++◌, refl, sym, subst, arith, append_assoc, codes, inl}
use Rattle.loop_ir.specs.declared.syntax.Verdict.TheVariants as verdict
use Rattle.loop_ir.specs.Statements.{Routine}
use Rattle.loop_ir.specs.WellFormed.{IsWellFormed}
use Rattle.loop_ir.specs.Layout.{params_text, declarations_text, block_text, layout}
use Rattle.c_tokens.specs.Cutting.{tokens_from}
use Rattle.c_grammar.specs.Grammar.{IsClosed, IsProgram}
use Rattle.c_grammar.specs.Reading.{Reads}
use Rattle.c_grammar.proofs.Cuttings.{IsCut, nothing_cuts, ended, space, line, phrase, key, open_paren, close_paren, open_brace, close_brace}
use Rattle.c_grammar.proofs.SmallLeaves.{leaves_are_small}
use Rattle.c_grammar.proofs.CutStatements.{return_cut, block_cut}
use Rattle.c_grammar.proofs.CutDeclarations.{params_cut, declarations_cut}

-- a layout behind its first line
abbrev behind_header : Routine → List ℕ
behind_header q =
    (codes "int pipeline(" ++ params_text q.params ++ codes ") {\n") ++ declarations_text 0 q.vars ++ block_text q.body 2
    ++ codes "  return 0;\n}\n"

closed_cut : IsCut IsClosed (codes "  return 0;\n}\n")
closed_cut = space (space (phrase (return_cut verdict.Done (codes "}\n")) (close_brace (line (ended nothing_cuts)))))

program_cut : (q : Routine) → IsWellFormed q → q.vars ≤ 2 ^ 32 → IsCut (IsProgram q) (behind_header q)
program_cut q formed fewer =
    let small = leaves_are_small q formed fewer in
    simp append_assoc
    (key (codes "int") refl refl (space (key (codes "pipeline") refl refl (open_paren (phrase (params_cut q.params formed.few _ refl) (close_paren (space (open_brace (line
    (phrase (declarations_cut 0 q.vars (omega arith) _) (phrase (block_cut q.body small 2 _) closed_cut)))))))))))

pub layout_reads : (q : Routine) → IsWellFormed q → q.vars ≤ 2 ^ 32 → Reads (layout q) q
layout_reads q formed fewer =
    let cut = program_cut q formed fewer in record {
      rest = behind_header q;
      header = inl refl;
      toks = tokens_from 0 cut.cuts.parts;
      tokens = record { parts = cut.cuts.parts; passes = cut.cuts.passes; tokens = refl };
      program = subst (IsProgram q) (sym (cut.cuts.tokens 0)) cut.is;
      declared = formed.names;
    }
