use Rattle.std.proofs.Common.{◌≡◌, List, true, sym, ap, ◌∙◌}
use Rattle.loop_ir.specs.DeclaredNames.{block_names, declared_names}
use Rattle.loop_ir.specs.StatementCopies.{block_of}
use Rattle.loop_ir.specs.declared.syntax.Stmt.{Stmt}
use Rattle.c_program_reader.specs.StateCopies.{routine_of}
use Rattle.c_subset_reader.proofs.names.name_fault.Goals as goal

pub returns-then-block_names-clause-fault : goal.returns-then-block_names-clause-fault
returns-then-block_names-clause-fault c = λ toks h.
    let p = c.args.parts.now in
    let e : block_names (declared_names p.params p.vars) (block_of p.body) ≡ true =
    ap (λ (ss : List Stmt). block_names (declared_names p.params p.vars) (block_of ss)) (sym c.as_slice.ensures) ∙ sym c.block_names.ensures ∙ c.if-block_names.true in
    c.declared_tokens_are_declared_names.ensures.tokens (routine_of p) toks (c.requires.program toks h) e
