use Rattle.std.proofs.Common.{◌≡◌, drop}
use Rattle.loop_ir.specs.DeclaredNames.{block_names, declared_names}
use Rattle.loop_ir.specs.StatementCopies.{block_of}
use Rattle.c_subset_reader.proofs.leaves.+statements.Given as goal

-- the statements left name nothing but what is declared exactly if all do
abbrev pub invariant-block_names-loop-s : goal.invariant-block_names-loop-s
invariant-block_names-loop-s l =
    block_names (declared_names l.params l.vars) (block_of (drop l.s-index l.body)) ≡ block_names (declared_names l.params l.vars) (block_of l.body)
