use Rattle.std.proofs.Common.{length, map}
use Rattle.pipe_reader.specs.Continuations.{MoreDeclarations}
use Rattle.pipe_tree.specs.TreeCopies.{declaration_of}
use Rattle.pipe_grammar.specs.WholeTexts.{whole_text}
use Rattle.pipe_rows.proofs.FormReading.{Comes}
use Rattle.pipe_grammar.proofs.declarations.declarations.Given as goal

-- what is to come are more declarations behind those that were read
abbrev pub invariant-loop-reader : goal.invariant-loop-reader
invariant-loop-reader l = Comes whole_text l.fn.reader (λ f. MoreDeclarations (map declaration_of l.inputs)) l.reader

abbrev pub decreases-loop-reader : goal.decreases-loop-reader
decreases-loop-reader l = length l.reader.left.now
