-- What a fold and a scan have in common, as a value and as a form.
use Rattle.pipe_rows.specs.declared.fold_parts.FoldParts.{FoldParts}
use Rattle.pipe_reader.specs.Continuations.{folding}
use Rattle.pipe_rows.specs.FormReading.{Form}
use Rattle.pipe_tree.specs.TreeCopies.{row_of, pattern_of}
use Rattle.pipe_tree.specs.Trees.{Row, Pattern}

pub record Folding : Type 0 where
  pub seed : Row
  pub state : Pattern
  pub pat : Pattern
  pub next : Row

abbrev pub folding_of : FoldParts → Folding
folding_of p = record { seed = row_of p.seed; state = pattern_of p.state; pat = pattern_of p.pat; next = row_of p.next }

abbrev pub a_folding : Form Folding
a_folding f = folding (λ seed state pat next. f (record { seed = seed; state = state; pat = pat; next = next }))
