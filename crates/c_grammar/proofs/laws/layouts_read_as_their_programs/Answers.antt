use Rattle.c_grammar.proofs.LayoutReads.{layout_reads}
use Rattle.c_grammar.proofs.laws.layouts_read_as_their_programs.Goals as goal

pub returns : goal.returns
returns c = λ q well_formed few. layout_reads q well_formed few
