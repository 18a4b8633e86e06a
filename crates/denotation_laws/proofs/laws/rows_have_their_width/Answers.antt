use Rattle.denotation_laws.proofs.StreamRows.{stream_rows, row_append, is_row_of}
use Rattle.denotation_laws.proofs.laws.rows_have_their_width.Goals as goal

pub returns : goal.returns
returns c = record {
  streams = λ kinds inputs p env n fits h words. stream_rows inputs kinds fits n p h env words;
  side_by_side = row_append;
  each = is_row_of;
}
