use Rattle.denotation_laws.proofs.ScopedValues.{value_longer, row_longer, bound_more, all_bound_more}
use Rattle.denotation_laws.proofs.laws.expressions_read_bound_words_alone.Goals as goal

pub returns : goal.returns
returns c = record {
  expressions = value_longer;
  rows = row_longer;
  wider = λ n m e le h. bound_more n m le e h;
  wider_rows = λ n m es le h. all_bound_more n m le es h;
}
