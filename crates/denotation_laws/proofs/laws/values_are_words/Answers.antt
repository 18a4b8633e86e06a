use Rattle.std.proofs.Common.{◌≡◌, length}
use Rattle.strm_num.specs.Words.{IsWord}
use Rattle.list_denotation.specs.Values.{value, row_value}
use Rattle.denotation_laws.specs.RowWords.{IsRow}
use Rattle.denotation_laws.proofs.ValueWords.{on_value_is, input_words, value_word, row_words, row_width}
use Rattle.denotation_laws.proofs.laws.values_are_words.Goals as goal

pub returns : goal.returns
returns c = record {
  ints = λ kinds inputs k fits. (input_words inputs kinds k fits).word;
  items = λ kinds inputs k fits. (input_words inputs kinds k fits).items;
  few_items = λ kinds inputs k fits. (input_words inputs kinds k fits).few;
  expressions = λ kinds inputs env e w fits words h is.
      on_value_is IsWord (value e env inputs) w (value_word inputs kinds fits env words e h) is;
  rows = λ kinds inputs env es row fits words h is.
      on_value_is (IsRow (length es)) (row_value es env inputs) row (row_words inputs kinds fits env words es h) is;
  widths = λ inputs env es row is.
      on_value_is (λ r. length r ≡ length es) (row_value es env inputs) row (row_width es env inputs) is;
}
