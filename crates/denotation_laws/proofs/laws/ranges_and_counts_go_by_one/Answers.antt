use Rattle.denotation_laws.proofs.RangeSteps.{range_more, range_over, count_more, count_over, low_order}
use Rattle.denotation_laws.proofs.laws.ranges_and_counts_go_by_one.Goals as goal

pub returns : goal.returns
returns c = record {
  range_goes_on = range_more;
  range_is_over = range_over;
  count_goes_on = count_more;
  count_is_over = count_over;
  low_words = low_order;
}
