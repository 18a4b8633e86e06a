use Rattle.denotation_laws.proofs.FarStages.{map_far, filter_far, take_far, drop_far, take_while_far, scan_far, followed_far, join_far, zip_far, finish_far}
use Rattle.denotation_laws.proofs.laws.stages_keep_far_rows.Goals as goal

pub returns : goal.returns
returns c = record {
  maps = λ f o u h. map_far f h;
  filters = λ f o u h. filter_far f h;
  takes = λ k o u h. take_far k h;
  drops = λ k o u h. drop_far k h;
  takes_while = λ f o u h. take_while_far f h;
  scans = λ f state o u h. scan_far f state h;
  follows = λ a b c d h k. followed_far c d h k;
  joins = λ f g o u h inner. join_far f g h inner;
  zips = λ a b c d h k. zip_far h k;
  finishes = λ t inputs o u h. finish_far t inputs h;
}
