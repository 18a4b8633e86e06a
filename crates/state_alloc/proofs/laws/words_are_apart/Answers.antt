use Rattle.std.proofs.Common.{◌<◌}
use Rattle.state_alloc.proofs.Distinctness.{stays_distinct, chosen_all, no_temporary}
use Rattle.state_alloc.proofs.Places.{no_word_temporary}
use Rattle.state_alloc.specs.Layouts.{IsTemporary}
use Rattle.state_alloc.proofs.laws.words_are_apart.Goals as goal

pub returns : goal.returns
returns c = record {
  distinct = λ rows chosen first_temp temps first width fresh among distinct.
      stays_distinct chosen first width distinct (chosen_all (λ v. v < first) rows chosen among fresh.words);
  words_no_temporary = λ rows chosen first_temp temps next laid_out among.
      chosen_all (λ v. ¬ IsTemporary first_temp temps v) rows chosen among (no_word_temporary rows first_temp temps next laid_out);
  fresh_no_temporary = λ rows first_temp temps first width fresh. no_temporary first_temp temps first width fresh.temporaries;
}
