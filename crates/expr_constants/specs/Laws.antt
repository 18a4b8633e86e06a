-- The laws of signed words that constants rest on.
use Rattle.strm_num.specs.Promises.{QuotientsAreWords, RemaindersAreWords}

pub record Laws : Type 0 where
  pub quotient_word : QuotientsAreWords
  pub remainder_word : RemaindersAreWords
