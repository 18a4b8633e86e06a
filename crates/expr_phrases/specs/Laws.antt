-- The laws of signed words that the phrases rest on.
use Rattle.strm_num.specs.Promises.{MagnitudesAreWords, MagnitudesAreZeroAtZeroAlone}
use Rattle.strm_num.specs.Promises.{QuotientsAreThoseOfMagnitudes, QuotientsAreWords}
use Rattle.strm_num.specs.Promises.{RemaindersAreThoseOfMagnitudes, RemaindersAreWords}
use Rattle.strm_num.specs.Promises.{SignedOrderFlipsSignBits}

pub record Laws : Type 0 where
  pub quotient : QuotientsAreThoseOfMagnitudes
  pub remainder : RemaindersAreThoseOfMagnitudes
  pub quotient_word : QuotientsAreWords
  pub remainder_word : RemaindersAreWords
  pub magnitude_word : MagnitudesAreWords
  pub magnitude_not_zero : MagnitudesAreZeroAtZeroAlone
  pub less : SignedOrderFlipsSignBits
