-- The line of the header stands at the start of a text, or it doesn't.
use Rattle.std.proofs.Common.{◌⊎◌, ℕ, List, codes, inl, inr}
use Rattle.c_grammar.specs.Reading.{HasHeader}
use Rattle.c_faults.specs.Answers.{HasNoHeader}
use Rattle.c_answers.proofs.Beginnings.{BeginsOrNot, begins_or_not}

abbrev pub HeaderOrNone : List ℕ → Type 0
HeaderOrNone src = ((rest : List ℕ) × HasHeader src rest) ⊎ HasNoHeader src

abbrev line_feed : List ℕ
line_feed = codes "#include \"pipeline.h\"\n"

abbrev carriage_return : List ℕ
carriage_return = codes "#include \"pipeline.h\"\r\n"

by_lines : (src : List ℕ) → BeginsOrNot line_feed src → BeginsOrNot carriage_return src → HeaderOrNone src
by_lines src (inl begins) other = inl (begins.0, inl begins.1)
by_lines src (inr none) (inl begins) = inl (begins.0, inr begins.1)
by_lines src (inr none) (inr no_return) = inr refuses
  where
    refuses : HasNoHeader src
    refuses rest (inl e) = none (rest, e)
    refuses rest (inr e) = no_return (rest, e)

pub header_or_none : (src : List ℕ) → HeaderOrNone src
header_or_none src = by_lines src (begins_or_not line_feed src) (begins_or_not carriage_return src)
