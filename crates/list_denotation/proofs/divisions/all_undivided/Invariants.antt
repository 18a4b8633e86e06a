use Rattle.std.proofs.Common.{◌≡◌, drop}
use Rattle.list_denotation.specs.Copies.{terms_of}
use Rattle.list_denotation.specs.Typing.{all_undivided}
use Rattle.list_denotation.proofs.divisions.all_undivided.Given as goal

-- no division stands in the row exactly where none stands in what is left
abbrev pub invariant-loop-i : goal.invariant-loop-i
invariant-loop-i l = all_undivided (terms_of (drop l.i l.es)) ≡ all_undivided (terms_of l.es)
