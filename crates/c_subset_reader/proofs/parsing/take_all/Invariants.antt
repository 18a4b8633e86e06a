use Rattle.std.proofs.Common.{◌≡◌, ◌≤◌, ◌-◌, List, length}
use Rattle.pipe_limits.specs.declared.TheConstants.{MOST_OPEN_BRACKETS}
use Rattle.c_program_reader.specs.StateCopies.{state_of}
use Rattle.c_tokens.specs.Cutting.{Token, AreTokensOf}
use Rattle.c_subset_reader.specs.Taken.{HasTaken}
use Rattle.c_subset_reader.proofs.BothSoFar.{AreBothSoFar}
use Rattle.c_subset_reader.proofs.parsing.take_all.Given as goal

abbrev pub invariant-loop-found : goal.invariant-loop-found
invariant-loop-found l = record {
  text : l.cursor.text.now ≡ l.text;
  small : l.depth ≤ MOST_OPEN_BRACKETS;
  taken : (toks : List Token) → AreTokensOf l.text toks → HasTaken (AreBothSoFar l.depth (state_of l.reader)) l.cursor toks;
}

abbrev pub decreases-loop-found : goal.decreases-loop-found
decreases-loop-found l = length l.cursor.text.now - l.cursor.from
