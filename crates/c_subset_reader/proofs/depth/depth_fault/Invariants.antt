use Rattle.std.proofs.Common.{◌≡◌, ◌≤◌, ◌-◌, List, length}
use Rattle.pipe_limits.specs.declared.TheConstants.{MOST_OPEN_BRACKETS}
use Rattle.c_tokens.specs.Cutting.{Token}
use Rattle.c_subset_reader.specs.Taken.{HasTaken}
use Rattle.c_subset_reader.specs.Depths.{IsDepthOf}
use Rattle.c_subset_reader.proofs.depth.depth_fault.Given as goal

abbrev pub invariant-loop-found : goal.invariant-loop-found
invariant-loop-found l = record {
  text : l.cursor.text.now ≡ l.fn.cursor.text.now;
  small : l.depth ≤ MOST_OPEN_BRACKETS;
  taken : (toks : List Token) → HasTaken (IsDepthOf l.fn.depth) l.fn.cursor toks → HasTaken (IsDepthOf l.depth) l.cursor toks;
}

abbrev pub decreases-loop-found : goal.decreases-loop-found
decreases-loop-found l = length l.cursor.text.now - l.cursor.from
