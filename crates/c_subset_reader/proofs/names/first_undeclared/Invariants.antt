use Rattle.std.proofs.Common.{◌≡◌, ◌-◌, List, length}
use Rattle.c_tokens.specs.Cutting.{Token, AreTokensOf}
use Rattle.loop_ir.specs.DeclaredNames.{declared_names}
use Rattle.c_subset_reader.specs.Taken.{HasTaken}
use Rattle.c_subset_reader.proofs.NamesSoFar.{AreDeclared}
use Rattle.c_subset_reader.proofs.names.first_undeclared.Given as goal

abbrev pub invariant-loop-found : goal.invariant-loop-found
invariant-loop-found l = record {
  text : l.cursor.text.now ≡ l.text;
  taken : (toks : List Token) → AreTokensOf l.text toks → HasTaken (AreDeclared (declared_names l.params l.vars)) l.cursor toks;
}

abbrev pub decreases-loop-found : goal.decreases-loop-found
decreases-loop-found l = length l.cursor.text.now - l.cursor.from
