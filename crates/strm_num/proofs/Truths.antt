-- Tests that are joined.
use Rattle.std.proofs.Common.{Bool, true, false, ◌&&◌, refl}
use Rattle.std.specs.Prelude.{IsTrue}

pub both_true : (a b : Bool) → IsTrue (a && b) → IsTrue a × IsTrue b
both_true true true h = (refl, refl)
both_true true false h = absurd cc
both_true false b h = absurd cc

pub true_both : (a b : Bool) → IsTrue a → IsTrue b → IsTrue (a && b)
true_both true true h k = refl
true_both true false h k = absurd cc
true_both false b h k = absurd cc
