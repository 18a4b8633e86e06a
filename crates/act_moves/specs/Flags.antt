-- Acts that set the flag of a machine that is made of two, and end the turn.
use Rattle.std.specs.Prelude.{ℕ, false, [], ◌∷◌}
use Rattle.list_denotation.specs.Terms.{Term, Lit, Truth}
use Rattle.stateful_core.specs.CoreTerms.{Action, KeepIf, Update, When, Actions, Nil, Cons}

-- the acts that set the flag, and end the turn without a row
abbrev pub skip_with : ℕ → Actions
skip_with flag = Cons (Update 0 (Lit flag ∷ [])) (Cons (KeepIf (Truth false)) Nil)

-- the inner stream is closed, and the turn ends without a row, unless a test is true
abbrev pub close_unless : Term → Action
close_unless t = When t Nil (skip_with 0)
