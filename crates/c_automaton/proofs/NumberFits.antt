-- A further number fits in a name exactly where it is below 2^32.
use Rattle.std.proofs.Common.{◌≡◌, ℕ, ◌<◌, ◌^◌, nat_lt, Bool, true, false, cond, List, Option, None, refl, sym, subst, arith}
use Rattle.std.proofs.lemmas.Bool.Decides.{nat_tests}
use Rattle.loop_ir.specs.Statements.{Routine}
use Rattle.c_tokens.specs.Pieces.{What}
use Rattle.c_automaton.specs.Automaton.{State, if_it_fits}
use Rattle.c_automaton.proofs.Steps.{Goes}

it_fits : (k : ℕ) → k < 2 ^ 32 → nat_lt k (2 ^ 32) ≡ true
it_fits k h = grind (arith, nat_tests)

pub fits_below : (k : ℕ) → nat_lt k (2 ^ 32) ≡ true → k < 2 ^ 32
fits_below k e = grind (arith, nat_tests)

pub fits_forward : (q : Routine) (k : ℕ) (to : Option State) (x : List What) → k < 2 ^ 32 → Goes q to x → Goes q (if_it_fits k to) x
fits_forward q k to x small h = subst (λ (b : Bool). Goes q (cond b to None) x) (sym (it_fits k small)) h

goes_where : (q : Routine) (k : ℕ) (to : Option State) (x : List What) (b : Bool) → nat_lt k (2 ^ 32) ≡ b → Goes q (cond b to None) x → (k < 2 ^ 32) × Goes q to x
goes_where q k to x true e h = (fits_below k e, h)
goes_where q k to x false e h = absurd h

pub fits_back : (q : Routine) (k : ℕ) (to : Option State) (x : List What) → Goes q (if_it_fits k to) x → (k < 2 ^ 32) × Goes q to x
fits_back q k to x h = goes_where q k to x (nat_lt k (2 ^ 32)) refl h
