-- The layout of a program reads as the program, and as no other.
use Rattle.std.proofs.Common.{◌≡◌, ℕ, List, sym, subst}
use Rattle.loop_ir.specs.Statements.{Routine}
use Rattle.c_grammar.specs.Reading.{Reads}

pub reads_as : (q : Routine) (text c : List ℕ) → Reads text q → c ≡ text → Reads c q
reads_as q text c h e = subst (λ x. Reads x q) (sym e) h

pub reads_alone : ((src : List ℕ) (p q : Routine) → Reads src p → Reads src q → p ≡ q) → (q : Routine) (text c : List ℕ) → Reads text q → c ≡ text → (other : Routine) → Reads c other → other ≡ q
reads_alone one q text c h e other k = one c other q k (reads_as q text c h e)
