-- Marks to which a pass adds nothing: none of its steps does.
use Rattle.std.proofs.Common.{◌≡◌, ℕ, Bool, true, false, List, sym, ap, ◌∙◌, subst}
use Rattle.std.specs.Prelude.{◌&&◌, if◌then◌else◌}
use Rattle.loop_ir.specs.Statements.{Operand, Test, Statement, If, Loop, Block, Cons}
use Rattle.dead_code.specs.Needs.{is_marked, with_operand, with_test, are_idle, needs_of_choice, needs_of, needs_of_block}
use Rattle.dead_code.proofs.Growth.{IsWithin, within_trans, within_both, operand_within, test_within, choice_within, one_within, block_within}

-- two steps that add nothing together add nothing each
pub two_closed : (f g : List Bool → List Bool) (m : List Bool) → IsWithin m (f m) → IsWithin (f m) (g (f m)) → g (f m) ≡ m → (f m ≡ m) × (g m ≡ m)
two_closed f g m p q h =
    let first : f m ≡ m = within_both p (subst (IsWithin (f m)) h q) in (first, ap g (sym first) ∙ h)

pub both_operands : (a b : Operand) (m : List Bool) → with_operand b (with_operand a m) ≡ m → (with_operand a m ≡ m) × (with_operand b m ≡ m)
both_operands a b m h = two_closed (with_operand a) (with_operand b) m (operand_within a m) (operand_within b (with_operand a m)) h

pub both_tests : (a b : Test) (m : List Bool) → with_test b (with_test a m) ≡ m → (with_test a m ≡ m) × (with_test b m ≡ m)
both_tests a b m h = two_closed (with_test a) (with_test b) m (test_within a m) (test_within b (with_test a m)) h

pub loop_parts : (t : Test) (body : Block) (m : List Bool) → needs_of (Loop t body) m ≡ m → (with_test t m ≡ m) × (needs_of_block body m ≡ m)
loop_parts t body m h = two_closed (with_test t) (needs_of_block body) m (test_within t m) (block_within body (with_test t m)) h

pub cons_parts : (s : Statement) (ss : Block) (m : List Bool) → needs_of_block (Cons s ss) m ≡ m → (needs_of_block ss m ≡ m) × (needs_of s m ≡ m)
cons_parts s ss m h = two_closed (needs_of_block ss) (needs_of s) m (block_within ss m) (one_within s (needs_of_block ss m)) h

pub record IsClosedChoice (t : Test) (a b : Block) (m : List Bool) : Type 0 where
  pub first : needs_of_block a m ≡ m
  pub second : needs_of_block b m ≡ m
  pub test : are_idle m a && are_idle m b ≡ false → with_test t m ≡ m

pub choice_parts : (t : Test) (a b : Block) (m : List Bool) → needs_of (If t a b) m ≡ m → IsClosedChoice t a b m
choice_parts t a b m h =
    let branches : List Bool → List Bool = λ n. needs_of_block a (needs_of_block b n) in
    let outer = two_closed branches (needs_of_choice t a b) m (within_trans (block_within b m) (block_within a (needs_of_block b m))) (choice_within t a b (branches m)) h in
    let inner = two_closed (needs_of_block b) (needs_of_block a) m (block_within b m) (block_within a (needs_of_block b m)) outer.0 in
    record {
      first = inner.1;
      second = inner.0;
      test = λ some. sym (ap (λ z. if z then m else with_test t m) some) ∙ outer.1;
    }

-- a variable that is set needs what it is set to
pub set_parts : (v : ℕ) (w : Operand) (m : List Bool) → (if is_marked m v then with_operand w m else m) ≡ m → is_marked m v ≡ true → with_operand w m ≡ m
set_parts v w m h is = sym (ap (λ z. if z then with_operand w m else m) is) ∙ h
