-- Other numbers for variables.
use Rattle.std.proofs.Common.{◌≡◌, [], refl, ap, ◌∙◌}
use Rattle.loop_ir.specs.Statements.{Operand, Const, Var, Len, Int, Bin, Test, Less, Same, Both, Either, Not}
use Rattle.dead_code.specs.Live.{renumbered, renumbered_test}

both_parts : {A B C : Type 0} (f : A → B → C) (a a' : A) (b b' : B) → a ≡ a' → b ≡ b' → f a b ≡ f a' b'
both_parts f a a' b b' h k = ap (λ x. f x b) h ∙ ap (f a') k

-- without other numbers the operand stays
pub same_operand : (w : Operand) → renumbered [] w ≡ w
same_operand (Const n) = refl
same_operand (Var v) = refl
same_operand (Len a) = refl
same_operand (Int k) = refl
same_operand (Bin op a b) = both_parts (Bin op) (renumbered [] a) a (renumbered [] b) b (same_operand a) (same_operand b)

pub same_test : (t : Test) → renumbered_test [] t ≡ t
same_test (Less a b) = both_parts Less (renumbered [] a) a (renumbered [] b) b (same_operand a) (same_operand b)
same_test (Same a b) = both_parts Same (renumbered [] a) a (renumbered [] b) b (same_operand a) (same_operand b)
same_test (Both a b) = both_parts Both (renumbered_test [] a) a (renumbered_test [] b) b (same_test a) (same_test b)
same_test (Either a b) = both_parts Either (renumbered_test [] a) a (renumbered_test [] b) b (same_test a) (same_test b)
same_test (Not a) = ap Not (same_test a)
