-- The test at each token, of the innermost form and the number of those around it, decides the whole
-- depth: what is deeper further out was there before the token.
use Rattle.std.proofs.lemmas.Bool.{cases_Bool}
use Rattle.std.proofs.Common.{◌≡◌, ℕ, ◌≤◌, ◌+◌, max, length, List, [], ◌∷◌, inl, inr, subst, arith}
use Rattle.pipe_tree.specs.Bounds.{depth_of}
use Rattle.pipe_reader.specs.Depths.{frame_depth, least_depth, least_depth_of, tested_depth}
use Rattle.pipe_reader.specs.Machine.{Negates, Denies, Joins, Chooses, complete_form, Frame, Last, Encloses, Tests, Branches, frame_precedence, wanted_precedence, State, Need, Have, Calls, Spells, Closes, Step, Goes, Stuck, Start, Leaf, Opens, Length, Nothing, start_of, is_same_mark, follow_of, at_most, step_from_start, may_join, step_by_operator, step_by_mark, pop, step}
use Rattle.pipe_reader.specs.declared.roles.Mark.{Mark}
use Rattle.pipe_reader.specs.declared.roles.Follow.{Follow}
use Rattle.pipe_reader.specs.declared.roles.Mark.TheVariants.{Opening, Closing, ThenKeyword, ElseKeyword}
use Rattle.pipe_reader.specs.declared.roles.Follow.TheVariants.{Operator, Marks, Foreign}
use Rattle.pipe_tree.specs.Tokens.{What, Named, Number, Key, Sym}
use Rattle.pipe_tree.specs.Trees.{Formula, Len, Paren}
use Rattle.pipe_reader.proofs.ExpressionCompletion.{depth-complete_form}

-- what a form has without its operand, and what all open forms have
abbrev frame_base : Frame → ℕ
frame_base (Last (Negates at)) = 0
frame_base (Last (Denies at)) = 0
frame_base (Last (Joins operator q a)) = depth_of a + 1
frame_base (Last (Chooses at c a)) = max (depth_of c) (depth_of a) + 1
frame_base (Encloses at) = 0
frame_base (Tests at) = 2
frame_base (Branches at c) = max (depth_of c) 1 + 1

frame_depth-is : (f : Frame) (d : ℕ) → frame_depth f d ≡ max (d + 1) (frame_base f)
frame_depth-is (Last (Negates at)) d = omega arith
frame_depth-is (Last (Denies at)) d = omega arith
frame_depth-is (Last (Joins operator q a)) d = omega arith
frame_depth-is (Last (Chooses at c a)) d = omega arith
frame_depth-is (Encloses at) d = omega arith
frame_depth-is (Tests at) d = omega arith
frame_depth-is (Branches at c) d = omega arith

abbrev base : List Frame → ℕ
base [] = 0
base (f ∷ s) = max (length s + frame_base f) (base s)

one_more : (f : Frame) (s : List Frame) → length (f ∷ s) ≡ length s + 1
one_more f s = omega arith

least_depth-is : (s : List Frame) (d : ℕ) → least_depth s d ≡ max (length s + d) (base s)
least_depth-is [] d = omega arith
least_depth-is (f ∷ s) d = omega (arith, least_depth-is s (frame_depth f d), frame_depth-is f d, one_more f s)

base_least : (s : List Frame) (d : ℕ) → base s ≤ least_depth s d
base_least s d = omega (arith, least_depth-is s d)

-- what the forms around the innermost have
abbrev base_of : State → ℕ
base_of (Need []) = 0
base_of (Need (f ∷ s)) = base s
base_of (Have s u) = base s
base_of (Calls s at) = base s
base_of (Spells s at) = base s
base_of (Closes s at q n) = base s

least_depth_of-is : (s : State) → least_depth_of s ≡ max (tested_depth s) (base_of s)
least_depth_of-is (Need []) = omega arith
least_depth_of-is (Need (f ∷ s)) = least_depth-is s (frame_depth f 1)
least_depth_of-is (Have s u) = least_depth-is s (depth_of u)
least_depth_of-is (Calls s at) = least_depth-is s 1
least_depth_of-is (Spells s at) = least_depth-is s 1
least_depth_of-is (Closes s at q n) = least_depth-is s 1

kept : (a m : State) (n : ℕ) → Goes a ≡ Goes m → base_of a ≤ n → base_of m ≤ n
kept a m n e h = let i : a ≡ m = cc in subst (λ (s : State). base_of s ≤ n) i h

start_base : (s : List Frame) (st : Start) (m : State) → step_from_start s st ≡ Goes m → base_of m ≤ least_depth s 1
start_base s (Leaf u) m e = kept (Have s u) m (least_depth s 1) e (base_least s 1)
start_base s (Length at) m e = kept (Calls s at) m (least_depth s 1) e (base_least s 1)
start_base s Nothing m e = absurd cc
start_base s (Opens f) m e =
    elim (cases_Bool (at_most (wanted_precedence s) (frame_precedence f))) [
      | inl b ↦ kept (Need (f ∷ s)) m (least_depth s 1) (rw b at e) (base_least s 1)
      | inr b ↦ let e2 : Stuck ≡ Goes m = rw b at e in absurd cc
    ]

mark_base : (k : Mark) (f : Follow) (a m : State) (n : ℕ) → step_by_mark k f a ≡ Goes m → base_of a ≤ n → base_of m ≤ n
mark_base k (Operator operator) a m n e h = absurd cc
mark_base k Foreign a m n e h = absurd cc
mark_base k (Marks j) a m n e h =
    elim (cases_Bool (is_same_mark k j)) [
      | inl b ↦ kept a m n (rw b at e) h
      | inr b ↦ let e2 : Stuck ≡ Goes m = rw b at e in absurd cc
    ]

operator_base : (f : Follow) (s : List Frame) (u : Formula) (p : ℕ) (other : Step) (m : State) → (other ≡ Goes m → base_of m ≤ least_depth s (depth_of u)) → step_by_operator f s u p other ≡ Goes m → base_of m ≤ least_depth s (depth_of u)
operator_base (Marks k) s u p other m popped e = popped e
operator_base Foreign s u p other m popped e = popped e
operator_base (Operator operator) s u p other m popped e =
    elim (cases_Bool (may_join s u operator)) [
      | inl b ↦ kept (Need (Last (Joins operator p u) ∷ s)) m (least_depth s (depth_of u)) (rw b at e) (base_least s (depth_of u))
      | inr b ↦ let e2 : other ≡ Goes m = rw b at e in popped e2
    ]

pop_base : (s : List Frame) (u : Formula) (f : Follow) (p : ℕ) (m : State) → pop s u f p ≡ Goes m → base_of m ≤ least_depth s (depth_of u)
pop_base [] u f p m e = absurd cc
pop_base (Last g ∷ s) u f p m e =
    subst (λ (d : ℕ). base_of m ≤ least_depth s d) (depth-complete_form g u) (operator_base f s (complete_form g u) p (pop s (complete_form g u) f p) m (pop_base s (complete_form g u) f p m) e)
pop_base (Encloses at ∷ s) u f p m e = mark_base Closing f (Have s (Paren at u)) m (least_depth (Encloses at ∷ s) (depth_of u)) e (base_least s (frame_depth (Encloses at) (depth_of u)))
pop_base (Tests at ∷ s) u f p m e = mark_base ThenKeyword f (Need (Branches at u ∷ s)) m (least_depth (Tests at ∷ s) (depth_of u)) e (base_least s (frame_depth (Tests at) (depth_of u)))
pop_base (Branches at c ∷ s) u f p m e =
    mark_base ElseKeyword f (Need (Last (Chooses at c u) ∷ s)) m (least_depth (Branches at c ∷ s) (depth_of u)) e (base_least s (frame_depth (Branches at c) (depth_of u)))

name_base : (s : List Frame) (at : ℕ) (k : What) (p : ℕ) (m : State) → step (Spells s at) k p ≡ Goes m → base_of m ≤ least_depth s 1
name_base s at (Named n) p m e = kept (Closes s at p n) m (least_depth s 1) e (base_least s 1)
name_base s at (Number w) p m e = absurd cc
name_base s at (Key w) p m e = absurd cc
name_base s at (Sym w) p m e = absurd cc

step_base : (s : State) (k : What) (p : ℕ) (m : State) → step s k p ≡ Goes m → base_of m ≤ least_depth_of s
step_base (Need s) k p m e = start_base s (start_of k p) m e
step_base (Have s u) k p m e = operator_base (follow_of k) s u p (pop s u (follow_of k) p) m (pop_base s u (follow_of k) p m) e
step_base (Calls s at) k p m e = mark_base Opening (follow_of k) (Spells s at) m (least_depth s 1) e (base_least s 1)
step_base (Spells s at) k p m e = name_base s at k p m e
step_base (Closes s at q n) k p m e = mark_base Closing (follow_of k) (Have s (Len at q n)) m (least_depth s 1) e (base_least s 1)

pub tested_depth_below : (s : State) → tested_depth s ≤ least_depth_of s
tested_depth_below s = omega (arith, least_depth_of-is s)

-- after a state within n the test alone decides
pub tested_depth_decides : (s : State) (k : What) (p : ℕ) (m : State) (n : ℕ) → step s k p ≡ Goes m → least_depth_of s ≤ n → tested_depth m ≤ n → least_depth_of m ≤ n
tested_depth_decides s k p m n e h g = omega (arith, least_depth_of-is m, step_base s k p m e)
