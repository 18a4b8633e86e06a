-- Each state can be completed, by an expression that is as deep as the open forms make it, and by none
-- that is less deep.
use Rattle.std.proofs.Common.{◌≡◌, ℕ, ◌≤◌, ◌+◌, max, List, [], ◌∷◌, refl, sym, ap, subst, ◌∙◌, arith}
use Rattle.pipe_tree.specs.Bounds.{depth_of}
use Rattle.pipe_reader.specs.Depths.{final_depth, frame_depth, least_depth, least_depth_of}
use Rattle.pipe_reader.specs.InfixOps.{join, formula_precedence}
use Rattle.pipe_reader.specs.declared.infix_op.InfixOp.{InfixOp}
use Rattle.pipe_reader.specs.declared.infix_op.InfixOp.TheVariants.{Binary, And as AndOp, Or as OrOp}
use Rattle.pipe_reader.specs.Machine.{Final, Negates, Denies, Joins, Chooses, complete_form, Frame, Last, Encloses, Tests, Branches, frame_precedence, wanted_precedence, State, Need, Have, Calls, Spells, Closes, mark_token, follow_of, start_of, Leaves, pop, shift}
use Rattle.pipe_reader.specs.declared.roles.Mark.{Mark}
use Rattle.pipe_reader.specs.declared.roles.Follow.{Follow}
use Rattle.pipe_reader.specs.declared.roles.Mark.TheVariants.{Opening, Closing, ThenKeyword, ElseKeyword}
use Rattle.pipe_reader.specs.declared.roles.Follow.TheVariants.{Foreign}
use Rattle.pipe_tree.specs.Tokens.{Named, Number, Tok, tok}
use Rattle.pipe_tree.specs.Trees.{Formula, Num, Truth, Name, Len, Neg, Not, Paren, Bin, And, Or, If}
use Rattle.pipe_reader.proofs.ExpressionStepBack.{AreOpen, IsReachable, operator_leaves, mark_leaves, start_leaves, name_leaves}
use Rattle.pipe_reader.proofs.ExpressionStepForward.{step_at}
use Rattle.pipe_reader.proofs.LeftOperand.{Grows, Whole, By}
use Rattle.pipe_reader.proofs.StateMeaning.{Operand, On, Given, After, Completes, on_stays}
use Rattle.pipe_reader.proofs.OperatorTables.{formula_precedence-complete_form, wanted_precedence_most}

-- ---- the depths of trees

pub depth_one : (e : Formula) → 1 ≤ depth_of e
depth_one (Num at w) = omega arith
depth_one (Truth at b) = omega arith
depth_one (Name at n) = omega arith
depth_one (Len at q n) = omega arith
depth_one (Neg at a) = omega arith
depth_one (Not at a) = omega arith
depth_one (Paren at a) = omega arith
depth_one (Bin at op q a b) = omega arith
depth_one (And at q a b) = omega arith
depth_one (Or at q a b) = omega arith
depth_one (If at c a b) = omega arith

depth-join : (operator : InfixOp) (q : ℕ) (a b : Formula) → depth_of (join operator q a b) ≡ max (depth_of a) (depth_of b) + 1
depth-join (Binary op) q a b = refl
depth-join AndOp q a b = refl
depth-join OrOp q a b = refl

pub depth-complete_form : (f : Final) (u : Formula) → depth_of (complete_form f u) ≡ final_depth f (depth_of u)
depth-complete_form (Negates at) u = refl
depth-complete_form (Denies at) u = refl
depth-complete_form (Joins operator q a) u = depth-join operator q a u
depth-complete_form (Chooses at c a) u = refl

-- ---- the shortest way to close what is open

abbrev pub nought : Formula
nought = Num 0 0

abbrev pub nought_tok : Tok
nought_tok = tok (Number 0) 0

abbrev pub mark_tok : Mark → Tok
mark_tok m = tok (mark_token m) 0

-- a form with this operand and the least others
abbrev pub shortest : Frame → Formula → Formula
shortest (Last f) e = complete_form f e
shortest (Encloses at) e = Paren at e
shortest (Tests at) e = If at e nought nought
shortest (Branches at c) e = If at c e nought

abbrev pub closing : Frame → List Tok → List Tok
closing (Last f) x = x
closing (Encloses at) x = mark_tok Closing ∷ x
closing (Tests at) x = mark_tok ThenKeyword ∷ nought_tok ∷ mark_tok ElseKeyword ∷ nought_tok ∷ x
closing (Branches at c) x = mark_tok ElseKeyword ∷ nought_tok ∷ x

abbrev pub shortest_of : List Frame → Formula → Formula
shortest_of [] e = e
shortest_of (f ∷ s) e = shortest_of s (shortest f e)

abbrev pub closings : List Frame → List Tok → List Tok
closings [] x = x
closings (f ∷ s) x = closing f (closings s x)

nought_operand : (l : ℕ) (K : Formula → List Tok → Type 0) (x : List Tok) → K nought x → Operand l K (nought_tok ∷ x)
nought_operand l K x h = record { tree = nought; rest = x; phrase = record { rest = x; is = refl; goes_on = refl }; after = h }

branch_closes : (at : ℕ) (c a : Formula) (K : Formula → List Tok → Type 0) (x : List Tok) → K (If at c a nought) x → Given (Branches at c) K a (closing (Branches at c) x)
branch_closes at c a K x h = record { at = 0; rest = nought_tok ∷ x; is = refl; goes_on = nought_operand 0 (λ b. K (If at c a b)) x h }

given_closes : (f : Frame) (K : Formula → List Tok → Type 0) (e : Formula) (x : List Tok) → K (shortest f e) x → Given f K e (closing f x)
given_closes (Last f) K e x h = h
given_closes (Encloses at) K e x h = record { at = 0; rest = x; is = refl; goes_on = h }
given_closes (Branches at c) K e x h = branch_closes at c e K x h
given_closes (Tests at) K e x h =
    record { at = 0; rest = nought_tok ∷ closing (Branches at e) x; is = refl; goes_on = nought_operand 0 (Given (Branches at e) K) (closing (Branches at e) x) (branch_closes at e nought K x h) }

formula_precedence-shortest : (f : Frame) (e : Formula) → formula_precedence (shortest f e) ≡ frame_precedence f
formula_precedence-shortest (Last f) e = formula_precedence-complete_form f e
formula_precedence-shortest (Encloses at) e = refl
formula_precedence-shortest (Tests at) e = refl
formula_precedence-shortest (Branches at c) e = refl

depth-shortest : (f : Frame) (e : Formula) → depth_of (shortest f e) ≡ frame_depth f (depth_of e)
depth-shortest (Last f) e = depth-complete_form f e
depth-shortest (Encloses at) e = refl
depth-shortest (Tests at) e = refl
depth-shortest (Branches at c) e = refl

depth-shortest_of : (s : List Frame) (e : Formula) → depth_of (shortest_of s e) ≡ least_depth s (depth_of e)
depth-shortest_of [] e = refl
depth-shortest_of (f ∷ s) e = depth-shortest_of s (shortest f e) ∙ ap (least_depth s) (depth-shortest f e)

after_closes : (s : List Frame) (t : Formula → List Tok → Type 0) (e : Formula) (x : List Tok) → AreOpen s → t (shortest_of s e) x → After s t e (closings s x)
after_closes [] t e x o h = h
after_closes (f ∷ s) t e x o h =
    given_closes f (On (wanted_precedence s) (After s t)) e (closings s x)
    (on_stays (wanted_precedence s) (After s t) (shortest f e) (closings s x) (omega (arith, o.0, formula_precedence-shortest f e)) (after_closes s t (shortest f e) x o.1 h))

have_closes : (s : List Frame) (t : Formula → List Tok → Type 0) (e : Formula) (x : List Tok) → IsReachable (Have s e) → t (shortest_of s e) x → On (wanted_precedence s) (After s t) e (closings s x)
have_closes s t e x o h = on_stays (wanted_precedence s) (After s t) e (closings s x) o.0 (after_closes s t e x o.1 h)

-- The tree, and the tokens before those that follow the expression. Whatever may follow this tree, the
-- state is completed.
pub record Completion (s : State) : Type 1 where
  pub tree : Formula
  pub closes : List Tok → List Tok
  pub depth : depth_of tree ≡ least_depth_of s
  pub completes : (t : Formula → List Tok → Type 0) (x : List Tok) → t tree x → Completes s t (closes x)

letter : List ℕ
letter = 120 ∷ []

closes_completion : (s : List Frame) (at q : ℕ) (n : List ℕ) → AreOpen s → Completion (Closes s at q n)
closes_completion s at q n o =
    record {
      tree = shortest_of s (Len at q n);
      closes = λ x. mark_tok Closing ∷ closings s x;
      depth = depth-shortest_of s (Len at q n);
      completes = λ t x h. record { at = 0; rest = closings s x; is = refl; goes_on = have_closes s t (Len at q n) x (omega (arith, wanted_precedence_most s), o) h };
    }

spells_completion : (s : List Frame) (at : ℕ) → AreOpen s → Completion (Spells s at)
spells_completion s at o =
    let c = closes_completion s at 0 letter o in
    record {
      tree = c.tree;
      closes = λ x. tok (Named letter) 0 ∷ c.closes x;
      depth = c.depth;
      completes = λ t x h. record { text = letter; at = 0; rest = c.closes x; is = refl; goes_on = c.completes t x h };
    }

pub completion : (s : State) → IsReachable s → Completion s
completion (Need s) o =
    record {
      tree = shortest_of s nought;
      closes = λ x. nought_tok ∷ closings s x;
      depth = depth-shortest_of s nought;
      completes = λ t x h. nought_operand (wanted_precedence s) (After s t) (closings s x) (after_closes s t nought x o h);
    }
completion (Have s u) o =
    record { tree = shortest_of s u; closes = closings s; depth = depth-shortest_of s u; completes = λ t x h. have_closes s t u x o h }
completion (Closes s at q n) o = closes_completion s at q n o
completion (Spells s at) o = spells_completion s at o
completion (Calls s at) o =
    let c = spells_completion s at o in
    record {
      tree = c.tree;
      closes = λ x. mark_tok Opening ∷ c.closes x;
      depth = c.depth;
      completes = λ t x h. record { at = 0; rest = c.closes x; is = refl; goes_on = c.completes t x h };
    }

-- ---- and no way is less deep

frame_depth_grows : (f : Frame) (a b : ℕ) → a ≤ b → frame_depth f a ≤ frame_depth f b
frame_depth_grows (Last (Negates at)) a b h = omega arith
frame_depth_grows (Last (Denies at)) a b h = omega arith
frame_depth_grows (Last (Joins operator q e)) a b h = omega arith
frame_depth_grows (Last (Chooses at c e)) a b h = omega arith
frame_depth_grows (Encloses at) a b h = omega arith
frame_depth_grows (Tests at) a b h = omega arith
frame_depth_grows (Branches at c) a b h = omega arith

least_depth_grows : (s : List Frame) (a b : ℕ) → a ≤ b → least_depth s a ≤ least_depth s b
least_depth_grows [] a b h = h
least_depth_grows (f ∷ s) a b h = least_depth_grows s (frame_depth f a) (frame_depth f b) (frame_depth_grows f a b h)

grows_depth : (e : Formula) (l : ℕ) (r : List Tok) (u : Formula) (x : List Tok) → Grows e l r u x → depth_of u ≤ depth_of e
grows_depth e l r u x (Whole _ _ ue xe le) = subst (λ (v : Formula). depth_of u ≤ depth_of v) ue (omega arith)
grows_depth e l r u x (By _ _ operator q y is le lu b z ph g) = omega (arith, depth-join operator q u b, grows_depth e l r (join operator q u b) z g)

-- a form that is closed, and its tree
pub record Formed (f : Frame) (K : Formula → List Tok → Type 0) (u : Formula) : Type 0 where
  pub tree : Formula
  pub rest : List Tok
  pub after : K tree rest
  pub depth : frame_depth f (depth_of u) ≤ depth_of tree

given_forms : (f : Frame) (K : Formula → List Tok → Type 0) (u : Formula) (x : List Tok) → Given f K u x → Formed f K u
given_forms (Last f) K u x h = record { tree = complete_form f u; rest = x; after = h; depth = omega (arith, depth-complete_form f u) }
given_forms (Encloses at) K u x h = record { tree = Paren at u; rest = h.rest; after = h.goes_on; depth = omega arith }
given_forms (Branches at c) K u x h =
    let b = h.goes_on in
    record { tree = If at c u b.tree; rest = b.rest; after = b.after; depth = omega (arith, depth_one b.tree) }
given_forms (Tests at) K u x h =
    let a = h.goes_on in
    let b = a.after.goes_on in
    record { tree = If at u a.tree b.tree; rest = b.rest; after = b.after; depth = omega (arith, depth_one a.tree, depth_one b.tree) }

after_least : (s : List Frame) (t : Formula → List Tok → Type 0) (n : ℕ) (u : Formula) (x : List Tok) → ((v : Formula) (y : List Tok) → t v y → depth_of v ≤ n) → After s t u x → least_depth s (depth_of u) ≤ n
after_least [] t n u x within h = within u x h
after_least (f ∷ s) t n u x within h =
    let g = given_forms f (On (wanted_precedence s) (After s t)) u x h in
    let o = g.after in
    let d : frame_depth f (depth_of u) ≤ depth_of o.tree = omega (arith, g.depth, grows_depth o.tree (wanted_precedence s) o.rest g.tree g.rest o.grows) in
    omega (arith, least_depth_grows s (frame_depth f (depth_of u)) (depth_of o.tree) d, after_least s t n o.tree o.rest within o.after)

on_least : (s : List Frame) (t : Formula → List Tok → Type 0) (n : ℕ) (u : Formula) (x : List Tok) → ((v : Formula) (y : List Tok) → t v y → depth_of v ≤ n) → On (wanted_precedence s) (After s t) u x → least_depth s (depth_of u) ≤ n
on_least s t n u x within h =
    let d = grows_depth h.tree (wanted_precedence s) h.rest u x h.grows in
    omega (arith, least_depth_grows s (depth_of u) (depth_of h.tree) d, after_least s t n h.tree h.rest within h.after)

pub completes_least : (s : State) (t : Formula → List Tok → Type 0) (n : ℕ) (x : List Tok) → ((v : Formula) (y : List Tok) → t v y → depth_of v ≤ n) → Completes s t x → least_depth_of s ≤ n
completes_least (Need s) t n x within h = omega (arith, least_depth_grows s 1 (depth_of h.tree) (depth_one h.tree), after_least s t n h.tree h.rest within h.after)
completes_least (Have s u) t n x within h = on_least s t n u x within h
completes_least (Calls s at) t n x within h = let m = h.goes_on in on_least s t n (Len at m.at m.text) m.goes_on.rest within m.goes_on.goes_on
completes_least (Spells s at) t n x within h = on_least s t n (Len at h.at h.text) h.goes_on.rest within h.goes_on.goes_on
completes_least (Closes s at q m) t n x within h = on_least s t n (Len at q m) h.rest within h.goes_on

-- ---- where the expression is whole, the state was as deep as it is

pop_depth : (s : List Frame) (u v : Formula) (f : Follow) (p : ℕ) → pop s u f p ≡ Leaves v → depth_of v ≡ least_depth s (depth_of u)
pop_depth [] u v f p e = let i : u ≡ v = cc in ap depth_of (sym i)
pop_depth (Last g ∷ s) u v f p e = pop_depth s (complete_form g u) v f p (operator_leaves f s (complete_form g u) p (pop s (complete_form g u) f p) v e) ∙ ap (least_depth s) (depth-complete_form g u)
pop_depth (Encloses at ∷ s) u v f p e = absurd (mark_leaves Closing f (Have s (Paren at u)) v e)
pop_depth (Tests at ∷ s) u v f p e = absurd (mark_leaves ThenKeyword f (Need (Branches at u ∷ s)) v e)
pop_depth (Branches at c ∷ s) u v f p e = absurd (mark_leaves ElseKeyword f (Need (Last (Chooses at c u) ∷ s)) v e)

have_depth : (s : List Frame) (u v : Formula) (f : Follow) (p : ℕ) → shift s u f p ≡ Leaves v → depth_of v ≡ least_depth s (depth_of u)
have_depth s u v f p e = pop_depth s u v f p (operator_leaves f s u p (pop s u f p) v e)

pub leaves_depth : (s : State) (v : Formula) (x : List Tok) → step_at s x ≡ Leaves v → depth_of v ≡ least_depth_of s
leaves_depth (Have s u) v [] e = have_depth s u v Foreign 0 e
leaves_depth (Have s u) v (k ∷ x) e = have_depth s u v (follow_of k.what) k.at e
leaves_depth (Need s) v [] e = absurd cc
leaves_depth (Need s) v (k ∷ x) e = absurd (start_leaves s (start_of k.what k.at) v e)
leaves_depth (Calls s at) v [] e = absurd cc
leaves_depth (Calls s at) v (k ∷ x) e = absurd (mark_leaves Opening (follow_of k.what) (Spells s at) v e)
leaves_depth (Spells s at) v [] e = absurd cc
leaves_depth (Spells s at) v (k ∷ x) e = absurd (name_leaves s at k.what k.at v e)
leaves_depth (Closes s at q n) v [] e = absurd cc
leaves_depth (Closes s at q n) v (k ∷ x) e = absurd (mark_leaves Closing (follow_of k.what) (Have s (Len at q n)) v e)
