-- Each leaf of a machine is one of the term, but for the numbers of words.
use Rattle.std.proofs.Common.{ℕ, zero, suc, ◌+◌, List, [], ◌∷◌, ◌++◌, length, Bool, true, false, ◌&&◌, refl}
use Rattle.std.specs.Prelude.{IsTrue, if◌then◌else◌}
use Rattle.strm_num.proofs.Truths.{both_true, true_both}
use Rattle.list_denotation.specs.Leaves.{all_leaves}
use Rattle.list_denotation.specs.TermRows.{variables}
use Rattle.list_denotation.specs.Terms.{Term, Lit, Truth, Var, Not, And, Or}
use Rattle.stateful_core.specs.CoreTerms.{StopUnless, Update, When, Actions, Nil, Cons, join, CoreTerm, Lin, Tr, Nest, Zip}
use Rattle.stateful_core.specs.CoreLeaves.{row_leaves, action_leaves, actions_leaves, parts_leaves, core_leaves}
use Rattle.act_moves.specs.Flags.{skip_with, close_unless}
use Rattle.act_moves.specs.Renumbering.{renumber, renumber_row, move_actions}
use Rattle.act_moves.proofs.RenumberedLeaves.{all_append, leaves_renumbered, row_renumbered, leaves_join, leaves_moved}
use Rattle.stage_machines.specs.JoinedGuards.{is_always, join_guards}
use Rattle.stage_machines.specs.MachineParts.{MachineParts, machine_from, machine_core}
use Rattle.stage_machines.proofs.JoinedGuards.{leaves_guards}
use Rattle.zip_linearise.specs.HeldRows.{zeros, first_word, second_place, hold_acts, flag_or}
use Rattle.zip_linearise.specs.Laws.{Laws}
use Rattle.zip_linearise.specs.LinearMachine.{linear_machine}
use Rattle.zip_linearise.specs.NestMachine.{inner_word, guarded_acts, nest_acts, nest_machine}
use Rattle.zip_linearise.specs.ZipMachine.{right_word, due_guard, zip_acts, zip_machine}

-- the leaves of each part of a Lin or a Tr pass a test
record PartsPass (test : Term → Bool) (init : List Term) (guard : Term) (acts : Actions) (item : List Term) : Type 0 where
  in_init : IsTrue (row_leaves test init)
  in_guard : IsTrue (all_leaves test guard)
  in_acts : IsTrue (actions_leaves test acts)
  in_item : IsTrue (row_leaves test item)

-- a test of leaves that numbers of words are nothing to, and that each word, each truth, and the numbers of a flag pass
module _ (test : Term → Bool) (each : (f : ℕ → ℕ) (e : Term) → IsTrue (test e) → IsTrue (test (renumber f e)))
    (zero_passes : IsTrue (test (Lit 0))) (one_passes : IsTrue (test (Lit 1))) (truth_passes : (b : Bool) → IsTrue (test (Truth b))) (word_passes : (k : ℕ) → IsTrue (test (Var k))) where
  parts_pass : (init : List Term) (guard : Term) (acts : Actions) (item : List Term) → IsTrue (parts_leaves test init guard acts item) → PartsPass test init guard acts item
  parts_pass init guard acts item h =
      let p = both_true (row_leaves test init) (all_leaves test guard && (actions_leaves test acts && row_leaves test item)) h in
      let q = both_true (all_leaves test guard) (actions_leaves test acts && row_leaves test item) p.1 in
      let r = both_true (actions_leaves test acts) (row_leaves test item) q.1 in
      record { in_init = p.0; in_guard = q.0; in_acts = r.0; in_item = r.1 }

  pass_parts : (init : List Term) (guard : Term) (acts : Actions) (item : List Term) → PartsPass test init guard acts item → IsTrue (parts_leaves test init guard acts item)
  pass_parts init guard acts item h =
      true_both (row_leaves test init) _ h.in_init
      (true_both (all_leaves test guard) _ h.in_guard (true_both (actions_leaves test acts) (row_leaves test item) h.in_acts h.in_item))

  -- ---- two machines in one

  zeros_pass : (k : ℕ) → IsTrue (row_leaves test (zeros k))
  zeros_pass zero = refl
  zeros_pass (suc k) = true_both (test (Lit 0)) (row_leaves test (zeros k)) zero_passes (zeros_pass k)

  variables_pass : (k n : ℕ) → IsTrue (row_leaves test (variables k n))
  variables_pass k zero = refl
  variables_pass k (suc n) =
      true_both (test (Var k)) (row_leaves test (variables (suc k) n)) (word_passes k) (variables_pass (suc k) n)

  held_leaves : (w : ℕ) (one other : List Term) → IsTrue (row_leaves test one) → IsTrue (row_leaves test other) → IsTrue (row_leaves test (Lit 0 ∷ (zeros w ++ (one ++ other))))
  held_leaves w one other h k =
      true_both (test (Lit 0)) (row_leaves test (zeros w ++ (one ++ other))) zero_passes
      (all_append (all_leaves test) (zeros w) (one ++ other) (zeros_pass w) (all_append (all_leaves test) one other h k))

  flag_leaves : (k : ℕ) (g : Term) → IsTrue (all_leaves test g) → IsTrue (all_leaves test (flag_or (Var k) g))
  flag_leaves k g h = by_form (is_always g)
    where
      by_form : (t : Bool) → IsTrue (all_leaves test (if t then g else Or (Var k) g))
      by_form true = h
      by_form false = true_both (test (Var k)) (all_leaves test g) (word_passes k) h

  due_leaves : (k : ℕ) (right left : Term) → IsTrue (all_leaves test right) → IsTrue (all_leaves test left) → IsTrue (all_leaves test (due_guard (Var k) right left))
  due_leaves k right left h l = by_form (is_always right)
    where
      by_form : (t : Bool) → IsTrue (all_leaves test (if t then flag_or (Var k) left else Or (And (Var k) right) (join_guards (Not (Var k)) left)))
      by_form true = flag_leaves k left l
      by_form false =
          true_both (test (Var k) && all_leaves test right) (all_leaves test (join_guards (Not (Var k)) left))
          (true_both (test (Var k)) (all_leaves test right) (word_passes k) h)
          (leaves_guards test (Not (Var k)) left (word_passes k) l)

  -- the acts that set the flag to a number that passes
  skip_leaves : (flag : ℕ) → IsTrue (test (Lit flag)) → IsTrue (actions_leaves test (skip_with flag))
  skip_leaves flag h =
      true_both (test (Lit flag) && true) (test (Truth false) && true) (true_both (test (Lit flag)) true h refl)
      (true_both (test (Truth false)) true (truth_passes false) refl)

  close_leaves : (e : Term) → IsTrue (all_leaves test e) → IsTrue (action_leaves test (close_unless e))
  close_leaves e h = true_both (all_leaves test e) (actions_leaves test (skip_with 0)) h (skip_leaves 0 zero_passes)

  guarded_leaves : (g : Term) (acts : Actions) → IsTrue (all_leaves test g) → IsTrue (actions_leaves test acts) → IsTrue (actions_leaves test (guarded_acts g acts))
  guarded_leaves g acts h k = by_form (is_always g)
    where
      by_form : (t : Bool) → IsTrue (actions_leaves test (if t then acts else Cons (close_unless g) acts))
      by_form true = k
      by_form false = true_both (action_leaves test (close_unless g)) (actions_leaves test acts) (close_leaves g h) k

  hold_leaves : (m : MachineParts) (others : ℕ) (more : Actions) → PartsPass test m.init m.guard m.acts m.item → IsTrue (actions_leaves test more) → IsTrue (actions_leaves test (hold_acts m others more))
  hold_leaves m others more h k =
      let f = first_word m others in
      leaves_join test each (move_actions f (1 + length m.item) StopUnless m.acts)
      (Cons (Update 1 (renumber_row f m.item)) more)
      (leaves_moved test each f (1 + length m.item) StopUnless (λ e p. p) m.acts h.in_acts)
      (true_both (row_leaves test (renumber_row f m.item)) (actions_leaves test more)
      (row_renumbered f test test (each f) m.item h.in_item) k)

  -- acts behind a choice by the flag
  turn_leaves : (k : ℕ) (a b : Actions) → IsTrue (actions_leaves test a) → IsTrue (actions_leaves test b) → IsTrue (actions_leaves test (Cons (When (Var k) Nil a) b))
  turn_leaves k a b h l =
      true_both (test (Var k) && actions_leaves test a) (actions_leaves test b)
      (true_both (test (Var k)) (actions_leaves test a) (word_passes k) h) l

  nest_leaves : (outer inner : MachineParts) → PartsPass test outer.init outer.guard outer.acts outer.item → PartsPass test inner.init inner.guard inner.acts inner.item → IsTrue (core_leaves test (machine_core (nest_machine outer inner)))
  nest_leaves outer inner h k =
      let b = length inner.init in
      let p = second_place outer in
      let f = first_word outer b in
      let g = inner_word outer in
      let opens = Cons (Update p (renumber_row g inner.init)) (skip_with 1) in
      pass_parts (nest_machine outer inner).init (nest_machine outer inner).guard (nest_acts outer inner)
      (renumber_row g inner.item) (record {
        in_init = held_leaves (length outer.item) outer.init (zeros b) h.in_init (zeros_pass b);
        in_guard = flag_leaves outer.scope (renumber f outer.guard)
            (leaves_renumbered f test test (each f) outer.guard h.in_guard);
        in_acts = turn_leaves outer.scope (hold_acts outer b opens)
            (guarded_acts (renumber g inner.guard) (move_actions g p close_unless inner.acts))
            (hold_leaves outer b opens h
            (true_both (row_leaves test (renumber_row g inner.init)) (actions_leaves test (skip_with 1))
            (row_renumbered g test test (each g) inner.init k.in_init) (skip_leaves 1 one_passes)))
            (guarded_leaves (renumber g inner.guard) (move_actions g p close_unless inner.acts)
            (leaves_renumbered g test test (each g) inner.guard k.in_guard)
            (leaves_moved test each g p close_unless close_leaves inner.acts k.in_acts));
        in_item = row_renumbered g test test (each g) inner.item k.in_item;
      })

  zip_leaves : (left right : MachineParts) → PartsPass test left.init left.guard left.acts left.item → PartsPass test right.init right.guard right.acts right.item → IsTrue (core_leaves test (machine_core (zip_machine left right)))
  zip_leaves left right h k =
      let b = length right.init in
      let p = second_place left in
      let f = first_word left b in
      let g = right_word left in
      let right_acts = move_actions g p StopUnless right.acts in
      let due = Cons (Update 0 (Lit 0 ∷ [])) Nil in
      pass_parts (zip_machine left right).init (zip_machine left right).guard (zip_acts left right)
      (zip_machine left right).item (record {
        in_init = held_leaves (length left.item) left.init right.init h.in_init k.in_init;
        in_guard = due_leaves left.scope (renumber g right.guard) (renumber f left.guard)
            (leaves_renumbered g test test (each g) right.guard k.in_guard)
            (leaves_renumbered f test test (each f) left.guard h.in_guard);
        in_acts = turn_leaves left.scope (hold_acts left b (skip_with 1)) (join right_acts due)
            (hold_leaves left b (skip_with 1) h (skip_leaves 1 one_passes))
            (leaves_join test each right_acts due (leaves_moved test each g p StopUnless (λ e q. q) right.acts k.in_acts)
            (true_both (test (Lit 0) && true) true (true_both (test (Lit 0)) true zero_passes refl) refl));
        in_item = all_append (all_leaves test) (variables (left.scope + 1) (length left.item)) (renumber_row g right.item)
            (variables_pass (left.scope + 1) (length left.item))
            (row_renumbered g test test (each g) right.item k.in_item);
      })

  -- ---- terms

  pub machine_leaves : (laws : Laws) (c : CoreTerm) → IsTrue (core_leaves test c) → IsTrue (core_leaves test (machine_core (linear_machine c)))
  machine_leaves laws (Lin scope init guard acts item) h = h
  machine_leaves laws (Tr scope of init guard acts item) h =
      let p = both_true (core_leaves test of) (parts_leaves test init guard acts item) h in
      laws.stage_leaves test each 0 (linear_machine of) (machine_from scope init guard acts item) (machine_leaves laws of p.0) p.1
  machine_leaves laws (Nest of inner) h =
      let p = both_true (core_leaves test of) (core_leaves test inner) h in
      let o = linear_machine of in
      let i = linear_machine inner in
      nest_leaves o i (parts_pass o.init o.guard o.acts o.item (machine_leaves laws of p.0))
      (parts_pass i.init i.guard i.acts i.item (machine_leaves laws inner p.1))
  machine_leaves laws (Zip left right) h =
      let p = both_true (core_leaves test left) (core_leaves test right) h in
      let o = linear_machine left in
      let i = linear_machine right in
      zip_leaves o i (parts_pass o.init o.guard o.acts o.item (machine_leaves laws left p.0))
      (parts_pass i.init i.guard i.acts i.item (machine_leaves laws right p.1))
