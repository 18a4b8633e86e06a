-- With one more turn a run goes at least as far.
use Rattle.std.proofs.Common.{◌≡◌, inl, inr, ℕ, zero, suc, ◌+◌, Bool, true, false, List, [], ◌++◌, refl, sym, ap, ◌∙◌, subst, append_assoc, arith}
use Rattle.std.specs.Prelude.{slice_get, replicate}
use Rattle.list_denotation.specs.declared.event.Event.{Event}
use Rattle.list_denotation.specs.declared.input.Input.{Input}
use Rattle.list_denotation.specs.Far.{Far}
use Rattle.list_denotation.specs.Inputs.{items_in}
use Rattle.list_denotation.specs.Observation.{Done, Going, Failed}
use Rattle.list_denotation.specs.Values.{Got, Is, Fails}
use Rattle.loop_ir.specs.declared.syntax.Verdict.{Verdict}
use Rattle.loop_ir.specs.declared.syntax.Verdict.TheVariants as verdict
use Rattle.loop_ir.specs.Statements.{Statement, Set, Read, If, Loop, Emit, EndRow, Ret, Block, Nil, Cons, Routine}
use Rattle.loop_ir.specs.Meaning.{Outcome, Runs, Over, after, then_do, on_value, on_test, spend, turns, item_of, operand_value, test_value, verdict_of, run_one, run, seen_of, meaning}

-- the events of an outcome begin with these
pub record Extends (before : List Event) (u : Outcome) : Type 0 where
  pub rest : List Event
  pub is : (seen_of u).events ≡ before ++ rest

-- u is what o may be with one more turn: the same with that turn left, or, where o is still going, any outcome
-- whose events begin with its own
abbrev pub Ahead : Outcome → Outcome → Type 0
Ahead (Runs events env left) u = u ≡ Runs events env (suc left)
Ahead (Over events Going) u = Extends events u
Ahead (Over events Done) u = u ≡ Over events Done
Ahead (Over events (Failed f)) u = u ≡ Over events (Failed f)

from_nothing : (u : Outcome) → Extends [] u
from_nothing u = record { rest = (seen_of u).events; is = refl }

-- ---- one lemma for each combinator
events_after : (before : List Event) (u : Outcome) → (seen_of (after before u)).events ≡ before ++ (seen_of u).events
events_after before (Runs events env left) = refl
events_after before (Over events standing) = refl

after_ahead : (before : List Event) (o u : Outcome) → Ahead o u → Ahead (after before o) (after before u)
after_ahead before (Runs events env left) u h = ap (after before) h
after_ahead before (Over events Going) u h = record {
  rest = h.rest;
  is = events_after before u ∙ ap (λ e. before ++ e) h.is ∙ sym (append_assoc before events h.rest);
}
after_ahead before (Over events Done) u h = ap (after before) h
after_ahead before (Over events (Failed f)) u h = ap (after before) h

then_extends : (before : List Event) (u : Outcome) (go : List ℕ → ℕ → Outcome) → Extends before u → Extends before (then_do u go)
then_extends before (Over events standing) go h = h
then_extends before (Runs events env left) go h =
    let more = (seen_of (go env left)).events in
    record {
      rest = h.rest ++ more;
      is = events_after events (go env left) ∙ ap (λ e. e ++ more) h.is ∙ append_assoc before h.rest more;
    }

then_ahead : (o u : Outcome) (f g : List ℕ → ℕ → Outcome) → ((env : List ℕ) (left : ℕ) → Ahead (f env left) (g env (suc left))) → Ahead o u → Ahead (then_do o f) (then_do u g)
then_ahead (Runs events env left) u f g fg h =
    subst (λ v. Ahead (after events (f env left)) (then_do v g)) (sym h) (after_ahead events (f env left) (g env (suc left)) (fg env left))
then_ahead (Over events Going) u f g fg h = then_extends events u g h
then_ahead (Over events Done) u f g fg h = ap (λ v. then_do v g) h
then_ahead (Over events (Failed f')) u f g fg h = ap (λ v. then_do v g) h

value_ahead : (x : Got ℕ) (f g : ℕ → Outcome) → ((v : ℕ) → Ahead (f v) (g v)) → Ahead (on_value x f) (on_value x g)
value_ahead (Is v) f g fg = fg v
value_ahead (Fails f') f g fg = refl

test_ahead : (x : Got Bool) (a b c d : Outcome) → Ahead a c → Ahead b d → Ahead (on_test x a b) (on_test x c d)
test_ahead (Is true) a b c d ac bd = ac
test_ahead (Is false) a b c d ac bd = bd
test_ahead (Fails f) a b c d ac bd = refl

spend_ahead : (left : ℕ) (f g : ℕ → Outcome) → ((rest : ℕ) → Ahead (f rest) (g (suc rest))) → Ahead (spend left f) (spend (suc left) g)
spend_ahead zero f g fg = from_nothing (g zero)
spend_ahead (suc left) f g fg = fg left

turns_ahead : (bound : ℕ) (guard : List ℕ → Got Bool) (body : List ℕ → ℕ → Outcome) → ((env : List ℕ) (left : ℕ) → Ahead (body env left) (body env (suc left))) → (env : List ℕ) (left : ℕ) → Ahead (turns bound guard body env left) (turns (suc bound) guard body env (suc left))
turns_ahead zero guard body h env left = test_ahead (guard env) _ _ _ _ (from_nothing _) refl
turns_ahead (suc bound) guard body h env left =
    test_ahead (guard env) _ _ _ _
    (spend_ahead left (λ rest. then_do (body env rest) (turns bound guard body)) (λ rest. then_do (body env rest) (turns (suc bound) guard body))
    (λ rest. then_ahead (body env rest) (body env (suc rest)) (turns bound guard body) (turns (suc bound) guard body) (turns_ahead bound guard body h) (h env rest)))
    refl

returned_ahead : (v : Verdict) → Ahead (Over [] (verdict_of v)) (Over [] (verdict_of v))
returned_ahead verdict.Done = refl
returned_ahead verdict.Trap = refl

-- ---- statements and blocks
module _ (inputs : List Input) where
  mutual
    pub one_ahead : (s : Statement) (env : List ℕ) (left : ℕ) → Ahead (run_one inputs s env left) (run_one inputs s env (suc left))
    one_ahead (Set v w) env left = value_ahead (operand_value inputs w env) _ _ (λ x. refl)
    one_ahead (Read v a w) env left =
        value_ahead (operand_value inputs w env) _ _ (λ i. value_ahead (item_of (slice_get (items_in (slice_get inputs a)) i)) _ _ (λ x. refl))
    one_ahead (If t a b) env left = test_ahead (test_value inputs t env) _ _ _ _ (block_ahead a env left) (block_ahead b env left)
    one_ahead (Loop t body) env left = turns_ahead left (test_value inputs t) (run inputs body) (block_ahead body) env left
    one_ahead (Emit w) env left = value_ahead (operand_value inputs w env) _ _ (λ x. refl)
    one_ahead EndRow env left = refl
    one_ahead (Ret v) env left = returned_ahead v

    pub block_ahead : (ss : Block) (env : List ℕ) (left : ℕ) → Ahead (run inputs ss env left) (run inputs ss env (suc left))
    block_ahead Nil env left = refl
    block_ahead (Cons s ss) env left =
        then_ahead (run_one inputs s env left) (run_one inputs s env (suc left)) (run inputs ss) (run inputs ss) (block_ahead ss) (one_ahead s env left)

-- ---- what is seen
far_ahead : (o u : Outcome) → Ahead o u → Far (seen_of o) (seen_of u)
far_ahead (Runs events env left) u h = inl (sym (ap seen_of h))
far_ahead (Over events Going) u h = inr (record { going = refl; rest = h.rest; prefix = h.is })
far_ahead (Over events Done) u h = inl (sym (ap seen_of h))
far_ahead (Over events (Failed f)) u h = inl (sym (ap seen_of h))

pub grows : (q : Routine) (inputs : List Input) (m : ℕ) → Far (meaning q inputs m) (meaning q inputs (m + 1))
grows q inputs m =
    let start : List ℕ = replicate q.vars 0 in
    let more : suc m ≡ m + 1 = omega arith in
    subst (λ n. Far (meaning q inputs m) (meaning q inputs n)) more
    (far_ahead (run inputs q.body start m) (run inputs q.body start (suc m)) (block_ahead inputs q.body start m))
