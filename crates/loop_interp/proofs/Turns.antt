-- The turns of a loop, one after another.
use Rattle.std.proofs.Common.{◌≡◌, inl, ℕ, zero, suc, ◌+◌, ◌≤◌, Bool, true, false, List, [], Ok, Err, refl, ap, ◌∙◌, arith}
use Rattle.list_denotation.specs.Observation.{Going, Failed}
use Rattle.list_denotation.specs.Values.{Got, Is, Fails, Stuck}
use Rattle.loop_ir.specs.Meaning.{Outcome, Runs, Over, after, then_do, on_test, spend, turns}
use Rattle.loop_interp.specs.declared.outcome.Outcome.{Outcome as Answer}
use Rattle.loop_interp.specs.declared.outcome.Outcome.TheVariants as answer
use Rattle.loop_interp.specs.Runs.{State, GoesOn, Follows}
use Rattle.loop_interp.proofs.Following.{Comes, goes_on, stops, follows_last}
use Rattle.loop_interp.proofs.Writing.{wrote_nothing}

-- a loop has come to where this is left of it, with a bound of its turns that is high enough
pub record Turning (whole : Outcome) (guard : List ℕ → Got Bool) (body : List ℕ → ℕ → Outcome) (s s' : State) : Type 0 where
  pub bound : ℕ
  pub enough : s'.left ≤ bound
  pub comes : Comes whole (turns bound guard body s'.env s'.left) s s'

-- the state with so many turns left
abbrev pub with_left : State → ℕ → State
with_left s left = record { out = s.out; env = s.env; left = left }

-- ---- one turn of the definition
record Turn (bound : ℕ) (guard : List ℕ → Got Bool) (body : List ℕ → ℕ → Outcome) (env : List ℕ) (left rest : ℕ) : Type 0 where
  bound' : ℕ
  enough : rest ≤ bound'
  is : turns bound guard body env left ≡ then_do (body env rest) (turns bound' guard body)

turn_is : (bound left rest : ℕ) (guard : List ℕ → Got Bool) (body : List ℕ → ℕ → Outcome) (env : List ℕ) → left ≤ bound → guard env ≡ Is true → left ≡ rest + 1 → Turn bound guard body env left rest
turn_is bound zero rest guard body env h g n = absurd (omega arith)
turn_is zero (suc left) rest guard body env h g n = absurd (omega arith)
turn_is (suc bound) (suc left) rest guard body env h g n =
    let fewer : left ≡ rest = omega arith in
    record {
      bound' = bound;
      enough = omega arith;
      is = ap (λ x. on_test x (then_do (body env left) (turns bound guard body)) (Runs [] env (suc left))) g
          ∙ ap (λ l. then_do (body env l) (turns bound guard body)) fewer;
    }

no_turn : (bound left : ℕ) (guard : List ℕ → Got Bool) (body : List ℕ → ℕ → Outcome) (env : List ℕ) → guard env ≡ Is true → left ≡ 0 → turns bound guard body env left ≡ Over [] Going
no_turn zero left guard body env g e = ap (λ x. on_test x (Over [] Going) (Runs [] env left)) g
no_turn (suc bound) zero guard body env g e = ap (λ x. on_test x (Over [] Going) (Runs [] env zero)) g
no_turn (suc bound) (suc left) guard body env g e = absurd cc

is_over : (bound left : ℕ) (guard : List ℕ → Got Bool) (body : List ℕ → ℕ → Outcome) (env : List ℕ) → guard env ≡ Is false → turns bound guard body env left ≡ Runs [] env left
is_over zero left guard body env g = ap (λ x. on_test x (Over [] Going) (Runs [] env left)) g
is_over (suc bound) left guard body env g = ap (λ x. on_test x (spend left (λ rest. then_do (body env rest) (turns bound guard body))) (Runs [] env left)) g

is_stuck : (bound left : ℕ) (guard : List ℕ → Got Bool) (body : List ℕ → ℕ → Outcome) (env : List ℕ) → guard env ≡ Fails Stuck → turns bound guard body env left ≡ Over [] (Failed Stuck)
is_stuck zero left guard body env g = ap (λ x. on_test x (Over [] Going) (Runs [] env left)) g
is_stuck (suc bound) left guard body env g = ap (λ x. on_test x (spend left (λ rest. then_do (body env rest) (turns bound guard body))) (Runs [] env left)) g

-- ---- the turns of a run
module _ (whole : Outcome) (guard : List ℕ → Got Bool) (body : List ℕ → ℕ → Outcome) (s s' : State) (h : Turning whole guard body s s') where
  -- what is left, with the turn spent
  comes_to_body : (rest : ℕ) → s'.left ≡ rest + 1 → (t : Turn h.bound guard body s'.env s'.left rest) → Comes whole (then_do (body s'.env rest) (turns t.bound' guard body)) s (with_left s' rest)
  comes_to_body rest e t = record {
    events = h.comes.events;
    is = h.comes.is ∙ ap (λ u. after h.comes.events u) t.is;
    wrote = h.comes.wrote;
    turns = omega (arith, h.comes.turns);
  }

  module _ (holds : guard s'.env ≡ Is true) where
    pub turned : (rest : ℕ) → s'.left ≡ rest + 1 → (s'' : State) → GoesOn (body s'.env rest) (with_left s' rest) s'' → Turning whole guard body s s''
    turned rest e s'' k =
        let t = turn_is h.bound s'.left rest guard body s'.env h.enough holds e in
        record {
          bound = t.bound';
          enough = omega (arith, t.enough, k.turns);
          comes = goes_on whole (body s'.env rest) (turns t.bound' guard body) s (with_left s' rest) s'' (comes_to_body rest e t) k;
        }

    pub turn_stops : (rest : ℕ) → s'.left ≡ rest + 1 → (s'' : State) (result : Answer) → Follows (body s'.env rest) (with_left s' rest) s'' (Err result) → Follows whole s s'' (Err result)
    turn_stops rest e s'' result k =
        let t = turn_is h.bound s'.left rest guard body s'.env h.enough holds e in
        stops whole (body s'.env rest) (turns t.bound' guard body) s (with_left s' rest) s'' result (comes_to_body rest e t) k

    pub turns_spent : s'.left ≡ 0 → Follows whole s s' (Err answer.Spent)
    turns_spent none =
        follows_last whole _ s s' s' (Err answer.Spent) h.comes
        (inl (record { events = []; standing = Going; is = no_turn h.bound s'.left guard body s'.env holds none; answer = refl; wrote = wrote_nothing s'.out }))

  pub loop_over : guard s'.env ≡ Is false → Follows whole s s' (Ok tt)
  loop_over fails =
      follows_last whole _ s s' s' (Ok tt) h.comes
      (record { events = []; is = is_over h.bound s'.left guard body s'.env fails; wrote = wrote_nothing s'.out; turns = omega arith })

  pub loop_stuck : guard s'.env ≡ Fails Stuck → Follows whole s s' (Err answer.Undefined)
  loop_stuck stuck =
      follows_last whole _ s s' s' (Err answer.Undefined) h.comes
      (inl (record { events = []; standing = Failed Stuck; is = is_stuck h.bound s'.left guard body s'.env stuck; answer = refl; wrote = wrote_nothing s'.out }))
