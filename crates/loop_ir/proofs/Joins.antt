-- Statements after statements.
use Rattle.std.proofs.Common.{◌≡◌, ℕ, List, [], ◌++◌, refl, sym, ap, ◌∙◌, append_assoc}
use Rattle.list_denotation.specs.declared.event.Event.{Event}
use Rattle.list_denotation.specs.declared.input.Input.{Input}
use Rattle.list_denotation.specs.Observation.{Standing}
use Rattle.loop_ir.specs.Statements.{Block, Nil, Cons, join}
use Rattle.loop_ir.specs.Meaning.{Outcome, Runs, Over, after, then_do, run_one, run}

pub after_nothing : (o : Outcome) → after [] o ≡ o
after_nothing (Runs events env left) = refl
after_nothing (Over events standing) = refl

after_after : (out more : List Event) (o : Outcome) → after out (after more o) ≡ after (out ++ more) o
after_after out more (Runs events env left) = ap (λ e. Runs e env left) (sym (append_assoc out more events))
after_after out more (Over events standing) = ap (λ e. Over e standing) (sym (append_assoc out more events))

pub after_then : (out : List Event) (o : Outcome) (go : List ℕ → ℕ → Outcome) → after out (then_do o go) ≡ then_do (after out o) go
after_then out (Runs events env left) go = after_after out events (go env left)
after_then out (Over events standing) go = refl

then_then : (o : Outcome) (first second both : List ℕ → ℕ → Outcome) → ((env : List ℕ) (left : ℕ) → both env left ≡ then_do (first env left) second) → then_do o both ≡ then_do (then_do o first) second
then_then (Runs events env left) first second both h = ap (after events) (h env left) ∙ after_then events (first env left) second
then_then (Over events standing) first second both h = refl

module _ (inputs : List Input) where
  pub run_join : (ss more : Block) (env : List ℕ) (left : ℕ) → run inputs (join ss more) env left ≡ then_do (run inputs ss env left) (run inputs more)
  run_join Nil more env left = sym (after_nothing (run inputs more env left))
  run_join (Cons s ss) more env left =
      then_then (run_one inputs s env left) (run inputs ss) (run inputs more) (run inputs (join ss more)) (run_join ss more)

  -- statements that go on with these events lead to those after them
  pub goes_on : (ss more : Block) (events : List Event) (env env' : List ℕ) (left : ℕ) → run inputs ss env left ≡ Runs events env' left → run inputs (join ss more) env left ≡ after events (run inputs more env' left)
  goes_on ss more events env env' left h = run_join ss more env left ∙ ap (λ o. then_do o (run inputs more)) h

  -- statements that end the run are all that is run
  pub is_over : (ss more : Block) (events : List Event) (standing : Standing) (env : List ℕ) (left : ℕ) → run inputs ss env left ≡ Over events standing → run inputs (join ss more) env left ≡ Over events standing
  is_over ss more events standing env left h = run_join ss more env left ∙ ap (λ o. then_do o (run inputs more)) h
