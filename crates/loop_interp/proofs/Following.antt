-- What is done step by step is what the outcome of all steps says.
use Rattle.std.proofs.Common.{◌≡◌, inl, inr, ℕ, ◌≤◌, List, [], ◌++◌, Result, Ok, Err, refl, sym, ap, ◌∙◌, subst, append_assoc, append-nil, arith}
use Rattle.list_denotation.specs.declared.event.Event.{Event}
use Rattle.loop_ir.specs.Meaning.{Outcome, Runs, Over, after, then_do, seen_of}
use Rattle.loop_interp.specs.declared.outcome.Outcome.{Outcome as Answer}
use Rattle.loop_interp.specs.Runs.{State, Wrote, CutsOff, GoesOn, Follows}
use Rattle.loop_interp.proofs.Writing.{wrote_nothing, wrote_then, cut_off_then, cut_off_before}

-- a run of the whole outcome has come from one state to another, where this outcome is left
pub record Comes (whole o : Outcome) (s s' : State) : Type 0 where
  pub events : List Event
  pub is : whole ≡ after events o
  pub wrote : Wrote s.out s'.out events
  pub turns : s'.left ≤ s.left

-- ---- outcomes after events
after_nothing : (o : Outcome) → after [] o ≡ o
after_nothing (Runs events env left) = refl
after_nothing (Over events standing) = refl

after_after : (a b : List Event) (o : Outcome) → after a (after b o) ≡ after (a ++ b) o
after_after a b (Runs events env left) = ap (λ e. Runs e env left) (sym (append_assoc a b events))
after_after a b (Over events standing) = ap (λ e. Over e standing) (sym (append_assoc a b events))

events_after : (a : List Event) (o : Outcome) → (seen_of (after a o)).events ≡ a ++ (seen_of o).events
events_after a (Runs events env left) = refl
events_after a (Over events standing) = refl

events_then : (o : Outcome) (go : List ℕ → ℕ → Outcome) → (rest : List Event) × ((seen_of (then_do o go)).events ≡ (seen_of o).events ++ rest)
events_then (Runs events env left) go = ((seen_of (go env left)).events, events_after events (go env left))
events_then (Over events standing) go = ([], sym (append-nil events))

-- ---- steps
pub comes_at_once : (o : Outcome) (s : State) → Comes o o s s
comes_at_once o s = record { events = []; is = sym (after_nothing o); wrote = wrote_nothing s.out; turns = omega arith }

pub goes_on : (whole o : Outcome) (go : List ℕ → ℕ → Outcome) (s s' s'' : State) → Comes whole (then_do o go) s s' → GoesOn o s' s'' → Comes whole (go s''.env s''.left) s s''
goes_on whole o go s s' s'' h k = record {
  events = h.events ++ k.events;
  is = h.is ∙ ap (λ u. after h.events (then_do u go)) k.is ∙ after_after h.events k.events (go s''.env s''.left);
  wrote = wrote_then s.out s'.out s''.out h.events k.events h.wrote k.wrote;
  turns = omega (arith, h.turns, k.turns);
}

-- a step that isn't gone on from is the end of all
pub stops : (whole o : Outcome) (go : List ℕ → ℕ → Outcome) (s s' s'' : State) (result : Answer) → Comes whole (then_do o go) s s' → Follows o s' s'' (Err result) → Follows whole s s'' (Err result)
stops whole o go s s' s'' result h (inl k) = inl (record {
  events = h.events ++ k.events;
  standing = k.standing;
  is = h.is ∙ ap (λ u. after h.events (then_do u go)) k.is;
  answer = k.answer;
  wrote = wrote_then s.out s'.out s''.out h.events k.events h.wrote k.wrote;
})
stops whole o go s s' s'' result h (inr k) =
    let more = events_then o go in
    let events : (seen_of whole).events ≡ h.events ++ ((seen_of o).events ++ more.0) =
    ap (λ u. (seen_of u).events) h.is ∙ events_after h.events (then_do o go) ∙ ap (λ e. h.events ++ e) more.1 in
    inr (record {
      answer = k.answer;
      cut = subst (λ e. CutsOff s.out s''.out e) (sym events)
          (cut_off_then s.out s'.out s''.out h.events ((seen_of o).events ++ more.0) h.wrote (cut_off_before s'.out s''.out (seen_of o).events more.0 k.cut));
    })

-- what is left is done last
pub follows_last : (whole o : Outcome) (s s' s'' : State) (result : Result (Unit {0}) Answer) → Comes whole o s s' → Follows o s' s'' result → Follows whole s s'' result
follows_last whole o s s' s'' (Ok done) h k = record {
  events = h.events ++ k.events;
  is = h.is ∙ ap (λ u. after h.events u) k.is;
  wrote = wrote_then s.out s'.out s''.out h.events k.events h.wrote k.wrote;
  turns = omega (arith, h.turns, k.turns);
}
follows_last whole o s s' s'' (Err result) h (inl k) = inl (record {
  events = h.events ++ k.events;
  standing = k.standing;
  is = h.is ∙ ap (λ u. after h.events u) k.is;
  answer = k.answer;
  wrote = wrote_then s.out s'.out s''.out h.events k.events h.wrote k.wrote;
})
follows_last whole o s s' s'' (Err result) h (inr k) = inr (record {
  answer = k.answer;
  cut = subst (λ e. CutsOff s.out s''.out e) (sym (ap (λ u. (seen_of u).events) h.is ∙ events_after h.events o))
      (cut_off_then s.out s'.out s''.out h.events (seen_of o).events h.wrote k.cut);
})

-- nothing is left to do
pub follows_here : (s : State) → Follows (Runs [] s.env s.left) s s (Ok tt)
follows_here s = record { events = []; is = refl; wrote = wrote_nothing s.out; turns = omega arith }
