-- What is seen of a loop whose turns do what those of a machine do, and what a consumer does with their rows.
-- The relation: a state of the machine and the words that the consumer holds stand in the variables where a turn of the loop
-- begins. At as many turns as the machine has, the loop shows what the consumer makes of the machine's rows.
use Rattle.std.proofs.Common.{◌≡◌, ℕ, zero, suc, List, [], ◌++◌, refl, sym, ap, ◌∙◌}
use Rattle.list_denotation.specs.declared.event.Event.{Event}
use Rattle.list_denotation.specs.declared.input.Input.{Input}
use Rattle.list_denotation.specs.Observation.{Standing, Done, Going, Failed, Seen}
use Rattle.list_denotation.specs.Rows.{Rows, End, Cut, Ends}
use Rattle.list_denotation.specs.Values.{Is, choice}
use Rattle.loop_ir.specs.Meaning.{Outcome, Runs, Over, after, then_do, on_test, test_value, turns, run, seen_of}
use Rattle.loop_ir.specs.Statements.{Test, Block}
use Rattle.loop_ir.proofs.Joins.{after_nothing, after_then}
use Rattle.expr_lower.specs.Contract.{is_true}
use Rattle.stateful_core.specs.Turns.{Turn, Gives, Skips, Stops, Breaks, after_turn, turn_rows}
use Rattle.turn_blocks.specs.TurnContract.{Taken, Holds, Refuses, taken, Taker, consumer_of, TurnEnd, Goes, Ends as EndsRun, fed_end, turn_end_of}
use Rattle.loop_emit.specs.SeenRows.{fed_seen, seen_rows}

seen_after : (before : List Event) (o : Outcome) → seen_of (after before o) ≡ record { events = before ++ (seen_of o).events; standing = (seen_of o).standing }
seen_after before (Runs events env left) = refl
seen_after before (Over events standing) = refl

-- `Stands state held env`: the state and what is held stand in the variables
module _ (inputs : List Input) (c : Taker) (Stands : List ℕ → List ℕ → List ℕ → Type 0) (guard : List ℕ → ℕ) (turn : List ℕ → Turn (List ℕ)) (come : List ℕ → List ℕ) (test : Test) (body ending : Block) where
  pub record GoesTo (left : ℕ) (env : List ℕ) (events : List Event) (state held : List ℕ) (left' : ℕ) : Type 0 where
    pub env' : List ℕ
    pub runs : run inputs body env left ≡ Runs events env' left'
    pub stands : Stands state held env'

  abbrev pub TurnEnds : ℕ → List ℕ → TurnEnd → Type 0
  TurnEnds left env (Goes events state held left') = GoesTo left env events state held left'
  TurnEnds left env (EndsRun events standing) = run inputs body env left ≡ Over events standing

  -- the test tells the guard, a turn of the loop does what one of the machine does, and the statements behind the loop show what
  -- is held
  pub record IsLoopOf : Type 0 where
    pub tells : (state held env : List ℕ) → Stands state held env → test_value inputs test env ≡ Is (is_true (guard state))
    pub turns_end : (state held env : List ℕ) (left : ℕ) → Stands state held env → TurnEnds left env (turn_end_of (consumer_of c held left) (come state) (turn state))
    pub shows : (state held env : List ℕ) (left : ℕ) → Stands state held env → run inputs ending env left ≡ Runs (c.ending held) env left

  abbrev looped : ℕ → List ℕ → ℕ → Outcome
  looped n = turns n (test_value inputs test) (run inputs body)

  abbrev then_shown : Outcome → Seen
  then_shown o = seen_of (then_do o (run inputs ending))

  by_guard : (g : ℕ) (held : List ℕ) (on off : Outcome) (rows none : Rows) → then_shown off ≡ seen_rows c held none → then_shown on ≡ seen_rows c held rows → then_shown (on_test (Is (is_true g)) on off) ≡ seen_rows c held (choice g none rows)
  by_guard zero held on off rows none h k = h
  by_guard (suc g) held on off rows none h k = k

  -- events, and what is seen from a turn on
  goes_seen : (env : List ℕ) (n : ℕ) (events : List Event) (state held : List ℕ) (seen : Seen) → (h : GoesTo n env events state held n) → then_shown (looped n h.env' n) ≡ seen → then_shown (then_do (run inputs body env n) (looped n)) ≡ record { events = events ++ seen.events; standing = seen.standing }
  goes_seen env n events state held seen h is =
      ap (λ o. then_shown (then_do o (looped n))) h.runs
      ∙ ap seen_of (sym (after_then events (looped n h.env' n) (run inputs ending)))
      ∙ seen_after events (then_do (looped n h.env' n) (run inputs ending))
      ∙ ap (λ (s : Seen). record { events = events ++ s.events; standing = s.standing }) is

  over_seen : (env : List ℕ) (n : ℕ) (events : List Event) (standing : Standing) → run inputs body env n ≡ Over events standing → then_shown (then_do (run inputs body env n) (looped n)) ≡ record { events = events; standing = standing }
  over_seen env n events standing h = ap (λ o. then_shown (then_do o (looped n))) h

  module _ (is : IsLoopOf) where
    ended : (n : ℕ) (state held env : List ℕ) → Stands state held env → then_shown (Runs [] env n) ≡ seen_rows c held (Ends End)
    ended n state held env stands = ap seen_of (after_nothing (run inputs ending env n) ∙ is.shows state held env n stands)

    abbrev LoopSeen : ℕ → Type 0
    LoopSeen n = (state held env : List ℕ) → Stands state held env → then_shown (looped n env n) ≡ seen_rows c held (turn_rows guard turn n state)

    fed_is : (n : ℕ) (env state : List ℕ) (f : Taken) → LoopSeen n → TurnEnds n env (fed_end state (taken n f)) → then_shown (then_do (run inputs body env n) (looped n)) ≡ fed_seen f (λ next. seen_rows c next (turn_rows guard turn n state))
    fed_is n env state (Holds events held) again h =
        goes_seen env n events state held (seen_rows c held (turn_rows guard turn n state)) h (again state held h.env' h.stands)
    fed_is n env state (Refuses f) again h = over_seen env n [] (Failed f) h

    turn_is : (n : ℕ) (env held come_to : List ℕ) (t : Turn (List ℕ)) → LoopSeen n → TurnEnds n env (turn_end_of (consumer_of c held n) come_to t) → then_shown (then_do (run inputs body env n) (looped n)) ≡ seen_rows c held (after_turn t (λ next. turn_rows guard turn n next))
    turn_is n env held come_to (Gives row state) again h = fed_is n env state (c.feed held row) again h
    turn_is n env held come_to (Skips state) again h =
        goes_seen env n [] state held (seen_rows c held (turn_rows guard turn n state)) h (again state held h.env' h.stands)
    turn_is n env held come_to Stops again h = over_seen env n (c.ending held) Done h
    turn_is n env held come_to (Breaks f) again h = over_seen env n [] (Failed f) h

    pub loop_seen : (n : ℕ) → LoopSeen n
    loop_seen zero state held env stands =
        ap (λ t. then_shown (on_test t (Over [] Going) (Runs [] env 0))) (is.tells state held env stands)
        ∙ by_guard (guard state) held (Over [] Going) (Runs [] env 0) (Ends Cut) (Ends End) (ended 0 state held env stands) refl
    loop_seen (suc n) state held env stands =
        let on = then_do (run inputs body env n) (looped n) in
        ap (λ t. then_shown (on_test t on (Runs [] env (suc n)))) (is.tells state held env stands)
        ∙ by_guard (guard state) held on (Runs [] env (suc n)) (after_turn (turn state) (λ next. turn_rows guard turn n next)) (Ends End)
        (ended (suc n) state held env stands)
        (turn_is n env held (come state) (turn state) (loop_seen n) (is.turns_end state held env n stands))
