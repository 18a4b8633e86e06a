-- The loop program of a machine shows, at as many turns as the machine has, what the terminal gives of the machine's rows.
-- The relation: where a turn begins, the state of the machine and the words that the terminal holds stand in their variables,
-- and the test of the loop tells whether the guard is true of the state.
use Rattle.std.proofs.Common.{◌≡◌, ℕ, ◌<◌, ◌≤◌, ◌^◌, List, [], length, None, refl, sym, ap, subst, ◌∙◌, append-nil, arith}
use Rattle.std.specs.Prelude.{slice_index, replicate}
use Rattle.std.proofs.lemmas.List.{length-replicate}
use Rattle.strm_num.specs.Words.{IsWord}
use Rattle.list_denotation.specs.declared.input.Input.{Input}
use Rattle.list_denotation.specs.declared.input.InputKind.{InputKind}
use Rattle.list_denotation.specs.InputNames.{InputNames}
use Rattle.list_denotation.specs.Observation.{finish_rows}
use Rattle.list_denotation.specs.Terms.{Term, Finish}
use Rattle.list_denotation.specs.Values.{Is}
use Rattle.loop_ir.specs.Meaning.{Runs, after, then_do, test_value, run, seen_of, meaning}
use Rattle.loop_ir.specs.Statements.{Loop, Block, Cons, join}
use Rattle.loop_ir.proofs.Joins.{after_nothing, run_join, goes_on, is_over}
use Rattle.expr_lower.specs.Contract.{is_true}
use Rattle.expr_forms.specs.Forms.{Condition}
use Rattle.stateful_core.specs.Actions.{run_acts}
use Rattle.stateful_core.specs.CoreRows.{core_turn, guard_value, core_rows}
use Rattle.stateful_core.specs.CoreTerms.{Actions, Lin}
use Rattle.stateful_core.specs.Turns.{Turn, turn_rows}
use Rattle.stateful_core.specs.WordValues.{word_values}
use Rattle.turn_blocks.specs.Pieces.{Piece}
use Rattle.turn_blocks.specs.TurnBlocks.{acts_piece, turn_acts}
use Rattle.turn_blocks.specs.TurnContract.{Taker, consumer_of, come_to, TurnEnd, Goes, Ends, turn_end_of, IsIn, HasWordInputs, TurnRuns, IsTurnLayout, IsTurn}
use Rattle.loop_emit.specs.Emission as emission
use Rattle.loop_emit.specs.Emission.{finish_tail, finish_stop, finish_ending, finish_openings, openings, routine_for}
use Rattle.loop_emit.specs.Laws.{Laws}
use Rattle.loop_emit.specs.SeenRows.{finish_taker, first_held}
use Rattle.loop_emit.proofs.LoopGuards.{looks}
use Rattle.loop_emit.proofs.LoopTurns.{TurnEnds, IsLoopOf, loop_seen}
use Rattle.loop_emit.proofs.MachineParts.{IsEmittable, is_terminal, init_open, is_guard, is_turn, states_width, behind_states, behind_turn, all_states, all_held, laid_out, frame, turn_layout}
use Rattle.loop_emit.proofs.OpenedWords.{opened}
use Rattle.loop_emit.proofs.SeenRows.{finished}
use Rattle.loop_emit.proofs.TerminalRuns.{consumer_vars, tail_width, is_tail, is_stop, shows, finish_opened, opens_undivided}
use Rattle.loop_emit.proofs.Variables.{all_none, stays_in}

-- statements that go on without an event, and those behind them
passes_on : (inputs : List Input) (a b : Block) (env env' : List ℕ) (left : ℕ) → run inputs a env left ≡ Runs [] env' left → run inputs (join a b) env left ≡ run inputs b env' left
passes_on inputs a b env env' left h = goes_on inputs a b [] env env' left h ∙ after_nothing (run inputs b env' left)

passes_both : (inputs : List Input) (a b c : Block) (env env' last : List ℕ) (left : ℕ) → run inputs a env left ≡ Runs [] env' left → run inputs b env' left ≡ Runs [] last left → run inputs (join a (join b c)) env left ≡ run inputs c last left
passes_both inputs a b c env env' last left h k = passes_on inputs a (join b c) env env' left h ∙ passes_on inputs b c env' last left k

module _ (laws : Laws) (may : InputNames) (init : List Term) (guard : Term) (acts : Actions) (item : List Term) (terminal : Finish) (is : IsEmittable may init guard acts item terminal) (few : emission.machine_vars init guard acts item terminal < 2 ^ 32) (inputs : List Input) (has : HasWordInputs inputs) where
  abbrev temps : ℕ
  temps = emission.machine_temps init guard acts item terminal

  abbrev first_state : ℕ
  first_state = emission.first_state temps init guard (turn_acts acts item) (length item) terminal

  abbrev guard_var : ℕ
  guard_var = emission.guard_var temps init guard (turn_acts acts item) (length item) terminal

  abbrev held_vars : List ℕ
  held_vars = emission.held_vars temps init guard (turn_acts acts item) (length item) terminal

  abbrev state_vars : List ℕ
  state_vars = emission.state_vars temps init guard (turn_acts acts item) (length item) terminal

  abbrev vars : ℕ
  vars = emission.machine_vars init guard acts item terminal

  abbrev condition : Condition
  condition = emission.machine_guard temps init guard (turn_acts acts item) (length item) terminal

  abbrev turn_statements : Block
  turn_statements = (emission.turn_piece temps init guard (turn_acts acts item) (length item) terminal).block

  abbrev body : Block
  body = emission.turn_block temps init guard (turn_acts acts item) (length item) terminal

  abbrev ending : Block
  ending = finish_ending terminal held_vars

  abbrev taker : Taker
  taker = finish_taker terminal held_vars inputs

  abbrev truth : List ℕ → ℕ
  truth = guard_value guard [] inputs

  abbrev turn : List ℕ → Turn (List ℕ)
  turn s = core_turn acts item [] inputs s []

  -- the state that the acts of a turn come to
  abbrev come : List ℕ → List ℕ
  come s = come_to (run_acts acts [] inputs s [])

  record Stands (state held env : List ℕ) : Type 0 where
    size : length env ≡ vars
    states : IsIn env state_vars state
    holds : IsIn env taker.vars held
    tells : test_value inputs condition.test env ≡ Is (is_true (truth state))

  -- ---- the guard

  -- the statements of the guard lead to where a turn begins
  record IsLookedAt (env state held : List ℕ) : Type 0 where
    env' : List ℕ
    runs : (left : ℕ) → run inputs condition.block env left ≡ Runs [] env' left
    stands : Stands state held env'

  looked_at : (env state held : List ℕ) → length env ≡ vars → IsIn env state_vars state → IsIn env taker.vars held → IsLookedAt env state held
  looked_at env state held size states holds =
      let behind = behind_states laws may init guard acts item terminal is in
      let within = behind_turn laws may init guard acts item terminal is in
      let small : guard_var < 2 ^ 32 = omega (arith, behind, within, few) in
      let l =
      looks laws temps state_vars guard_var guard (laid_out laws may init guard acts item terminal is guard_var (omega arith) small)
      (is_guard laws may init guard acts item terminal is) inputs has state env (omega arith) (omega (arith, within, size)) states in
      let held_is = consumer_vars terminal temps inputs in
      record {
        env' = l.env';
        runs = l.runs;
        stands = record {
          size = l.same ∙ size;
          states = stays_in env l.env' state_vars state (all_states laws may init guard acts item terminal is (λ v. slice_index l.env' v ≡ slice_index env v) (λ x low high. l.before x (omega (arith, low)) high)) states;
          holds =
              subst (λ vs. IsIn l.env' vs held) (sym held_is)
              (stays_in env l.env' held_vars held (all_held laws may init guard acts item terminal is (λ v. slice_index l.env' v ≡ slice_index env v) (λ x low high. l.before x low (omega (arith, high))))
              (subst (λ vs. IsIn env vs held) held_is holds));
          tells = l.tells;
        };
      }

  -- ---- a turn

  turn_runs : (state held env : List ℕ) (left : ℕ) → Stands state held env → TurnRuns inputs (frame laws may init guard acts item terminal is) (consumer_of taker held left) state_vars turn_statements env (turn_end_of (consumer_of taker held left) (come state) (turn state))
  turn_runs state held env left stands =
      let frame = frame laws may init guard acts item terminal is in
      let tail = finish_tail terminal held_vars (length item) in
      let stop = finish_stop terminal held_vars in
      let size = stands.size in
      let first = frame.next in
      let piece : ℕ → Piece = λ n. acts_piece 0 n 0 stop tail None (turn_acts acts item) state_vars first in
      let nothing : IsIn env [] [] = record { there = refl; are_words = all_none IsWord } in
      let layout = subst (λ vs. IsTurnLayout frame [] state_vars [] vs) (sym (consumer_vars terminal temps inputs)) (turn_layout laws may init guard acts item terminal is few) in
      let at : List ℕ → Type 0 = λ rows.
      (acts_piece 0 (length state_vars) 0 stop tail None (turn_acts acts item) rows first).next ≤ length env
      → TurnRuns inputs frame (consumer_of taker held left) state_vars (acts_piece 0 (length state_vars) 0 stop tail None (turn_acts acts item) rows first).block env (turn_end_of (consumer_of taker held left) (come state) (turn state)) in
      let whole : IsTurn 0 (length state_vars) 0 temps acts item → (piece (length state_vars)).next ≤ length env → TurnRuns inputs frame (consumer_of taker held left) state_vars (piece (length state_vars)).block env (turn_end_of (consumer_of taker held left) (come state) (turn state)) =
      λ is_turn room.
      subst at (append-nil state_vars)
      (λ fits.
      laws.turns frame [] state_vars [] (consumer_of taker held left) tail stop acts item inputs [] state [] env layout is_turn
      (is_tail laws may temps (length item) terminal temps inputs held left has (is_terminal laws may init guard acts item terminal is))
      (tail_width terminal held_vars (length item))
      (is_stop laws may temps (length item) inputs terminal held_vars held left)
      has nothing stands.states nothing stands.holds fits (omega (arith, size, few))) room in
      subst (λ n. IsTurn 0 n 0 temps acts item → (piece n).next ≤ length env → TurnRuns inputs frame (consumer_of taker held left) state_vars (piece n).block env (turn_end_of (consumer_of taker held left) (come state) (turn state)))
      (states_width laws may init guard acts item terminal is) whole
      (is_turn laws may init guard acts item terminal is) (omega (arith, size))

  turn_ends : (state held env : List ℕ) (left : ℕ) → Stands state held env → TurnEnds inputs taker Stands truth turn come condition.test body ending left env (turn_end_of (consumer_of taker held left) (come state) (turn state))
  turn_ends state held env left stands = by_end (turn_end_of (consumer_of taker held left) (come state) (turn state)) (turn_runs state held env left stands)
    where
      by_end : (t : TurnEnd) → TurnRuns inputs (frame laws may init guard acts item terminal is) (consumer_of taker held left) state_vars turn_statements env t → TurnEnds inputs taker Stands truth turn come condition.test body ending left env t
      by_end (Goes events state' held' left') leads =
          let again = looked_at leads.env' state' held' (leads.same ∙ stands.size) leads.states leads.holds in
          record {
            env' = again.env';
            runs =
                run_join inputs turn_statements condition.block env left
                ∙ ap (λ o. then_do o (run inputs condition.block)) leads.runs
                ∙ ap (after events) (again.runs left')
                ∙ ap (λ e. Runs e again.env' left') (append-nil events);
            stands = again.stands;
          }
      by_end (Ends events standing) over = is_over inputs turn_statements condition.block events standing env left over

  is_loop : IsLoopOf inputs taker Stands truth turn come condition.test body ending
  is_loop = record {
    tells = λ state held env stands. stands.tells;
    turns_end = turn_ends;
    shows = λ state held env left stands. shows laws may temps (length item) inputs terminal temps held env left stands.holds;
  }

  -- ---- the openings, and the whole program

  -- what is seen from where the openings lead
  record IsOpened (left : ℕ) : Type 0 where
    env : List ℕ
    runs : run inputs (emission.body_block temps init guard (turn_acts acts item) (length item) terminal) (replicate vars 0) left ≡ run inputs (emission.loop_block temps init guard (turn_acts acts item) (length item) terminal) env left
    size : length env ≡ vars
    states : IsIn env state_vars (word_values init [] inputs)
    holds : IsIn env taker.vars (first_held terminal inputs)

  is_opened : (left : ℕ) → IsOpened left
  is_opened left =
      let zeros : List ℕ = replicate vars 0 in
      let none : length zeros ≡ vars = length-replicate vars 0 in
      let behind = behind_states laws may init guard acts item terminal is in
      let within = behind_turn laws may init guard acts item terminal is in
      let first =
      finish_opened laws may temps (length item) inputs has terminal zeros (is_terminal laws may init guard acts item terminal is) (omega (arith, none, behind, within)) (omega (arith, none, few)) in
      let size = first.same in
      let second =
      opened laws temps inputs has init first_state first.env' (omega arith) (omega (arith, none, size, behind, within)) (omega (arith, none, size, few)) (init_open laws may init guard acts item terminal is) in
      let more = second.same in
      record {
        env = second.env';
        runs =
            passes_both inputs (finish_openings terminal temps) (openings init first_state) (emission.loop_block temps init guard (turn_acts acts item) (length item) terminal) zeros first.env'
            second.env' left (first.runs left) (second.runs left);
        size = omega (arith, more, size, none);
        states = second.holds;
        holds =
            subst (λ vs. IsIn second.env' vs (first_held terminal inputs)) (sym (consumer_vars terminal temps inputs))
            (stays_in first.env' second.env' held_vars (first_held terminal inputs) (all_held laws may init guard acts item terminal is (λ v. slice_index second.env' v ≡ slice_index first.env' v) second.before) first.holds);
      }

  pub meaning_is : (kinds : List InputKind) (n : ℕ) → meaning (routine_for init guard acts item terminal kinds) inputs n ≡ finish_rows terminal inputs (core_rows (Lin 0 init guard acts item) [] inputs n)
  meaning_is kinds n =
      let opens = is_opened n in
      let state = word_values init [] inputs in
      let held = first_held terminal inputs in
      let start = looked_at opens.env state held opens.size opens.states opens.holds in
      let loop = emission.loop_block temps init guard (turn_acts acts item) (length item) terminal in
      ap seen_of opens.runs
      ∙ ap seen_of (passes_on inputs condition.block (Cons (Loop condition.test body) ending) opens.env start.env' n (start.runs n))
      ∙ loop_seen inputs taker Stands truth turn come condition.test body ending is_loop n state held start.env' start.stands
      ∙ finished laws inputs terminal held_vars (turn_rows truth turn n state) (opens_undivided laws may temps (length item) terminal (is_terminal laws may init guard acts item terminal is))
