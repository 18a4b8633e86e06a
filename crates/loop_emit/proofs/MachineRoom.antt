-- The parts of a machine have room where its loop program is made.
use Rattle.std.proofs.Common.{◌≡◌, ℕ, ◌+◌, ◌<◌, ◌≤◌, ◌^◌, max, List, [], ◌∷◌, length, All, refl, subst, arith}
use Rattle.std.specs.Prelude.{IsTrue}
use Rattle.std.specs.List.{range_with_len}
use Rattle.std.proofs.lemmas.List.FromFn.{length-range_with_len}
use Rattle.strm_num.proofs.Truths.{both_true, true_both}
use Rattle.list_denotation.specs.InputNames.{InputNames}
use Rattle.list_denotation.specs.Scopes.{is_bound, all_bound}
use Rattle.list_denotation.specs.Terms.{Term, Finish, Fold, Print}
use Rattle.list_denotation.specs.Typing.{all_undivided}
use Rattle.state_alloc.specs.Layouts.{IsWordVariable}
use Rattle.stateful_core.specs.CoreShapes.{action_locals, actions_locals}
use Rattle.stateful_core.specs.CoreTerms.{Actions, Nil, Cons, join}
use Rattle.stateful_core.specs.StreamCores.{let_all}
use Rattle.stateful_core.specs.WellFormed.{is_sound_action, are_sound_actions}
use Rattle.turn_blocks.specs.Temporaries.{row_temps, acts_temps}
use Rattle.turn_blocks.specs.TurnBlocks.{turn_acts}
use Rattle.loop_emit.specs.Emission as emission
use Rattle.loop_emit.specs.Emission.{seed_is_bound, held_count}
use Rattle.loop_emit.specs.EmissionRoom.{FitsFinish, HasRoom}
use Rattle.loop_emit.specs.Laws.{Laws}
use Rattle.loop_emit.proofs.MachineParts.{IsEmittable, is_terminal, init_open, is_guard, is_turn, states_width, behind_turn, turn_layout}
use Rattle.loop_emit.proofs.TerminalRuns.{IsTerminal, is_fold}

-- ---- acts, and then a local word for each of a row

lets_temps : (es : List Term) → acts_temps (let_all es Nil) ≡ row_temps es
lets_temps [] = refl
lets_temps (e ∷ es) = omega (arith, lets_temps es)

joined_temps : (acts more : Actions) → acts_temps (join acts more) ≡ max (acts_temps acts) (acts_temps more)
joined_temps Nil more = omega arith
joined_temps (Cons a acts) more = omega (arith, joined_temps acts more)

lets_locals : (es : List Term) → actions_locals (let_all es Nil) ≡ length es
lets_locals [] = refl
lets_locals (e ∷ es) = omega (arith, lets_locals es)

joined_locals : (acts more : Actions) → actions_locals (join acts more) ≡ actions_locals acts + actions_locals more
joined_locals Nil more = omega arith
joined_locals (Cons a acts) more = omega (arith, joined_locals acts more)

module _ (laws : Laws) (m : ℕ) where
  lets_sound : (n k : ℕ) (es : List Term) → n ≤ k → IsTrue (all_bound n es) → IsTrue (are_sound_actions m k (let_all es Nil))
  lets_sound n k [] le bound = refl
  lets_sound n k (e ∷ es) le bound =
      let both = both_true (is_bound n e) (all_bound n es) bound in
      true_both (is_bound k e) (are_sound_actions m (k + 1) (let_all es Nil)) (laws.wider n k e le both.0) (lets_sound n (k + 1) es (omega (arith, le)) both.1)

joined_sound : (m n : ℕ) (acts more : Actions) → IsTrue (are_sound_actions m n acts) → IsTrue (are_sound_actions m (n + actions_locals acts) more) → IsTrue (are_sound_actions m n (join acts more))
joined_sound m n Nil more first rest = let same : n + 0 ≡ n = omega arith in subst (λ k. IsTrue (are_sound_actions m k more)) same rest
joined_sound m n (Cons a acts) more first rest =
    let both = both_true (is_sound_action m n a) (are_sound_actions m (n + action_locals a) acts) first in
    let same : n + (action_locals a + actions_locals acts) ≡ n + action_locals a + actions_locals acts = omega arith in
    true_both (is_sound_action m n a) (are_sound_actions m (n + action_locals a) (join acts more)) both.0
    (joined_sound m (n + action_locals a) acts more both.1 (subst (λ k. IsTrue (are_sound_actions m k more)) same rest))

-- ---- the terminal

seed_bound : (may : InputNames) (temps width : ℕ) (t : Finish) → IsTerminal may temps width t → IsTrue (seed_is_bound t)
seed_bound may temps width (Fold seed next) is = is.reads.seed_reads.reads.bound
seed_bound may temps width Print is = refl

finish_fits : (laws : Laws) (may : InputNames) (temps width next a : ℕ) (t : Finish) → IsTerminal may temps width t → All (IsWordVariable 0 temps next) (range_with_len a (held_count t)) → FitsFinish temps next t (range_with_len a (held_count t)) width
finish_fits laws may temps width next a (Fold seed es) is given =
    let fold = is_fold laws may temps width seed es a is in
    let held = length-range_with_len a (length seed) in
    let few = is.reads.seed_reads.reads.few in
    let same = fold.same_width in
    record {
      given = given;
      few = omega (arith, held, few);
      within = omega (arith, same);
      bound = fold.bound;
      temporaries = fold.few;
    }
finish_fits laws may temps width next a Print is given = tt

-- ---- the machine

pub room_for : (laws : Laws) (may : InputNames) (init : List Term) (guard : Term) (acts : Actions) (item : List Term) (terminal : Finish) → IsEmittable may init guard acts item terminal → emission.machine_vars init guard acts item terminal < 2 ^ 32 → length item < 2 ^ 32 → HasRoom (emission.machine_temps init guard acts item terminal) init guard (turn_acts acts item) (length item) terminal
room_for laws may init guard acts item terminal is few row =
    let temps = emission.machine_temps init guard acts item terminal in
    let first_local = emission.first_local temps init guard (turn_acts acts item) (length item) terminal in
    let opens = init_open laws may init guard acts item terminal is in
    let guarded = is_guard laws may init guard acts item terminal is in
    let turn = is_turn laws may init guard acts item terminal is in
    let terminal_is = is_terminal laws may init guard acts item terminal is in
    let within = behind_turn laws may init guard acts item terminal is in
    let words : 0 + length init + 0 ≡ length init = omega arith in
    let locals : 0 + length init + 0 + actions_locals acts ≡ length init + actions_locals acts = omega arith in
    let item_bound = (both_true (all_bound (0 + length init + 0 + actions_locals acts) item) (all_undivided item) turn.item_sound).0 in
    let acts_few = turn.acts_few in
    let item_few = turn.item_few in
    record {
      init_bound = opens.bound;
      init_few = opens.few;
      guard_bound = subst (λ n. IsTrue (is_bound n guard)) (states_width laws may init guard acts item terminal is) guarded.bound;
      guard_few = guarded.few;
      turn_sound =
          joined_sound (length init) (length init) acts (let_all item Nil)
          (subst (λ n. IsTrue (are_sound_actions (length init) n acts)) words turn.acts_sound)
          (lets_sound laws (length init) (length init + actions_locals acts) (length init + actions_locals acts) item (omega arith) (subst (λ n. IsTrue (all_bound n item)) locals item_bound));
      turn_few = omega (arith, joined_temps acts (let_all item Nil), lets_temps item, acts_few, item_few);
      row_few = row;
      row_there = omega (arith, joined_locals acts (let_all item Nil), lets_locals item);
      seed_bound = seed_bound may temps (length item) terminal terminal_is;
      terminal_few = terminal_is.few;
      terminal_fits = finish_fits laws may temps (length item) first_local temps terminal terminal_is (turn_layout laws may init guard acts item terminal is few).held_given;
      locals = omega (arith, within, few);
      room = few;
    }
