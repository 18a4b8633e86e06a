-- Acts that run over another state: with words before and behind their own state, and before their local words, they do what
-- they do over their own.
use Rattle.std.proofs.Common.{◌≡◌, ℕ, zero, suc, ◌+◌, ◌≤◌, List, [], ◌∷◌, ◌++◌, length, Option, Some, None, ◌&&◌, refl, ap, ◌∙◌, arith, append_assoc}
use Rattle.std.specs.Prelude.{IsTrue, nat_le, slice_index}
use Rattle.std.proofs.lemmas.Bool.{leb-true}
use Rattle.strm_num.proofs.Truths.{both_true}
use Rattle.list_denotation.specs.declared.input.Input.{Input}
use Rattle.list_denotation.specs.Terms.{Term}
use Rattle.list_denotation.specs.Values.{Got, Is, Fails, choice, value}
use Rattle.stateful_core.specs.CoreTerms.{Action, Let, Read, KeepIf, StopUnless, Update, When, Actions, Nil, Cons}
use Rattle.stateful_core.specs.CoreShapes.{action_locals}
use Rattle.stateful_core.specs.WordValues.{word_value}
use Rattle.stateful_core.specs.Actions.{ActResult, Continue, Skip, Halt, Break, then_run, with_locals, overwrite, let_word, read_item, run_act, run_acts}
use Rattle.stateful_core.specs.WellFormed.{is_sure, all_sure, is_sound_action, are_sound_actions}
use Rattle.act_moves.specs.Renumbering.{renumber, move_action, move_actions}
use Rattle.act_moves.proofs.RenumberedValues.{value_renumbered, values_renumbered, length_values}
use Rattle.act_moves.proofs.ActLengths.{KeepsState, act_keeps}

-- ---- states within states

pub overwrite_behind : (pre : List ℕ) (k : ℕ) (xs s : List ℕ) → overwrite (length pre + k) xs (pre ++ s) ≡ pre ++ overwrite k xs s
overwrite_behind [] k xs s = ap (λ i. overwrite i xs s) (omega arith)
overwrite_behind (p ∷ pre) k xs s =
    ap (λ i. overwrite i xs (p ∷ (pre ++ s))) (let e : length (p ∷ pre) + k ≡ suc (length pre + k) = omega arith in e)
    ∙ ap (λ z. p ∷ z) (overwrite_behind pre k xs s)

overwrite_before : (k : ℕ) (xs s post : List ℕ) → k + length xs ≤ length s → overwrite k xs (s ++ post) ≡ overwrite k xs s ++ post
overwrite_before zero [] s post h = refl
overwrite_before zero (x ∷ xs) [] post h = absurd (omega arith)
overwrite_before zero (x ∷ xs) (y ∷ s) post h = ap (λ z. x ∷ z) (overwrite_before zero xs s post (omega arith))
overwrite_before (suc k) xs [] post h = absurd (omega arith)
overwrite_before (suc k) xs (y ∷ s) post h = ap (λ z. y ∷ z) (overwrite_before k xs s post (omega arith))

-- ---- acts

-- Acts over m words of state in the scope `own`, moved into the scope `env`: their state stands between `pre` and `post`, and
-- their local words behind `before`. A StopUnless becomes what `halt` makes of its test, with the result `stop` where it fails.
module _ (inputs : List Input) (own env pre post before : List ℕ) (m : ℕ) (f : ℕ → ℕ) (halt : Term → Action) (stop : List ℕ → ActResult)
    (same : (s l : List ℕ) → length s ≡ m → (k : ℕ) → slice_index (env ++ ((pre ++ (s ++ post)) ++ (before ++ l))) (f k) ≡ slice_index (own ++ (s ++ l)) k)
    (halts : (e : Term) (s l : List ℕ) → length s ≡ m → run_act (halt (renumber f e)) env inputs (pre ++ (s ++ post)) (before ++ l) ≡ choice (word_value e (own ++ (s ++ l)) inputs) (stop s) (Continue (pre ++ (s ++ post)) (before ++ l)))
    (stop_ends : (s : List ℕ) (go : List ℕ → List ℕ → ActResult) → then_run (stop s) go ≡ stop s)
    (stop_stays : (s l : List ℕ) → with_locals l (stop s) ≡ stop s)
  where
    abbrev pub lift : ActResult → ActResult
    lift (Continue s l) = Continue (pre ++ (s ++ post)) (before ++ l)
    lift (Skip s) = Skip (pre ++ (s ++ post))
    lift (Halt s) = stop s
    lift (Break x) = Break x

    lift_then : (u : ActResult) (go to : List ℕ → List ℕ → ActResult) → KeepsState m u → ((s l : List ℕ) → length s ≡ m → to (pre ++ (s ++ post)) (before ++ l) ≡ lift (go s l)) → then_run (lift u) to ≡ lift (then_run u go)
    lift_then (Continue s l) go to e k = k s l e
    lift_then (Skip s) go to e k = refl
    lift_then (Halt s) go to e k = stop_ends s to
    lift_then (Break x) go to e k = refl

    lift_locals : (u : ActResult) (l : List ℕ) → with_locals (before ++ l) (lift u) ≡ lift (with_locals l u)
    lift_locals (Continue s k) l = refl
    lift_locals (Skip s) l = refl
    lift_locals (Halt s) l = stop_stays s (before ++ l)
    lift_locals (Break x) l = refl

    lift_choice : (w : ℕ) (u v : ActResult) → choice w (lift u) (lift v) ≡ lift (choice w u v)
    lift_choice zero u v = refl
    lift_choice (suc w) u v = refl

    lift_let : (g : Got ℕ) (s l : List ℕ) → let_word g (pre ++ (s ++ post)) (before ++ l) ≡ lift (let_word g s l)
    lift_let (Is x) s l = ap (λ z. Continue (pre ++ (s ++ post)) z) (append_assoc before l (x ∷ []))
    lift_let (Fails y) s l = refl

    lift_read : (g : Option ℕ) (s l : List ℕ) → read_item g (pre ++ (s ++ post)) (before ++ l) ≡ lift (read_item g s l)
    lift_read (Some x) s l = ap (λ z. Continue (pre ++ (s ++ post)) z) (append_assoc before l (x ∷ []))
    lift_read None s l = refl

    lift_overwrite : (k : ℕ) (xs s : List ℕ) → k + length xs ≤ length s → overwrite (length pre + k) xs (pre ++ (s ++ post)) ≡ pre ++ (overwrite k xs s ++ post)
    lift_overwrite k xs s b = overwrite_behind pre k xs (s ++ post) ∙ ap (λ z. pre ++ z) (overwrite_before k xs s post b)

    here : (e : Term) (s l : List ℕ) → length s ≡ m → value (renumber f e) (env ++ ((pre ++ (s ++ post)) ++ (before ++ l))) inputs ≡ value e (own ++ (s ++ l)) inputs
    here e s l h = value_renumbered inputs f _ _ (same s l h) e

    mutual
      act_moved : (a : Action) (n : ℕ) (s l : List ℕ) → length s ≡ m → IsTrue (is_sound_action m n a) → run_act (move_action f (length pre) halt a) env inputs (pre ++ (s ++ post)) (before ++ l) ≡ lift (run_act a own inputs s l)
      act_moved (Let e) n s l q t = rw (here e s l q) (lift_let (value e (own ++ (s ++ l)) inputs) s l)
      act_moved (Read k e) n s l q t = rw (here e s l q) (lift_read _ s l)
      act_moved (KeepIf e) n s l q t = rw (here e s l q) (lift_choice _ (Skip s) (Continue s l))
      act_moved (StopUnless e) n s l q t = halts e s l q ∙ lift_choice (word_value e (own ++ (s ++ l)) inputs) (Halt s) (Continue s l)
      act_moved (Update k es) n s l q t =
          let within = leb-true (k + length es) m (both_true (nat_le (k + length es) m) (all_sure n es) t).0 in
          rw (values_renumbered inputs f (env ++ ((pre ++ (s ++ post)) ++ (before ++ l))) (own ++ (s ++ l)) (same s l q) es)
          (ap (λ z. Continue z (before ++ l)) (lift_overwrite k _ s (omega (arith, length_values inputs es (own ++ (s ++ l))))))
      act_moved (When e a b) n s l q t =
          let p = both_true (is_sure n e) (are_sound_actions m n a && are_sound_actions m n b) t in
          let r = both_true (are_sound_actions m n a) (are_sound_actions m n b) p.1 in
          rw (here e s l q, acts_moved a n s l q r.0, acts_moved b n s l q r.1)
          (ap (with_locals (before ++ l)) (lift_choice _ (run_acts b own inputs s l) (run_acts a own inputs s l)) ∙ lift_locals _ l)

      pub acts_moved : (acts : Actions) (n : ℕ) (s l : List ℕ) → length s ≡ m → IsTrue (are_sound_actions m n acts) → run_acts (move_actions f (length pre) halt acts) env inputs (pre ++ (s ++ post)) (before ++ l) ≡ lift (run_acts acts own inputs s l)
      acts_moved Nil n s l q t = refl
      acts_moved (Cons a acts) n s l q t =
          let p = both_true (is_sound_action m n a) (are_sound_actions m (n + action_locals a) acts) t in
          rw (act_moved a n s l q p.0)
          (lift_then (run_act a own inputs s l) _ _ (act_keeps m inputs own a s l q) (λ u k e. acts_moved acts (n + action_locals a) u k e p.1))

-- ---- acts that stop as before

-- a result with words before and behind the state, and before the local words
abbrev pub placed : List ℕ → List ℕ → List ℕ → ActResult → ActResult
placed pre post before (Continue s l) = Continue (pre ++ (s ++ post)) (before ++ l)
placed pre post before (Skip s) = Skip (pre ++ (s ++ post))
placed pre post before (Halt s) = Halt (pre ++ (s ++ post))
placed pre post before (Break x) = Break x

module _ (inputs : List Input) (own env pre post before : List ℕ) (m : ℕ) (f : ℕ → ℕ)
    (same : (s l : List ℕ) → length s ≡ m → (k : ℕ) → slice_index (env ++ ((pre ++ (s ++ post)) ++ (before ++ l))) (f k) ≡ slice_index (own ++ (s ++ l)) k)
  where
    abbrev stopped : List ℕ → ActResult
    stopped s = Halt (pre ++ (s ++ post))

    stops_plainly : (e : Term) (s l : List ℕ) → length s ≡ m → run_act (StopUnless (renumber f e)) env inputs (pre ++ (s ++ post)) (before ++ l) ≡ choice (word_value e (own ++ (s ++ l)) inputs) (stopped s) (Continue (pre ++ (s ++ post)) (before ++ l))
    stops_plainly e s l h = rw (value_renumbered inputs f (env ++ ((pre ++ (s ++ post)) ++ (before ++ l))) (own ++ (s ++ l)) (same s l h) e) refl

    abbrev lifted : ActResult → ActResult
    lifted u = lift inputs own env pre post before m f StopUnless stopped same stops_plainly (λ s go. refl) (λ s l. refl) u

    lifted_placed : (u : ActResult) → lifted u ≡ placed pre post before u
    lifted_placed (Continue s l) = refl
    lifted_placed (Skip s) = refl
    lifted_placed (Halt s) = refl
    lifted_placed (Break x) = refl

    pub run_moved : (acts : Actions) (n : ℕ) (s l : List ℕ) → length s ≡ m → IsTrue (are_sound_actions m n acts) → run_acts (move_actions f (length pre) StopUnless acts) env inputs (pre ++ (s ++ post)) (before ++ l) ≡ placed pre post before (run_acts acts own inputs s l)
    run_moved acts n s l h t =
        acts_moved inputs own env pre post before m f StopUnless stopped same stops_plainly (λ s go. refl) (λ s l. refl) acts n s l h t
        ∙ lifted_placed (run_acts acts own inputs s l)
