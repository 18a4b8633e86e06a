-- How long the state is behind acts, and how many local words there are.
use Rattle.std.proofs.Common.{◌≡◌, ℕ, zero, suc, ◌+◌, List, [], ◌∷◌, ◌++◌, length, Option, Some, None, refl, ap, ◌∙◌, subst, arith, length-append}
use Rattle.list_denotation.specs.declared.input.Input.{Input}
use Rattle.list_denotation.specs.Values.{Got, Is, Fails, choice, value}
use Rattle.stateful_core.specs.CoreTerms.{Action, Let, Read, KeepIf, StopUnless, Update, When, Actions, Nil, Cons, join}
use Rattle.stateful_core.specs.CoreShapes.{action_locals, actions_locals}
use Rattle.stateful_core.specs.WordValues.{word_value}
use Rattle.stateful_core.specs.Actions.{ActResult, Continue, Skip, Halt, Break, then_run, with_locals, overwrite, let_word, read_item, run_act, run_acts}

-- ---- acts behind others

join_then : (u : ActResult) (f g h : List ℕ → List ℕ → ActResult) → ((s l : List ℕ) → h s l ≡ then_run (f s l) g) → then_run u h ≡ then_run (then_run u f) g
join_then (Continue s l) f g h e = e s l
join_then (Skip s) f g h e = refl
join_then (Halt s) f g h e = refl
join_then (Break x) f g h e = refl

pub run_join : (a b : Actions) (env : List ℕ) (inputs : List Input) (s l : List ℕ) → run_acts (join a b) env inputs s l ≡ then_run (run_acts a env inputs s l) (λ t k. run_acts b env inputs t k)
run_join Nil b env inputs s l = refl
run_join (Cons x a) b env inputs s l =
    join_then (run_act x env inputs s l) (λ t k. run_acts a env inputs t k) (λ t k. run_acts b env inputs t k) (λ t k. run_acts (join a b) env inputs t k) (λ t k. run_join a b env inputs t k)

-- ---- states

pub length_overwrite : (k : ℕ) (xs s : List ℕ) → length (overwrite k xs s) ≡ length s
length_overwrite zero [] s = refl
length_overwrite zero (x ∷ xs) [] = refl
length_overwrite zero (x ∷ xs) (y ∷ s) = ap suc (length_overwrite zero xs s)
length_overwrite (suc k) xs [] = refl
length_overwrite (suc k) xs (y ∷ s) = ap suc (length_overwrite k xs s)

-- the state behind acts has m words
abbrev pub KeepsState : ℕ → ActResult → Type 0
KeepsState m (Continue s l) = length s ≡ m
KeepsState m (Skip s) = length s ≡ m
KeepsState m (Halt s) = length s ≡ m
KeepsState m (Break f) = Unit {0}

module _ (m : ℕ) where
  keeps_then : (u : ActResult) (go : List ℕ → List ℕ → ActResult) → KeepsState m u → ((s l : List ℕ) → length s ≡ m → KeepsState m (go s l)) → KeepsState m (then_run u go)
  keeps_then (Continue s l) go h k = k s l h
  keeps_then (Skip s) go h k = h
  keeps_then (Halt s) go h k = h
  keeps_then (Break f) go h k = tt

  keeps_with : (l : List ℕ) (u : ActResult) → KeepsState m u → KeepsState m (with_locals l u)
  keeps_with l (Continue s k) h = h
  keeps_with l (Skip s) h = h
  keeps_with l (Halt s) h = h
  keeps_with l (Break f) h = tt

  keeps_choice : (w : ℕ) (u v : ActResult) → KeepsState m u → KeepsState m v → KeepsState m (choice w u v)
  keeps_choice zero u v h k = h
  keeps_choice (suc w) u v h k = k

  keeps_let : (g : Got ℕ) (s l : List ℕ) → length s ≡ m → KeepsState m (let_word g s l)
  keeps_let (Is x) s l h = h
  keeps_let (Fails f) s l h = tt

  keeps_read : (g : Option ℕ) (s l : List ℕ) → length s ≡ m → KeepsState m (read_item g s l)
  keeps_read (Some x) s l h = h
  keeps_read None s l h = tt

  module _ (inputs : List Input) (env : List ℕ) where
    mutual
      pub act_keeps : (a : Action) (s l : List ℕ) → length s ≡ m → KeepsState m (run_act a env inputs s l)
      act_keeps (Let e) s l h = keeps_let (value e (env ++ (s ++ l)) inputs) s l h
      act_keeps (Read k e) s l h = keeps_read _ s l h
      act_keeps (KeepIf e) s l h = keeps_choice (word_value e (env ++ (s ++ l)) inputs) (Skip s) (Continue s l) h h
      act_keeps (StopUnless e) s l h = keeps_choice (word_value e (env ++ (s ++ l)) inputs) (Halt s) (Continue s l) h h
      act_keeps (Update k es) s l h = length_overwrite k _ s ∙ h
      act_keeps (When e a b) s l h =
          keeps_with l _ (keeps_choice (word_value e (env ++ (s ++ l)) inputs) (run_acts b env inputs s l) (run_acts a env inputs s l) (acts_keep b s l h) (acts_keep a s l h))

      pub acts_keep : (acts : Actions) (s l : List ℕ) → length s ≡ m → KeepsState m (run_acts acts env inputs s l)
      acts_keep Nil s l h = h
      acts_keep (Cons a acts) s l h = keeps_then (run_act a env inputs s l) _ (act_keeps a s l h) (λ t k e. acts_keep acts t k e)

-- ---- local words

-- there are n local words behind acts, where these lead on
abbrev pub HasLocals : ℕ → ActResult → Type 0
HasLocals n (Continue s l) = length l ≡ n
HasLocals n (Skip s) = Unit {0}
HasLocals n (Halt s) = Unit {0}
HasLocals n (Break f) = Unit {0}

pub has_locals_at : (n m : ℕ) (u : ActResult) → n ≡ m → HasLocals n u → HasLocals m u
has_locals_at n m u e h = subst (λ z. HasLocals z u) e h

let_adds : (g : Got ℕ) (s l : List ℕ) → HasLocals (length l + 1) (let_word g s l)
let_adds (Is x) s l = omega (arith, length-append l (x ∷ []))
let_adds (Fails f) s l = tt

read_adds : (g : Option ℕ) (s l : List ℕ) → HasLocals (length l + 1) (read_item g s l)
read_adds (Some x) s l = omega (arith, length-append l (x ∷ []))
read_adds None s l = tt

choice_adds : (n w : ℕ) (u v : ActResult) → HasLocals n u → HasLocals n v → HasLocals n (choice w u v)
choice_adds n zero u v h k = h
choice_adds n (suc w) u v h k = k

with_locals_adds : (l : List ℕ) (u : ActResult) → HasLocals (length l + 0) (with_locals l u)
with_locals_adds l (Continue s k) = omega arith
with_locals_adds l (Skip s) = tt
with_locals_adds l (Halt s) = tt
with_locals_adds l (Break f) = tt

then_adds : (n m : ℕ) (u : ActResult) (go : List ℕ → List ℕ → ActResult) → HasLocals n u → ((s l : List ℕ) → length l ≡ n → HasLocals m (go s l)) → HasLocals m (then_run u go)
then_adds n m (Continue s l) go h k = k s l h
then_adds n m (Skip s) go h k = tt
then_adds n m (Halt s) go h k = tt
then_adds n m (Break f) go h k = tt

module _ (inputs : List Input) (env : List ℕ) where
  act_adds : (a : Action) (s l : List ℕ) → HasLocals (length l + action_locals a) (run_act a env inputs s l)
  act_adds (Let e) s l = let_adds (value e (env ++ (s ++ l)) inputs) s l
  act_adds (Read k e) s l = read_adds _ s l
  act_adds (KeepIf e) s l = choice_adds _ (word_value e (env ++ (s ++ l)) inputs) (Skip s) (Continue s l) tt (omega arith)
  act_adds (StopUnless e) s l = choice_adds _ (word_value e (env ++ (s ++ l)) inputs) (Halt s) (Continue s l) tt (omega arith)
  act_adds (Update k es) s l = omega arith
  act_adds (When e a b) s l = with_locals_adds l _

  -- acts add as many local words as there are Lets and Reads outside of a When
  pub acts_add : (acts : Actions) (s l : List ℕ) → HasLocals (length l + actions_locals acts) (run_acts acts env inputs s l)
  acts_add Nil s l = omega arith
  acts_add (Cons a acts) s l =
      then_adds (length l + action_locals a) _ (run_act a env inputs s l) _ (act_adds a s l)
      (λ t k e. has_locals_at (length k + actions_locals acts) _ (run_acts acts env inputs t k) (omega arith) (acts_add acts t k))
