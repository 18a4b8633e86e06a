-- A machine that holds its row for another one: over the flag, the row and both states it does what it does over its own state.
use Rattle.std.proofs.Common.{◌≡◌, ℕ, ◌+◌, List, [], ◌∷◌, ◌++◌, length, refl, ap, sym, ◌∙◌, arith, length-append, append_assoc}
use Rattle.std.specs.Prelude.{IsTrue, slice_index}
use Rattle.list_denotation.specs.declared.input.Input.{Input}
use Rattle.stateful_core.specs.Actions.{Continue, overwrite, run_act, run_acts}
use Rattle.stateful_core.specs.CoreTerms.{StopUnless, Update}
use Rattle.stateful_core.specs.WellFormed.{are_sound_actions}
use Rattle.stateful_core.specs.WordValues.{word_values}
use Rattle.act_moves.specs.Renumbering.{renumber_row, move_actions}
use Rattle.act_moves.proofs.MovedActs.{overwrite_behind, placed, run_moved}
use Rattle.act_moves.proofs.RenumberedValues.{length_values, values_renumbered, room_at}
use Rattle.stage_machines.specs.MachineParts.{MachineParts}
use Rattle.zip_linearise.specs.HeldRows.{first_word}

-- ---- states

-- words written over as many others
overwritten : (xs ys s : List ℕ) → length xs ≡ length ys → overwrite 0 xs (ys ++ s) ≡ xs ++ s
overwritten [] [] s h = refl
overwritten [] (y ∷ ys) s h = absurd (omega arith)
overwritten (x ∷ xs) [] s h = absurd (omega arith)
overwritten (x ∷ xs) (y ∷ ys) s h = ap (λ z. x ∷ z) (overwritten xs ys s (omega arith))

pub overwritten_at : (pre xs ys s : List ℕ) (k : ℕ) → length pre ≡ k → length xs ≡ length ys → overwrite k xs (pre ++ (ys ++ s)) ≡ pre ++ (xs ++ s)
overwritten_at pre xs ys s k h e =
    ap (λ i. overwrite i xs (pre ++ (ys ++ s))) (let q : k ≡ length pre + 0 = omega arith in q)
    ∙ overwrite_behind pre 0 xs (ys ++ s) ∙ ap (λ z. pre ++ z) (overwritten xs ys s e)

-- ---- the first machine

module _ (inputs : List Input) (env : List ℕ) (m : MachineParts) (others : ℕ) (scoped : length env ≡ m.scope) where
  abbrev f : ℕ → ℕ
  f = first_word m others

  -- each of its words stands at its number, whatever the flag, the row and the other state are
  pub first_words : (v : ℕ) (r t : List ℕ) → length r ≡ length m.item → length t ≡ others → (s l : List ℕ) → length s ≡ length m.init → (k : ℕ) → slice_index (env ++ ((v ∷ (r ++ (s ++ t))) ++ l)) (f k) ≡ slice_index (env ++ (s ++ l)) k
  first_words v r t hr ht s l hs k =
      room_at (env ++ (v ∷ (r ++ s))) t l (env ++ ((v ∷ (r ++ (s ++ t))) ++ l)) (env ++ ((v ∷ r) ++ (s ++ l))) (m.scope + 1 + length m.item + length m.init) others
      (omega (arith, length-append env (v ∷ (r ++ s)), length-append r s)) ht (simp append_assoc) (simp append_assoc) _
      ∙ room_at env (v ∷ r) (s ++ l) (env ++ ((v ∷ r) ++ (s ++ l))) (env ++ (s ++ l)) m.scope (1 + length m.item) scoped (omega arith) refl refl k

  -- its acts change its own state alone
  pub run_first : (n : ℕ) → IsTrue (are_sound_actions (length m.init) n m.acts) → (r s t : List ℕ) → length r ≡ length m.item → length s ≡ length m.init → length t ≡ others → run_acts (move_actions f (1 + length m.item) StopUnless m.acts) env inputs (0 ∷ (r ++ (s ++ t))) [] ≡ placed (0 ∷ r) t [] (run_acts m.acts env inputs s [])
  run_first n sound r s t hr hs ht =
      ap (λ k. run_acts (move_actions f k StopUnless m.acts) env inputs (0 ∷ (r ++ (s ++ t))) []) (let k : 1 + length m.item ≡ length (0 ∷ r) = omega arith in k)
      ∙ run_moved inputs env env (0 ∷ r) t [] (length m.init) f (λ u l h i. first_words 0 r t hr ht u l h i) m.acts n s [] hs sound

  -- and the act behind them holds its row
  pub holds_row : (r s t l : List ℕ) → length r ≡ length m.item → length s ≡ length m.init → length t ≡ others → run_act (Update 1 (renumber_row f m.item)) env inputs (0 ∷ (r ++ (s ++ t))) l ≡ Continue (0 ∷ (word_values m.item (env ++ (s ++ l)) inputs ++ (s ++ t))) l
  holds_row r s t l hr hs ht =
      ap (λ z. Continue (overwrite 1 z (0 ∷ (r ++ (s ++ t)))) l) (values_renumbered inputs f (env ++ ((0 ∷ (r ++ (s ++ t))) ++ l)) (env ++ (s ++ l)) (first_words 0 r t hr ht s l hs) m.item)
      ∙ ap (λ z. Continue (0 ∷ z) l) (overwritten (word_values m.item (env ++ (s ++ l)) inputs) r (s ++ t) (length_values inputs m.item (env ++ (s ++ l)) ∙ sym hr))
