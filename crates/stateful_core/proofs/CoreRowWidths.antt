-- The rows of a core term are as wide as the term.
use Rattle.std.proofs.Common.{◌≡◌, ℕ, zero, suc, ◌+◌, List, [], ◌++◌, length, arith, length-append}
use Rattle.list_denotation.specs.declared.input.Input.{Input}
use Rattle.list_denotation.specs.Rows.{End, Cut, Broken, Rows, Ends, Row, followed_by, join_rows, zip_rows}
use Rattle.list_denotation.specs.Terms.{Term}
use Rattle.list_denotation.specs.Values.{Fault, choice}
use Rattle.denotation_laws.specs.RowWords.{EachRow}
use Rattle.stateful_core.specs.Actions.{ActResult, Continue, Skip, Halt, Break, run_acts}
use Rattle.stateful_core.specs.CoreRows.{turn_end, core_turn, guard_value, core_rows}
use Rattle.stateful_core.specs.CoreShapes.{core_width}
use Rattle.stateful_core.specs.CoreTerms.{Actions, CoreTerm, Lin, Tr, Nest, Zip}
use Rattle.stateful_core.specs.Turns.{Turn, Gives, Skips, Stops, Breaks, after_turn, turn_rows, stage_rows}
use Rattle.stateful_core.specs.WordValues.{word_values}
use Rattle.stateful_core.proofs.VariableRows.{length_word_values}

abbrev AsWide : ℕ → Rows → Type 0
AsWide w rows = EachRow (λ r. length r ≡ w) rows

-- ---- rows of turns

-- a turn that gives a row of w words, or none
data TurnOf (w : ℕ) : Turn (List ℕ) → Type 0 where
  wide_gives : (r s : List ℕ) → length r ≡ w → TurnOf w (Gives r s)
  wide_skips : (s : List ℕ) → TurnOf w (Skips s)
  wide_stops : TurnOf w Stops
  wide_breaks : (f : Fault) → TurnOf w (Breaks f)

wide_turn : (acts : Actions) (item : List Term) (env : List ℕ) (inputs : List Input) (s r : List ℕ) → TurnOf (length item) (core_turn acts item env inputs s r)
wide_turn acts item env inputs s r = by_end (run_acts acts env inputs s r)
  where
    by_end : (u : ActResult) → TurnOf (length item) (turn_end u (λ t l. word_values item (env ++ (t ++ l)) inputs))
    by_end (Continue t l) = wide_gives _ t (length_word_values inputs item (env ++ (t ++ l)))
    by_end (Skip t) = wide_skips t
    by_end (Halt t) = wide_stops
    by_end (Break f) = wide_breaks f

module _ (w : ℕ) where
  wide_choice : (x : ℕ) (a b : Rows) → AsWide w a → AsWide w b → AsWide w (choice x a b)
  wide_choice zero a b h k = h
  wide_choice (suc x) a b h k = k

  wide_after : {u : Turn (List ℕ)} (go : List ℕ → Rows) → TurnOf w u → ((s : List ℕ) → AsWide w (go s)) → AsWide w (after_turn u go)
  wide_after go (wide_gives r s h) k = (h, k s)
  wide_after go (wide_skips s) k = k s
  wide_after go wide_stops k = tt
  wide_after go (wide_breaks f) k = tt

  wide_turn_rows : (guard : List ℕ → ℕ) (turn : List ℕ → Turn (List ℕ)) → ((s : List ℕ) → TurnOf w (turn s)) → (n : ℕ) (s : List ℕ) → AsWide w (turn_rows guard turn n s)
  wide_turn_rows guard turn h zero s = wide_choice (guard s) (Ends End) (Ends Cut) tt tt
  wide_turn_rows guard turn h (suc n) s =
      wide_choice (guard s) (Ends End) (after_turn (turn s) (λ t. turn_rows guard turn n t)) tt (wide_after _ (h s) (λ t. wide_turn_rows guard turn h n t))

  wide_stage_rows : (guard : List ℕ → ℕ) (turn : List ℕ → List ℕ → Turn (List ℕ)) → ((s r : List ℕ) → TurnOf w (turn s r)) → (s : List ℕ) (x : Rows) → AsWide w (stage_rows guard turn s x)
  wide_stage_rows guard turn h s (Ends e) = wide_choice (guard s) (Ends End) (Ends e) tt tt
  wide_stage_rows guard turn h s (Row r x) =
      wide_choice (guard s) (Ends End) (after_turn (turn s r) (λ t. stage_rows guard turn t x)) tt (wide_after _ (h s r) (λ t. wide_stage_rows guard turn h t x))

  -- ---- rows of rows

  wide_followed : (x y : Rows) → AsWide w x → AsWide w y → AsWide w (followed_by x y)
  wide_followed (Ends End) y h k = k
  wide_followed (Ends Cut) y h k = tt
  wide_followed (Ends (Broken f)) y h k = tt
  wide_followed (Row r x) y h k = (h.0, wide_followed x y h.1 k)

  wide_joined : (x : Rows) (inner : List ℕ → Rows) → ((r : List ℕ) → AsWide w (inner r)) → AsWide w (join_rows x inner)
  wide_joined (Ends e) inner h = tt
  wide_joined (Row r x) inner h = wide_followed (inner r) (join_rows x inner) (h r) (wide_joined x inner h)

wide_zipped : (v w : ℕ) (x y : Rows) → AsWide v x → AsWide w y → AsWide (v + w) (zip_rows x y)
wide_zipped v w (Ends e) y h k = tt
wide_zipped v w (Row r x) (Ends e) h k = tt
wide_zipped v w (Row r x) (Row s y) h k = (omega (arith, h.0, k.0, length-append r s), wide_zipped v w x y h.1 k.1)

-- ---- terms

pub wide_rows : (c : CoreTerm) (env : List ℕ) (inputs : List Input) (n : ℕ) → EachRow (λ r. length r ≡ core_width c) (core_rows c env inputs n)
wide_rows (Lin scope init guard acts item) env inputs n =
    wide_turn_rows (length item) (guard_value guard env inputs) _ (λ s. wide_turn acts item env inputs s []) n (word_values init env inputs)
wide_rows (Tr scope of init guard acts item) env inputs n =
    wide_stage_rows (length item) (guard_value guard env inputs) _ (λ s r. wide_turn acts item env inputs s r) (word_values init env inputs) (core_rows of env inputs n)
wide_rows (Nest of inner) env inputs n = wide_joined (core_width inner) (core_rows of env inputs n) _ (λ r. wide_rows inner (env ++ r) inputs n)
wide_rows (Zip left right) env inputs n = wide_zipped (core_width left) (core_width right) _ _ (wide_rows left env inputs n) (wide_rows right env inputs n)
