-- What is promised of the definitions. Each statement has one name, which its law and those who stand on it cite.
use Rattle.std.specs.Prelude.{◌≡◌, ℕ, ◌+◌, ◌<◌, ◌≤◌, ◌^◌, List, ◌++◌, length, None, All, IsTrue}
use Rattle.list_denotation.specs.declared.input.Input.{Input}
use Rattle.list_denotation.specs.declared.input.InputKind.{InputKind}
use Rattle.list_denotation.specs.InputNames.{declared_inputs, is_named_leaf, all_name_inputs}
use Rattle.list_denotation.specs.Terms.{Term}
use Rattle.loop_ir.specs.Constants.{block_has_words}
use Rattle.loop_ir.specs.DeclaredNames.{declared_names, block_names}
use Rattle.loop_ir.specs.Statements.{Block}
use Rattle.stateful_core.specs.Actions.{run_acts}
use Rattle.stateful_core.specs.CoreLeaves.{actions_leaves}
use Rattle.stateful_core.specs.CoreRows.{core_turn}
use Rattle.stateful_core.specs.CoreTerms.{Actions}
use Rattle.stateful_core.specs.MostWords.{actions_words}
use Rattle.turn_blocks.specs.Consumers.{print_taker, print_tail, print_stop, fold_taker, fold_tail, fold_stop, IsFold}
use Rattle.turn_blocks.specs.Pieces.{Tail}
use Rattle.turn_blocks.specs.TurnBlocks.{acts_piece, turn_acts}
use Rattle.turn_blocks.specs.TurnContract.{Consumer, consumer_of, come_to, turn_end_of, IsIn, HasWordInputs, Frame, IsTailOf, IsStopOf, TurnRuns, IsTurnLayout, IsTurn}

-- The statements of a turn do what the turn does, and then with its row what is done with rows:
-- they lead to the next state, with the events of the row; where the stream stops they do what is
-- done at a stop; and they end the run at the fault where there is one. They spend no turn of a loop
-- but those of what is done with the row, and change nothing else that was given out but temporaries.
abbrev pub TurnsAreLowered : Type 0
TurnsAreLowered =
    (frame : Frame) (scope_vars state_vars row_vars : List ℕ) (c : Consumer) (tail : Tail)
    (stop : Block) (acts : Actions) (item : List Term) (inputs : List Input)
    (scope_words state row env : List ℕ)
    → IsTurnLayout frame scope_vars state_vars row_vars c.vars
    → IsTurn (length scope_vars) (length state_vars) (length row_vars) frame.temps acts item
    → IsTailOf inputs frame.first_temp frame.temps scope_vars scope_words c tail
    → tail.width ≡ length item
    → IsStopOf inputs frame.first_temp frame.temps c stop → HasWordInputs inputs
    → IsIn env scope_vars scope_words → IsIn env state_vars state → IsIn env row_vars row
    → IsIn env c.vars c.held
    → (acts_piece (length scope_vars) (length state_vars) frame.first_temp stop tail None
    (turn_acts acts item) (scope_vars ++ (state_vars ++ row_vars)) frame.next).next ≤ length env
    → length env < 2 ^ 32
    → TurnRuns inputs frame c state_vars
    (acts_piece (length scope_vars) (length state_vars) frame.first_temp stop tail None
    (turn_acts acts item) (scope_vars ++ (state_vars ++ row_vars)) frame.next).block env
    (turn_end_of c (come_to (run_acts acts scope_words inputs state row))
    (core_turn acts item scope_words inputs state row))

-- A row is printed, or folded into what is held: the statements that do so, and those that end the
-- run where the stream stops.
abbrev pub PrintingTakesRows : Type 0
PrintingTakesRows =
    (inputs : List Input) (first_temp temps width left : ℕ)
    (scope_vars scope_words held : List ℕ)
    → IsTailOf inputs first_temp temps scope_vars scope_words
    (consumer_of print_taker held left) (print_tail width)

abbrev pub PrintingStops : Type 0
PrintingStops =
    (inputs : List Input) (first_temp temps left : ℕ) (held : List ℕ)
    → IsStopOf inputs first_temp temps (consumer_of print_taker held left) print_stop

abbrev pub FoldingTakesRows : Type 0
FoldingTakesRows =
    (inputs : List Input) (first_temp temps width left : ℕ)
    (scope_vars scope_words vars held : List ℕ) (next : List Term)
    → HasWordInputs inputs → IsFold vars width temps next
    → IsTailOf inputs first_temp temps scope_vars scope_words
    (consumer_of (fold_taker vars next inputs) held left)
    (fold_tail vars first_temp width next)

abbrev pub FoldingStops : Type 0
FoldingStops =
    (inputs : List Input) (first_temp temps left : ℕ) (vars held : List ℕ)
    (next : List Term)
    → IsStopOf inputs first_temp temps
    (consumer_of (fold_taker vars next inputs) held left) (fold_stop vars)

abbrev pub PrintingTakesNoVariables : Type 0
PrintingTakesNoVariables =
    (width n : ℕ) (row : List ℕ) → ((print_tail width).piece row n).next ≡ n

abbrev pub FoldingTakesFewVariables : Type 0
FoldingTakesFewVariables =
    (vars row : List ℕ) (first_temp width n : ℕ) (next : List Term)
    → ((fold_tail vars first_temp width next).piece row n).next ≤ n + length next

abbrev pub PrintingNamesItsRow : Type 0
PrintingNamesItsRow =
    (kinds : List InputKind) (vars width n : ℕ) (row : List ℕ)
    → All (λ v. v < n) row → n ≤ vars
    → IsTrue (block_names (declared_names kinds vars) ((print_tail width).piece row n).block)

abbrev pub FoldingNamesItsWords : Type 0
FoldingNamesItsWords =
    (kinds : List InputKind) (all width temps first_temp n : ℕ)
    (vars row : List ℕ) (next : List Term) → IsFold vars width temps next
    → IsTrue (all_name_inputs (declared_inputs kinds) next) → All (λ v. v < n) vars
    → All (λ v. v < n) row → length row ≡ width → first_temp + temps ≤ n
    → ((fold_tail vars first_temp width next).piece row n).next ≤ all
    → IsTrue (block_names (declared_names kinds all)
    ((fold_tail vars first_temp width next).piece row n).block)

abbrev pub PrintingHasWordConstants : Type 0
PrintingHasWordConstants =
    (width n : ℕ) (row : List ℕ)
    → IsTrue (block_has_words ((print_tail width).piece row n).block)

abbrev pub FoldingHasWordConstants : Type 0
FoldingHasWordConstants =
    (width temps first_temp n : ℕ) (vars row : List ℕ) (next : List Term)
    → IsFold vars width temps next
    → IsTrue (block_has_words ((fold_tail vars first_temp width next).piece row n).block)

-- The statements of a turn name variables that are declared, and no input but those that its acts
-- and its row name, in the same way, if what is done with the row and at a stop does so too. Their
-- constants are words, and they take no more variables than the acts and the row add words.
abbrev pub TurnsNameDeclaredVariables : Type 0
TurnsNameDeclaredVariables =
    (kinds : List InputKind) (vars scope states locals first_temp temps next : ℕ)
    (rows : List ℕ) (tail : Tail) (stop : Block) (acts : Actions) (item : List Term)
    → IsTurn scope states locals temps acts item → length rows ≡ scope + states + locals
    → All (λ v. v < next) rows → first_temp + temps ≤ next
    → IsTrue (actions_leaves (is_named_leaf (declared_inputs kinds)) acts)
    → IsTrue (all_name_inputs (declared_inputs kinds) item)
    → IsTrue (block_names (declared_names kinds vars) stop)
    → ((row : List ℕ) (n : ℕ) → All (λ v. v < n) row → next ≤ n → length row ≡ tail.width
    → (tail.piece row n).next ≤ vars
    → IsTrue (block_names (declared_names kinds vars) (tail.piece row n).block))
    → tail.width ≡ length item
    → ((row : List ℕ) (n : ℕ) → n ≤ (tail.piece row n).next)
    → (acts_piece scope states first_temp stop tail None (turn_acts acts item) rows next).next
    ≤ vars
    → IsTrue (block_names (declared_names kinds vars)
    (acts_piece scope states first_temp stop tail None (turn_acts acts item) rows next).block)

abbrev pub TurnsHaveWordConstants : Type 0
TurnsHaveWordConstants =
    (scope states locals first_temp temps next : ℕ) (rows : List ℕ) (tail : Tail)
    (stop : Block) (acts : Actions) (item : List Term)
    → IsTurn scope states locals temps acts item → length rows ≡ scope + states + locals
    → IsTrue (block_has_words stop)
    → ((row : List ℕ) (n : ℕ) → IsTrue (block_has_words (tail.piece row n).block))
    → IsTrue (block_has_words
    (acts_piece scope states first_temp stop tail None (turn_acts acts item) rows next).block)

abbrev pub TurnsTakeFewVariables : Type 0
TurnsTakeFewVariables =
    (scope states locals first_temp temps next most : ℕ) (rows : List ℕ) (tail : Tail)
    (stop : Block) (acts : Actions) (item : List Term)
    → IsTurn scope states locals temps acts item → length rows ≡ scope + states + locals
    → ((row : List ℕ) (n : ℕ) → (tail.piece row n).next ≤ n + most)
    → (acts_piece scope states first_temp stop tail None (turn_acts acts item) rows next).next
    ≤ next + actions_words scope acts + length item + most

abbrev pub ActsTakeLaterVariables : Type 0
ActsTakeLaterVariables =
    (scope states first_temp next : ℕ) (rows : List ℕ) (tail : Tail) (stop : Block)
    (acts : Actions) → ((row : List ℕ) (n : ℕ) → n ≤ (tail.piece row n).next)
    → next ≤ (acts_piece scope states first_temp stop tail None acts rows next).next
