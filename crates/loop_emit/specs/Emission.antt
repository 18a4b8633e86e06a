-- The loop program of a machine, which is a Lin in the scope of no words: one loop over its state. A turn of the loop is a
-- turn of the machine, and does with the row what the terminal does.
use Rattle.std.specs.Prelude.{ℕ, ◌+◌, max, Bool, true, List, [], ◌∷◌, length, None, if◌then◌else◌}
use Rattle.std.specs.List.{range_with_len}
use Rattle.list_denotation.specs.declared.input.InputKind.{InputKind}
use Rattle.list_denotation.specs.Scopes.{all_bound}
use Rattle.list_denotation.specs.Terms.{Term, Finish, Fold, Print}
use Rattle.loop_ir.specs.Statements.{Const, Var, Same, Not, Loop, Block, Nil, Cons, Routine, join}
use Rattle.expr_lower.specs.Costs.{temps_of}
use Rattle.expr_forms.specs.Forms.{Condition, is_empty}
use Rattle.expr_lower.specs.Lowering.{lowered_into, lowered_test}
use Rattle.stateful_core.specs.CoreTerms.{Actions}
use Rattle.turn_blocks.specs.Consumers.{print_block, print_tail, print_stop, fold_tail, fold_stop}
use Rattle.turn_blocks.specs.Pieces.{Piece, Tail, behind_scratch}
use Rattle.turn_blocks.specs.Temporaries.{row_temps, acts_temps}
use Rattle.turn_blocks.specs.TurnBlocks.{acts_piece, turn_acts}

-- ---- the terminal, which holds words in these variables from row to row

abbrev pub finish_temps : Finish → ℕ
finish_temps (Fold seed next) = max (row_temps seed) (row_temps next)
finish_temps Print = 0

-- the expressions of the words that it holds first read no bound word
abbrev pub seed_is_bound : Finish → Bool
seed_is_bound (Fold seed next) = all_bound 0 seed
seed_is_bound Print = true

-- how many words it holds
abbrev pub held_count : Finish → ℕ
held_count (Fold seed next) = length seed
held_count Print = 0

-- what it does with a row of this width
abbrev pub finish_tail : Finish → List ℕ → ℕ → Tail
finish_tail (Fold seed next) held width = fold_tail held 0 width next
finish_tail Print held width = print_tail width

-- the end of the run where the stream stops inside a turn
abbrev pub finish_stop : Finish → List ℕ → Block
finish_stop (Fold seed next) held = fold_stop held
finish_stop Print held = print_stop

-- what stands behind the loop
abbrev pub finish_ending : Finish → List ℕ → Block
finish_ending (Fold seed next) held = print_block held
finish_ending Print held = Nil

-- ---- openings, and the guard of the loop

-- each of these expressions is put into a variable, from one on, in order. The temporaries are those from 0 on
abbrev pub openings : List Term → ℕ → Block
openings [] v = Nil
openings (e ∷ es) v = join (lowered_into [] e v 0) (openings es (v + 1))

abbrev pub finish_openings : Finish → ℕ → Block
finish_openings (Fold seed next) v = openings seed v
finish_openings Print v = Nil

-- a condition without statements is the test of a loop as it stands; else these statements put its value into the variable v
abbrev pub kept_condition : Condition → Block → ℕ → Condition
kept_condition c value v = if is_empty c.block then c else record { block = value; test = Not (Same (Var v) (Const 0)) }

-- the guard of a loop, over words in these variables: the loop has this test, and the statements stand before it and at the end
-- of each turn
abbrev pub loop_guard : List ℕ → Term → ℕ → Condition
loop_guard rows e v = kept_condition (lowered_test rows e v 0) (lowered_into rows e v 0) v

-- a loop with this guard, whose turns have these statements
abbrev pub guarded_loop : List ℕ → Term → ℕ → Block → Block
guarded_loop rows e v turn =
    join (loop_guard rows e v).block
    (Cons (Loop (loop_guard rows e v).test (join turn (loop_guard rows e v).block)) Nil)

-- the first variable behind that of the guard, where there is one
abbrev pub behind_guard : List ℕ → Term → ℕ → ℕ
behind_guard rows e v = behind_scratch (lowered_test rows e v 0) v

-- ---- the program of a machine

-- Its state is `init` first, and `turn` are the acts of a turn, whose row is the last local words, of which there are `width`.
-- The variables are those of the temporaries, of which there are `temps`, then those of the words that the terminal holds, of
-- the state, of the value of the guard, and of a turn.
module _ (temps : ℕ) (init : List Term) (guard : Term) (turn : Actions) (width : ℕ) (terminal : Finish) where
  abbrev pub held_vars : List ℕ
  held_vars = range_with_len temps (held_count terminal)

  abbrev pub first_state : ℕ
  first_state = temps + held_count terminal

  abbrev pub state_vars : List ℕ
  state_vars = range_with_len first_state (length init)

  abbrev pub guard_var : ℕ
  guard_var = first_state + length init

  abbrev pub first_local : ℕ
  first_local = behind_guard state_vars guard guard_var

  abbrev pub machine_guard : Condition
  machine_guard = loop_guard state_vars guard guard_var

  -- the statements of a turn of the machine, with what is done with its row
  abbrev pub turn_piece : Piece
  turn_piece =
      acts_piece 0 (length init) 0 (finish_stop terminal held_vars) (finish_tail terminal held_vars width) None turn state_vars
      first_local

  abbrev pub machine_loop : Block
  machine_loop = guarded_loop state_vars guard guard_var turn_piece.block

  -- one turn of the loop
  abbrev pub turn_block : Block
  turn_block = join turn_piece.block machine_guard.block

  abbrev pub loop_block : Block
  loop_block = join machine_guard.block (Cons (Loop machine_guard.test turn_block) (finish_ending terminal held_vars))

  abbrev pub body_block : Block
  body_block = join (finish_openings terminal temps) (join (openings init first_state) loop_block)

-- that of a Lin in the scope of no words, with these parts
module _ (init : List Term) (guard : Term) (acts : Actions) (item : List Term) (terminal : Finish) where
  abbrev pub machine_temps : ℕ
  machine_temps = max (row_temps init) (max (temps_of guard) (max (acts_temps acts) (max (row_temps item) (finish_temps terminal))))

  abbrev pub machine_vars : ℕ
  machine_vars = (turn_piece machine_temps init guard (turn_acts acts item) (length item) terminal).next

  abbrev pub routine_for : List InputKind → Routine
  routine_for inputs = record {
    params = inputs;
    vars = machine_vars;
    body = body_block machine_temps init guard (turn_acts acts item) (length item) terminal;
  }
