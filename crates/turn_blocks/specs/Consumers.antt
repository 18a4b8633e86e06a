-- What the terminals do with rows: they are printed, or folded into words that are held in variables.
use Rattle.std.specs.Prelude.{◌≡◌, false, ℕ, ◌+◌, ◌≤◌, List, [], ◌∷◌, ◌++◌, length, nat_eq, IsTrue}
use Rattle.std.specs.List.{IsDistinct}
use Rattle.list_denotation.specs.declared.input.Input.{Input}
use Rattle.list_denotation.specs.Literals.{all_have_words}
use Rattle.list_denotation.specs.Observation.{row_events}
use Rattle.list_denotation.specs.Scopes.{all_bound}
use Rattle.list_denotation.specs.Terms.{Term}
use Rattle.list_denotation.specs.Values.{Got, Is, Fails, row_value}
use Rattle.loop_ir.specs.declared.syntax.Verdict.TheVariants as verdict
use Rattle.loop_ir.specs.Statements.{Var, Emit, EndRow, Ret, Block, Nil, Cons, join}
use Rattle.turn_blocks.specs.Pieces.{Tail}
use Rattle.turn_blocks.specs.StateBlocks.{words_piece}
use Rattle.turn_blocks.specs.Temporaries.{row_temps}
use Rattle.turn_blocks.specs.TurnContract.{Taker, Taken, Holds, Refuses}

-- a row of words in variables is printed
abbrev pub print_block : List ℕ → Block
print_block [] = Cons EndRow Nil
print_block (v ∷ vs) = Cons (Emit (Var v)) (print_block vs)

-- the run is done
abbrev pub done : Block
done = Cons (Ret verdict.Done) Nil

-- ---- print: nothing is held

abbrev pub print_tail : ℕ → Tail
print_tail width = record { width = width; has_loop = false; piece = λ row next. record { block = print_block row; next = next } }

abbrev pub print_taker : Taker
print_taker = record { vars = []; feed = λ held row. Holds (row_events row []) held; ending = λ held. [] }

abbrev pub print_stop : Block
print_stop = done

-- ---- fold: the words that are held are numbered first, and then those of the row

abbrev pub fold_tail : List ℕ → ℕ → ℕ → List Term → Tail
fold_tail vars t width next = record { width = width; has_loop = false; piece = λ row n. words_piece (vars ++ row) t 0 next n }

abbrev pub fed_by : Got (List ℕ) → Taken
fed_by (Is held) = Holds [] held
fed_by (Fails f) = Refuses f

-- what is held is printed at the end alone
abbrev pub fold_taker : List ℕ → List Term → List Input → Taker
fold_taker vars next inputs = record {
  vars = vars;
  feed = λ held row. fed_by (row_value next (held ++ row) inputs);
  ending = λ held. row_events held [];
}

abbrev pub fold_stop : List ℕ → Block
fold_stop vars = join (print_block vars) done

-- the expressions of the words that are held next read those that are held and those of a row of this width alone; their
-- numbers are words, so many temporaries are enough, and the variables differ
pub record IsFold (vars : List ℕ) (width temps : ℕ) (next : List Term) : Type 0 where
  pub distinct : IsDistinct nat_eq vars
  pub same_width : length next ≡ length vars
  pub bound : IsTrue (all_bound (length vars + width) next)
  pub are_words : IsTrue (all_have_words next)
  pub few : row_temps next ≤ temps
