use Rattle.turn_blocks.proofs.PieceSizes.{words_few}
use Rattle.turn_blocks.proofs.RowTails.{prints, print_stops, folds, fold_stops, print_names, print_constants}
use Rattle.turn_blocks.proofs.TurnNames.{fold_named, fold_constant}
use Rattle.std.specs.Prelude.{◌++◌}
use Rattle.turn_blocks.proofs.laws.rows_are_taken.Goals as goal

pub returns-clause-prints : goal.returns-clause-prints
returns-clause-prints c = prints

pub returns-clause-print_stops : goal.returns-clause-print_stops
returns-clause-print_stops c = print_stops

pub returns-clause-folds : goal.returns-clause-folds
returns-clause-folds c = λ inputs t temps width left scope_vars scope_words vars held next small fold. folds c.laws_below.ensures inputs small t temps width left scope_vars scope_words vars held next fold

pub returns-clause-fold_stops : goal.returns-clause-fold_stops
returns-clause-fold_stops c = fold_stops

pub returns-clause-fold_few : goal.returns-clause-fold_few
returns-clause-fold_few c = λ vars row t width n next. words_few (vars ++ row) t next 0 n

pub returns-clause-print_names : goal.returns-clause-print_names
returns-clause-print_names c = print_names

pub returns-clause-fold_names : goal.returns-clause-fold_names
returns-clause-fold_names c = fold_named c.laws_below.ensures

pub returns-clause-print_constants : goal.returns-clause-print_constants
returns-clause-print_constants c = print_constants

pub returns-clause-fold_constants : goal.returns-clause-fold_constants
returns-clause-fold_constants c = fold_constant c.laws_below.ensures
