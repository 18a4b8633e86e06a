-- The plain copies of the code's divisions and connectives, and statements that are appended.
use Rattle.std.specs.Prelude.{◌≡◌, List}
use Rattle.loop_ir.specs.declared.syntax.Stmt.{Stmt}
use Rattle.loop_ir.specs.Statements.{Block, join}
use Rattle.loop_ir.specs.StatementCopies.{block_of}
use Rattle.expr_phrases.specs.declared.division.Division as code_division
use Rattle.expr_phrases.specs.declared.division.Division.TheVariants as division
use Rattle.expr_phrases.specs.declared.connectives.Connective as code_connective
use Rattle.expr_phrases.specs.declared.connectives.Connective.TheVariants as connective
use Rattle.expr_phrases.specs.Phrases.{Division, Quotient, Remainder, Connective, Conjunction, Disjunction}

abbrev pub division_of : code_division.Division → Division
division_of division.Quotient = Quotient
division_of division.Remainder = Remainder

abbrev pub connective_of : code_connective.Connective → Connective
connective_of connective.And = Conjunction
connective_of connective.Or = Disjunction

-- these statements were appended
abbrev pub Appends : List Stmt → List Stmt → Block → Type 0
Appends old new more = block_of new ≡ join (block_of old) more
