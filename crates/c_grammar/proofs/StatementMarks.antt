-- What the first token of a statement is: a name, or one of five words.
use Rattle.std.proofs.Common.{◌≡◌, ℕ, List, refl}
use Rattle.std.specs.Prelude.{false, ◌==◌}
use Rattle.c_tokens.specs.Pieces.{What}
use Rattle.c_grammar.specs.Grammar.{IsStatement}
use Rattle.loop_ir.specs.Statements.{Statement, Set, Read, If, Loop, Emit, EndRow, Ret}
use Rattle.c_grammar.proofs.FirstTokens.{first_mark, first_mark_is}

abbrev pub statement_mark : Statement → ℕ
statement_mark (Set v w) = 118
statement_mark (Read v a w) = 118
statement_mark (If t a b) = 105
statement_mark (Loop t body) = 119
statement_mark (Emit w) = 69
statement_mark EndRow = 69
statement_mark (Ret v) = 114

pub statement_begins : (s : Statement) (x r : List What) → IsStatement s x r → first_mark x ≡ statement_mark s
statement_begins (Set v w) x r f = first_mark_is f.fixed.is
statement_begins (Read v a w) x r f = first_mark_is f.fixed.is
statement_begins (If t a b) x r f = first_mark_is f.is
statement_begins (Loop t body) x r f = first_mark_is f.is
statement_begins (Emit w) x r f = first_mark_is f.is
statement_begins EndRow x r f = first_mark_is f.is
statement_begins (Ret v) x r f = first_mark_is f.is

-- no statement begins with a symbol
pub symbol_begins_no_statement : (s : Statement) → (statement_mark s == 4) ≡ false
symbol_begins_no_statement (Set v w) = refl
symbol_begins_no_statement (Read v a w) = refl
symbol_begins_no_statement (If t a b) = refl
symbol_begins_no_statement (Loop t body) = refl
symbol_begins_no_statement (Emit w) = refl
symbol_begins_no_statement EndRow = refl
symbol_begins_no_statement (Ret v) = refl

-- nor with uint64_t
pub type_begins_no_statement : (s : Statement) → (statement_mark s == 117) ≡ false
type_begins_no_statement (Set v w) = refl
type_begins_no_statement (Read v a w) = refl
type_begins_no_statement (If t a b) = refl
type_begins_no_statement (Loop t body) = refl
type_begins_no_statement (Emit w) = refl
type_begins_no_statement EndRow = refl
type_begins_no_statement (Ret v) = refl
