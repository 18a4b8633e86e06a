-- The automaton that reads the tokens of a C text.
use Rattle.std.specs.Prelude.{ℕ, zero, suc, ◌+◌, ◌^◌, nat_lt, cond, List, [], ◌∷◌, ◌++◌, length, Option, Some, None}
use Rattle.list_denotation.specs.declared.input.InputKind.{InputKind}
use Rattle.list_denotation.specs.declared.input.InputKind.TheVariants as kind
use Rattle.loop_ir.specs.declared.syntax.Verdict.{Verdict}
use Rattle.loop_ir.specs.declared.syntax.Verdict.TheVariants as verdict
use Rattle.loop_ir.specs.Statements.{Test, Statement, Set, Read, If, Loop, Emit, EndRow, Ret, Block, Routine}
use Rattle.loop_ir.specs.StatementCopies.{block_from}
use Rattle.c_tokens.specs.declared.symbol.Symbol.TheVariants as sym
use Rattle.c_words.specs.declared.token.CToken.{CToken}
use Rattle.c_words.specs.declared.token.CToken.TheVariants as token
use Rattle.c_words.specs.declared.token.Keyword.TheVariants as keyword
use Rattle.c_words.specs.declared.token.Letter.TheVariants as letter
use Rattle.c_words.specs.SameTokens.{is_same_token}
use Rattle.c_automaton.specs.declared.forms.Want.{Want}
use Rattle.c_automaton.specs.declared.forms.Want.TheVariants as want
use Rattle.c_automaton.specs.declared.forms.Form.{Form}
use Rattle.c_automaton.specs.declared.forms.Form.TheVariants as form
use Rattle.c_automaton.specs.declared.forms.Next.{Next}
use Rattle.c_automaton.specs.declared.forms.Next.TheVariants as next
use Rattle.c_automaton.specs.Phrases.{Phrase, AnOperand, ATest, Frame, Reading, reads_on}

-- ---- states

-- what a block inside another belongs to: the first block of a choice; the second one, with the first;
-- the body of a loop
pub data Opening : Type 0 where
  Then : Test → Opening
  Else : Test → Block → Opening
  Body : Test → Opening

-- a block that is open around another, with its statements so far
pub record Level : Type 0 where
  pub before : List Statement
  pub opening : Opening

-- these tokens are to come, and then this; or the phrase of a statement is being read
pub data Point : Type 0 where
  Awaits : List CToken → Next → Point
  Within : Form → Reading → Point

-- the parameters and the number of variables so far, the open blocks around this one, the innermost
-- first, and the statements of this one
pub record State : Type 0 where
  pub params : List InputKind
  pub vars : ℕ
  pub around : List Level
  pub here : List Statement
  pub point : Point

abbrev pub awaits : List CToken → Next → State → Option State
awaits toks n s = Some (record s { point = Awaits toks n })

abbrev pub keyword_uint64 : CToken
keyword_uint64 = token.Key keyword.Uint64

-- ---- parameters and declarations

abbrev pub with_param : InputKind → State → State
with_param k s = record s { params = s.params ++ k ∷ [] }

-- the tokens of the parameter of this number, behind its first keyword
abbrev pub param_tokens : ℕ → InputKind → List CToken
param_tokens k kind.Array = keyword_uint64 ∷ token.Sym sym.Star ∷ token.Name letter.Array k ∷ token.Sym sym.Comma ∷ keyword_uint64 ∷ token.Name letter.Length k ∷ []
param_tokens k kind.Int = token.Name letter.Int k ∷ []

-- where a further number fits in a name
abbrev pub if_it_fits : ℕ → Option State → Option State
if_it_fits k s = cond (nat_lt k (2 ^ 32)) s None

abbrev pub param_begins : InputKind → State → Option State
param_begins k s = if_it_fits (length s.params) (awaits (param_tokens (length s.params) k) next.ParamEnd (with_param k s))

abbrev pub param : State → CToken → Option State
param s (token.Key keyword.Const) = param_begins kind.Array s
param s (token.Key keyword.Uint64) = param_begins kind.Int s
param s t = None

abbrev pub first_param : State → CToken → Option State
first_param s (token.Key keyword.Void) = awaits (token.Sym sym.CloseParen ∷ token.Sym sym.OpenBrace ∷ []) next.Declarations s
first_param s t = param s t

abbrev pub param_ends : State → CToken → Option State
param_ends s (token.Sym sym.Comma) = if_it_fits (length s.params) (awaits [] next.FurtherParam s)
param_ends s (token.Sym sym.CloseParen) = awaits (token.Sym sym.OpenBrace ∷ []) next.Declarations s
param_ends s t = None

abbrev pub declaration_begins : State → Option State
declaration_begins s =
    if_it_fits s.vars
    (awaits (token.Name letter.Variable s.vars ∷ token.Sym sym.Equal ∷ token.Constant 0 ∷ token.Sym sym.Semicolon ∷ []) next.Declarations
    (record s { vars = s.vars + 1 }))

-- ---- statements

abbrev pub with_statement : Statement → State → State
with_statement st s = record s { here = s.here ++ st ∷ [] }

-- a block opens inside this one
abbrev pub entered : Opening → State → State
entered o s = record s { around = record { before = s.here; opening = o } ∷ s.around; here = [] }

-- a block closes, and is a part of this statement of the block around it
abbrev pub left_with : Statement → List Statement → List Level → State → Option State
left_with st before levels s = awaits [] next.Statements (record s { around = levels; here = before ++ st ∷ [] })

-- the second block of a choice opens where the first one closes
abbrev pub otherwise : Test → List Statement → List Level → State → Option State
otherwise t before levels s =
    awaits (token.Key keyword.Else ∷ token.Sym sym.OpenBrace ∷ []) next.Statements
    (record s { around = record { before = before; opening = Else t (block_from s.here) } ∷ levels; here = [] })

abbrev pub behind : Statement → Option (List Statement) → Option (List Statement)
behind st None = None
behind st (Some ss) = Some (st ∷ ss)

-- the statements before the last, where that is return 0
abbrev pub before_return : List Statement → Option (List Statement)
before_return [] = None
before_return (Ret verdict.Done ∷ []) = Some []
before_return (st ∷ ss) = behind st (before_return ss)

abbrev pub text_ends : Option (List Statement) → State → Option State
text_ends None s = None
text_ends (Some body) s = awaits [] next.End (record s { here = body })

abbrev pub inner_closes : Opening → List Statement → List Level → State → Option State
inner_closes (Then t) before levels s = otherwise t before levels s
inner_closes (Else t a) before levels s = left_with (If t a (block_from s.here)) before levels s
inner_closes (Body t) before levels s = left_with (Loop t (block_from s.here)) before levels s

-- the innermost block closes
abbrev pub block_closes : List Level → State → Option State
block_closes [] s = text_ends (before_return s.here) s
block_closes (l ∷ levels) s = inner_closes l.opening l.before levels s

abbrev pub statement : State → CToken → Option State
statement s (token.Name letter.Variable v) = awaits (token.Sym sym.Equal ∷ []) (next.Assigned v) s
statement s (token.Key keyword.If) = awaits [] (next.Phrase form.If) s
statement s (token.Key keyword.While) =
    awaits (token.Sym sym.OpenParen ∷ token.Bare 1 ∷ token.Sym sym.CloseParen ∷ token.Sym sym.OpenBrace ∷ token.Key keyword.If ∷ []) (next.Phrase form.While) s
statement s (token.Key keyword.Emit) = awaits (token.Sym sym.OpenParen ∷ []) (next.Phrase form.Emit) s
statement s (token.Key keyword.EndRow) =
    awaits (token.Sym sym.OpenParen ∷ token.Sym sym.CloseParen ∷ token.Sym sym.Semicolon ∷ []) next.Statements (with_statement EndRow s)
statement s (token.Key keyword.Return) = awaits [] next.Verdict s
statement s (token.Sym sym.CloseBrace) = block_closes s.around s
statement s t = None

-- a declaration or a statement
abbrev pub declaration : State → CToken → Option State
declaration s (token.Key keyword.Uint64) = declaration_begins s
declaration s t = statement s t

abbrev pub returned : State → Verdict → Option State
returned s v = awaits (token.Sym sym.Semicolon ∷ []) next.Statements (with_statement (Ret v) s)

abbrev pub verdict_of : State → CToken → Option State
verdict_of s (token.Bare zero) = returned s verdict.Done
verdict_of s (token.Bare (suc zero)) = returned s verdict.Trap
verdict_of s t = None

-- ---- phrases of statements

-- what the phrase of a statement may be
abbrev pub want_of : Form → Want
want_of (form.Set v) = want.Operand
want_of (form.Read v a) = want.Operand
want_of form.Emit = want.Operand
want_of form.If = want.Test
want_of form.While = want.Test

-- the phrase of a statement has been read
abbrev pub finished : Form → Phrase → State → Option State
finished (form.Set v) (AnOperand w) s = awaits (token.Sym sym.Semicolon ∷ []) next.Statements (with_statement (Set v w) s)
finished (form.Read v a) (AnOperand w) s = awaits (token.Sym sym.CloseBracket ∷ token.Sym sym.Semicolon ∷ []) next.Statements (with_statement (Read v a w) s)
finished form.Emit (AnOperand w) s = awaits (token.Sym sym.CloseParen ∷ token.Sym sym.Semicolon ∷ []) next.Statements (with_statement (Emit w) s)
finished form.If (ATest t) s = awaits (token.Sym sym.OpenBrace ∷ []) next.Statements (entered (Then t) s)
finished form.While (ATest t) s =
    awaits (token.Sym sym.OpenBrace ∷ token.Sym sym.CloseBrace ∷ token.Key keyword.Else ∷ token.Sym sym.OpenBrace ∷ token.Key keyword.Break
    ∷ token.Sym sym.Semicolon ∷ token.Sym sym.CloseBrace ∷ []) next.Statements (entered (Body t) s)
finished f p s = None

-- a phrase has been read where no frame is open around it, and is else read on
abbrev pub read_on : Form → State → List Frame → Option Phrase → Option State
read_on f s [] (Some p) = finished f p s
read_on f s frames got = Some (record s { point = Within f (record { frames = frames; got = got }) })

abbrev pub within : Form → State → Option Reading → Option State
within f s None = None
within f s (Some r) = read_on f s r.frames r.got

abbrev pub phrase : Form → Reading → State → CToken → Option State
phrase f r s t = within f s (reads_on (want_of f) r.frames r.got t)

abbrev pub unbegun : Reading
unbegun = record { frames = []; got = None }

-- behind v = stands an item of an array, or an operand
abbrev pub assigned : ℕ → State → CToken → Option State
assigned v s (token.Name letter.Array a) = awaits (token.Sym sym.OpenBracket ∷ []) (next.Phrase (form.Read v a)) s
assigned v s t = phrase (form.Set v) unbegun s t

-- ---- steps

abbrev pub at_next : Next → State → CToken → Option State
at_next next.FirstParam s t = first_param s t
at_next next.ParamEnd s t = param_ends s t
at_next next.FurtherParam s t = param s t
at_next next.Declarations s t = declaration s t
at_next next.Statements s t = statement s t
at_next (next.Assigned v) s t = assigned v s t
at_next next.Verdict s t = verdict_of s t
at_next (next.Phrase f) s t = phrase f unbegun s t
at_next next.End s t = None

abbrev pub at_point : Point → State → CToken → Option State
at_point (Awaits [] n) s t = at_next n s t
at_point (Awaits (a ∷ toks) n) s t = cond (is_same_token a t) (awaits toks n s) None
at_point (Within f r) s t = phrase f r s t

-- one token more
abbrev pub step : State → CToken → Option State
step s t = at_point s.point s t

abbrev pub start : State
start = record {
  params = [];
  vars = 0;
  around = [];
  here = [];
  point = Awaits (token.Key keyword.Int ∷ token.Key keyword.Pipeline ∷ token.Sym sym.OpenParen ∷ []) next.FirstParam;
}

abbrev pub ended : Point → State → Option Routine
ended (Awaits [] next.End) s = Some (record { params = s.params; vars = s.vars; body = block_from s.here })
ended p s = None

-- no token more
abbrev pub finish : State → Option Routine
finish s = ended s.point s
