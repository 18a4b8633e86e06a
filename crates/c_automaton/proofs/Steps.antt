-- What completes the state that a step goes to; and what completes a state at its statements.
use Rattle.std.proofs.Common.{◌≡◌, List, [], ◌∷◌, Option, Some, None, refl, sym, subst, ◌⊎◌, true}
use Rattle.loop_ir.specs.Statements.{Operand, Test, Statement, Block, join, Routine}
use Rattle.loop_ir.specs.StatementCopies.{block_from}
use Rattle.c_tokens.specs.Pieces.{What}
use Rattle.c_tokens.specs.declared.symbol.Symbol.TheVariants as sym
use Rattle.c_grammar.specs.Grammar.{Then, Ends, IsOperand, IsTest, IsStatement}
use Rattle.c_words.specs.declared.token.CToken.{CToken}
use Rattle.c_words.specs.declared.token.CToken.TheVariants as token
use Rattle.c_words.specs.declared.token.Keyword.TheVariants as keyword
use Rattle.c_automaton.specs.declared.forms.Want.TheVariants as want
use Rattle.c_automaton.specs.Phrases.{Phrase, AnOperand, ATest, allows}
use Rattle.c_automaton.specs.Automaton.{Level, State, with_statement}
use Rattle.c_automaton.proofs.Completions.{AllSeen, PhraseThen, IsPhrase, BlockCloses, TextCloses, one_statement, InBlock, AtStatements, Completes}
use Rattle.c_automaton.proofs.TokenForms.{AllForms, EndsWith, all_seen_then, all_seen_ends}
use Rattle.c_automaton.proofs.Blocks.{block_from_last, StatementThen, more_first, no_more, one_more}

-- ---- tokens in a row

-- behind while, up to the guard of the loop, and with the first token of it
abbrev pub turn_tokens : List CToken
turn_tokens = token.Sym sym.OpenParen ∷ token.Bare 1 ∷ token.Sym sym.CloseParen ∷ token.Sym sym.OpenBrace ∷ []

abbrev pub loop_tokens : List CToken
loop_tokens = token.Sym sym.OpenParen ∷ token.Bare 1 ∷ token.Sym sym.CloseParen ∷ token.Sym sym.OpenBrace ∷ token.Key keyword.If ∷ []

-- behind the test of a guard
abbrev pub guard_tokens : List CToken
guard_tokens = token.Sym sym.OpenBrace ∷ token.Sym sym.CloseBrace ∷ token.Key keyword.Else ∷ token.Sym sym.OpenBrace ∷ token.Key keyword.Break ∷ token.Sym sym.Semicolon ∷ token.Sym sym.CloseBrace ∷ []

-- behind ENDROW
abbrev pub row_tokens : List CToken
row_tokens = token.Sym sym.OpenParen ∷ token.Sym sym.CloseParen ∷ token.Sym sym.Semicolon ∷ []

-- ---- steps

-- the tokens complete the state that is gone to
abbrev pub Goes : Routine → Option State → List What → Type 0
Goes q None x = ⊥
Goes q (Some s) x = Completes q s x

pub record GoesTo (q : Routine) (to : Option State) (x : List What) : Type 0 where
  pub state : State
  pub is : to ≡ Some state
  pub completes : Completes q state x

pub goes_to : (q : Routine) (to : Option State) (x : List What) → Goes q to x → GoesTo q to x
goes_to q None x h = absurd h
goes_to q (Some s) x h = record { state = s; is = refl; completes = h }

pub goes : (q : Routine) (to : Option State) (x : List What) (s : State) → to ≡ Some s → Completes q s x → Goes q to x
goes q to x s e h = subst (λ (g : Option State). Goes q g x) (sym e) h

-- ---- phrases of one sort

pub record OperandThen (then_holds : Phrase → List What → Type 0) (x : List What) : Type 0 where
  pub operand : Operand
  pub is : Then (IsOperand operand) (then_holds (AnOperand operand)) x

pub record TestThen (then_holds : Phrase → List What → Type 0) (x : List What) : Type 0 where
  pub test : Test
  pub is : Then (IsTest test) (then_holds (ATest test)) x

module _ (then_holds : Phrase → List What → Type 0) where
  operand_is : (x : List What) (p : Phrase) → allows want.Operand p ≡ true → Then (IsPhrase p) (then_holds p) x → OperandThen then_holds x
  operand_is x (AnOperand w) e h = record { operand = w; is = record { rest = h.rest; phrase_is = h.phrase_is; goes_on = h.goes_on } }
  operand_is x (ATest t) e h = absurd cc

  test_is : (x : List What) (p : Phrase) → allows want.Test p ≡ true → Then (IsPhrase p) (then_holds p) x → TestThen then_holds x
  test_is x (AnOperand w) e h = absurd cc
  test_is x (ATest t) e h = record { test = t; is = record { rest = h.rest; phrase_is = h.phrase_is; goes_on = h.goes_on } }

  pub operand_then : (x : List What) → PhraseThen want.Operand then_holds x → OperandThen then_holds x
  operand_then x h = operand_is x h.phrase h.allowed h.is

  pub test_then : (x : List What) → PhraseThen want.Test then_holds x → TestThen then_holds x
  test_then x h = test_is x h.phrase h.allowed h.is

-- ---- statements

module _ (q : Routine) where
  -- the block of the statements so far is at its end
  abbrev pub ClosesHere : State → List Level → List What → Type 0
  ClosesHere s [] x = TextCloses q s.params s.vars (block_from s.here) x
  ClosesHere s (l ∷ levels) x =
      BlockCloses l.opening (block_from s.here) (λ st. InBlock q s.params s.vars levels (join (block_from l.before) (one_statement st))) x

  -- what goes on behind a further statement
  abbrev pub After : State → Statement → List What → Type 0
  After s st x = InBlock q s.params s.vars s.around (join (block_from s.here) (one_statement st)) x

  -- the statements so far are at their end, or a further statement begins
  statements_in : (s : State) (levels : List Level) (x : List What) → InBlock q s.params s.vars levels (block_from s.here) x
      → ClosesHere s levels x ⊎ StatementThen (λ st. InBlock q s.params s.vars levels (join (block_from s.here) (one_statement st))) x
  statements_in s [] x h = more_first (TextCloses q s.params s.vars) (block_from s.here) x h
  statements_in s (l ∷ levels) x h =
      more_first (λ b. BlockCloses l.opening b (λ st. InBlock q s.params s.vars levels (join (block_from l.before) (one_statement st)))) (block_from s.here) x h

  pub statements_first : (s : State) (x : List What) → AtStatements q s x → ClosesHere s s.around x ⊎ StatementThen (After s) x
  statements_first s x h = statements_in s s.around x h

  closes_in : (s : State) (levels : List Level) (x : List What) → ClosesHere s levels x → InBlock q s.params s.vars levels (block_from s.here) x
  closes_in s [] x h = no_more (TextCloses q s.params s.vars) (block_from s.here) x h
  closes_in s (l ∷ levels) x h =
      no_more (λ b. BlockCloses l.opening b (λ st. InBlock q s.params s.vars levels (join (block_from l.before) (one_statement st)))) (block_from s.here) x h

  pub closes_here : (s : State) (x : List What) → ClosesHere s s.around x → AtStatements q s x
  closes_here s x h = closes_in s s.around x h

  one_more_in : (s : State) (levels : List Level) (st : Statement) (x r : List What) → IsStatement st x r → InBlock q s.params s.vars levels (join (block_from s.here) (one_statement st)) r
      → InBlock q s.params s.vars levels (block_from s.here) x
  one_more_in s [] st x r e h = one_more (TextCloses q s.params s.vars) (block_from s.here) st x r e h
  one_more_in s (l ∷ levels) st x r e h =
      one_more (λ b. BlockCloses l.opening b (λ st. InBlock q s.params s.vars levels (join (block_from l.before) (one_statement st)))) (block_from s.here) st x r e h

  pub statement_before : (s : State) (st : Statement) (x r : List What) → IsStatement st x r → After s st r → AtStatements q s x
  statement_before s st x r e h = one_more_in s s.around st x r e h

  -- the state with the statement
  pub with_statement_at : (s : State) (st : Statement) (x : List What) → After s st x → AtStatements q (with_statement st s) x
  with_statement_at s st x h = subst (λ (b : Block). InBlock q s.params s.vars s.around b x) (sym (block_from_last s.here st)) h

  pub after_at : (s : State) (st : Statement) (x : List What) → AtStatements q (with_statement st s) x → After s st x
  after_at s st x h = subst (λ (b : Block). InBlock q s.params s.vars s.around b x) (block_from_last s.here st) h

  -- the tokens that end a statement, and then what goes on behind it
  pub statement_ends : (toks : List CToken) (s : State) (st : Statement) (x r : List What) → AllForms toks (Ends r) x → After s st r → AllSeen toks (AtStatements q (with_statement st s)) x
  statement_ends toks s st x r e h = all_seen_then toks (AtStatements q (with_statement st s)) x r e (with_statement_at s st r h)

  pub ended_statement : (toks : List CToken) (s : State) (st : Statement) (x : List What) → AllSeen toks (AtStatements q (with_statement st s)) x → EndsWith toks (After s st) x
  ended_statement toks s st x h =
      let e = all_seen_ends toks (AtStatements q (with_statement st s)) x h in
      record { rest = e.rest; forms = e.forms; holds = after_at s st e.rest e.holds }
