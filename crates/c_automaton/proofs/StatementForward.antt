-- Where a statement or a } begins the tokens that complete a state, the automaton goes on with it.
use Rattle.std.proofs.Common.{codes, Option, ◌≡◌, ℕ, List, [], ◌∷◌, refl, sym, ap, subst, inl, inr, ◌⊎◌}
use Rattle.loop_ir.specs.declared.syntax.Verdict.{Verdict}
use Rattle.loop_ir.specs.Statements.{Operand, Test, Statement, Set, Read, If, Loop, Emit, EndRow, Ret, Block, join, Routine}
use Rattle.loop_ir.specs.StatementCopies.{block_from}
use Rattle.c_tokens.specs.Pieces as piece
use Rattle.c_tokens.specs.Pieces.{What}
use Rattle.c_tokens.specs.declared.symbol.Symbol.TheVariants as sym
use Rattle.c_grammar.specs.Grammar.{Then, Ends, Fixed, Key, Named, Sign, verdict_number, IsOperand, IsTest, IsStatement, IsBlock, IsLoopTest}
use Rattle.c_words.specs.Words.{StandsFor}
use Rattle.c_words.specs.declared.token.CToken.{CToken}
use Rattle.c_words.specs.declared.token.CToken.TheVariants as token
use Rattle.c_words.specs.declared.token.Keyword.TheVariants as keyword
use Rattle.c_words.specs.declared.token.Letter.TheVariants as letter
use Rattle.c_automaton.specs.declared.forms.Form.TheVariants as form
use Rattle.c_automaton.specs.declared.forms.Next.TheVariants as next
use Rattle.c_automaton.specs.Phrases.{AnOperand, ATest}
use Rattle.c_automaton.specs.Automaton.{Opening, Then as ThenBlock, Else, Body, Level, Awaits, State, with_statement, entered, statement, block_closes, inner_closes, text_ends}
use Rattle.c_automaton.proofs.Completions.{BlockThen, InBlock, AtStatements, AtAssigned, AtPhrase}
use Rattle.c_automaton.proofs.TokenForms.{Form, AllForms, form_first, all_seen_of, all_forms_map, all_seen_then}
use Rattle.c_automaton.proofs.Blocks.{StatementThen, block_from_last}
use Rattle.c_automaton.proofs.Points.{awaits_completes}
use Rattle.c_automaton.proofs.ReturnsLast.{last_return, returns_last}
use Rattle.c_automaton.proofs.Steps.{turn_tokens, loop_tokens, guard_tokens, row_tokens, Goes, goes, ClosesHere, After, statements_first, with_statement_at, statement_ends}

module _ (q : Routine) (s : State) where
  -- the statement goes on behind its first token
  abbrev Forward : CToken → List What → Type 0
  Forward t x = Goes q (statement s t) x

  -- ---- statements

  set_forward : (v : ℕ) (w : Operand) (x r : List What) → Sign sym.Equal (Then (IsOperand w) (Sign sym.Semicolon (Ends r))) x → After q s (Set v w) r
      → Forward (token.Name letter.Variable v) x
  set_forward v w x r h k =
      let toks = token.Sym sym.Equal ∷ [] in
      let p = h.goes_on in
      let f : AllForms toks (AtAssigned q v s) x = record {
        rest = h.rest;
        is = h.is;
        goes_on =
            inl (record {
              phrase = AnOperand w;
              allowed = refl;
              is = record { rest = p.rest; phrase_is = p.phrase_is; goes_on = statement_ends q (token.Sym sym.Semicolon ∷ []) s (Set v w) p.rest r p.goes_on k };
            });
      } in
      awaits_completes q toks (next.Assigned v) s x (all_seen_of toks (AtAssigned q v s) x f)

  read_forward : (v a : ℕ) (w : Operand) (x r : List What)
      → Sign sym.Equal (Named (codes "a") a (Sign sym.OpenBracket (Then (IsOperand w) (Sign sym.CloseBracket (Sign sym.Semicolon (Ends r)))))) x
      → After q s (Read v a w) r → Forward (token.Name letter.Variable v) x
  read_forward v a w x r h k =
      let toks = token.Sym sym.Equal ∷ [] in
      let n = h.goes_on in
      let b = n.fixed.goes_on in
      let p = b.goes_on in
      let item : AtPhrase q (form.Read v a) s b.rest = record {
        phrase = AnOperand w;
        allowed = refl;
        is =
            record {
              rest = p.rest;
              phrase_is = p.phrase_is;
              goes_on = statement_ends q (token.Sym sym.CloseBracket ∷ token.Sym sym.Semicolon ∷ []) s (Read v a w) p.rest r p.goes_on k;
            };
      } in
      let f : AllForms toks (AtAssigned q v s) x = record {
        rest = h.rest;
        is = h.is;
        goes_on =
            inr (record {
              array = a;
              is = record { small = n.small; fixed = record { rest = n.fixed.rest; is = n.fixed.is; goes_on = record { rest = b.rest; is = b.is; goes_on = item } } };
            });
      } in
      awaits_completes q toks (next.Assigned v) s x (all_seen_of toks (AtAssigned q v s) x f)

  if_forward : (t : Test) (a b : Block) (x r : List What)
      → Then (IsTest t) (Sign sym.OpenBrace (Then (IsBlock a) (Sign sym.CloseBrace (Key (codes "else") (Sign sym.OpenBrace (Then (IsBlock b) (Sign sym.CloseBrace (Ends r)))))))) x
      → After q s (If t a b) r → Forward (token.Key keyword.If) x
  if_forward t a b x r h k =
      let o = h.goes_on in
      let c = o.goes_on.goes_on in
      let e = c.goes_on in
      let d = e.goes_on in
      let f = d.goes_on in
      let z = f.goes_on in
      let last : BlockThen (λ b. Sign sym.CloseBrace (λ y. After q s (If t a b) y)) d.rest = record {
        block = b;
        is = record { rest = f.rest; phrase_is = f.phrase_is; goes_on = record { rest = z.rest; is = z.is; goes_on = subst (λ (y : List What). After q s (If t a b) y) (sym z.goes_on) k } };
      } in
      let toks = token.Sym sym.OpenBrace ∷ [] in
      let opened : AllForms toks (AtStatements q (entered (ThenBlock t) s)) h.rest = record {
        rest = o.rest;
        is = o.is;
        goes_on =
            record {
              block = a;
              is =
                  record {
                    rest = o.goes_on.rest;
                    phrase_is = o.goes_on.phrase_is;
                    goes_on = record { rest = c.rest; is = c.is; goes_on = record { rest = e.rest; is = e.is; goes_on = record { rest = d.rest; is = d.is; goes_on = last } } };
                  };
            };
      } in
      awaits_completes q [] (next.Phrase form.If) s x (record {
        phrase = ATest t;
        allowed = refl;
        is = record { rest = h.rest; phrase_is = h.phrase_is; goes_on = all_seen_of toks (AtStatements q (entered (ThenBlock t) s)) h.rest opened };
      })

  -- the test of a loop and its body
  loop_goes_on : (t : Test) (body : Block) (x r : List What) → After q s (Loop t body) r → Then (IsLoopTest t) (Then (IsBlock body) (Sign sym.CloseBrace (Ends r))) x
      → Key (codes "if") (AtPhrase q form.While s) x
  loop_goes_on t body x r k h =
      let l = h.phrase_is in
      let p = l.goes_on in
      let b = h.goes_on in
      let z = b.goes_on in
      let toks = guard_tokens in
      let inside : AtStatements q (entered (Body t) s) h.rest = record {
        block = body;
        is = record { rest = b.rest; phrase_is = b.phrase_is; goes_on = record { rest = z.rest; is = z.is; goes_on = subst (λ (y : List What). After q s (Loop t body) y) (sym z.goes_on) k } };
      } in
      record {
        rest = l.rest;
        is = l.is;
        goes_on =
            record {
              phrase = ATest t;
              allowed = refl;
              is = record { rest = p.rest; phrase_is = p.phrase_is; goes_on = all_seen_then toks (AtStatements q (entered (Body t) s)) p.rest h.rest p.goes_on inside };
            };
      }

  loop_forward : (t : Test) (body : Block) (x r : List What)
      → Sign sym.OpenParen (Fixed (piece.Bare 1) (Sign sym.CloseParen (Sign sym.OpenBrace (Then (IsLoopTest t) (Then (IsBlock body) (Sign sym.CloseBrace (Ends r))))))) x
      → After q s (Loop t body) r → Forward (token.Key keyword.While) x
  loop_forward t body x r h k =
      let head = turn_tokens in
      let toks = loop_tokens in
      let f : AllForms toks (AtPhrase q form.While s) x =
      all_forms_map head (Then (IsLoopTest t) (Then (IsBlock body) (Sign sym.CloseBrace (Ends r)))) (Key (codes "if") (AtPhrase q form.While s)) (λ y g. loop_goes_on t body y r k g) x h in
      awaits_completes q toks (next.Phrase form.While) s x (all_seen_of toks (AtPhrase q form.While s) x f)

  emit_forward : (w : Operand) (x r : List What) → Sign sym.OpenParen (Then (IsOperand w) (Sign sym.CloseParen (Sign sym.Semicolon (Ends r)))) x → After q s (Emit w) r
      → Forward (token.Key keyword.Emit) x
  emit_forward w x r h k =
      let p = h.goes_on in
      let toks = token.Sym sym.OpenParen ∷ [] in
      let f : AllForms toks (AtPhrase q form.Emit s) x = record {
        rest = h.rest;
        is = h.is;
        goes_on =
            record {
              phrase = AnOperand w;
              allowed = refl;
              is =
                  record {
                    rest = p.rest;
                    phrase_is = p.phrase_is;
                    goes_on = statement_ends q (token.Sym sym.CloseParen ∷ token.Sym sym.Semicolon ∷ []) s (Emit w) p.rest r p.goes_on k;
                  };
            };
      } in
      awaits_completes q toks (next.Phrase form.Emit) s x (all_seen_of toks (AtPhrase q form.Emit s) x f)

  row_forward : (x r : List What) → Sign sym.OpenParen (Sign sym.CloseParen (Sign sym.Semicolon (Ends r))) x → After q s EndRow r → Forward (token.Key keyword.EndRow) x
  row_forward x r h k =
      let toks = row_tokens in
      awaits_completes q toks next.Statements (with_statement EndRow s) x (statement_ends q toks s EndRow x r h k)

  return_forward : (v : Verdict) (x r : List What) → Fixed (piece.Bare (verdict_number v)) (Sign sym.Semicolon (Ends r)) x → After q s (Ret v) r → Forward (token.Key keyword.Return) x
  return_forward v x r h k =
      let e = h.goes_on in
      awaits_completes q [] next.Verdict s x (record {
        verdict = v;
        is =
            record {
              rest = h.rest;
              is = h.is;
              goes_on =
                  record {
                    rest = e.rest;
                    is = e.is;
                    goes_on = subst (λ (y : List What). AtStatements q (with_statement (Ret v) s) y) (sym e.goes_on) (with_statement_at q s (Ret v) r k);
                  };
            };
      })

  -- the first token of a statement, and what goes on behind it
  begins_forward : (u t : CToken) (what : What) (x : List What) (P : List What → Type 0) → StandsFor t what → Form u P (what ∷ x) → ((y : List What) → P y → Forward u y) → Forward t x
  begins_forward u t what x P st h f =
      let g = form_first u t what P x st h in
      subst (λ (v : CToken). Forward v x) g.0 (f x g.1)

  statement_forward : (st : Statement) (t : CToken) (what : What) (x r : List What) → StandsFor t what → IsStatement st (what ∷ x) r → After q s st r → Forward t x
  statement_forward (Set v w) t what x r st h k =
      begins_forward (token.Name letter.Variable v) t what x (Sign sym.Equal (Then (IsOperand w) (Sign sym.Semicolon (Ends r)))) st h (λ y g. set_forward v w y r g k)
  statement_forward (Read v a w) t what x r st h k =
      begins_forward (token.Name letter.Variable v) t what x _ st h (λ y g. read_forward v a w y r g k)
  statement_forward (If u a b) t what x r st h k = begins_forward (token.Key keyword.If) t what x _ st h (λ y g. if_forward u a b y r g k)
  statement_forward (Loop u b) t what x r st h k = begins_forward (token.Key keyword.While) t what x _ st h (λ y g. loop_forward u b y r g k)
  statement_forward (Emit w) t what x r st h k = begins_forward (token.Key keyword.Emit) t what x _ st h (λ y g. emit_forward w y r g k)
  statement_forward EndRow t what x r st h k = begins_forward (token.Key keyword.EndRow) t what x _ st h (λ y g. row_forward y r g k)
  statement_forward (Ret v) t what x r st h k = begins_forward (token.Key keyword.Return) t what x _ st h (λ y g. return_forward v y r g k)

  -- ---- the } of a block

  text_closes : (x : List What) → x ≡ [] → (body : Block) → block_from s.here ≡ join body last_return → q ≡ record { params = s.params; vars = s.vars; body = body } → Goes q (block_closes [] s) x
  text_closes x e body returns made =
      let f = returns_last s.here body returns in
      goes q (block_closes [] s) x (record s { here = f.before; point = Awaits [] next.End }) (ap (λ (o : Option (List Statement)). text_ends o s) f.found)
      (e, subst (λ (b : Block). q ≡ record { params = s.params; vars = s.vars; body = b }) (sym f.is) made)

  inner_forward : (o : Opening) (before : List Statement) (levels : List Level) (t : CToken) (what : What) (x : List What) → StandsFor t what
      → ClosesHere q s (record { before = before; opening = o } ∷ levels) (what ∷ x) → (token.Sym sym.CloseBrace ≡ t) × Goes q (inner_closes o before levels s) x
  inner_forward (ThenBlock u) before levels t what x st h =
      let first = form_first (token.Sym sym.CloseBrace) t what _ x st h in
      let toks = token.Key keyword.Else ∷ token.Sym sym.OpenBrace ∷ [] in
      let n : State = record s { around = record { before = before; opening = Else u (block_from s.here) } ∷ levels; here = [] } in
      (first.0, awaits_completes q toks next.Statements n x (all_seen_of toks (AtStatements q n) x first.1))
  inner_forward (Else u a) before levels t what x st h =
      let first = form_first (token.Sym sym.CloseBrace) t what _ x st h in
      (first.0, subst (λ (b : Block). InBlock q s.params s.vars levels b x) (sym (block_from_last before (If u a (block_from s.here)))) first.1)
  inner_forward (Body u) before levels t what x st h =
      let first = form_first (token.Sym sym.CloseBrace) t what _ x st h in
      (first.0, subst (λ (b : Block). InBlock q s.params s.vars levels b x) (sym (block_from_last before (Loop u (block_from s.here)))) first.1)

  close_forward : (levels : List Level) (t : CToken) (what : What) (x : List What) → StandsFor t what → ClosesHere q s levels (what ∷ x) → (token.Sym sym.CloseBrace ≡ t) × Goes q (block_closes levels s) x
  close_forward [] t what x st h =
      let first = form_first (token.Sym sym.CloseBrace) t what (Ends []) x st h.is in
      (first.0, text_closes x first.1 h.body h.returns h.made)
  close_forward (l ∷ levels) t what x st h = inner_forward l.opening l.before levels t what x st h

  -- ---- both

  one_forward : (t : CToken) (what : What) (x : List What) → StandsFor t what → ClosesHere q s s.around (what ∷ x) ⊎ StatementThen (After q s) (what ∷ x) → Forward t x
  one_forward t what x st (inl h) =
      let c = close_forward s.around t what x st h in
      subst (λ (v : CToken). Forward v x) c.0 c.1
  one_forward t what x st (inr h) = statement_forward h.statement t what x h.is.rest st h.is.phrase_is h.is.goes_on

  pub statements_forward : (t : CToken) (what : What) (x : List What) → StandsFor t what → AtStatements q s (what ∷ x) → Goes q (statement s t) x
  statements_forward t what x st h = one_forward t what x st (statements_first q s (what ∷ x) h)
