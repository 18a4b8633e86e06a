-- Where the automaton goes on with the first token of a statement or with a }, the tokens that complete a state begin with a statement or with this }.
use Rattle.std.proofs.Common.{codes, ◌≡◌, ℕ, List, [], ◌∷◌, Option, Some, None, refl, sym, subst, inl, inr}
use Rattle.loop_ir.specs.Statements.{Statement, Set, Read, If, Loop, Emit, EndRow, Ret, Block, Routine}
use Rattle.loop_ir.specs.StatementCopies.{block_from}
use Rattle.c_tokens.specs.Pieces as piece
use Rattle.c_tokens.specs.Pieces.{What, Word}
use Rattle.c_tokens.specs.declared.symbol.Symbol.TheVariants as sym
use Rattle.c_grammar.specs.Grammar.{Then, Ends, Key, Sign, IsTest, IsStatement, IsBlock, IsLoopTest}
use Rattle.c_words.specs.Words.{StandsFor}
use Rattle.c_words.specs.declared.token.CToken.{CToken}
use Rattle.c_words.specs.declared.token.CToken.TheVariants as token
use Rattle.c_words.specs.declared.token.Keyword.TheVariants as keyword
use Rattle.c_words.specs.declared.token.Letter.TheVariants as letter
use Rattle.c_automaton.specs.declared.forms.Form.TheVariants as form
use Rattle.c_automaton.specs.declared.forms.Next.TheVariants as next
use Rattle.c_automaton.specs.Automaton.{Opening, Then as ThenBlock, Else, Body, Level, State, with_statement, entered, statement, block_closes, inner_closes, before_return, text_ends}
use Rattle.c_automaton.proofs.Completions.{AllSeen, InBlock, AtStatements, AtAssigned, AtPhrase, AtVerdict, ItemThen, PhraseFollows}
use Rattle.c_automaton.proofs.TokenForms.{AllForms, form_before, all_forms_of, all_forms_map, all_seen_ends}
use Rattle.c_automaton.proofs.Blocks.{block_from_last}
use Rattle.c_automaton.proofs.Points.{completes_awaits}
use Rattle.c_automaton.proofs.ReturnsLast.{ends_in_return}
use Rattle.c_automaton.proofs.Steps.{turn_tokens, loop_tokens, guard_tokens, row_tokens, Goes, ClosesHere, After, operand_then, test_then, closes_here, statement_before, after_at, ended_statement}

module _ (q : Routine) (s : State) where
  -- ---- statements

  -- a statement that these tokens begin
  record Begun (u : CToken) (x : List What) : Type 0 where
    pub statement : Statement
    pub rest : List What
    pub is : (what : What) → StandsFor u what → IsStatement statement (what ∷ x) rest
    pub after : After q s statement rest

  set_back : (v : ℕ) (x y : List What) → x ≡ piece.Sym sym.Equal ∷ y → AtPhrase q (form.Set v) s y → Begun (token.Name letter.Variable v) x
  set_back v x y e h =
      let p = operand_then (PhraseFollows q (form.Set v) s) y h in
      let end = ended_statement q (token.Sym sym.Semicolon ∷ []) s (Set v p.operand) p.is.rest p.is.goes_on in
      record {
        statement = Set v p.operand;
        rest = end.rest;
        is =
            λ what st.
            form_before (token.Name letter.Variable v) what _ x st (record { rest = y; is = e; goes_on = record { rest = p.is.rest; phrase_is = p.is.phrase_is; goes_on = end.forms } });
        after = end.holds;
      }

  read_back : (v : ℕ) (x y : List What) → x ≡ piece.Sym sym.Equal ∷ y → ItemThen q v s y → Begun (token.Name letter.Variable v) x
  read_back v x y e h =
      let a = h.array in
      let n = h.is in
      let b = n.fixed.goes_on in
      let p = operand_then (PhraseFollows q (form.Read v a) s) b.rest b.goes_on in
      let end = ended_statement q (token.Sym sym.CloseBracket ∷ token.Sym sym.Semicolon ∷ []) s (Read v a p.operand) p.is.rest p.is.goes_on in
      record {
        statement = Read v a p.operand;
        rest = end.rest;
        is =
            λ what st.
            form_before (token.Name letter.Variable v) what _ x st (record {
              rest = y;
              is = e;
              goes_on =
                  record {
                    small = n.small;
                    fixed =
                        record {
                          rest = n.fixed.rest;
                          is = n.fixed.is;
                          goes_on = record { rest = b.rest; is = b.is; goes_on = record { rest = p.is.rest; phrase_is = p.is.phrase_is; goes_on = end.forms } };
                        };
                  };
            });
        after = end.holds;
      }

  assigned_back : (v : ℕ) (x y : List What) → x ≡ piece.Sym sym.Equal ∷ y → AtAssigned q v s y → Begun (token.Name letter.Variable v) x
  assigned_back v x y e (inl h) = set_back v x y e h
  assigned_back v x y e (inr h) = read_back v x y e h

  if_back : (x : List What) → AtPhrase q form.If s x → Begun (token.Key keyword.If) x
  if_back x h =
      let p = test_then (PhraseFollows q form.If s) x h in
      let t = p.test in
      let o = all_forms_of (token.Sym sym.OpenBrace ∷ []) (AtStatements q (entered (ThenBlock t) s)) p.is.rest p.is.goes_on in
      let a = o.goes_on in
      let c = a.is.goes_on in
      let e = c.goes_on in
      let d = e.goes_on in
      let b = d.goes_on in
      let z = b.is.goes_on in
      record {
        statement = If t a.block b.block;
        rest = z.rest;
        is =
            λ what st.
            form_before (token.Key keyword.If) what _ x st (record {
              rest = p.is.rest;
              phrase_is = p.is.phrase_is;
              goes_on =
                  record {
                    rest = o.rest;
                    is = o.is;
                    goes_on =
                        record {
                          rest = a.is.rest;
                          phrase_is = a.is.phrase_is;
                          goes_on =
                              record {
                                rest = c.rest;
                                is = c.is;
                                goes_on =
                                    record {
                                      rest = e.rest;
                                      is = e.is;
                                      goes_on =
                                          record {
                                            rest = d.rest;
                                            is = d.is;
                                            goes_on = record { rest = b.is.rest; phrase_is = b.is.phrase_is; goes_on = record { rest = z.rest; is = z.is; goes_on = refl } };
                                          };
                                    };
                              };
                        };
                  };
            });
        after = z.goes_on;
      }

  loop_back : (x : List What) → AllSeen loop_tokens (AtPhrase q form.While s) x
      → Begun (token.Key keyword.While) x
  loop_back x h =
      let f = all_seen_ends loop_tokens (AtPhrase q form.While s) x h in
      let p = test_then (PhraseFollows q form.While s) f.rest f.holds in
      let t = p.test in
      let o = all_seen_ends guard_tokens (AtStatements q (entered (Body t) s)) p.is.rest p.is.goes_on in
      let b = o.holds in
      let z = b.is.goes_on in
      let inside : Then (IsBlock b.block) (Sign sym.CloseBrace (Ends z.rest)) o.rest = record { rest = b.is.rest; phrase_is = b.is.phrase_is; goes_on = record { rest = z.rest; is = z.is; goes_on = refl } } in
      let phrase : Then (IsTest t) (AllForms guard_tokens (Ends o.rest)) f.rest = record { rest = p.is.rest; phrase_is = p.is.phrase_is; goes_on = o.forms } in
      record {
        statement = Loop t b.block;
        rest = z.rest;
        is =
            λ what st.
            form_before (token.Key keyword.While) what (AllForms turn_tokens (Then (IsLoopTest t) (Then (IsBlock b.block) (Sign sym.CloseBrace (Ends z.rest))))) x st (all_forms_map turn_tokens (Key (codes "if") (Ends f.rest)) (Then (IsLoopTest t) (Then (IsBlock b.block) (Sign sym.CloseBrace (Ends z.rest)))) (λ y k.
            record {
              rest = o.rest;
              phrase_is = record { rest = k.rest; is = k.is; goes_on = subst (λ (v : List What). Then (IsTest t) (AllForms guard_tokens (Ends o.rest)) v) (sym k.goes_on) phrase };
              goes_on = inside;
            }) x f.forms);
        after = z.goes_on;
      }

  emit_back : (x : List What) → AllSeen (token.Sym sym.OpenParen ∷ []) (AtPhrase q form.Emit s) x → Begun (token.Key keyword.Emit) x
  emit_back x h =
      let f = all_forms_of (token.Sym sym.OpenParen ∷ []) (AtPhrase q form.Emit s) x h in
      let p = operand_then (PhraseFollows q form.Emit s) f.rest f.goes_on in
      let end = ended_statement q (token.Sym sym.CloseParen ∷ token.Sym sym.Semicolon ∷ []) s (Emit p.operand) p.is.rest p.is.goes_on in
      record {
        statement = Emit p.operand;
        rest = end.rest;
        is =
            λ what st.
            form_before (token.Key keyword.Emit) what _ x st (record { rest = f.rest; is = f.is; goes_on = record { rest = p.is.rest; phrase_is = p.is.phrase_is; goes_on = end.forms } });
        after = end.holds;
      }

  row_back : (x : List What) → AllSeen row_tokens (AtStatements q (with_statement EndRow s)) x → Begun (token.Key keyword.EndRow) x
  row_back x h =
      let end = ended_statement q row_tokens s EndRow x h in
      record { statement = EndRow; rest = end.rest; is = λ what st. form_before (token.Key keyword.EndRow) what _ x st end.forms; after = end.holds }

  return_back : (x : List What) → AtVerdict q s x → Begun (token.Key keyword.Return) x
  return_back x h =
      let v = h.verdict in
      let e = h.is.goes_on in
      record {
        statement = Ret v;
        rest = e.rest;
        is = λ what st. form_before (token.Key keyword.Return) what _ x st (record { rest = h.is.rest; is = h.is.is; goes_on = record { rest = e.rest; is = e.is; goes_on = refl } });
        after = after_at q s (Ret v) e.rest e.goes_on;
      }

  statement_back : (u : CToken) (what : What) (x : List What) → StandsFor u what → Begun u x → AtStatements q s (what ∷ x)
  statement_back u what x st b = statement_before q s b.statement (what ∷ x) b.rest (b.is what st) b.after

  -- ---- the } of a block

  text_back : (o : Option (List Statement)) → before_return s.here ≡ o → (what : What) (x : List What) → StandsFor (token.Sym sym.CloseBrace) what → Goes q (text_ends o s) x → ClosesHere q s [] (what ∷ x)
  text_back None e what x st h = absurd h
  text_back (Some before) e what x st h =
      record { body = block_from before; returns = ends_in_return s.here before e; made = h.1; is = form_before (token.Sym sym.CloseBrace) what (Ends []) x st h.0 }

  inner_back : (o : Opening) (before : List Statement) (levels : List Level) (what : What) (x : List What) → StandsFor (token.Sym sym.CloseBrace) what → Goes q (inner_closes o before levels s) x
      → ClosesHere q s (record { before = before; opening = o } ∷ levels) (what ∷ x)
  inner_back (ThenBlock u) before levels what x st h =
      let toks = token.Key keyword.Else ∷ token.Sym sym.OpenBrace ∷ [] in
      let n : State = record s { around = record { before = before; opening = Else u (block_from s.here) } ∷ levels; here = [] } in
      form_before (token.Sym sym.CloseBrace) what _ x st (all_forms_of toks (AtStatements q n) x (completes_awaits q toks next.Statements n x h))
  inner_back (Else u a) before levels what x st h =
      form_before (token.Sym sym.CloseBrace) what _ x st (subst (λ (b : Block). InBlock q s.params s.vars levels b x) (block_from_last before (If u a (block_from s.here))) h)
  inner_back (Body u) before levels what x st h =
      form_before (token.Sym sym.CloseBrace) what _ x st (subst (λ (b : Block). InBlock q s.params s.vars levels b x) (block_from_last before (Loop u (block_from s.here))) h)

  close_back : (levels : List Level) (what : What) (x : List What) → StandsFor (token.Sym sym.CloseBrace) what → Goes q (block_closes levels s) x → ClosesHere q s levels (what ∷ x)
  close_back [] what x st h = text_back (before_return s.here) refl what x st h
  close_back (l ∷ levels) what x st h = inner_back l.opening l.before levels what x st h

  -- ---- both

  pub statements_back : (t : CToken) (what : What) (x : List What) → StandsFor t what → Goes q (statement s t) x → AtStatements q s (what ∷ x)
  statements_back (token.Name letter.Variable v) what x st h =
      let f = all_forms_of (token.Sym sym.Equal ∷ []) (AtAssigned q v s) x (completes_awaits q (token.Sym sym.Equal ∷ []) (next.Assigned v) s x h) in
      statement_back (token.Name letter.Variable v) what x st (assigned_back v x f.rest f.is f.goes_on)
  statements_back (token.Key keyword.If) what x st h = statement_back (token.Key keyword.If) what x st (if_back x (completes_awaits q [] (next.Phrase form.If) s x h))
  statements_back (token.Key keyword.While) what x st h = statement_back (token.Key keyword.While) what x st (loop_back x (completes_awaits q loop_tokens (next.Phrase form.While) s x h))
  statements_back (token.Key keyword.Emit) what x st h = statement_back (token.Key keyword.Emit) what x st (emit_back x (completes_awaits q (token.Sym sym.OpenParen ∷ []) (next.Phrase form.Emit) s x h))
  statements_back (token.Key keyword.EndRow) what x st h = statement_back (token.Key keyword.EndRow) what x st (row_back x (completes_awaits q row_tokens next.Statements (with_statement EndRow s) x h))
  statements_back (token.Key keyword.Return) what x st h = statement_back (token.Key keyword.Return) what x st (return_back x (completes_awaits q [] next.Verdict s x h))
  statements_back (token.Sym sym.CloseBrace) what x st h = closes_here q s (what ∷ x) (close_back s.around what x st h)
  statements_back t what x st h = absurd h
