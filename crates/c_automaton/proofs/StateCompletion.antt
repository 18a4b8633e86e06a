-- Each state that the automaton comes to is completed by some tokens.
use Rattle.std.proofs.Common.{decimal, ◌≡◌, ℕ, ◌+◌, ◌<◌, ◌^◌, true, List, [], ◌∷◌, ◌++◌, length, None, refl, inl}
use Rattle.list_denotation.specs.declared.input.InputKind.{InputKind}
use Rattle.list_denotation.specs.declared.input.InputKind.TheVariants as kind
use Rattle.loop_ir.specs.declared.syntax.Verdict.TheVariants as verdict
use Rattle.loop_ir.specs.Statements.{Statement, Set, Read, If, Loop, Emit, Ret, Block, Nil, join, Routine}
use Rattle.loop_ir.specs.StatementCopies.{block_from}
use Rattle.c_tokens.specs.Pieces as piece
use Rattle.c_tokens.specs.Pieces.{What, Word}
use Rattle.c_tokens.specs.declared.symbol.Symbol.TheVariants as sym
use Rattle.c_grammar.specs.Grammar.{Ends}
use Rattle.c_words.specs.Words.{StandsFor, keyword_text, letter_text}
use Rattle.c_words.specs.declared.token.CToken.{CToken}
use Rattle.c_words.specs.declared.token.CToken.TheVariants as token
use Rattle.c_words.specs.declared.token.Keyword.TheVariants as keyword
use Rattle.c_words.specs.declared.token.Letter.TheVariants as letter
use Rattle.c_automaton.specs.declared.forms.Form.{Form}
use Rattle.c_automaton.specs.declared.forms.Form.TheVariants as form
use Rattle.c_automaton.specs.declared.forms.Next.{Next}
use Rattle.c_automaton.specs.declared.forms.Next.TheVariants as next
use Rattle.c_automaton.specs.Phrases.{Phrase, AnOperand, ATest, allows}
use Rattle.c_automaton.specs.Automaton.{Opening, Then as ThenBlock, Else, Body, Level, Point, Awaits, Within, State, with_param, with_statement, entered, want_of}
use Rattle.c_automaton.proofs.Completions.{AllSeen, BlockThen, BlockCloses, TextCloses, one_statement, InBlock, AtStatements, AtDeclarations, BodyOpens, AtParamEnd, AtFurtherParam, AtFirstParam, PhraseFollows, AtPhrase, AtVerdict, AtNext, AtPoint, Completes}
use Rattle.c_automaton.proofs.TokenForms.{AllForms, all_forms_of}
use Rattle.c_automaton.proofs.Blocks.{no_more, one_more}
use Rattle.c_automaton.proofs.Steps.{guard_tokens}
use Rattle.c_automaton.proofs.ReturnsLast.{last_return}
use Rattle.c_automaton.proofs.PhraseStates.{unbegun_sound}
use Rattle.c_automaton.proofs.PhraseCompletion.{phrase_completion}
use Rattle.c_automaton.proofs.Reachability.{CanCome, AllCanCome, PointIsReachable, IsReachable}

-- some tokens are so, for some program
abbrev pub Completable : (Routine → List What → Type 0) → Type 0
Completable are = (q : Routine) × ((x : List What) × are q x)

-- ---- tokens

some_what : (t : CToken) → CanCome t → (what : What) × StandsFor t what
some_what (token.Key k) h = (Word (keyword_text k), refl)
some_what (token.Name l n) h = (Word (letter_text l ++ decimal n), (h, refl))
some_what token.OtherWord h = absurd h
some_what (token.Bare n) h = (piece.Bare n, refl)
some_what (token.Constant n) h = (piece.Const n, refl)
some_what (token.Sym s) h = (piece.Sym s, refl)

-- tokens of which a reader can see each
seen_before : (toks : List CToken) (P : List What → Type 0) (x : List What) → AllCanCome toks → P x → (y : List What) × AllSeen toks P y
seen_before [] P x h p = (x, p)
seen_before (t ∷ toks) P x h p =
    let w = some_what t h.0 in
    let r = seen_before toks P x h.1 p in
    (w.0 ∷ r.0, record { what = w.0; rest = r.0; is = refl; stands = w.1; goes_on = r.1 })

forms_before : (toks : List CToken) (P : List What → Type 0) (x : List What) → AllCanCome toks → P x → (y : List What) × AllForms toks P y
forms_before toks P x h p = let r = seen_before toks P x h p in (r.0, all_forms_of toks P r.0 r.1)

seen_completable : (toks : List CToken) (are : Routine → List What → Type 0) → AllCanCome toks → Completable are → Completable (λ q x. AllSeen toks (are q) x)
seen_completable toks are h c = (c.0, seen_before toks (are c.0) c.1.0 h c.1.1)

-- ---- blocks

module _ (params : List InputKind) (vars : ℕ) where
  abbrev Inside : List Level → Block → Type 0
  Inside levels here = Completable (λ q x. InBlock q params vars levels here x)

  -- return 0; }
  text_completable : (here : Block) → Inside [] here
  text_completable here =
      let q : Routine = record { params = params; vars = vars; body = here } in
      let r : List What = piece.Sym sym.CloseBrace ∷ [] in
      let closes : TextCloses q params vars (join here last_return) r = record { body = here; returns = refl; made = refl; is = record { rest = []; is = refl; goes_on = refl } } in
      let ret = forms_before (token.Key keyword.Return ∷ token.Bare 0 ∷ token.Sym sym.Semicolon ∷ []) (Ends r) r (tt, (tt, (tt, tt))) refl in
      (q, (ret.0, one_more (TextCloses q params vars) here (Ret verdict.Done) ret.0 r ret.1 (no_more (TextCloses q params vars) (join here last_return) r closes)))

  inner_completable : (o : Opening) (before : List Statement) (levels : List Level) (here : Block) → ((b : Block) → Inside levels b) → Inside (record { before = before; opening = o } ∷ levels) here
  inner_completable (ThenBlock t) before levels here f =
      let After : Routine → Statement → List What → Type 0 = λ q st y. InBlock q params vars levels (join (block_from before) (one_statement st)) y in
      let c = f (join (block_from before) (one_statement (If t here Nil))) in
      let q = c.0 in
      let y : List What = piece.Sym sym.CloseBrace ∷ c.1.0 in
      let second : BlockThen (λ b z. AllForms (token.Sym sym.CloseBrace ∷ []) (After q (If t here b)) z) y = record { block = Nil; is = record { rest = y; phrase_is = refl; goes_on = record { rest = c.1.0; is = refl; goes_on = c.1.1 } } } in
      let r = forms_before (token.Sym sym.CloseBrace ∷ token.Key keyword.Else ∷ token.Sym sym.OpenBrace ∷ []) (BlockThen (λ b z. AllForms (token.Sym sym.CloseBrace ∷ []) (After q (If t here b)) z)) y (tt, (tt, (tt, tt))) second in
      (q, (r.0, no_more (λ b z. BlockCloses (ThenBlock t) b (After q) z) here r.0 r.1))
  inner_completable (Else t a) before levels here f =
      let c = f (join (block_from before) (one_statement (If t a here))) in
      let q = c.0 in
      (q, (piece.Sym sym.CloseBrace ∷ c.1.0, no_more (λ b z. BlockCloses (Else t a) b (λ st y. InBlock q params vars levels (join (block_from before) (one_statement st)) y) z) here _ (record { rest = c.1.0; is = refl; goes_on = c.1.1 })))
  inner_completable (Body t) before levels here f =
      let c = f (join (block_from before) (one_statement (Loop t here))) in
      let q = c.0 in
      (q, (piece.Sym sym.CloseBrace ∷ c.1.0, no_more (λ b z. BlockCloses (Body t) b (λ st y. InBlock q params vars levels (join (block_from before) (one_statement st)) y) z) here _ (record { rest = c.1.0; is = refl; goes_on = c.1.1 })))

  block_completable : (levels : List Level) (here : Block) → Inside levels here
  block_completable [] here = text_completable here
  block_completable (l ∷ levels) here = inner_completable l.opening l.before levels here (λ b. block_completable levels b)

statements_completable : (s : State) → Completable (λ q x. AtStatements q s x)
statements_completable s = block_completable s.params s.vars s.around (block_from s.here)

-- ---- parameters and declarations

declarations_completable : (s : State) → Completable (λ q x. AtDeclarations q s x)
declarations_completable s =
    let c = statements_completable (record s { vars = s.vars + 0 }) in
    (c.0, (c.1.0, record { more = 0; is = record { rest = c.1.0; phrase_is = refl; goes_on = c.1.1 } }))

body_completable : (s : State) → Completable (λ q x. BodyOpens q s x)
body_completable s =
    let c = declarations_completable s in
    (c.0, forms_before (token.Sym sym.CloseParen ∷ token.Sym sym.OpenBrace ∷ []) (AtDeclarations c.0 s) c.1.0 (tt, (tt, tt)) c.1.1)

param_end_completable : (s : State) → Completable (λ q x. AtParamEnd q s x)
param_end_completable s =
    let c = body_completable (record s { params = s.params ++ [] }) in
    (c.0, (c.1.0, record { more = []; is = record { rest = c.1.0; phrase_is = refl; goes_on = c.1.1 } }))

further_param_completable : (s : State) → length s.params < 2 ^ 32 → Completable (λ q x. AtFurtherParam q s x)
further_param_completable s small =
    let c = param_end_completable (with_param kind.Int s) in
    let i = forms_before (token.Key keyword.Uint64 ∷ token.Name letter.Int (length s.params) ∷ []) (Ends c.1.0) c.1.0 (tt, (small, tt)) refl in
    (c.0, (i.0, record { kind = kind.Int; is = record { rest = c.1.0; phrase_is = i.1; goes_on = c.1.1 } }))

first_param_completable : (s : State) → Completable (λ q x. AtFirstParam q s x)
first_param_completable s =
    let c = body_completable s in
    let r = forms_before (token.Key keyword.Void ∷ []) (BodyOpens c.0 s) c.1.0 (tt, tt) c.1.1 in
    (c.0, (r.0, inl r.1))

-- ---- statements

verdict_completable : (s : State) → Completable (λ q x. AtVerdict q s x)
verdict_completable s =
    let n : State = record s { here = s.here ++ Ret verdict.Done ∷ [] } in
    let c = statements_completable n in
    let r = forms_before (token.Bare 0 ∷ token.Sym sym.Semicolon ∷ []) (AtStatements c.0 n) c.1.0 (tt, (tt, tt)) c.1.1 in
    (c.0, (r.0, record { verdict = verdict.Done; is = r.1 }))

-- behind the tokens that end a phrase there are statements
ends_completable : (toks : List CToken) (s : State) → AllCanCome toks → Completable (λ q x. AllSeen toks (AtStatements q s) x)
ends_completable toks s h = seen_completable toks (λ q x. AtStatements q s x) h (statements_completable s)

after_completable : (f : Form) (s : State) (p : Phrase) → allows (want_of f) p ≡ true → Completable (λ q x. PhraseFollows q f s p x)
after_completable (form.Set v) s (AnOperand w) e = ends_completable (token.Sym sym.Semicolon ∷ []) (with_statement (Set v w) s) (tt, tt)
after_completable (form.Read v a) s (AnOperand w) e = ends_completable (token.Sym sym.CloseBracket ∷ token.Sym sym.Semicolon ∷ []) (with_statement (Read v a w) s) (tt, (tt, tt))
after_completable form.Emit s (AnOperand w) e = ends_completable (token.Sym sym.CloseParen ∷ token.Sym sym.Semicolon ∷ []) (with_statement (Emit w) s) (tt, (tt, tt))
after_completable form.If s (ATest t) e = ends_completable (token.Sym sym.OpenBrace ∷ []) (entered (ThenBlock t) s) (tt, tt)
after_completable form.While s (ATest t) e = ends_completable guard_tokens (entered (Body t) s) (tt, (tt, (tt, (tt, (tt, (tt, (tt, tt)))))))
after_completable f s p e = absurd cc

phrase_completable : (f : Form) (s : State) → Completable (λ q x. AtPhrase q f s x)
phrase_completable f s = phrase_completion (λ q p x. PhraseFollows q f s p x) (want_of f) [] None (λ p e. after_completable f s p e) (unbegun_sound (want_of f))

-- ---- states

next_completable : (n : Next) (s : State) → PointIsReachable (Awaits [] n) s → Completable (λ q x. AtNext q n s x)
next_completable next.FirstParam s h = first_param_completable s
next_completable next.ParamEnd s h = param_end_completable s
next_completable next.FurtherParam s h = further_param_completable s h.1
next_completable next.Declarations s h = declarations_completable s
next_completable next.Statements s h = statements_completable s
next_completable (next.Assigned v) s h = let c = phrase_completable (form.Set v) s in (c.0, (c.1.0, inl c.1.1))
next_completable next.Verdict s h = verdict_completable s
next_completable (next.Phrase f) s h = phrase_completable f s
next_completable next.End s h = (record { params = s.params; vars = s.vars; body = block_from s.here }, ([], (refl, refl)))

point_completable : (p : Point) (s : State) → PointIsReachable p s → Completable (λ q x. AtPoint q p s x)
point_completable (Awaits toks n) s h = seen_completable toks (λ q x. AtNext q n s x) h.0 (next_completable n s (tt, h.1))
point_completable (Within f r) s h = phrase_completion (λ q p x. PhraseFollows q f s p x) (want_of f) r.frames r.got (λ p e. after_completable f s p e) h.0

pub state_completable : (s : State) → IsReachable s → Completable (λ q x. Completes q s x)
state_completable s h = point_completable s.point s h
