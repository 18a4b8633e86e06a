-- No token completes a state exactly where the automaton ends there, and with the same program.
use Rattle.std.proofs.Common.{◌≡◌, ℕ, zero, suc, ◌+◌, List, [], ◌∷◌, Option, Some, None, refl, sym, ap, subst, inl, inr, ◌⊎◌}
use Rattle.list_denotation.specs.declared.input.InputKind.{InputKind}
use Rattle.list_denotation.specs.declared.input.InputKind.TheVariants as kind
use Rattle.loop_ir.specs.Statements.{Operand, Const, Var, Len, Int, Bin, Test, Less, Same, Both, Either, Not, Statement, Set, Read, If, Loop, Emit, EndRow, Ret, Routine}
use Rattle.loop_ir.specs.StatementCopies.{block_from}
use Rattle.c_tokens.specs.Pieces.{What}
use Rattle.c_grammar.specs.Grammar.{Fixed, IsParam, AreMoreParams, AreDeclarations, IsStatement}
use Rattle.c_automaton.specs.declared.forms.Want.{Want}
use Rattle.c_automaton.specs.declared.forms.Next.{Next}
use Rattle.c_automaton.specs.declared.forms.Next.TheVariants as next
use Rattle.c_automaton.specs.Phrases.{Phrase, AnOperand, ATest, Frame, Open, Left, Negation, joined, negated}
use Rattle.c_automaton.specs.Automaton.{Opening, Then as ThenBlock, Else, Body, Level, Point, Awaits, Within, State, want_of, ended, finish}
use Rattle.c_automaton.proofs.Completions.{IsPhrase, PhraseThen, Closes, Follows, ReadsOn, PhraseFollows, BodyOpens, AtStatements, AtNext, AtPoint, Completes}
use Rattle.c_automaton.proofs.PhraseForward.{IsUnfinished}
use Rattle.c_automaton.proofs.Steps.{ClosesHere, After, statements_first}
use Rattle.c_automaton.proofs.Blocks.{StatementThen}
use Rattle.c_automaton.proofs.Reachability.{PointIsReachable, IsReachable}

-- ---- what has a first token

no_fixed : (what : What) (P : List What → Type 0) (x : List What) → x ≡ [] → Fixed what P x → ⊥
no_fixed what P x e h = let i : x ≡ what ∷ h.rest = h.is in absurd cc

no_operand : (w : Operand) (r : List What) → IsPhrase (AnOperand w) [] r → ⊥
no_operand (Const n) r h = no_fixed _ _ [] refl h
no_operand (Var k) r h = no_fixed _ _ [] refl h.fixed
no_operand (Len k) r h = no_fixed _ _ [] refl h.fixed
no_operand (Int k) r h = no_fixed _ _ [] refl h.fixed
no_operand (Bin o a b) r h = no_fixed _ _ [] refl h

no_test : (t : Test) (r : List What) → IsPhrase (ATest t) [] r → ⊥
no_test (Less a b) r h = no_fixed _ _ [] refl h
no_test (Same a b) r h = no_fixed _ _ [] refl h
no_test (Both a b) r h = no_fixed _ _ [] refl h
no_test (Either a b) r h = no_fixed _ _ [] refl h
no_test (Not a) r h = no_fixed _ _ [] refl h

no_phrase : (p : Phrase) (r : List What) → IsPhrase p [] r → ⊥
no_phrase (AnOperand w) r h = no_operand w r h
no_phrase (ATest t) r h = no_test t r h

no_phrase_then : (w : Want) (P : Phrase → List What → Type 0) → PhraseThen w P [] → ⊥
no_phrase_then w P h = no_phrase h.phrase h.is.rest h.is.phrase_is

no_close : (o : Option Phrase) (P : Phrase → List What → Type 0) → Closes o P [] → ⊥
no_close None P h = h
no_close (Some p) P h = no_fixed _ _ [] refl h

no_reading : (P : Phrase → List What → Type 0) (outer : Want) (fs : List Frame) (got : Option Phrase) → IsUnfinished fs got → ReadsOn P outer fs got [] → ⊥
no_reading P outer [] None i h = no_phrase_then _ _ h
no_reading P outer (Open w ∷ fs) None i (inl h) = no_phrase_then _ _ h
no_reading P outer (Open w ∷ fs) None i (inr h) = no_fixed _ _ [] refl h.1
no_reading P outer (Left o a ∷ fs) None i h = no_phrase_then _ _ h
no_reading P outer (Negation ∷ fs) None i h = no_phrase_then _ _ h
no_reading P outer [] (Some p) i h = i
no_reading P outer (Open w ∷ fs) (Some p) i h = no_fixed _ _ [] refl h.is
no_reading P outer (Left o a ∷ fs) (Some p) i h = no_close (joined o a p) (Follows P fs) h
no_reading P outer (Negation ∷ fs) (Some p) i h = no_close (negated p) (Follows P fs) h

no_param : (k : ℕ) (p : InputKind) (r : List What) → IsParam k p [] r → ⊥
no_param k kind.Array r h = no_fixed _ _ [] refl h
no_param k kind.Int r h = no_fixed _ _ [] refl h

no_statement : (st : Statement) (r : List What) → IsStatement st [] r → ⊥
no_statement (Set v w) r h = no_fixed _ _ [] refl h.fixed
no_statement (Read v a w) r h = no_fixed _ _ [] refl h.fixed
no_statement (If t a b) r h = no_fixed _ _ [] refl h
no_statement (Loop t b) r h = no_fixed _ _ [] refl h
no_statement (Emit w) r h = no_fixed _ _ [] refl h
no_statement EndRow r h = no_fixed _ _ [] refl h
no_statement (Ret v) r h = no_fixed _ _ [] refl h

module _ (q : Routine) where
  no_inner : (o : Opening) (before : List Statement) (levels : List Level) (s : State) → ClosesHere q s (record { before = before; opening = o } ∷ levels) [] → ⊥
  no_inner (ThenBlock t) before levels s h = no_fixed _ _ [] refl h
  no_inner (Else t a) before levels s h = no_fixed _ _ [] refl h
  no_inner (Body t) before levels s h = no_fixed _ _ [] refl h

  no_closing : (s : State) (levels : List Level) → ClosesHere q s levels [] → ⊥
  no_closing s [] h = no_fixed _ _ [] refl h.is
  no_closing s (l ∷ levels) h = no_inner l.opening l.before levels s h

  neither : (s : State) → ClosesHere q s s.around [] ⊎ StatementThen (After q s) [] → ⊥
  neither s (inl h) = no_closing s s.around h
  neither s (inr h) = no_statement h.statement h.is.rest h.is.phrase_is

  no_statements : (s : State) → AtStatements q s [] → ⊥
  no_statements s h = neither s (statements_first q s [] h)

  no_more_params : (s : State) (k : ℕ) (ps : List InputKind) (r : List What) → AreMoreParams k ps [] r → BodyOpens q s r → ⊥
  no_more_params s k [] r e h = no_fixed _ _ r (sym e) h
  no_more_params s k (p ∷ ps) r e h = no_fixed _ _ [] refl e

  no_declarations : (s : State) (k n : ℕ) (r : List What) → AreDeclarations k n [] r → AtStatements q s r → ⊥
  no_declarations s k zero r e h = no_statements s (subst (λ (x : List What). AtStatements q s x) (sym e) h)
  no_declarations s k (suc n) r e h = no_fixed _ _ [] refl e

  -- ---- both ways

  next_ended : (n : Next) (s : State) → AtNext q n s [] → ended (Awaits [] n) s ≡ Some q
  next_ended next.FirstParam s (inl h) = absurd (no_fixed _ _ [] refl h)
  next_ended next.FirstParam s (inr h) = absurd (no_param _ h.kind _ h.is.phrase_is)
  next_ended next.ParamEnd s h = absurd (no_more_params _ _ h.more _ h.is.phrase_is h.is.goes_on)
  next_ended next.FurtherParam s h = absurd (no_param _ h.kind _ h.is.phrase_is)
  next_ended next.Declarations s h = absurd (no_declarations (record s { vars = s.vars + h.more }) s.vars h.more h.is.rest h.is.phrase_is h.is.goes_on)
  next_ended next.Statements s h = absurd (no_statements s h)
  next_ended (next.Assigned v) s (inl h) = absurd (no_phrase_then _ _ h)
  next_ended (next.Assigned v) s (inr h) = absurd (no_fixed _ _ [] refl h.is.fixed)
  next_ended next.Verdict s h = absurd (no_fixed _ _ [] refl h.is)
  next_ended (next.Phrase f) s h = absurd (no_phrase_then _ _ h)
  next_ended next.End s h = ap Some (sym h.1)

  point_ended : (p : Point) (s : State) → PointIsReachable p s → AtPoint q p s [] → ended p s ≡ Some q
  point_ended (Awaits [] n) s r h = next_ended n s h
  point_ended (Awaits (a ∷ toks) n) s r h = let i : [] ≡ h.what ∷ h.rest = h.is in absurd cc
  point_ended (Within f g) s r h = absurd (no_reading (PhraseFollows q f s) (want_of f) g.frames g.got r.1 h)

  pub state_ended : (s : State) → IsReachable s → Completes q s [] → finish s ≡ Some q
  state_ended s r h = point_ended s.point s r h

  point_ends : (p : Point) (s : State) → ended p s ≡ Some q → AtPoint q p s []
  point_ends (Awaits [] next.End) s e = let i : q ≡ record { params = s.params; vars = s.vars; body = block_from s.here } = cc in (refl, i)
  point_ends p s e = absurd cc

  pub state_ends : (s : State) → finish s ≡ Some q → Completes q s []
  state_ends s e = point_ends s.point s e
