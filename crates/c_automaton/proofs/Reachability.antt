-- Which states the automaton comes to: the tokens that it awaits can come, and its phrases are such as may be where they are.
use Rattle.std.proofs.Common.{◌≡◌, ℕ, ◌<◌, ◌^◌, nat_lt, Bool, true, false, cond, List, [], ◌∷◌, length, Option, Some, None, refl, subst}
use Rattle.list_denotation.specs.declared.input.InputKind.{InputKind}
use Rattle.list_denotation.specs.declared.input.InputKind.TheVariants as kind
use Rattle.loop_ir.specs.Statements.{Statement}
use Rattle.c_tokens.specs.declared.symbol.Symbol.TheVariants as sym
use Rattle.c_words.specs.declared.token.CToken.{CToken}
use Rattle.c_words.specs.declared.token.CToken.TheVariants as token
use Rattle.c_words.specs.declared.token.Keyword.TheVariants as keyword
use Rattle.c_words.specs.declared.token.Letter.TheVariants as letter
use Rattle.c_words.specs.SameTokens.{is_same_token}
use Rattle.c_automaton.specs.declared.forms.Form.{Form}
use Rattle.c_automaton.specs.declared.forms.Form.TheVariants as form
use Rattle.c_automaton.specs.declared.forms.Next.{Next}
use Rattle.c_automaton.specs.declared.forms.Next.TheVariants as next
use Rattle.c_automaton.specs.Phrases.{Phrase, AnOperand, ATest, Frame, Reading, reads_on}
use Rattle.c_automaton.specs.Automaton.{Opening, Then as ThenBlock, Else, Body, Level, Point, Awaits, Within, State, awaits, param_tokens, param_begins, param, first_param, param_ends, declaration, statement, block_closes, inner_closes, before_return, text_ends, verdict_of, want_of, finished, read_on, within, phrase, unbegun, assigned, at_next, at_point, step, if_it_fits}
use Rattle.c_automaton.proofs.PhraseStates.{IsSound, unbegun_sound, phrase_sound}
use Rattle.c_automaton.proofs.PhraseForward.{IsUnfinished}
use Rattle.c_automaton.proofs.NumberFits.{fits_below}

-- a reader can see it
abbrev pub CanCome : CToken → Type 0
CanCome (token.Name l n) = n < 2 ^ 32
CanCome token.OtherWord = ⊥
CanCome t = Unit {0}

abbrev pub AllCanCome : List CToken → Type 0
AllCanCome [] = Unit {0}
AllCanCome (t ∷ toks) = CanCome t × AllCanCome toks

-- a further parameter's number fits in a name
abbrev pub NextCanCome : Next → State → Type 0
NextCanCome next.FurtherParam s = length s.params < 2 ^ 32
NextCanCome n s = Unit {0}

abbrev pub PointIsReachable : Point → State → Type 0
PointIsReachable (Awaits toks n) s = AllCanCome toks × NextCanCome n s
PointIsReachable (Within f r) s = IsSound (want_of f) r.frames r.got × IsUnfinished r.frames r.got

abbrev pub IsReachable : State → Type 0
IsReachable s = PointIsReachable s.point s

-- where a step goes, it goes to such a state
abbrev Reaches : Option State → Type 0
Reaches None = Unit {0}
Reaches (Some s) = IsReachable s

-- ---- parameters and declarations

reaches_where : (k : ℕ) (to : Option State) (b : Bool) → nat_lt k (2 ^ 32) ≡ b → (k < 2 ^ 32 → Reaches to) → Reaches (cond b to None)
reaches_where k to true e f = f (fits_below k e)
reaches_where k to false e f = tt

if_it_fits_reaches : (k : ℕ) (to : Option State) → (k < 2 ^ 32 → Reaches to) → Reaches (if_it_fits k to)
if_it_fits_reaches k to f = reaches_where k to (nat_lt k (2 ^ 32)) refl f

param_can_come : (k : ℕ) (p : InputKind) → k < 2 ^ 32 → AllCanCome (param_tokens k p)
param_can_come k kind.Array h = (tt, (tt, (h, (tt, (tt, (h, tt))))))
param_can_come k kind.Int h = (h, tt)

param_begins_reaches : (p : InputKind) (s : State) → Reaches (param_begins p s)
param_begins_reaches p s = if_it_fits_reaches (length s.params) _ (λ h. (param_can_come (length s.params) p h, tt))

param_reaches : (s : State) (t : CToken) → Reaches (param s t)
param_reaches s (token.Key keyword.Const) = param_begins_reaches kind.Array s
param_reaches s (token.Key keyword.Uint64) = param_begins_reaches kind.Int s
param_reaches s t = tt

first_param_reaches : (s : State) (t : CToken) → Reaches (first_param s t)
first_param_reaches s (token.Key keyword.Void) = ((tt, (tt, tt)), tt)
first_param_reaches s t = param_reaches s t

param_ends_reaches : (s : State) (t : CToken) → Reaches (param_ends s t)
param_ends_reaches s (token.Sym sym.Comma) = if_it_fits_reaches (length s.params) (awaits [] next.FurtherParam s) (λ h. (tt, h))
param_ends_reaches s (token.Sym sym.CloseParen) = ((tt, tt), tt)
param_ends_reaches s t = tt

-- ---- statements

text_ends_reaches : (o : Option (List Statement)) (s : State) → Reaches (text_ends o s)
text_ends_reaches None s = tt
text_ends_reaches (Some body) s = (tt, tt)

inner_closes_reaches : (o : Opening) (before : List Statement) (levels : List Level) (s : State) → Reaches (inner_closes o before levels s)
inner_closes_reaches (ThenBlock t) before levels s = ((tt, (tt, tt)), tt)
inner_closes_reaches (Else t a) before levels s = (tt, tt)
inner_closes_reaches (Body t) before levels s = (tt, tt)

block_closes_reaches : (levels : List Level) (s : State) → Reaches (block_closes levels s)
block_closes_reaches [] s = text_ends_reaches (before_return s.here) s
block_closes_reaches (l ∷ levels) s = inner_closes_reaches l.opening l.before levels s

statement_reaches : (s : State) (t : CToken) → Reaches (statement s t)
statement_reaches s (token.Name letter.Variable v) = ((tt, tt), tt)
statement_reaches s (token.Key keyword.If) = (tt, tt)
statement_reaches s (token.Key keyword.While) = ((tt, (tt, (tt, (tt, (tt, tt))))), tt)
statement_reaches s (token.Key keyword.Emit) = ((tt, tt), tt)
statement_reaches s (token.Key keyword.EndRow) = ((tt, (tt, (tt, tt))), tt)
statement_reaches s (token.Key keyword.Return) = (tt, tt)
statement_reaches s (token.Sym sym.CloseBrace) = block_closes_reaches s.around s
statement_reaches s t = tt

declaration_reaches : (s : State) (t : CToken) → Reaches (declaration s t)
declaration_reaches s (token.Key keyword.Uint64) = if_it_fits_reaches s.vars _ (λ h. ((h, (tt, (tt, (tt, tt)))), tt))
declaration_reaches s t = statement_reaches s t

verdict_reaches : (s : State) (t : CToken) → Reaches (verdict_of s t)
verdict_reaches s (token.Bare ℕ.zero) = ((tt, tt), tt)
verdict_reaches s (token.Bare (ℕ.suc ℕ.zero)) = ((tt, tt), tt)
verdict_reaches s t = tt

-- ---- phrases

finished_reaches : (f : Form) (p : Phrase) (s : State) → Reaches (finished f p s)
finished_reaches (form.Set v) (AnOperand w) s = ((tt, tt), tt)
finished_reaches (form.Read v a) (AnOperand w) s = ((tt, (tt, tt)), tt)
finished_reaches form.Emit (AnOperand w) s = ((tt, (tt, tt)), tt)
finished_reaches form.If (ATest t) s = ((tt, tt), tt)
finished_reaches form.While (ATest t) s = ((tt, (tt, (tt, (tt, (tt, (tt, (tt, tt))))))), tt)
finished_reaches f p s = tt

read_on_reaches : (f : Form) (s : State) (fs : List Frame) (got : Option Phrase) → IsSound (want_of f) fs got → Reaches (read_on f s fs got)
read_on_reaches f s [] (Some p) h = finished_reaches f p s
read_on_reaches f s fs got h = (h, tt)

within_reaches : (f : Form) (r : Reading) (s : State) (t : CToken) (g : Option Reading) → IsSound (want_of f) r.frames r.got → reads_on (want_of f) r.frames r.got t ≡ g → Reaches (within f s g)
within_reaches f r s t None h e = tt
within_reaches f r s t (Some n) h e = read_on_reaches f s n.frames n.got (phrase_sound (want_of f) r.frames r.got t n h e)

phrase_reaches : (f : Form) (r : Reading) (s : State) (t : CToken) → IsSound (want_of f) r.frames r.got → Reaches (phrase f r s t)
phrase_reaches f r s t h = within_reaches f r s t (reads_on (want_of f) r.frames r.got t) h refl

assigned_reaches : (v : ℕ) (s : State) (t : CToken) → Reaches (assigned v s t)
assigned_reaches v s (token.Name letter.Array a) = ((tt, tt), tt)
assigned_reaches v s t = phrase_reaches (form.Set v) unbegun s t (unbegun_sound (want_of (form.Set v)))

-- ---- steps

next_reaches : (n : Next) (s : State) (t : CToken) → Reaches (at_next n s t)
next_reaches next.FirstParam s t = first_param_reaches s t
next_reaches next.ParamEnd s t = param_ends_reaches s t
next_reaches next.FurtherParam s t = param_reaches s t
next_reaches next.Declarations s t = declaration_reaches s t
next_reaches next.Statements s t = statement_reaches s t
next_reaches (next.Assigned v) s t = assigned_reaches v s t
next_reaches next.Verdict s t = verdict_reaches s t
next_reaches (next.Phrase f) s t = phrase_reaches f unbegun s t (unbegun_sound (want_of f))
next_reaches next.End s t = tt

next_same : (n : Next) (s : State) (at : Point) → NextCanCome n s → NextCanCome n (record s { point = at })
next_same next.FurtherParam s at h = h
next_same n s at h = tt

awaited_reaches : (b : Bool) (toks : List CToken) (n : Next) (s : State) → AllCanCome toks → NextCanCome n s → Reaches (cond b (awaits toks n s) None)
awaited_reaches true toks n s h k = (h, next_same n s (Awaits toks n) k)
awaited_reaches false toks n s h k = tt

point_reaches : (p : Point) (s : State) (t : CToken) → PointIsReachable p s → Reaches (at_point p s t)
point_reaches (Awaits [] n) s t h = next_reaches n s t
point_reaches (Awaits (a ∷ toks) n) s t h = awaited_reaches (is_same_token a t) toks n s h.0.1 h.1
point_reaches (Within f r) s t h = phrase_reaches f r s t h.0

pub step_reaches : (s : State) (t : CToken) (n : State) → IsReachable s → step s t ≡ Some n → IsReachable n
step_reaches s t n h e = subst (λ (o : Option State). Reaches o) e (point_reaches s.point s t h)
