-- Acts that the code appends one by one.
use Rattle.std.proofs.Common.{◌≡◌, ℕ, ◌+◌, ◌≤◌, List, [], ◌∷◌, ◌++◌, length, drop, Some, true, false, refl, sym, ap, ◌∙◌, arith}
use Rattle.std.specs.Prelude.{slice_get}
use Rattle.std.proofs.lemmas.List.{drop_all}
use Rattle.strm_num.proofs.Lists.{drop_at}
use Rattle.list_denotation.specs.declared.expr.Expr.{Expr}
use Rattle.list_denotation.specs.declared.expr.Expr.TheVariants as expr
use Rattle.list_denotation.proofs.MadeRows.{terms_length}
use Rattle.list_denotation.specs.Copies.{term_of, terms_of}
use Rattle.list_denotation.specs.TermRows.{variables}
use Rattle.list_denotation.specs.Terms.{Term, Var}
use Rattle.list_denotation.specs.Typing.{all_undivided, is_undivided}
use Rattle.stateful_core.specs.declared.core_term.Act.{Act}
use Rattle.stateful_core.specs.declared.core_term.Act.TheVariants as act
use Rattle.stateful_core.specs.CoreTerms.{Action, Let, Update, When, Actions, Nil, Cons, join}
use Rattle.stateful_core.specs.CoreCopies.{action_of, actions_of}
use Rattle.stateful_core.specs.StreamCores.{let_all, set_state, next_state, test_acts, one_less, drop_acts}
use Rattle.stateful_core.proofs.ActCopies.{let_copy, keep_copy, update_copy, when_copy, join_join, join_nil, act_push}

-- an act before what is still to come
acts_push : (acts : List Act) (a : Act) (rest : Actions) → join (actions_of (acts ++ a ∷ [])) rest ≡ join (actions_of acts) (Cons (action_of a) rest)
acts_push [] a rest = refl
acts_push (x ∷ acts) a rest = ap (λ z. Cons (action_of x) z) (acts_push acts a rest)

pub let_step : (acts : List Act) (es : List Expr) (i : ℕ) (e c : Expr) → slice_get es i ≡ Some e → term_of c ≡ term_of e → join (actions_of (acts ++ act.Let c ∷ [])) (let_all (terms_of (drop (i + 1) es)) Nil) ≡ join (actions_of acts) (let_all (terms_of (drop i es)) Nil)
let_step acts es i e c h q =
    acts_push acts (act.Let c) (let_all (terms_of (drop (i + 1) es)) Nil)
    ∙ ap (λ a. join (actions_of acts) (Cons a (let_all (terms_of (drop (i + 1) es)) Nil))) (let_copy c ∙ ap Let q)
    ∙ sym (ap (λ l. join (actions_of acts) (let_all (terms_of l) Nil)) (drop_at es i e h))

pub let_end : (acts : List Act) (es : List Expr) (i : ℕ) → length es ≤ i → join (actions_of acts) (let_all (terms_of (drop i es)) Nil) ≡ actions_of acts
let_end acts es i h = ap (λ l. join (actions_of acts) (let_all (terms_of l) Nil)) (drop_all i es h) ∙ join_nil (actions_of acts)

pub ruleset let_steps = (let_step, let_end)

pub set_push : (acts : List Act) (es : List Expr) → actions_of (acts ++ act.Update 0 es ∷ []) ≡ join (actions_of acts) (set_state (terms_of es))
set_push acts es = act_push acts (act.Update 0 es) ∙ ap (λ a. join (actions_of acts) (Cons a Nil)) (update_copy 0 es)

pub ruleset set_steps = (set_push)

pub lets_join : (es : List Term) (more : Actions) → join (let_all es Nil) more ≡ let_all es more
lets_join [] more = refl
lets_join (e ∷ es) more = ap (λ z. Cons (Let e) z) (lets_join es more)

-- a row that can't trap is written at once
pub state_at_once : (k : ℕ) (old new : Actions) (es : List Term) (row : List Term) → all_undivided es ≡ true → row ≡ es → new ≡ join old (set_state row) → new ≡ join old (next_state k es)
state_at_once k old new es row u q h = h ∙ rw (u, q) refl

pub state_from_locals : (k : ℕ) (old mid new : Actions) (es : List Expr) (row : List Term) → all_undivided (terms_of es) ≡ false → mid ≡ join old (let_all (terms_of es) Nil) → row ≡ variables k (length es) → new ≡ join mid (set_state row) → new ≡ join old (next_state k (terms_of es))
state_from_locals k old mid new es row u m q h =
    h ∙ ap (λ a. join a (set_state row)) m ∙ join_join old (let_all (terms_of es) Nil) (set_state row) ∙ ap (join old) (lets_join (terms_of es) (set_state row))
    ∙ ap (λ r. join old (let_all (terms_of es) (set_state r))) (q ∙ ap (variables k) (sym (terms_length es))) ∙ rw u refl

pub ruleset state_steps = (state_at_once, state_from_locals)

pub test_at_once : (test : Term → Action) (k : ℕ) (e : Term) (a : Act) → is_undivided e ≡ true → action_of a ≡ test e → actions_of ([] ++ a ∷ []) ≡ test_acts test k e
test_at_once test k e a u h = ap (λ z. Cons z Nil) h ∙ rw u refl

pub test_from_local : (test : Term → Action) (k : ℕ) (e : Expr) (c : Expr) (a : Act) (v : Term) → is_undivided (term_of e) ≡ false → term_of c ≡ term_of e → action_of a ≡ test v → v ≡ Var k → actions_of (([] ++ act.Let c ∷ []) ++ a ∷ []) ≡ test_acts test k (term_of e)
test_from_local test k e c a v u q h w = ap (λ z. Cons z (Cons (action_of a) Nil)) (let_copy c ∙ ap Let q) ∙ ap (λ z. Cons (Let (term_of e)) (Cons z Nil)) (h ∙ ap test w) ∙ rw u refl

-- the number of a row's expressions, as the code counts them
pub length_terms : (es : List Expr) (n : ℕ) → length (terms_of es) ≤ n → length es ≤ n
length_terms es n h = omega (arith, terms_length es)

pub ruleset row_steps = (length_terms, lets_join)

pub ruleset test_steps = (test_at_once, test_from_local)

-- ---- the acts of drop

pub drop_made : (first : List Act) (k : ℕ) → actions_of first ≡ set_state (one_less k ∷ []) → actions_of ([] ++ act.When (expr.Var k) (first ++ act.KeepIf (expr.Truth false) ∷ []) [] ∷ []) ≡ drop_acts k
drop_made first k h =
    ap (λ z. Cons z Nil)
    (when_copy (expr.Var k) (first ++ act.KeepIf (expr.Truth false) ∷ []) []
    ∙ ap (λ z. When (Var k) z Nil)
    (act_push first (act.KeepIf (expr.Truth false)) ∙ ap (λ z. join z (Cons (action_of (act.KeepIf (expr.Truth false))) Nil)) h
    ∙ ap (λ z. Cons (Update 0 (one_less k ∷ [])) (Cons z Nil)) (keep_copy (expr.Truth false))))
