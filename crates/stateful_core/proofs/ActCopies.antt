-- The copies of acts, one by one, and acts in order.
use Rattle.std.proofs.Common.{rules, ◌≡◌, ℕ, List, [], ◌∷◌, ◌++◌, refl, ap}
use Rattle.list_denotation.specs.declared.expr.Expr.{Expr}
use Rattle.list_denotation.specs.Copies.{term_of, terms_of}
use Rattle.stateful_core.specs.declared.core_term.Act.{Act, the_lemmas}
use Rattle.stateful_core.specs.declared.core_term.Act.TheVariants as act
use Rattle.stateful_core.specs.CoreTerms.{Let, Read, KeepIf, StopUnless, Update, When, Actions, Nil, Cons, join}
use Rattle.stateful_core.specs.CoreCopies.{action_of, actions_of}

-- ---- one act

pub let_copy : (e : Expr) → action_of (act.Let e) ≡ Let (term_of e)
let_copy e = search (rules, the_lemmas)

pub read_copy : (k : ℕ) (e : Expr) → action_of (act.Read k e) ≡ Read k (term_of e)
read_copy k e = search (rules, the_lemmas)

pub keep_copy : (e : Expr) → action_of (act.KeepIf e) ≡ KeepIf (term_of e)
keep_copy e = search (rules, the_lemmas)

pub stop_copy : (e : Expr) → action_of (act.StopUnless e) ≡ StopUnless (term_of e)
stop_copy e = search (rules, the_lemmas)

pub update_copy : (k : ℕ) (es : List Expr) → action_of (act.Update k es) ≡ Update k (terms_of es)
update_copy k es = search (rules, the_lemmas)

pub when_copy : (e : Expr) (a b : List Act) → action_of (act.When e a b) ≡ When (term_of e) (actions_of a) (actions_of b)
when_copy e a b = search (rules, the_lemmas)

-- ---- acts in order

pub join_join : (a b c : Actions) → join (join a b) c ≡ join a (join b c)
join_join Nil b c = refl
join_join (Cons s a) b c = ap (λ z. Cons s z) (join_join a b c)

pub join_nil : (a : Actions) → join a Nil ≡ a
join_nil Nil = refl
join_nil (Cons s a) = ap (λ z. Cons s z) (join_nil a)

-- one act more
pub act_push : (acts : List Act) (a : Act) → actions_of (acts ++ a ∷ []) ≡ join (actions_of acts) (Cons (action_of a) Nil)
act_push [] a = refl
act_push (x ∷ acts) a = ap (λ z. Cons (action_of x) z) (act_push acts a)
