-- Whether the last statement is return 0 doesn't hang on those before it.
use Rattle.std.proofs.Common.{◌≡◌, Bool, true, false, cond, List, [], ◌∷◌, ◌++◌, Some, None, refl, ap, ◌∙◌}
use Rattle.loop_ir.specs.declared.syntax.Verdict.TheVariants as verdict
use Rattle.loop_ir.specs.Statements.{Statement, Ret}
use Rattle.c_automaton.specs.Automaton.{before_return, behind}

-- a statement before others stays
behind_first : (st u : Statement) (ss : List Statement) → before_return (st ∷ (ss ++ u ∷ [])) ≡ behind st (before_return (ss ++ u ∷ []))
behind_first (Ret verdict.Done) u [] = refl
behind_first (Ret verdict.Done) u (s ∷ ss) = refl
behind_first (Ret verdict.Trap) u ss = refl
behind_first st u ss = refl

behind_choice : (st : Statement) (b : Bool) (ss : List Statement) → behind st (cond b (Some ss) None) ≡ cond b (Some (st ∷ ss)) None
behind_choice st true ss = refl
behind_choice st false ss = refl

pub before_last : (ss : List Statement) (u : Statement) (b : Bool) → before_return (u ∷ []) ≡ cond b (Some []) None → before_return (ss ++ u ∷ []) ≡ cond b (Some ss) None
before_last [] u b h = h
before_last (st ∷ ss) u b h = behind_first st u ss ∙ ap (behind st) (before_last ss u b h) ∙ behind_choice st b ss
