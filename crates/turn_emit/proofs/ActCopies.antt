-- The copies of acts in order.
use Rattle.std.proofs.Common.{◌≡◌, ◌-◌, ◌≤◌, List, [], ◌∷◌, length, get_or, take, drop, sym, ap, ◌∙◌, arith}
use Rattle.std.proofs.Math.Seq.{take-length}
use Rattle.stateful_core.specs.declared.core_term.Act.{Act}
use Rattle.stateful_core.specs.CoreTerms.{Cons}
use Rattle.stateful_core.specs.CoreCopies.{action_of, actions_of}

-- acts are the first one and those behind it
pub first_and_rest : (acts : List Act) (x : Act) → 1 ≤ length acts → x ≡ get_or acts 0 x → actions_of acts ≡ Cons (action_of x) (actions_of (take (length acts - 1) (drop 1 acts)))
first_and_rest [] x le is = absurd (omega (arith, le))
first_and_rest (a ∷ acts) x le is =
    let one : length (a ∷ acts) - 1 ≡ length acts = omega arith in
    ap (λ y. Cons (action_of y) (actions_of acts)) (sym is)
    ∙ ap (λ l. Cons (action_of x) (actions_of l)) (sym (ap (λ n. take n acts) one ∙ take-length acts))
