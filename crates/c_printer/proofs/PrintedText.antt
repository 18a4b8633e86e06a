-- How the text of a part goes on, piece by piece.
use Rattle.std.proofs.Common.{◌≡◌, ◌+◌, ◌-◌, ◌<◌, ◌≤◌, ℕ, suc, List, [], ◌∷◌, ◌++◌, length, drop, ap, ◌∙◌, arith, append_assoc, codes, Some, Ok, Err}
use Rattle.std.specs.Prelude.{slice_get, Result, OnOk}
use Rattle.std.proofs.lemmas.List.{at_drop_more, at_drop_all}
use Rattle.std.proofs.lemmas.Option.{slice_get_within, get_or_from_slice_get}
use Rattle.list_denotation.specs.declared.input.InputKind.{InputKind}
use Rattle.loop_ir.specs.Layout.{param_text, more_params_text, declaration_text, declarations_text}

-- a piece of the text that was still to come is there now
pub moved_on : (before now piece rest more all : List ℕ) → now ≡ before ++ piece → rest ≡ piece ++ more → before ++ rest ≡ all → now ++ more ≡ all
moved_on before now piece rest more all put split whole = rw (put, append_assoc, ← split) whole

-- a piece was put, and then two at once
pub three_put : {A E : Type 0} (r : Result A E) (before first now a b c : List ℕ) → first ≡ before ++ a → OnOk r (now ≡ first ++ (b ++ c)) → OnOk r (now ≡ before ++ (a ++ b ++ c))
three_put (Ok x) before first now a b c put others = simp (others, put, append_assoc)
three_put (Err e) before first now a b c put others = tt

-- the declarations from a variable on are that one and the others
pub declarations_next : (v n : ℕ) → v < n → declarations_text v (n - v) ≡ declaration_text v ++ declarations_text (v + 1) (n - (v + 1))
declarations_next v n below =
    let one_more : n - v ≡ suc (n - (v + 1)) = omega arith in ap (declarations_text v) one_more

-- no declaration is left at the end
pub declarations_end : (v n : ℕ) → n ≤ v → declarations_text v (n - v) ≡ []
declarations_end v n past = let none : n - v ≡ 0 = omega arith in ap (declarations_text v) none

-- the parameters from one on are a comma, that one and the others
pub more_params_next : (k : ℕ) (ps : List InputKind) (p : InputKind) → slice_get ps k ≡ Some p →
    more_params_text k (drop k ps) ≡ codes ", " ++ param_text k p ++ more_params_text (k + 1) (drop (k + 1) ps)
more_params_next k ps p at =
    at_drop_more (more_params_text k) ps k p (slice_get_within ps k p at)
    ∙ ap (λ (q : InputKind). more_params_text k (q ∷ drop (k + 1) ps)) (get_or_from_slice_get ps k p p at)

-- no parameter is left at the end
pub more_params_end : (k : ℕ) (ps : List InputKind) → length ps ≤ k → more_params_text k (drop k ps) ≡ []
more_params_end k ps past = at_drop_all (more_params_text k) ps k past
