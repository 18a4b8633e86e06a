-- The step of the reader of expressions, forward: where tokens complete a state, it goes on or leaves, and they
-- complete the state that it leads to.
use Rattle.std.proofs.lemmas.Bool.{cases_Bool}
use Rattle.std.proofs.Common.{◌≡◌, ℕ, ◌≤◌, List, [], ◌∷◌, inl, inr, refl, sym, ap, subst, ◌∙◌, arith}
use Rattle.pipe_reader.specs.InfixOps.{infix_sign, infix_precedence, infix_left_precedence, formula_precedence}
use Rattle.pipe_reader.specs.declared.infix_op.InfixOp.{InfixOp}
use Rattle.pipe_reader.specs.Machine.{Frame, Last, Encloses, Tests, Branches, complete_form, wanted_precedence, State, Need, Have, Calls, Spells, Closes, Step, Goes, Leaves, Start, Leaf, Opens, Length, Nothing, start_of, mark_token, follow_of, Joins, step_from_start, may_join, step_by_operator, step_by_mark, pop, shift, step, finish}
use Rattle.pipe_reader.specs.declared.roles.Mark.{Mark}
use Rattle.pipe_reader.specs.declared.roles.Follow.{Follow}
use Rattle.pipe_reader.specs.declared.roles.Mark.TheVariants.{Opening, Closing, ThenKeyword, ElseKeyword}
use Rattle.pipe_reader.specs.declared.roles.Follow.TheVariants.{Operator, Marks, Foreign}
use Rattle.pipe_reader.specs.Machine.{frame_precedence, Chooses}
use Rattle.pipe_tree.specs.Tokens.{Named, Sym, Tok, tok}
use Rattle.pipe_tree.specs.Trees.{Formula, Len, Paren}
use Rattle.pipe_reader.proofs.StateMeaning.{On, Marked, After, Completes, Begins, on_next}
use Rattle.pipe_reader.proofs.FirstToken.{First, first_of}
use Rattle.pipe_reader.proofs.OperatorTables.{final_precedences, formula_precedence-complete_form, wanted_precedence_most, not_both, follow_of-infix_sign, follow_of-mark_token, is_same_mark-refl, at_most-true, may_join-true, may_join-is}

-- the step at the first of the tokens, or at their end
abbrev pub step_at : State → List Tok → Step
step_at s [] = finish s
step_at s (t ∷ x) = step s t.what t.at

abbrev pub follow_at : List Tok → Follow
follow_at [] = Foreign
follow_at (t ∷ x) = follow_of t.what

abbrev pub offset_at : List Tok → ℕ
offset_at [] = 0
offset_at (t ∷ x) = t.at

pub data Moves (s : Step) (t : Formula → List Tok → Type 0) (x : List Tok) : Type 0 where
  Went : (next : State) (first : Tok) (rest : List Tok) → s ≡ Goes next → x ≡ first ∷ rest → Completes next t rest → Moves s t x
  Left : (u : Formula) → s ≡ Leaves u → t u x → Moves s t x

-- no operator follows the whole expression
abbrev pub Separates : (Formula → List Tok → Type 0) → Type 0
Separates t = (u : Formula) (x : List Tok) (operator : InfixOp) → t u x → follow_at x ≡ Operator operator → ⊥

moves_as : (a b : Step) (t : Formula → List Tok → Type 0) (x : List Tok) → a ≡ b → Moves b t x → Moves a t x
moves_as a b t x e (Went n first rest i xi h) = Went n first rest (e ∙ i) xi h
moves_as a b t x e (Left u i h) = Left u (e ∙ i) h

begun : (s : List Frame) (t : Formula → List Tok → Type 0) (st : Start) (first : Tok) (x : List Tok) → Begins st (wanted_precedence s) (On (wanted_precedence s) (After s t)) x → Moves (step_from_start s st) t (first ∷ x)
begun s t (Leaf u) first x h = Went (Have s u) first x refl refl h
begun s t (Opens f) first x h = Went (Need (f ∷ s)) first x (rw (at_most-true (wanted_precedence s) (frame_precedence f) h.0) refl) refl h.1
begun s t (Length at) first x h = Went (Calls s at) first x refl refl h
begun s t Nothing first x h = absurd h

need_moves : (s : List Frame) (t : Formula → List Tok → Type 0) (x : List Tok) → Completes (Need s) t x → Moves (step_at (Need s) x) t x
need_moves s t x h =
    let f : First (wanted_precedence s) (On (wanted_precedence s) (After s t)) x =
    first_of h.tree (wanted_precedence s) x h.rest (On (wanted_precedence s) (After s t)) (λ u y g. record { tree = h.tree; rest = h.rest; grows = g; after = h.after }) (wanted_precedence_most s) h.phrase in
    subst (λ (y : List Tok). Moves (step_at (Need s) y) t y) (sym f.is) (begun s t (start_of f.what f.at) (tok f.what f.at) f.rest f.begins)

mark_moves : (m : Mark) (next : State) (t : Formula → List Tok → Type 0) (x : List Tok) → Marked m (Completes next t) x → Moves (step_by_mark m (follow_at x) next) t x
mark_moves m next t x h =
    subst (λ (y : List Tok). Moves (step_by_mark m (follow_at y) next) t y) (sym h.is)
    (Went next (tok (mark_token m) h.at) h.rest (rw (follow_of-mark_token m, is_same_mark-refl m) refl) refl h.goes_on)

no_mark : (m : Mark) (T : List Tok → Type 0) (x : List Tok) (operator : InfixOp) → Marked m T x → follow_at x ≡ Operator operator → ⊥
no_mark m T x operator h e = let i : follow_at x ≡ Marks m = ap follow_at h.is ∙ follow_of-mark_token m in cc

-- where the next token is an operator that the operand may grow by, the operand grows
no_pop : (s : List Frame) (t : Formula → List Tok → Type 0) (u : Formula) (x : List Tok) (operator : InfixOp) → Separates t → After s t u x → follow_at x ≡ Operator operator → wanted_precedence s ≤ infix_precedence operator → ⊥
no_pop [] t u x operator end h e le = end u x operator h e
no_pop (Encloses at ∷ s) t u x operator end h e le = no_mark Closing (On (wanted_precedence s) (After s t) (Paren at u)) x operator h e
no_pop (Tests at ∷ s) t u x operator end h e le = no_mark ThenKeyword (Completes (Need (Branches at u ∷ s)) t) x operator h e
no_pop (Branches at c ∷ s) t u x operator end h e le = no_mark ElseKeyword (Completes (Need (Last (Chooses at c u) ∷ s)) t) x operator h e
no_pop (Last f ∷ s) t u x operator end h e le =
    elim (on_next (wanted_precedence s) (After s t) (complete_form f u) x h) [
      | inl h ↦ no_pop s t (complete_form f u) x operator end h.after e (omega (arith, h.precedence, formula_precedence-complete_form f u, (final_precedences f).own))
      | inr h ↦
          let i : follow_at x ≡ Operator h.operator = ap follow_at h.is ∙ follow_of-infix_sign h.operator in
          let j : h.operator ≡ operator = cc in
          let left : infix_left_precedence operator ≤ formula_precedence (complete_form f u) = subst (λ (k : InfixOp). infix_left_precedence k ≤ formula_precedence (complete_form f u)) j h.left in
          not_both f operator le (omega (arith, formula_precedence-complete_form f u))
    ]

no_operator_grows : (k : Follow) (s : List Frame) (u : Formula) (p : ℕ) (other : Step) → ((operator : InfixOp) → k ≡ Operator operator → wanted_precedence s ≤ infix_precedence operator → ⊥) → step_by_operator k s u p other ≡ other
no_operator_grows (Marks m) s u p other never = refl
no_operator_grows Foreign s u p other never = refl
no_operator_grows (Operator operator) s u p other never =
    elim (cases_Bool (may_join s u operator)) [
      | inl e ↦ absurd (never operator refl (may_join-is s u operator e).precedence)
      | inr e ↦ rw e refl
    ]

shift_moves : (s : List Frame) (t : Formula → List Tok → Type 0) (u : Formula) (x : List Tok) → Separates t → (After s t u x → Moves (pop s u (follow_at x) (offset_at x)) t x) → On (wanted_precedence s) (After s t) u x
    → Moves (shift s u (follow_at x) (offset_at x)) t x
shift_moves s t u x end popped h =
    elim (on_next (wanted_precedence s) (After s t) u x h) [
      | inl h ↦
          moves_as (shift s u (follow_at x) (offset_at x)) (pop s u (follow_at x) (offset_at x)) t x
          (no_operator_grows (follow_at x) s u (offset_at x) (pop s u (follow_at x) (offset_at x)) (λ operator e le. no_pop s t u x operator end h.after e le)) (popped h.after)
      | inr h ↦
          let i : follow_at x ≡ Operator h.operator = ap follow_at h.is ∙ follow_of-infix_sign h.operator in
          let p : offset_at x ≡ h.at = ap offset_at h.is in
          let f = may_join-true s u h.operator h.precedence h.left in
          Went (Need (Last (Joins h.operator h.at u) ∷ s)) (tok (Sym (infix_sign h.operator)) h.at) h.rest (rw (i, f, p) refl) h.is h.right
    ]

pop_moves : (s : List Frame) (t : Formula → List Tok → Type 0) (u : Formula) (x : List Tok) → Separates t → After s t u x → Moves (pop s u (follow_at x) (offset_at x)) t x
pop_moves [] t u x end h = Left u refl h
pop_moves (Last f ∷ s) t u x end h = shift_moves s t (complete_form f u) x end (pop_moves s t (complete_form f u) x end) h
pop_moves (Encloses at ∷ s) t u x end h = mark_moves Closing (Have s (Paren at u)) t x h
pop_moves (Tests at ∷ s) t u x end h = mark_moves ThenKeyword (Need (Branches at u ∷ s)) t x h
pop_moves (Branches at c ∷ s) t u x end h = mark_moves ElseKeyword (Need (Last (Chooses at c u) ∷ s)) t x h

pub moves : (s : State) (t : Formula → List Tok → Type 0) (x : List Tok) → Separates t → Completes s t x → Moves (step_at s x) t x
moves (Need s) t x end h = need_moves s t x h
moves (Have s u) t [] end h = shift_moves s t u [] end (pop_moves s t u [] end) h
moves (Have s u) t (k ∷ x) end h = shift_moves s t u (k ∷ x) end (pop_moves s t u (k ∷ x) end) h
moves (Calls s at) t [] end h = mark_moves Opening (Spells s at) t [] h
moves (Calls s at) t (k ∷ x) end h = mark_moves Opening (Spells s at) t (k ∷ x) h
moves (Closes s at q n) t [] end h = mark_moves Closing (Have s (Len at q n)) t [] h
moves (Closes s at q n) t (k ∷ x) end h = mark_moves Closing (Have s (Len at q n)) t (k ∷ x) h
moves (Spells s at) t x end h =
    subst (λ (y : List Tok). Moves (step_at (Spells s at) y) t y) (sym h.is) (Went (Closes s at h.at h.text) (tok (Named h.text) h.at) h.rest refl refl h.goes_on)
