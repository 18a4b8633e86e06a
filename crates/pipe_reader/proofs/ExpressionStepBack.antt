-- The step of the reader of expressions, backward: where it goes on or leaves, tokens that complete the state
-- that it leads to complete, with the token before them, the state that it was made in.
use Rattle.std.proofs.lemmas.Bool.{cases_Bool}
use Rattle.std.proofs.Common.{◌≡◌, ℕ, ◌≤◌, List, [], ◌∷◌, inl, inr, refl, sym, ap, subst, ◌∙◌, arith}
use Rattle.pipe_lexer.specs.declared.keyword.Keyword.TheVariants as key
use Rattle.pipe_lexer.specs.declared.symbol.Symbol.TheVariants as symbol
use Rattle.pipe_reader.specs.InfixOps.{formula_precedence}
use Rattle.pipe_reader.specs.Machine.{Frame, Last, Encloses, Tests, Branches, Joins, Chooses, complete_form, frame_precedence, wanted_precedence, State, Need, Have, Calls, Spells, Closes, Step, Goes, Leaves, Stuck, Start, Leaf, Opens, Length, Nothing, start_of, mark_token, is_same_mark, follow_of, at_most, step_from_start, may_join, step_by_operator, step_by_mark, pop, shift, step}
use Rattle.pipe_reader.specs.declared.roles.Mark.{Mark}
use Rattle.pipe_reader.specs.declared.roles.Follow.{Follow}
use Rattle.pipe_reader.specs.declared.roles.Mark.TheVariants.{Opening, Closing, ThenKeyword, ElseKeyword}
use Rattle.pipe_reader.specs.declared.roles.Follow.TheVariants.{Operator, Marks, Foreign}
use Rattle.pipe_tree.specs.Tokens.{What, Named, Number, Key, Sym, Tok, tok}
use Rattle.pipe_tree.specs.Trees.{Formula, Len, Paren}
use Rattle.pipe_reader.proofs.ExpressionStepForward.{step_at}
use Rattle.pipe_reader.proofs.StateMeaning.{On, Marked, After, Completes, Begins, on_stays, on_takes}
use Rattle.pipe_reader.proofs.FirstToken.{first_back}
use Rattle.pipe_reader.proofs.OperatorTables.{formula_precedence-complete_form, wanted_precedence_most, IsFollow, follow_is, is_same_mark-is, at_most-is, may_join-is}

-- each open form has a precedence that the form around it may await
abbrev pub AreOpen : List Frame → Type 0
AreOpen [] = Unit {0}
AreOpen (f ∷ s) = (wanted_precedence s ≤ frame_precedence f) × AreOpen s

abbrev pub IsReachable : State → Type 0
IsReachable (Need s) = AreOpen s
IsReachable (Have s u) = (wanted_precedence s ≤ formula_precedence u) × AreOpen s
IsReachable (Calls s at) = AreOpen s
IsReachable (Spells s at) = AreOpen s
IsReachable (Closes s at q n) = AreOpen s

pub record Back (s : State) (k : What) (p : ℕ) (next : State) : Type 1 where
  pub reachable : IsReachable next
  pub completes : (t : Formula → List Tok → Type 0) (x : List Tok) → Completes next t x → Completes s t (tok k p ∷ x)

goes_is : (a b : State) → (let x : Step = Goes a in x) ≡ Goes b → a ≡ b
goes_is a b e = cc

-- ---- where an operand is awaited

-- an atom has the precedence of any operand
abbrev pub IsAtom : Start → Type 0
IsAtom (Leaf u) = 6 ≤ formula_precedence u
IsAtom (Opens f) = Unit {0}
IsAtom (Length at) = Unit {0}
IsAtom Nothing = Unit {0}

start_is : (k : What) (p : ℕ) → IsAtom (start_of k p)
start_is (Named n) p = omega arith
start_is (Number w) p = omega arith
start_is (Key key.True) p = omega arith
start_is (Key key.False) p = omega arith
start_is (Key key.Len) p = tt
start_is (Key key.If) p = tt
start_is (Key _) p = tt
start_is (Sym symbol.Minus) p = tt
start_is (Sym symbol.Bang) p = tt
start_is (Sym symbol.OpenParen) p = tt
start_is (Sym _) p = tt

pub record Begun (s : List Frame) (st : Start) (next : State) : Type 1 where
  pub reachable : IsReachable next
  pub begins : (t : Formula → List Tok → Type 0) (x : List Tok) → Completes next t x → Begins st (wanted_precedence s) (On (wanted_precedence s) (After s t)) x

begun : (s : List Frame) (st : Start) (next : State) → IsAtom st → AreOpen s → step_from_start s st ≡ Goes next → Begun s st next
begun s (Leaf u) next i o e =
    subst (λ (n : State). Begun s (Leaf u) n) (goes_is (Have s u) next e) (record { reachable = (omega (arith, wanted_precedence_most s), o); begins = λ t x h. h })
begun s (Length at) next i o e = subst (λ (n : State). Begun s (Length at) n) (goes_is (Calls s at) next e) (record { reachable = o; begins = λ t x h. h })
begun s Nothing next i o e = absurd cc
begun s (Opens f) next i o e =
    elim (cases_Bool (at_most (wanted_precedence s) (frame_precedence f))) [
      | inl b ↦
          let le = at_most-is (wanted_precedence s) (frame_precedence f) b in
          let e2 : Goes (Need (f ∷ s)) ≡ Goes next = rw b at e in
          subst (λ (n : State). Begun s (Opens f) n) (goes_is (Need (f ∷ s)) next e2) (record { reachable = (le, o); begins = λ t x h. (le, h) })
      | inr b ↦ let e2 : Stuck ≡ Goes next = rw b at e in absurd cc
    ]

need_back : (s : List Frame) (k : What) (p : ℕ) (next : State) → AreOpen s → step_from_start s (start_of k p) ≡ Goes next → Back (Need s) k p next
need_back s k p next o e =
    let b = begun s (start_of k p) next (start_is k p) o e in
    record { reachable = b.reachable; completes = λ t x h. first_back k p (wanted_precedence s) (After s t) x (b.begins t x h) }

-- ---- where a mark is awaited

pub record MarkBack (m : Mark) (k : What) (p : ℕ) (st next : State) : Type 1 where
  pub reachable : IsReachable next
  pub completes : (t : Formula → List Tok → Type 0) (x : List Tok) → Completes next t x → Marked m (Completes st t) (tok k p ∷ x)

mark_back : (m : Mark) (f : Follow) (k : What) (p : ℕ) (st next : State) → IsFollow f k → IsReachable st → step_by_mark m f st ≡ Goes next → MarkBack m k p st next
mark_back m (Operator operator) k p st next i o e = absurd cc
mark_back m Foreign k p st next i o e = absurd cc
mark_back m (Marks n) k p st next i o e =
    elim (cases_Bool (is_same_mark m n)) [
      | inl b ↦
          let e2 : Goes st ≡ Goes next = rw b at e in
          let j : k ≡ mark_token m = i ∙ ap mark_token (sym (is_same_mark-is m n b)) in
          subst (λ (w : State). MarkBack m k p st w) (goes_is st next e2)
          (record { reachable = o; completes = λ t x h. record { at = p; rest = x; is = ap (λ (w : What). tok w p ∷ x) j; goes_on = h } })
      | inr b ↦ let e2 : Stuck ≡ Goes next = rw b at e in absurd cc
    ]

-- ---- where an operand is there

pub record PopBack (s : List Frame) (u : Formula) (k : What) (p : ℕ) (next : State) : Type 1 where
  pub reachable : IsReachable next
  pub after : (t : Formula → List Tok → Type 0) (x : List Tok) → Completes next t x → After s t u (tok k p ∷ x)

stays_back : (s : List Frame) (u : Formula) (k : What) (p : ℕ) (next : State) → wanted_precedence s ≤ formula_precedence u → PopBack s u k p next → Back (Have s u) k p next
stays_back s u k p next le b = record { reachable = b.reachable; completes = λ t x h. on_stays (wanted_precedence s) (After s t) u (tok k p ∷ x) le (b.after t x h) }

shift_back : (s : List Frame) (u : Formula) (f : Follow) (k : What) (p : ℕ) (next : State) (other : Step) → IsFollow f k → wanted_precedence s ≤ formula_precedence u → AreOpen s → (other ≡ Goes next → PopBack s u k p next)
    → step_by_operator f s u p other ≡ Goes next → Back (Have s u) k p next
shift_back s u (Marks m) k p next other i le o popped e = stays_back s u k p next le (popped e)
shift_back s u Foreign k p next other i le o popped e = stays_back s u k p next le (popped e)
shift_back s u (Operator operator) k p next other i le o popped e =
    elim (cases_Bool (may_join s u operator)) [
      | inl b ↦
          let f = may_join-is s u operator b in
          let e2 : Goes (Need (Last (Joins operator p u) ∷ s)) ≡ Goes next = rw b at e in
          subst (λ (n : State). Back (Have s u) k p n) (goes_is (Need (Last (Joins operator p u) ∷ s)) next e2)
          (record {
            reachable = (f.precedence, o);
            completes = λ t x h. on_takes (wanted_precedence s) (After s t) u (tok k p ∷ x)
                (record { operator = operator; at = p; rest = x; is = ap (λ (w : What). tok w p ∷ x) i; precedence = f.precedence; left = f.left; right = h });
          })
      | inr b ↦ let e2 : other ≡ Goes next = rw b at e in stays_back s u k p next le (popped e2)
    ]

pop_back : (s : List Frame) (u : Formula) (f : Follow) (k : What) (p : ℕ) (next : State) → IsFollow f k → AreOpen s → pop s u f p ≡ Goes next → PopBack s u k p next
pop_back [] u f k p next i o e = absurd cc
pop_back (Last g ∷ s) u f k p next i o e =
    let b = shift_back s (complete_form g u) f k p next (pop s (complete_form g u) f p) i (omega (arith, o.0, formula_precedence-complete_form g u)) o.1 (pop_back s (complete_form g u) f k p next i o.1) e in
    record { reachable = b.reachable; after = b.completes }
pop_back (Encloses at ∷ s) u f k p next i o e =
    let b = mark_back Closing f k p (Have s (Paren at u)) next i o e in
    record { reachable = b.reachable; after = b.completes }
pop_back (Tests at ∷ s) u f k p next i o e =
    let b = mark_back ThenKeyword f k p (Need (Branches at u ∷ s)) next i o e in
    record { reachable = b.reachable; after = b.completes }
pop_back (Branches at c ∷ s) u f k p next i o e =
    let b = mark_back ElseKeyword f k p (Need (Last (Chooses at c u) ∷ s)) next i o e in
    record { reachable = b.reachable; after = b.completes }

name_back : (s : List Frame) (at : ℕ) (k : What) (p : ℕ) (next : State) → AreOpen s → step (Spells s at) k p ≡ Goes next → Back (Spells s at) k p next
name_back s at (Named n) p next o e =
    subst (λ (m : State). Back (Spells s at) (Named n) p m) (goes_is (Closes s at p n) next e)
    (record { reachable = o; completes = λ t x h. record { text = n; at = p; rest = x; is = refl; goes_on = h } })
name_back s at (Number w) p next o e = absurd cc
name_back s at (Key w) p next o e = absurd cc
name_back s at (Sym w) p next o e = absurd cc

pub back : (s : State) (k : What) (p : ℕ) (next : State) → IsReachable s → step s k p ≡ Goes next → Back s k p next
back (Need s) k p next o e = need_back s k p next o e
back (Have s u) k p next o e = shift_back s u (follow_of k) k p next (pop s u (follow_of k) p) (follow_is k) o.0 o.1 (pop_back s u (follow_of k) k p next (follow_is k) o.1) e
back (Calls s at) k p next o e =
    let b = mark_back Opening (follow_of k) k p (Spells s at) next (follow_is k) o e in
    record { reachable = b.reachable; completes = b.completes }
back (Spells s at) k p next o e = name_back s at k p next o e
back (Closes s at q n) k p next o e =
    let b = mark_back Closing (follow_of k) k p (Have s (Len at q n)) next (follow_is k) (omega (arith, wanted_precedence_most s), o) e in
    record { reachable = b.reachable; completes = b.completes }

-- ---- where the expression is whole

pub operator_leaves : (f : Follow) (s : List Frame) (u : Formula) (p : ℕ) (other : Step) (v : Formula) → step_by_operator f s u p other ≡ Leaves v → other ≡ Leaves v
operator_leaves (Marks m) s u p other v e = e
operator_leaves Foreign s u p other v e = e
operator_leaves (Operator operator) s u p other v e =
    elim (cases_Bool (may_join s u operator)) [
      | inl b ↦ let e2 : Goes (Need (Last (Joins operator p u) ∷ s)) ≡ Leaves v = rw b at e in absurd cc
      | inr b ↦ let e2 : other ≡ Leaves v = rw b at e in e2
    ]

pub mark_leaves : (m : Mark) (f : Follow) (st : State) (v : Formula) → step_by_mark m f st ≡ Leaves v → ⊥
mark_leaves m (Operator operator) st v e = cc
mark_leaves m Foreign st v e = cc
mark_leaves m (Marks n) st v e =
    elim (cases_Bool (is_same_mark m n)) [
      | inl b ↦ let e2 : Goes st ≡ Leaves v = rw b at e in cc
      | inr b ↦ let e2 : Stuck ≡ Leaves v = rw b at e in cc
    ]

pub start_leaves : (s : List Frame) (st : Start) (v : Formula) → step_from_start s st ≡ Leaves v → ⊥
start_leaves s (Leaf u) v e = cc
start_leaves s (Length at) v e = cc
start_leaves s Nothing v e = cc
start_leaves s (Opens f) v e =
    elim (cases_Bool (at_most (wanted_precedence s) (frame_precedence f))) [
      | inl b ↦ let e2 : Goes (Need (f ∷ s)) ≡ Leaves v = rw b at e in cc
      | inr b ↦ let e2 : Stuck ≡ Leaves v = rw b at e in cc
    ]

pub name_leaves : (s : List Frame) (at : ℕ) (k : What) (p : ℕ) (v : Formula) → step (Spells s at) k p ≡ Leaves v → ⊥
name_leaves s at (Named n) p v e = cc
name_leaves s at (Number w) p v e = cc
name_leaves s at (Key w) p v e = cc
name_leaves s at (Sym w) p v e = cc

pop_leaves : (s : List Frame) (t : Formula → List Tok → Type 0) (u v : Formula) (f : Follow) (p : ℕ) (x : List Tok) → AreOpen s → pop s u f p ≡ Leaves v → t v x → After s t u x
pop_leaves [] t u v f p x o e h = let i : u ≡ v = cc in subst (λ (w : Formula). t w x) (sym i) h
pop_leaves (Last g ∷ s) t u v f p x o e h =
    on_stays (wanted_precedence s) (After s t) (complete_form g u) x (omega (arith, o.0, formula_precedence-complete_form g u))
    (pop_leaves s t (complete_form g u) v f p x o.1 (operator_leaves f s (complete_form g u) p (pop s (complete_form g u) f p) v e) h)
pop_leaves (Encloses at ∷ s) t u v f p x o e h = absurd (mark_leaves Closing f (Have s (Paren at u)) v e)
pop_leaves (Tests at ∷ s) t u v f p x o e h = absurd (mark_leaves ThenKeyword f (Need (Branches at u ∷ s)) v e)
pop_leaves (Branches at c ∷ s) t u v f p x o e h = absurd (mark_leaves ElseKeyword f (Need (Last (Chooses at c u) ∷ s)) v e)

have_leaves : (s : List Frame) (t : Formula → List Tok → Type 0) (u v : Formula) (f : Follow) (p : ℕ) (x : List Tok) → IsReachable (Have s u) → shift s u f p ≡ Leaves v → t v x → On (wanted_precedence s) (After s t) u x
have_leaves s t u v f p x o e h = on_stays (wanted_precedence s) (After s t) u x o.0 (pop_leaves s t u v f p x o.1 (operator_leaves f s u p (pop s u f p) v e) h)

pub leaves_back : (s : State) (t : Formula → List Tok → Type 0) (v : Formula) (x : List Tok) → IsReachable s → step_at s x ≡ Leaves v → t v x → Completes s t x
leaves_back (Need s) t v [] o e h = absurd cc
leaves_back (Need s) t v (k ∷ x) o e h = absurd (start_leaves s (start_of k.what k.at) v e)
leaves_back (Have s u) t v [] o e h = have_leaves s t u v Foreign 0 [] o e h
leaves_back (Have s u) t v (k ∷ x) o e h = have_leaves s t u v (follow_of k.what) k.at (k ∷ x) o e h
leaves_back (Calls s at) t v [] o e h = absurd cc
leaves_back (Calls s at) t v (k ∷ x) o e h = absurd (mark_leaves Opening (follow_of k.what) (Spells s at) v e)
leaves_back (Spells s at) t v [] o e h = absurd cc
leaves_back (Spells s at) t v (k ∷ x) o e h = absurd (name_leaves s at k.what k.at v e)
leaves_back (Closes s at q n) t v [] o e h = absurd cc
leaves_back (Closes s at q n) t v (k ∷ x) o e h = absurd (mark_leaves Closing (follow_of k.what) (Have s (Len at q n)) v e)
