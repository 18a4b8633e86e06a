-- The answer to tokens is determined: it says their outcome, and of a tree the first count that is past
-- its limit, if one is.
use Rattle.std.proofs.Common.{◌≡◌, ℕ, zero, suc, ◌≤◌, List, [], ◌∷◌, ◌++◌, ◌⊎◌, inl, inr, length, Option, Some, None, Ok, Err, refl, sym, ap, subst, ◌∙◌, arith}
use Rattle.pipe_tree.specs.declared.fault.ParseFault.{ParseFault}
use Rattle.pipe_tree.specs.declared.fault.ParseFault.TheVariants as fault
use Rattle.pipe_tree.specs.Bounds.{IsBounded, text_input_offsets, text_op_offsets, text_node_offsets}
use Rattle.pipe_tree.specs.Texts.{texts}
use Rattle.exact_reader.specs.Exactness.{Outcome, Read, Syntax, TooDeep, IsExact}
use Rattle.pipe_tree.specs.Grammar.{IsSentence}
use Rattle.pipe_tree.specs.Parsing.{Answer, offset_or_end, IsPast, IsReadWith, HasTooManyInputs, HasTooManyOps, HasTooManyNodes, ParsesAs, IsSameUnlessRefused}
use Rattle.pipe_tree.specs.Tokens.{Tok}
use Rattle.pipe_tree.specs.Trees.{Text}
use Rattle.exact_reader.proofs.OneOutcome.{one_outcome}

-- ---- outcomes are answers

pub read_answers : (end : ℕ) (toks : List Tok) (t : Text) → IsExact texts toks (Read t)
    → length (text_input_offsets t) ≤ 16 → length (text_op_offsets t) ≤ 128 → length (text_node_offsets t) ≤ 8192 → ParsesAs end toks (Ok t)
read_answers end toks t h inputs ops nodes = (h.0, record { within = h.1; inputs = inputs; ops = ops; nodes = nodes })

read_with : (toks : List Tok) (t : Text) (holds : Text → Type 0) → IsExact texts toks (Read t) → holds t → IsReadWith holds toks
read_with toks t holds h k = record { tree = t; sentence = h.0; within = h.1; goes_on = k }

pub inputs_answer : (end : ℕ) (toks : List Tok) (t : Text) (at : ℕ) → IsExact texts toks (Read t) → HasTooManyInputs at t → ParsesAs end toks (Err (fault.TooManyInputs at))
inputs_answer end toks t at h k = read_with toks t (HasTooManyInputs at) h k

pub ops_answer : (end : ℕ) (toks : List Tok) (t : Text) (at : ℕ) → IsExact texts toks (Read t) → HasTooManyOps at t → ParsesAs end toks (Err (fault.TooManyOps at))
ops_answer end toks t at h k = read_with toks t (HasTooManyOps at) h k

pub nodes_answer : (end : ℕ) (toks : List Tok) (t : Text) (at : ℕ) → IsExact texts toks (Read t) → HasTooManyNodes at t → ParsesAs end toks (Err (fault.TooManyNodes at))
nodes_answer end toks t at h k = read_with toks t (HasTooManyNodes at) h k

pub syntax_answers : (end : ℕ) (toks rest : List Tok) → IsExact texts toks (Syntax rest) → ParsesAs end toks (Err (fault.Syntax (offset_or_end end rest)))
syntax_answers end toks rest h = record { rest = rest; stops = h; offset = refl }

pub too_deep_answers : (end : ℕ) (toks rest : List Tok) → IsExact texts toks (TooDeep rest) → ParsesAs end toks (Err (fault.TooDeep (offset_or_end end rest)))
too_deep_answers end toks rest h = record { rest = rest; stops = h; offset = refl }

-- ---- the first offset past a limit

abbrev past : List ℕ → ℕ → Option ℕ
past [] limit = None
past (p ∷ ps) zero = Some p
past (p ∷ ps) (suc limit) = past ps limit

past-length : (before : List ℕ) (at : ℕ) (after : List ℕ) → past (before ++ at ∷ after) (length before) ≡ Some at
past-length [] at after = refl
past-length (b ∷ before) at after = past-length before at after

past_some : (limit : ℕ) (offsets : List ℕ) (at : ℕ) → IsPast limit offsets at → past offsets limit ≡ Some at
past_some limit offsets at h =
    subst (λ (n : ℕ). past offsets n ≡ Some at) h.count
    (subst (λ (ps : List ℕ). past ps (length h.before) ≡ Some at) (sym h.parts) (past-length h.before at h.after))

past_none : (offsets : List ℕ) (limit : ℕ) → length offsets ≤ limit → past offsets limit ≡ None
past_none [] limit h = refl
past_none (p ∷ ps) zero h = absurd (omega arith)
past_none (p ∷ ps) (suc limit) h = past_none ps limit (omega arith)

-- ---- the answer that an outcome comes to

abbrev fault_or : Option ℕ → (ℕ → ParseFault) → Answer → Answer
fault_or (Some at) f answer = Err (f at)
fault_or None f answer = answer

abbrev answer_by_counts : Text → Answer
answer_by_counts t =
    fault_or (past (text_input_offsets t) 16) fault.TooManyInputs
    (fault_or (past (text_op_offsets t) 128) fault.TooManyOps (fault_or (past (text_node_offsets t) 8192) fault.TooManyNodes (Ok t)))

abbrev answer_to : ℕ → Outcome Tok Text → Answer
answer_to end (Read t) = answer_by_counts t
answer_to end (Syntax rest) = Err (fault.Syntax (offset_or_end end rest))
answer_to end (TooDeep rest) = Err (fault.TooDeep (offset_or_end end rest))

fault_or_some : (o : Option ℕ) (at : ℕ) (f : ℕ → ParseFault) (answer : Answer) → o ≡ Some at → fault_or o f answer ≡ Err (f at)
fault_or_some (Some p) at f answer e = let i : p ≡ at = cc in ap (λ (q : ℕ). Err (f q)) i
fault_or_some None at f answer e = absurd cc

fault_or_none : (o : Option ℕ) (f : ℕ → ParseFault) (answer : Answer) → o ≡ None → fault_or o f answer ≡ answer
fault_or_none None f answer e = refl
fault_or_none (Some p) f answer e = absurd cc

-- ---- each answer is that of an outcome

record Answered (end : ℕ) (toks : List Tok) (a : Answer) : Type 0 where
  pub outcome : Outcome Tok Text
  pub exact : IsExact texts toks outcome
  pub answer : a ≡ answer_to end outcome

read_answered : (end : ℕ) (toks : List Tok) (holds : Text → Type 0) (a : Answer) → ((t : Text) → holds t → a ≡ answer_by_counts t) → IsReadWith holds toks → Answered end toks a
read_answered end toks holds a f h = record { outcome = Read h.tree; exact = (h.sentence, h.within); answer = f h.tree h.goes_on }

few_inputs : (t : Text) → length (text_input_offsets t) ≤ 16 → answer_by_counts t ≡ fault_or (past (text_op_offsets t) 128) fault.TooManyOps (fault_or (past (text_node_offsets t) 8192) fault.TooManyNodes (Ok t))
few_inputs t h = fault_or_none (past (text_input_offsets t) 16) fault.TooManyInputs _ (past_none (text_input_offsets t) 16 h)

few_ops : (t : Text) → length (text_input_offsets t) ≤ 16 → length (text_op_offsets t) ≤ 128 → answer_by_counts t ≡ fault_or (past (text_node_offsets t) 8192) fault.TooManyNodes (Ok t)
few_ops t h k = few_inputs t h ∙ fault_or_none (past (text_op_offsets t) 128) fault.TooManyOps _ (past_none (text_op_offsets t) 128 k)

bounded : (t : Text) → IsBounded t → Ok t ≡ answer_by_counts t
bounded t h = sym (few_ops t h.inputs h.ops ∙ fault_or_none (past (text_node_offsets t) 8192) fault.TooManyNodes _ (past_none (text_node_offsets t) 8192 h.nodes))

many_inputs : (at : ℕ) (t : Text) → HasTooManyInputs at t → Err (fault.TooManyInputs at) ≡ answer_by_counts t
many_inputs at t h = sym (fault_or_some (past (text_input_offsets t) 16) at fault.TooManyInputs _ (past_some 16 (text_input_offsets t) at h))

many_ops : (at : ℕ) (t : Text) → HasTooManyOps at t → Err (fault.TooManyOps at) ≡ answer_by_counts t
many_ops at t h = sym (few_inputs t h.0 ∙ fault_or_some (past (text_op_offsets t) 128) at fault.TooManyOps _ (past_some 128 (text_op_offsets t) at h.1))

many_nodes : (at : ℕ) (t : Text) → HasTooManyNodes at t → Err (fault.TooManyNodes at) ≡ answer_by_counts t
many_nodes at t h = sym (few_ops t h.0 h.1 ∙ fault_or_some (past (text_node_offsets t) 8192) at fault.TooManyNodes _ (past_some 8192 (text_node_offsets t) at h.2))

answered : (end : ℕ) (toks : List Tok) (a : Answer) → ParsesAs end toks a → (a ≡ Err fault.NoMemory) ⊎ Answered end toks a
answered end toks (Ok t) h = inr (record { outcome = Read t; exact = (h.0, h.1.within); answer = bounded t h.1 })
answered end toks (Err (fault.Syntax at)) h = inr (record { outcome = Syntax h.rest; exact = h.stops; answer = ap (λ (p : ℕ). Err (fault.Syntax p)) h.offset })
answered end toks (Err (fault.TooDeep at)) h = inr (record { outcome = TooDeep h.rest; exact = h.stops; answer = ap (λ (p : ℕ). Err (fault.TooDeep p)) h.offset })
answered end toks (Err (fault.TooManyInputs at)) h = inr (read_answered end toks (HasTooManyInputs at) (Err (fault.TooManyInputs at)) (many_inputs at) h)
answered end toks (Err (fault.TooManyOps at)) h = inr (read_answered end toks (HasTooManyOps at) (Err (fault.TooManyOps at)) (many_ops at) h)
answered end toks (Err (fault.TooManyNodes at)) h = inr (read_answered end toks (HasTooManyNodes at) (Err (fault.TooManyNodes at)) (many_nodes at) h)
answered end toks (Err fault.NoMemory) h = inl refl

-- ---- and there is one outcome

same_answer : (a : Answer) → IsSameUnlessRefused a a
same_answer (Err fault.NoMemory) = tt
same_answer (Err _) = refl
same_answer (Ok t) = refl

refused_answer : (a : Answer) → IsSameUnlessRefused a (Err fault.NoMemory)
refused_answer (Err fault.NoMemory) = tt
refused_answer (Err _) = tt
refused_answer (Ok t) = tt

pub one_answer : ((toks : List Tok) (t u : Text) → IsSentence toks t → IsSentence toks u → t ≡ u)
    → (end : ℕ) (toks : List Tok) (a b : Answer) → ParsesAs end toks a → ParsesAs end toks b → IsSameUnlessRefused a b
one_answer one end toks a b h k =
    elim (answered end toks a h) [
      | inl i ↦ subst (λ (c : Answer). IsSameUnlessRefused c b) (sym i) tt
      | inr p ↦
          elim (answered end toks b k) [
            | inl j ↦ subst (λ (c : Answer). IsSameUnlessRefused a c) (sym j) (refused_answer a)
            | inr q ↦
                let e : p.outcome ≡ q.outcome = one_outcome texts one toks p.outcome q.outcome p.exact q.exact in
                subst (λ (c : Answer). IsSameUnlessRefused a c) (p.answer ∙ ap (answer_to end) e ∙ sym q.answer) (same_answer a)
          ]
    ]
