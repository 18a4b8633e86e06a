-- Tokens have a tree within the limits, or a fault: that of the reader of whole texts, or the first count that
-- is past its limit.
use Rattle.std.proofs.Common.{◌≢◌, ◌⊎◌, ℕ, zero, suc, ◌≤◌, List, [], ◌∷◌, length, Ok, Err, refl, ap, arith, inl, inr}
use Rattle.pipe_tree.specs.Bounds.{text_input_offsets, text_op_offsets, text_node_offsets}
use Rattle.pipe_reader.specs.Continuations.{read_text}
use Rattle.pipe_tree.specs.Texts.{texts}
use Rattle.exact_reader.specs.Exactness.{Outcome, Read, Syntax, TooDeep, IsExact}
use Rattle.pipe_tree.specs.Parsing.{Answer, ParsesAs, IsPast, offset_or_end}
use Rattle.pipe_tree.specs.Tokens.{Tok}
use Rattle.pipe_tree.specs.Trees.{Text}
use Rattle.pipe_tree.specs.declared.fault.ParseFault.TheVariants as fault
use Rattle.pipe_reader.proofs.OneAnswer.{read_answers, inputs_answer, ops_answer, nodes_answer, syntax_answers, too_deep_answers}
use Rattle.pipe_reader.proofs.TextReader.{texts_are_read_exactly}

-- ---- counts

-- offsets are within the limit, or one of them is the first past it
abbrev IsCounted : ℕ → List ℕ → Type 0
IsCounted limit offsets = (length offsets ≤ limit) ⊎ ((at : ℕ) × IsPast limit offsets at)

one_more : (limit at : ℕ) (offsets : List ℕ) → IsCounted limit offsets → IsCounted (suc limit) (at ∷ offsets)
one_more limit at offsets (inl within) = inl (omega arith)
one_more limit at offsets (inr past) =
    let p = past.1 in
    let count = p.count in
    inr (past.0, record { before = at ∷ p.before; after = p.after; parts = ap (λ (xs : List ℕ). at ∷ xs) p.parts; count = omega arith })

is_counted : (limit : ℕ) (offsets : List ℕ) → IsCounted limit offsets
is_counted limit [] = inl (omega arith)
is_counted zero (at ∷ offsets) = inr (at, record { before = []; after = offsets; parts = refl; count = refl })
is_counted (suc limit) (at ∷ offsets) = one_more limit at offsets (is_counted limit offsets)

-- ---- answers

-- a tree or a fault that is no refusal of memory
abbrev pub SomeAnswer : ℕ → List Tok → Type 0
SomeAnswer end toks = (a : Answer) × (ParsesAs end toks a × (a ≢ Err fault.NoMemory))

module _ (end : ℕ) (toks : List Tok) where
  module _ (t : Text) (exact : IsExact texts toks (Read t)) where
    by_nodes : length (text_input_offsets t) ≤ 16 → length (text_op_offsets t) ≤ 128 → IsCounted 8192 (text_node_offsets t) → SomeAnswer end toks
    by_nodes inputs ops (inl nodes) = (Ok t, (read_answers end toks t exact inputs ops nodes, λ e. cc))
    by_nodes inputs ops (inr past) =
        (Err (fault.TooManyNodes past.0), (nodes_answer end toks t past.0 exact (inputs, ops, past.1), λ e. cc))

    by_ops : length (text_input_offsets t) ≤ 16 → IsCounted 128 (text_op_offsets t) → SomeAnswer end toks
    by_ops inputs (inl ops) = by_nodes inputs ops (is_counted 8192 (text_node_offsets t))
    by_ops inputs (inr past) = (Err (fault.TooManyOps past.0), (ops_answer end toks t past.0 exact (inputs, past.1), λ e. cc))

    by_inputs : IsCounted 16 (text_input_offsets t) → SomeAnswer end toks
    by_inputs (inl inputs) = by_ops inputs (is_counted 128 (text_op_offsets t))
    by_inputs (inr past) = (Err (fault.TooManyInputs past.0), (inputs_answer end toks t past.0 exact past.1, λ e. cc))

  by_outcome : (outcome : Outcome Tok Text) → IsExact texts toks outcome → SomeAnswer end toks
  by_outcome (Read t) exact = by_inputs t exact (is_counted 16 (text_input_offsets t))
  by_outcome (Syntax rest) exact =
      (Err (fault.Syntax (offset_or_end end rest)), (syntax_answers end toks rest exact, λ e. cc))
  by_outcome (TooDeep rest) exact =
      (Err (fault.TooDeep (offset_or_end end rest)), (too_deep_answers end toks rest exact, λ e. cc))

  pub some_answer : SomeAnswer end toks
  some_answer = by_outcome (read_text toks) (texts_are_read_exactly toks)
