-- That the tokens of a text are parts of it.
use Rattle.std.proofs.Common.{ℕ, ◌≤◌, List, [], ◌∷◌, length, arith}
use Rattle.std.proofs.lemmas.List.Elements.{All-cons}
use Rattle.pipe_lexer.specs.declared.token.Token.{Token}
use Rattle.pipe_lexer.specs.Lexing.{AreInOrder}
use Rattle.pipe_tree.specs.Tokens.{IsSlice, AreSlices}

ends_within : (from : ℕ) (t : Token) (ts : List Token) (end : ℕ) → AreInOrder from (t ∷ ts) end → t.end ≤ end
ends_within from t [] end h = h.2
ends_within from t (u ∷ ts) end h = let later = ends_within t.end u ts end h.2 in let first = h.2.0 in let some = h.2.1 in omega arith

ordered_slices : (from : ℕ) (ts : List Token) (end : ℕ) → AreInOrder from ts end → AreSlices end ts
ordered_slices from [] end h = λ k d below. absurd (omega arith)
ordered_slices from (t ∷ ts) end h =
    All-cons (IsSlice end) t ts ((let some = h.1 in omega arith), ends_within from t ts end h) (ordered_slices t.end ts end h.2)

pub lexed_slices : (src : List ℕ) (toks : List Token) → AreInOrder 0 toks (length src) → AreSlices (length src) toks
lexed_slices src toks h = ordered_slices 0 toks (length src) h
