-- Two phrases that begin with different marks are not read from the same tokens.
use Rattle.std.proofs.Common.{◌≡◌, ℕ, List, [], ◌∷◌, sym, ap, ◌∙◌, subst}
use Rattle.std.proofs.Math.Facts.{yes_eqb}
use Rattle.std.specs.Prelude.{T, false, ◌==◌}
use Rattle.c_tokens.specs.declared.symbol.Symbol.TheVariants as symbol
use Rattle.c_tokens.specs.Pieces.{What, Word, Bare, Const, Sym}

-- the mark of a token: the first letter of a word, and small numbers for the others, with one for ( alone
abbrev pub mark_of : What → ℕ
mark_of (Word []) = 0
mark_of (Word (c ∷ text)) = c
mark_of (Bare n) = 1
mark_of (Const n) = 2
mark_of (Sym symbol.OpenParen) = 3
mark_of (Sym s) = 4

abbrev pub first_mark : List What → ℕ
first_mark [] = 0
first_mark (t ∷ x) = mark_of t

pub first_mark_is : {x : List What} {t : What} {rest : List What} → x ≡ t ∷ rest → first_mark x ≡ mark_of t
first_mark_is e = ap first_mark e

pub numbers_apart : (m n : ℕ) → m ≡ n → (m == n) ≡ false → ⊥
numbers_apart m n same differ = subst T differ (yes_eqb same)

-- the same tokens have one mark
pub marks_apart : (m n : ℕ) {x y : List What} → x ≡ y → first_mark x ≡ m → first_mark y ≡ n → (m == n) ≡ false → ⊥
marks_apart m n e p q differ = numbers_apart m n (sym p ∙ ap first_mark e ∙ q) differ
