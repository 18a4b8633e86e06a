-- Blanks at the start of a line.
use Rattle.std.proofs.Common.{◌≡◌, ◌≤◌, ℕ, take, replicate}
use Rattle.std.proofs.lemmas.List.{take-replicate}

-- the first n of 32 blanks are n blanks
pub first_blanks : (n : ℕ) → n ≤ 32 → take {A = ℕ} n (replicate 32 32) ≡ replicate n 32
first_blanks n le = take-replicate n 32 32 le
