-- The variables of words.
use Rattle.std.proofs.Common.{◌≡◌, ℕ, zero, suc, ◌<◌, List, [], ◌∷◌, length, Some, refl, arith}
use Rattle.std.specs.Prelude.{◌-◌, ◌++◌, All, slice_get, slice_index}
use Rattle.std.proofs.lemmas.List.Elements.{All-append, All-drop}
use Rattle.state_alloc.specs.Layouts.{IsLaidOut, IsWordVariable}
use Rattle.turn_blocks.specs.Pieces.{last}

pub got_index : (rows : List ℕ) (k v : ℕ) → slice_get rows k ≡ Some v → slice_index rows k ≡ v
got_index [] k v h = absurd cc
got_index (x ∷ rows) zero v h = cc
got_index (x ∷ rows) (suc k) v h = got_index rows k v h

pub index_got : (rows : List ℕ) (k : ℕ) → k < length rows → slice_get rows k ≡ Some (slice_index rows k)
index_got [] k lt = absurd (omega (arith, lt))
index_got (x ∷ rows) zero lt = refl
index_got (x ∷ rows) (suc k) lt = index_got rows k (omega (arith, lt))

pub fold_laid_out : (vars rows : List ℕ) (width first_temp temps next : ℕ) → IsLaidOut rows first_temp temps next → All (IsWordVariable first_temp temps next) vars → IsLaidOut (vars ++ last width rows) first_temp temps next
fold_laid_out vars rows width first_temp temps next laid_out given = record {
  few = laid_out.few;
  temporaries = laid_out.temporaries;
  words = All-append (IsWordVariable first_temp temps next) vars (last width rows) given (All-drop (IsWordVariable first_temp temps next) (length rows - width) rows laid_out.words);
}
