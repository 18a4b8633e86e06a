-- Counts of lists of offsets that are put together, and what they say of the lists.
use Rattle.std.proofs.Common.{◌≡◌, ℕ, ◌≤◌, zero, suc, List, [], ◌∷◌, ◌++◌, length, refl, ap, arith}
use Rattle.std.specs.Prelude.{Result, Ok, Err}
use Rattle.tree_counts.specs.declared.counts.Past.{Past}
use Rattle.tree_counts.specs.Counting.{count_of}
use Rattle.pipe_tree.specs.Parsing.{IsPast}

-- offsets behind those that were counted are counted too
abbrev pub count_behind : Result ℕ Past → List ℕ → Result ℕ Past
count_behind (Ok room) offsets = count_of offsets room
count_behind (Err p) offsets = Err p

pub count_append : (xs ys : List ℕ) (room : ℕ) → count_of (xs ++ ys) room ≡ count_behind (count_of xs room) ys
count_append [] ys room = refl
count_append (at ∷ xs) ys zero = refl
count_append (at ∷ xs) ys (suc room) = count_append xs ys room

pub count_cons : (at : ℕ) (ys : List ℕ) (room : ℕ) → count_of (at ∷ ys) room ≡ count_behind (count_of (at ∷ []) room) ys
count_cons at ys zero = refl
count_cons at ys (suc room) = refl

-- there is room for all of them
pub count_fits : (offsets : List ℕ) (room left : ℕ) → count_of offsets room ≡ Ok left → length offsets ≤ room
count_fits [] room left h = omega arith
count_fits (at ∷ offsets) zero left h = cc
count_fits (at ∷ offsets) (suc room) left h = let few = count_fits offsets room left h in omega arith

-- the offset of the first that is one too many
offset_past : Result ℕ Past → ℕ
offset_past (Ok room) = 0
offset_past (Err p) = p.at

same_offset : (p q : Past) → (let r : Result ℕ Past = Err p in r) ≡ Err q → p.at ≡ q.at
unfolding offset_past
same_offset p q h = ap offset_past h

-- the first that is one too many
pub count_past : (offsets : List ℕ) (room at : ℕ) → count_of offsets room ≡ Err (record { at = at }) → IsPast room offsets at
count_past [] room at h = cc
count_past (p ∷ offsets) zero at h = record { before = []; after = offsets; parts = ap (λ (q : ℕ). q ∷ offsets) (same_offset (record { at = p }) (record { at = at }) h); count = refl }
count_past (p ∷ offsets) (suc room) at h =
    let later = count_past offsets room at h in
    record { before = p ∷ later.before; after = later.after; parts = ap (λ (xs : List ℕ). p ∷ xs) later.parts; count = ap suc later.count }
