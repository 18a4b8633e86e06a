-- Lists of rows that come to their end, with rows of a known form: what each stage and a fold make of them.
use Rattle.std.proofs.Common.{◌≡◌, ℕ, zero, suc, ◌≤◌, List, [], ◌∷◌, ◌++◌, length, refl, arith}
use Rattle.std.specs.Prelude.{All}
use Rattle.std.proofs.lemmas.List.Elements.{All-head, All-tail}
use Rattle.list_denotation.specs.Values.{Got, Is, Fails}
use Rattle.list_denotation.specs.Rows.{End, Cut, Broken, Rows, Ends, Row, unless_broken, firsts, single_rows, map_rows, followed_by, join_rows, zip_rows}
use Rattle.list_denotation.specs.Observation.{Seen, state_at, unless_failed, fold_rows}

-- ---- what is known

-- there is a value, and P holds of it
abbrev pub Gives : {A : Type 0} → (A → Type 0) → Got A → Type 0
Gives P (Is x) = P x
Gives P (Fails f) = ⊥

-- the list comes to its end, and P holds of each row
abbrev pub ComesToEnd : (List ℕ → Type 0) → Rows → Type 0
ComesToEnd P (Ends End) = Unit {0}
ComesToEnd P (Ends Cut) = ⊥
ComesToEnd P (Ends (Broken f)) = ⊥
ComesToEnd P (Row r rest) = P r × ComesToEnd P rest

-- a row of one word, of which P holds
abbrev pub IsOne : (ℕ → Type 0) → List ℕ → Type 0
IsOne P [] = ⊥
IsOne P (x ∷ []) = P x
IsOne P (x ∷ (y ∷ row)) = ⊥

-- a row of two words, of whose second P holds
abbrev pub IsTwo : (ℕ → Type 0) → List ℕ → Type 0
IsTwo P [] = ⊥
IsTwo P (x ∷ []) = ⊥
IsTwo P (x ∷ (y ∷ [])) = P y
IsTwo P (x ∷ (y ∷ (z ∷ row))) = ⊥

abbrev pub Any : ℕ → Type 0
Any w = Unit {0}

-- a state of which S holds is seen, and the run is done
abbrev pub Shows : (List ℕ → Type 0) → Seen → Type 0
Shows S o = (t : List ℕ) × (S t × (o ≡ state_at End t))

-- ---- sources

pub singles_end : (P : ℕ → Type 0) (n : ℕ) (xs : List ℕ) → length xs ≤ n → All P xs → ComesToEnd (IsOne P) (firsts n (single_rows xs))
singles_end P n [] le all = tt
singles_end P zero (x ∷ xs) le all = absurd (omega (arith, le))
singles_end P (suc n) (x ∷ xs) le all = (All-head P x xs all, singles_end P n xs (omega (arith, le)) (All-tail P x xs all))

-- ---- stages

unless_ends : (P Q : List ℕ → Type 0) (x : Got (List ℕ)) (go : List ℕ → Rows) → Gives P x → ((s : List ℕ) → P s → ComesToEnd Q (go s)) → ComesToEnd Q (unless_broken x go)
unless_ends P Q (Is s) go h k = k s h
unless_ends P Q (Fails f) go h k = absurd h

module _ (P Q : List ℕ → Type 0) where
  pub mapped_end : (f : List ℕ → Got (List ℕ)) → ((r : List ℕ) → P r → Gives Q (f r)) → (rows : Rows) → ComesToEnd P rows → ComesToEnd Q (map_rows f rows)
  mapped_end f gives (Ends End) h = tt
  mapped_end f gives (Ends Cut) h = absurd h
  mapped_end f gives (Ends (Broken e)) h = absurd h
  mapped_end f gives (Row r rest) h =
      unless_ends Q Q (f r) (λ s. Row s (map_rows f rest)) (gives r h.0) (λ s q. (q, mapped_end f gives rest h.1))

  followed_end : (a b : Rows) → ComesToEnd Q a → ComesToEnd Q b → ComesToEnd Q (followed_by a b)
  followed_end (Ends End) b h k = k
  followed_end (Ends Cut) b h k = absurd h
  followed_end (Ends (Broken e)) b h k = absurd h
  followed_end (Row r rest) b h k = (h.0, followed_end rest b h.1 k)

  pub joined_end : (inner : List ℕ → Rows) → ((r : List ℕ) → P r → ComesToEnd Q (inner r)) → (rows : Rows) → ComesToEnd P rows → ComesToEnd Q (join_rows rows inner)
  joined_end inner ends (Ends End) h = tt
  joined_end inner ends (Ends Cut) h = absurd h
  joined_end inner ends (Ends (Broken e)) h = absurd h
  joined_end inner ends (Row r rest) h =
      followed_end (inner r) (join_rows rest inner) (ends r h.0) (joined_end inner ends rest h.1)

  module _ (R : List ℕ → Type 0) (both : (r s : List ℕ) → P r → Q s → R (r ++ s)) where
    pub zipped_end : (left right : Rows) → ComesToEnd P left → ComesToEnd Q right → ComesToEnd R (zip_rows left right)
    zipped_end (Ends End) right h k = tt
    zipped_end (Ends Cut) right h k = absurd h
    zipped_end (Ends (Broken e)) right h k = absurd h
    zipped_end (Row r left) (Ends End) h k = tt
    zipped_end (Row r left) (Ends Cut) h k = absurd k
    zipped_end (Row r left) (Ends (Broken e)) h k = absurd k
    zipped_end (Row r left) (Row s right) h k = (both r s h.0 k.0, zipped_end left right h.1 k.1)

-- ---- a fold

module _ (P S : List ℕ → Type 0) (f : List ℕ → List ℕ → Got (List ℕ)) (step : (state r : List ℕ) → S state → P r → Gives S (f state r)) where
  unless_shows : (x : Got (List ℕ)) (go : List ℕ → Seen) → Gives S x → ((s : List ℕ) → S s → Shows S (go s)) → Shows S (unless_failed x go)
  unless_shows (Is s) go h k = k s h
  unless_shows (Fails e) go h k = absurd h

  pub folded_shows : (rows : Rows) → ComesToEnd P rows → (state : List ℕ) → S state → Shows S (fold_rows f state rows)
  folded_shows (Ends End) h state s = (state, (s, refl))
  folded_shows (Ends Cut) h state s = absurd h
  folded_shows (Ends (Broken e)) h state s = absurd h
  folded_shows (Row r rest) h state s =
      unless_shows (f state r) (λ t. fold_rows f t rest) (step state r s h.0) (λ t u. folded_shows rest h.1 t u)
