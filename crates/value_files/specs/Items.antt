-- The items of bytes: longest runs of bytes that are no blanks.
use Rattle.std.specs.Prelude.{◌≡◌, ◌≢◌, ℕ, List, [], ◌∷◌, ◌++◌, Bool, true, false}
use Rattle.value_files.specs.Bytes.{is_blank, is_inner}

-- the text is a longest run: each of it passes the test, and what follows does not
abbrev pub IsRun : (ℕ → Bool) → List ℕ → List ℕ → Type 0
IsRun test [] [] = Unit {0}
IsRun test [] (c ∷ rest) = test c ≡ false
IsRun test (c ∷ text) rest = (test c ≡ true) × IsRun test text rest

-- the bytes are blanks, an item and a rest, and the item goes on as long as it can
pub record IsItem (bytes item rest : List ℕ) : Type 0 where
  pub blanks : List ℕ
  pub split : bytes ≡ blanks ++ (item ++ rest)
  pub blank : IsRun is_blank blanks (item ++ rest)
  pub some : item ≢ []
  pub inner : IsRun is_inner item rest

-- there is no item: the bytes are blanks
abbrev pub IsBlank : List ℕ → Type 0
IsBlank bytes = IsRun is_blank bytes []
