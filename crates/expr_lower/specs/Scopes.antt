-- What the statements of an expression start from: the words that it reads stand in their variables.
use Rattle.std.specs.Prelude.{◌≡◌, ◌≢◌, ◌⊎◌, ℕ, ◌<◌, ◌≤◌, List, length, slice_get, slice_index, IsTrue}
use Rattle.strm_num.specs.Words.{IsWord}
use Rattle.list_denotation.specs.declared.input.Input.{Input}
use Rattle.list_denotation.specs.Terms.{Term, Lit, Truth, Var, Param, Len, Neg, Not, Bin, And, Or, If}
use Rattle.list_denotation.specs.Inputs.{items_in, word_in}
use Rattle.loop_ir.specs.DeclaredNames.{Names}

-- this holds of each leaf of the expression: of its numbers, its truths and its names
abbrev pub EachLeaf : (Term → Type 0) → Term → Type 0
EachLeaf P (Lit c) = P (Lit c)
EachLeaf P (Truth b) = P (Truth b)
EachLeaf P (Var k) = P (Var k)
EachLeaf P (Param k) = P (Param k)
EachLeaf P (Len k) = P (Len k)
EachLeaf P (Neg a) = EachLeaf P a
EachLeaf P (Not a) = EachLeaf P a
EachLeaf P (Bin o a b) = EachLeaf P a × EachLeaf P b
EachLeaf P (And a b) = EachLeaf P a × EachLeaf P b
EachLeaf P (Or a b) = EachLeaf P a × EachLeaf P b
EachLeaf P (If c a b) = EachLeaf P c × (EachLeaf P a × EachLeaf P b)

-- a number is a word
abbrev pub IsWordLeaf : Term → Type 0
IsWordLeaf (Lit c) = IsWord c
IsWordLeaf _ = Unit {0}

-- a bound word is one of the first n
abbrev pub IsBoundLeaf : ℕ → Term → Type 0
IsBoundLeaf n (Var k) = k < n
IsBoundLeaf n _ = Unit {0}

module _ (rows words : List ℕ) (inputs : List Input) (env : List ℕ) where
  -- the word of the scope stands in its variable, and is a word
  pub record IsInVariable (k : ℕ) : Type 0 where
    pub same : slice_index env (slice_index rows k) ≡ slice_index words k
    pub word : IsWord (slice_index words k)

  abbrev pub IsLeafInPlace : Term → Type 0
  IsLeafInPlace (Var k) = IsInVariable k
  IsLeafInPlace (Param k) = IsWord (word_in (slice_get inputs k))
  IsLeafInPlace (Len k) = IsWord (length (items_in (slice_get inputs k)))
  IsLeafInPlace _ = Unit {0}

  -- each word that the expression reads stands in its variable, and each input that it reads is a word
  abbrev pub WordsInPlace : Term → Type 0
  WordsInPlace e = EachLeaf IsLeafInPlace e

  -- all words of the scope stand in their variables, and all inputs are words
  pub record ScopeInPlace : Type 0 where
    pub in_variables : (k : ℕ) → k < length rows → IsInVariable k
    pub ints : (k : ℕ) → IsWord (word_in (slice_get inputs k))
    pub lengths : (k : ℕ) → IsWord (length (items_in (slice_get inputs k)))

-- the variable is none of those from t up to but without top
abbrev pub IsOutside : ℕ → ℕ → ℕ → Type 0
IsOutside t top x = (x < t) ⊎ (top ≤ x)

module _ (rows : List ℕ) (v : ℕ) where
  abbrev pub IsUnreadLeaf : Term → Type 0
  IsUnreadLeaf (Var k) = slice_index rows k ≢ v
  IsUnreadLeaf _ = Unit {0}

  -- no word that the expression reads stands in v
  abbrev pub IsUnread : Term → Type 0
  IsUnread e = EachLeaf IsUnreadLeaf e

module _ (may : Names) (rows : List ℕ) where
  abbrev pub MayNameLeaf : Term → Type 0
  MayNameLeaf (Var k) = IsTrue (may.var (slice_index rows k))
  MayNameLeaf _ = Unit {0}

  -- the variables of the words that the expression reads may be named
  abbrev pub MayNameWords : Term → Type 0
  MayNameWords e = EachLeaf MayNameLeaf e
