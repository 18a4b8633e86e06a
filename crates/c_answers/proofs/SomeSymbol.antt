-- The longest symbol at the start, or there is none.
use Rattle.std.proofs.Common.{◌≡◌, ◌⊎◌, ℕ, ◌≤◌, List, [], ◌∷◌, ◌++◌, length, ◌∙◌, arith, inl, inr}
use Rattle.std.specs.Prelude.{nat_le, true, false}
use Rattle.std.proofs.lemmas.Bool.Decides.{nat_tests}
use Rattle.c_tokens.specs.Pieces.{IsLongest}
use Rattle.c_tokens.specs.Symbols.{symbol_text}
use Rattle.c_tokens.specs.declared.symbol.Symbol.{Symbol}
use Rattle.c_tokens.specs.declared.symbol.Symbol.TheVariants.{OpenParen, CloseParen, OpenBrace, CloseBrace, OpenBracket, CloseBracket, Semicolon, Comma, Equal, EqualEqual, Less, AndAnd, BarBar, Bang, Plus, Minus, Star, Slash, Percent, Caret}
use Rattle.c_answers.proofs.Beginnings.{by_test, begins_or_not}

-- ---- all symbols

abbrev symbols : List Symbol
symbols = OpenParen ∷ CloseParen ∷ OpenBrace ∷ CloseBrace ∷ OpenBracket ∷ CloseBracket ∷ Semicolon ∷ Comma ∷ Equal ∷ EqualEqual
    ∷ Less ∷ AndAnd ∷ BarBar ∷ Bang ∷ Plus ∷ Minus ∷ Star ∷ Slash ∷ Percent ∷ Caret ∷ []

-- it holds of each symbol of the list
abbrev Each : (Symbol → Type 0) → List Symbol → Type 0
Each holds [] = Unit {0}
Each holds (s ∷ ss) = holds s × Each holds ss

each_weaker : (holds other : Symbol → Type 0) → ((s : Symbol) → holds s → other s) → (ss : List Symbol) → Each holds ss → Each other ss
each_weaker holds other f [] each = tt
each_weaker holds other f (s ∷ ss) each = (f s each.0, each_weaker holds other f ss each.1)

-- what holds of each of the list of all holds of each
of_each : (holds : Symbol → Type 0) → Each holds symbols → (s : Symbol) → holds s
of_each holds each OpenParen = each.0
of_each holds each CloseParen = each.1.0
of_each holds each OpenBrace = each.1.1.0
of_each holds each CloseBrace = each.1.1.1.0
of_each holds each OpenBracket = each.1.1.1.1.0
of_each holds each CloseBracket = each.1.1.1.1.1.0
of_each holds each Semicolon = each.1.1.1.1.1.1.0
of_each holds each Comma = each.1.1.1.1.1.1.1.0
of_each holds each Equal = each.1.1.1.1.1.1.1.1.0
of_each holds each EqualEqual = each.1.1.1.1.1.1.1.1.1.0
of_each holds each Less = each.1.1.1.1.1.1.1.1.1.1.0
of_each holds each AndAnd = each.1.1.1.1.1.1.1.1.1.1.1.0
of_each holds each BarBar = each.1.1.1.1.1.1.1.1.1.1.1.1.0
of_each holds each Bang = each.1.1.1.1.1.1.1.1.1.1.1.1.1.0
of_each holds each Plus = each.1.1.1.1.1.1.1.1.1.1.1.1.1.1.0
of_each holds each Minus = each.1.1.1.1.1.1.1.1.1.1.1.1.1.1.1.0
of_each holds each Star = each.1.1.1.1.1.1.1.1.1.1.1.1.1.1.1.1.0
of_each holds each Slash = each.1.1.1.1.1.1.1.1.1.1.1.1.1.1.1.1.1.0
of_each holds each Percent = each.1.1.1.1.1.1.1.1.1.1.1.1.1.1.1.1.1.1.0
of_each holds each Caret = each.1.1.1.1.1.1.1.1.1.1.1.1.1.1.1.1.1.1.1.0

-- ---- the longest at the start

module _ (cs : List ℕ) where
  -- if the symbol is at the start, it is at most so long
  abbrev IsAtMost : ℕ → Symbol → Type 0
  IsAtMost most s = (behind : List ℕ) → cs ≡ symbol_text s ++ behind → length (symbol_text s) ≤ most

  abbrev IsNotThere : Symbol → Type 0
  IsNotThere s = (behind : List ℕ) → cs ≡ symbol_text s ++ behind → ⊥

  -- the longest symbol of the list that is at the start
  record HasLongestOf (ss : List Symbol) : Type 0 where
    pub symbol : Symbol
    pub rest : List ℕ
    pub split : cs ≡ symbol_text symbol ++ rest
    pub longest : Each (IsAtMost (length (symbol_text symbol))) ss

  abbrev LongestOrNone : List Symbol → Type 0
  LongestOrNone ss = HasLongestOf ss ⊎ Each IsNotThere ss

  -- one symbol more, that isn't there
  with_none : (s : Symbol) (ss : List Symbol) → IsNotThere s → LongestOrNone ss → LongestOrNone (s ∷ ss)
  with_none s ss none (inl later) = inl (record {
    symbol = later.symbol;
    rest = later.rest;
    split = later.split;
    longest = ((λ behind e. absurd (none behind e)), later.longest);
  })
  with_none s ss none (inr others) = inr (none, others)

  -- one symbol more, that is there
  with_one : (s : Symbol) (ss : List Symbol) (rest : List ℕ) → cs ≡ symbol_text s ++ rest → LongestOrNone ss → LongestOrNone (s ∷ ss)
  with_one s ss rest split (inl later) = by_test {A = LongestOrNone (s ∷ ss)} (nat_le (length (symbol_text s)) (length (symbol_text later.symbol)))
      (λ holds. inl (record {
        symbol = later.symbol;
        rest = later.rest;
        split = later.split;
        longest = ((λ behind e. is_at_most (length (symbol_text s)) (length (symbol_text later.symbol)) holds), later.longest);
      }))
      (λ fails. inl (record {
        symbol = s;
        rest = rest;
        split = split;
        longest = (
          (λ behind e. omega arith),
          each_weaker (IsAtMost (length (symbol_text later.symbol))) (IsAtMost (length (symbol_text s)))
              (λ t within behind e. longer (length (symbol_text t)) (length (symbol_text later.symbol)) (length (symbol_text s)) (within behind e) fails) ss later.longest,
        );
      }))
    where
      is_at_most : (m n : ℕ) → nat_le m n ≡ true → m ≤ n
      is_at_most m n e = grind (arith, nat_tests)

      longer : (l m n : ℕ) → l ≤ m → nat_le n m ≡ false → l ≤ n
      longer l m n within e = grind (arith, nat_tests)
  with_one s ss rest split (inr others) = inl (record {
    symbol = s;
    rest = rest;
    split = split;
    longest = ((λ behind e. omega arith), each_weaker IsNotThere (IsAtMost (length (symbol_text s))) (λ t none behind e. absurd (none behind e)) ss others);
  })

  longest_of : (ss : List Symbol) → LongestOrNone ss
  longest_of [] = inr tt
  longest_of (s ∷ ss) = elim (begins_or_not (symbol_text s) cs) [
    | inl there ↦ with_one s ss there.0 there.1 (longest_of ss)
    | inr none ↦ with_none s ss (λ behind e. none (behind, e)) (longest_of ss)
  ]

  -- the symbol at the start than which none there is longer
  pub record HasSymbol : Type 0 where
    pub symbol : Symbol
    pub rest : List ℕ
    pub split : cs ≡ symbol_text symbol ++ rest
    pub longest : IsLongest (symbol_text symbol) rest

  abbrev pub HasNoSymbol : Type 0
  HasNoSymbol = (s : Symbol) (behind : List ℕ) → cs ≡ symbol_text s ++ behind → ⊥

  by_longest : LongestOrNone symbols → HasSymbol ⊎ HasNoSymbol
  by_longest (inl found) = inl (record {
    symbol = found.symbol;
    rest = found.rest;
    split = found.split;
    longest = λ s behind e. of_each (IsAtMost (length (symbol_text found.symbol))) found.longest s behind (found.split ∙ e);
  })
  by_longest (inr none) = inr (of_each IsNotThere none)

  pub symbol_or_none : HasSymbol ⊎ HasNoSymbol
  symbol_or_none = by_longest (longest_of symbols)
