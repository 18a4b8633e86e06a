-- Readers of one token at a time, and what it is that their answers are exact: where tokens begin a
-- sentence, where they stop to, and where only sentences that are too deep go on.
use Rattle.std.specs.Prelude.{◌≡◌, List, [], ◌∷◌, ◌++◌, Option, Some, None, Bool, cond}

-- a grammar, and the trees that are within the depths
pub record Language (Token : Type 0) : Type 1 where
  pub Tree : Type 0
  pub IsSentence : List Token → Tree → Type 0
  pub IsWithin : Tree → Type 0

-- the tokens begin a sentence
pub record Begins {Token : Type 0} (language : Language Token) (toks : List Token) : Type 0 where
  pub more : List Token
  pub tree : language.Tree
  pub sentence : language.IsSentence (toks ++ more) tree

-- the same, of one within the depths
pub record BeginsWithin {Token : Type 0} (language : Language Token) (toks : List Token) : Type 0 where
  pub more : List Token
  pub tree : language.Tree
  pub sentence : language.IsSentence (toks ++ more) tree
  pub within : language.IsWithin tree

-- after x no sentence goes on with the first token of the rest, or ends where nothing is left
abbrev pub GoesNowhere : {Token : Type 0} → Language Token → List Token → List Token → Type 0
GoesNowhere language x [] = (tree : language.Tree) → language.IsSentence x tree → ⊥
GoesNowhere language x (t ∷ rest) = Begins language (x ++ t ∷ []) → ⊥

-- after x a sentence goes on with the first token of the rest, but none within the depths
abbrev pub GoesDeeper : {Token : Type 0} → Language Token → List Token → List Token → Type 0
GoesDeeper language x [] = ⊥
GoesDeeper language x (t ∷ rest) = Begins language (x ++ t ∷ []) × (BeginsWithin language (x ++ t ∷ []) → ⊥)

-- the tokens before the rest begin a sentence within the depths, and then this holds of both
pub record StopsAt {Token : Type 0} (language : Language Token) (how : List Token → List Token → Type 0) (toks rest : List Token) : Type 0 where
  pub before : List Token
  pub parts : toks ≡ before ++ rest
  pub begins : BeginsWithin language before
  pub stops : how before rest

-- a sentence within the depths; or the tokens from the one at which it stops
pub data Outcome (Token Tree : Type 0) : Type 0 where
  Read : Tree → Outcome Token Tree
  Syntax : List Token → Outcome Token Tree
  TooDeep : List Token → Outcome Token Tree

abbrev pub IsExact : {Token : Type 0} (language : Language Token) → List Token → Outcome Token language.Tree → Type 0
IsExact language toks (Read tree) = language.IsSentence toks tree × language.IsWithin tree
IsExact language toks (Syntax rest) = StopsAt language (GoesNowhere language) toks rest
IsExact language toks (TooDeep rest) = StopsAt language (GoesDeeper language) toks rest

-- a reader of one token at a time, with the test that it makes of each state that it comes to
pub record Reader (Token Tree : Type 0) : Type 1 where
  pub State : Type 0
  pub step : State → Token → Option State
  pub finish : State → Option Tree
  pub is_within_depth : State → Bool

abbrev pub outcome_at_end : {Token Tree : Type 0} → Option Tree → Outcome Token Tree
outcome_at_end (Some tree) = Read tree
outcome_at_end None = Syntax []

abbrev pub outcome_of_step : {Token Tree State : Type 0} → Option State → (State → Outcome Token Tree) → List Token → Outcome Token Tree
outcome_of_step (Some s) next x = next s
outcome_of_step None next x = Syntax x

abbrev pub run : {Token Tree : Type 0} (reader : Reader Token Tree) → reader.State → List Token → Outcome Token Tree
run reader s [] = outcome_at_end (reader.finish s)
run reader s (t ∷ x) = outcome_of_step (reader.step s t) (λ n. cond (reader.is_within_depth n) (run reader n x) (TooDeep (t ∷ x))) (t ∷ x)
