-- The table of keywords holds each of them, and no two are written alike.
use Rattle.std.proofs.Common.{◌≡◌, ◌≢◌, ℕ, ◌<◌, List, [], ◌∷◌, get_or, length, cond, Option, Some, None, refl, sym, ap, ◌∙◌, lit<}
use Rattle.std.specs.Str.{bytes_eq}
use Rattle.pipe_lexer.specs.Keywords.{keyword_text}
use Rattle.pipe_lexer.specs.declared.keyword.Keyword.{Keyword}
use Rattle.pipe_lexer.specs.declared.keyword.Keyword.TheVariants as keyword
use Rattle.pipe_lexer.specs.declared.keyword.TheConstants.{KEYWORDS}

-- the keyword in a list that is written so
keyword_named : List Keyword → List ℕ → Option Keyword
keyword_named [] identifier = None
keyword_named (k ∷ ks) identifier = cond (bytes_eq (keyword_text k) identifier) (Some k) (keyword_named ks identifier)

keyword_named-text : (k : Keyword) → keyword_named KEYWORDS (keyword_text k) ≡ Some k
unfolding keyword_named
keyword_named-text keyword.Input = refl
keyword_named-text keyword.Array = refl
keyword_named-text keyword.Int = refl
keyword_named-text keyword.Range = refl
keyword_named-text keyword.Unfold = refl
keyword_named-text keyword.With = refl
keyword_named-text keyword.While = refl
keyword_named-text keyword.Yield = refl
keyword_named-text keyword.Next = refl
keyword_named-text keyword.Zip = refl
keyword_named-text keyword.Map = refl
keyword_named-text keyword.Filter = refl
keyword_named-text keyword.Take = refl
keyword_named-text keyword.Drop = refl
keyword_named-text keyword.TakeWhile = refl
keyword_named-text keyword.Scan = refl
keyword_named-text keyword.FlatMap = refl
keyword_named-text keyword.Fold = refl
keyword_named-text keyword.Print = refl
keyword_named-text keyword.If = refl
keyword_named-text keyword.Then = refl
keyword_named-text keyword.Else = refl
keyword_named-text keyword.True = refl
keyword_named-text keyword.False = refl
keyword_named-text keyword.Len = refl
keyword_named-text keyword.Window = refl
keyword_named-text keyword.Pairwise = refl
keyword_named-text keyword.Index = refl
keyword_named-text keyword.Sum = refl
keyword_named-text keyword.Count = refl
keyword_named-text keyword.Least = refl
keyword_named-text keyword.Greatest = refl

-- keywords that are written so are one
pub same_keyword : (k j : Keyword) → keyword_text k ≡ keyword_text j → k ≡ j
same_keyword k j e =
    let both : Some k ≡ Some j = sym (keyword_named-text k) ∙ ap (keyword_named KEYWORDS) e ∙ keyword_named-text j in
    cc

-- where a keyword stands in the table
record IsListed (k : Keyword) : Type 0 where
  pub at : ℕ
  pub within : at < length KEYWORDS
  pub is : get_or KEYWORDS at k ≡ k

listed : (k : Keyword) → IsListed k
listed keyword.Input = record { at = 0; within = lit< tt; is = refl }
listed keyword.Array = record { at = 1; within = lit< tt; is = refl }
listed keyword.Int = record { at = 2; within = lit< tt; is = refl }
listed keyword.Range = record { at = 3; within = lit< tt; is = refl }
listed keyword.Unfold = record { at = 4; within = lit< tt; is = refl }
listed keyword.With = record { at = 5; within = lit< tt; is = refl }
listed keyword.While = record { at = 6; within = lit< tt; is = refl }
listed keyword.Yield = record { at = 7; within = lit< tt; is = refl }
listed keyword.Next = record { at = 8; within = lit< tt; is = refl }
listed keyword.Zip = record { at = 9; within = lit< tt; is = refl }
listed keyword.Map = record { at = 10; within = lit< tt; is = refl }
listed keyword.Filter = record { at = 11; within = lit< tt; is = refl }
listed keyword.Take = record { at = 12; within = lit< tt; is = refl }
listed keyword.Drop = record { at = 13; within = lit< tt; is = refl }
listed keyword.TakeWhile = record { at = 14; within = lit< tt; is = refl }
listed keyword.Scan = record { at = 15; within = lit< tt; is = refl }
listed keyword.FlatMap = record { at = 16; within = lit< tt; is = refl }
listed keyword.Fold = record { at = 17; within = lit< tt; is = refl }
listed keyword.Print = record { at = 18; within = lit< tt; is = refl }
listed keyword.If = record { at = 19; within = lit< tt; is = refl }
listed keyword.Then = record { at = 20; within = lit< tt; is = refl }
listed keyword.Else = record { at = 21; within = lit< tt; is = refl }
listed keyword.True = record { at = 22; within = lit< tt; is = refl }
listed keyword.False = record { at = 23; within = lit< tt; is = refl }
listed keyword.Len = record { at = 24; within = lit< tt; is = refl }
listed keyword.Window = record { at = 25; within = lit< tt; is = refl }
listed keyword.Pairwise = record { at = 26; within = lit< tt; is = refl }
listed keyword.Index = record { at = 27; within = lit< tt; is = refl }
listed keyword.Sum = record { at = 28; within = lit< tt; is = refl }
listed keyword.Count = record { at = 29; within = lit< tt; is = refl }
listed keyword.Least = record { at = 30; within = lit< tt; is = refl }
listed keyword.Greatest = record { at = 31; within = lit< tt; is = refl }

-- where none of the table is written so, no keyword is
pub none_written : (identifier : List ℕ) → ((i : ℕ) (d : Keyword) → i < length KEYWORDS → keyword_text (get_or KEYWORDS i d) ≢ identifier) → (k : Keyword) → keyword_text k ≢ identifier
none_written identifier none k e =
    let l = listed k in
    none l.at k l.within (ap keyword_text l.is ∙ e)
