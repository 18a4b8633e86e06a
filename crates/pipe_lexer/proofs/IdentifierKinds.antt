-- An identifier is the keyword that is written so, or a name.
use Rattle.std.proofs.Common.{◌≡◌, ◌≢◌, ◌⊎◌, ℕ, zero, suc, ◌<◌, ◌≤◌, List, length, get_or, sym, ap, ◌∙◌, arith, inl, inr, true≢false}
use Rattle.std.specs.Str.{bytes_eq}
use Rattle.std.proofs.lemmas.Bool.{cases_Bool, cases_lt}
use Rattle.std.proofs.lemmas.List.{get_or_default}
use Rattle.std.proofs.lemmas.Slice.Eq.{bytes_eq-Decides}
use Rattle.pipe_lexer.specs.Keywords.{keyword_text}
use Rattle.pipe_lexer.specs.Prefixes.{IsIdentifierKind}
use Rattle.pipe_lexer.specs.declared.keyword.Keyword.{Keyword}
use Rattle.pipe_lexer.specs.declared.keyword.Keyword.TheVariants.{Input}
use Rattle.pipe_lexer.specs.declared.keyword.TheConstants.{KEYWORDS}
use Rattle.pipe_lexer.specs.declared.token.TokenKind.{TokenKind}
use Rattle.pipe_lexer.specs.declared.token.TokenKind.TheVariants.{Name, Key}
use Rattle.pipe_lexer.proofs.KeywordTable.{none_written}

-- an identifier, and a table that has each keyword
module _ (identifier : List ℕ) (table : List Keyword) where
  -- none of the first keywords of the table is written so
  abbrev NoneBelow : ℕ → Type 0
  NoneBelow n = (i : ℕ) (d : Keyword) → i < n → keyword_text (get_or table i d) ≢ identifier

  one_more : (n : ℕ) → n < length table → NoneBelow n → keyword_text (get_or table n Input) ≢ identifier → NoneBelow (suc n)
  one_more n within none differs i d below written = elim (cases_lt i n) [
    | inl before ↦ none i d before written
    | inr last ↦
        let same : i ≡ n = omega arith in
        differs (ap keyword_text (get_or_default table n Input d within) ∙ ap (λ (k : ℕ). keyword_text (get_or table k d)) (sym same) ∙ written)
  ]

  kind_below : (n : ℕ) → n ≤ length table → ((k : Keyword) × (keyword_text k ≡ identifier)) ⊎ NoneBelow n
  kind_below zero within = inr (λ i d below. absurd (omega arith))
  kind_below (suc n) within =
      let here = get_or table n Input in
      let decides = bytes_eq-Decides (keyword_text here) identifier in
      let earlier = kind_below n (omega arith) in
      elim (cases_Bool (bytes_eq (keyword_text here) identifier)) [
        | inl passes ↦ inl (here, decides.0 passes)
        | inr fails ↦ elim earlier [
          | inl found ↦ inl found
          | inr none ↦ inr (one_more n (omega arith) none (λ written. true≢false (sym (decides.1 written) ∙ fails)))
        ]
      ]

  kind_in : (NoneBelow (length table) → (k : Keyword) → keyword_text k ≢ identifier) → (kind : TokenKind) × IsIdentifierKind identifier kind
  kind_in all = elim (kind_below (length table) (omega arith)) [
    | inl found ↦ (Key found.0, found.1)
    | inr none ↦ (Name, all none)
  ]

pub identifier_kind : (identifier : List ℕ) → (kind : TokenKind) × IsIdentifierKind identifier kind
identifier_kind identifier = kind_in identifier KEYWORDS (none_written identifier)
