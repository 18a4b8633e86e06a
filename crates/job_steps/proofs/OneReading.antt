-- The steps of reading a pipeline text come to one thing, as its tokens, its tree and its kinds do.
use Rattle.std.proofs.Common.{◌≡◌, ◌≢◌, ℕ, List, length, Option, Some, None, Ok, Err, inl, refl, sym, ap, ◌∙◌}
use Rattle.pipe_lexer.specs.declared.token.Token.{Token}
use Rattle.pipe_lexer.specs.declared.fault.LexFault.TheVariants as lex
use Rattle.pipe_lexer.specs.Lexing as lexing
use Rattle.pipe_lexer.specs.Lexing.{LexesAs}
use Rattle.pipe_tree.specs.declared.fault.ParseFault.TheVariants as parse
use Rattle.pipe_tree.specs.Parsing as parsing
use Rattle.pipe_tree.specs.Parsing.{ParsesAs}
use Rattle.pipe_tree.specs.Tokens.{Tok, toks_of}
use Rattle.pipe_tree.specs.Trees.{Text}
use Rattle.kind_rules.specs.declared.fault.TypeFault.TheVariants as types
use Rattle.kind_rules.specs.Checked.{Checked}
use Rattle.kind_rules.specs.Checking.{check_of}
use Rattle.list_denotation.specs.Terms.{Pipeline}
use Rattle.status_lines.specs.declared.refusals.Refusal.{Refusal}
use Rattle.status_lines.specs.declared.refusals.Refusal.TheVariants.{Lex, Parse, Kinds}
use Rattle.status_lines.specs.declared.statuses.Status.{Status}
use Rattle.status_lines.specs.declared.statuses.Status.TheVariants.{Refused}
use Rattle.std.specs.Prelude.{Result}
use Rattle.job_steps.specs.Pipelines.{Source, names_of, HasTokens, HasTree, HasKinds, ReadsPipeline, IsPipelineFile, HasRefusal}
use Rattle.job_steps.proofs.OneEnd.{ComesToOne, IsAnswered, IsUnread, answered_one, one_by, same_ends, then_one}

-- bytes have one answer, and so have tokens
abbrev pub OneLexing : Type 0
OneLexing = (src : List ℕ) (a b : lexing.Answer) → LexesAs src a → LexesAs src b → lexing.IsSameUnlessRefused a b

abbrev pub OneTree : Type 0
OneTree = (end : ℕ) (toks : List Tok) (a b : parsing.Answer) → ParsesAs end toks a → ParsesAs end toks b → parsing.IsSameUnlessRefused a b

-- ---- tokens

abbrev shown_tokens : lexing.Answer → Result (List Token) Status
shown_tokens (Ok toks) = Ok toks
shown_tokens (Err f) = Err (Refused (Lex f))

same_tokens : (a b : lexing.Answer) → lexing.IsSameUnlessRefused a b → a ≢ Err lex.NoMemory → b ≢ Err lex.NoMemory → a ≡ b
same_tokens (Err lex.NoMemory) b h some others = absurd (some refl)
same_tokens a (Err lex.NoMemory) h some others = absurd (others refl)
same_tokens a b h some others = h

tokens_answered : (src : List ℕ) (end : Result (List Token) Status) → HasTokens src end → IsAnswered (LexesAs src) (Err lex.NoMemory) shown_tokens end
tokens_answered src (Ok toks) h = record { answer = Ok toks; reads = h; some = λ none. cc; is = refl }
tokens_answered src (Err (Refused (Lex lex.NoMemory))) h = absurd h
tokens_answered src (Err (Refused (Lex f))) h = record { answer = Err f; reads = h; some = λ none. cc; is = refl }
tokens_answered src (Err status) h = absurd h

tokens_one : OneLexing → (src : List ℕ) → ComesToOne (HasTokens src)
tokens_one one src =
    answered_one (LexesAs src) (Err lex.NoMemory) shown_tokens (HasTokens src) (λ a b h k. same_tokens a b (one src a b h k)) (tokens_answered src)

-- ---- trees

abbrev shown_tree : parsing.Answer → Result Text Status
shown_tree (Ok tree) = Ok tree
shown_tree (Err f) = Err (Refused (Parse f))

same_tree : (a b : parsing.Answer) → parsing.IsSameUnlessRefused a b → a ≢ Err parse.NoMemory → b ≢ Err parse.NoMemory → a ≡ b
same_tree (Err parse.NoMemory) b h some others = absurd (some refl)
same_tree a (Err parse.NoMemory) h some others = absurd (others refl)
same_tree a b h some others = h

module _ (src : List ℕ) (toks : List Token) where
  abbrev Parses : parsing.Answer → Type 0
  Parses answer = ParsesAs (length src) (toks_of src toks) answer

  tree_answered : (end : Result Text Status) → HasTree src toks end → IsAnswered Parses (Err parse.NoMemory) shown_tree end
  tree_answered (Ok tree) h = record { answer = Ok tree; reads = h; some = λ none. cc; is = refl }
  tree_answered (Err (Refused (Parse parse.NoMemory))) h = absurd h
  tree_answered (Err (Refused (Parse f))) h = record { answer = Err f; reads = h; some = λ none. cc; is = refl }
  tree_answered (Err status) h = absurd h

  tree_one : OneTree → ComesToOne (HasTree src toks)
  tree_one one =
      answered_one Parses (Err parse.NoMemory) shown_tree (HasTree src toks) (λ a b h k. same_tree a b (one (length src) (toks_of src toks) a b h k)) tree_answered

-- ---- kinds

abbrev shown_kinds : Text → Checked Pipeline → Result Source Status
shown_kinds tree (Ok p) = Ok (record { names = names_of tree; pipeline = p })
shown_kinds tree (Err f) = Err (Refused (Kinds f))

kinds_shown : (tree : Text) (end : Result Source Status) → HasKinds tree end → end ≡ shown_kinds tree (check_of tree)
kinds_shown tree (Ok source) h =
    ap (λ (names : List (List ℕ)). Ok (record { names = names; pipeline = source.pipeline })) h.1 ∙ sym (ap (shown_kinds tree) h.0)
kinds_shown tree (Err (Refused (Kinds types.NoMemory))) h = absurd h
kinds_shown tree (Err (Refused (Kinds f))) h = sym (ap (shown_kinds tree) h)
kinds_shown tree (Err status) h = absurd h

kinds_one : (tree : Text) → ComesToOne (HasKinds tree)
kinds_one tree = one_by (HasKinds tree) (shown_kinds tree (check_of tree)) (λ end h. inl (kinds_shown tree end h))

-- ---- pipelines

module _ (one_lexing : OneLexing) (one_tree : OneTree) (src : List ℕ) where
  pub reading_one : ComesToOne (ReadsPipeline src)
  reading_one =
      then_one (List Token) Source (HasTokens src) _ (tokens_one one_lexing src) (λ toks.
      then_one Text Source (HasTree src toks) HasKinds (tree_one src toks one_tree) kinds_one)

  read_alike : (a b : Result Source Status) → ReadsPipeline src a → ReadsPipeline src b → (IsUnread a → ⊥) → (IsUnread b → ⊥) → a ≡ b
  read_alike a b h k some others = same_ends a b (reading_one a b h k) some others

  pub one_pipeline : (p q : Pipeline) → IsPipelineFile src p → IsPipelineFile src q → p ≡ q
  one_pipeline p q h k =
      let a : Source = record { names = h.names; pipeline = p } in
      let b : Source = record { names = k.names; pipeline = q } in
      let e = read_alike (Ok a) (Ok b) h.reads k.reads (λ u. u) (λ u. u) in
      let same : a ≡ b = cc in
      ap (λ (s : Source). s.pipeline) same

  pub one_refusal : (a b : Option Refusal) → HasRefusal src a → HasRefusal src b → a ≡ b
  one_refusal None None h k = refl
  one_refusal None (Some r) h k =
      let e = read_alike (Ok h.0) (Err (Refused r)) h.1 k (λ u. u) (λ u. u) in absurd cc
  one_refusal (Some r) None h k =
      let e = read_alike (Err (Refused r)) (Ok k.0) h k.1 (λ u. u) (λ u. u) in absurd cc
  one_refusal (Some r) (Some q) h k =
      let e = read_alike (Err (Refused r)) (Err (Refused q)) h k (λ u. u) (λ u. u) in cc
