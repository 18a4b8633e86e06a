-- Each list of bytes has a refusal or none: its tokens have an answer, then their tree, and then its kinds.
use Rattle.std.proofs.Common.{◌≡◌, ◌≢◌, ◌⊎◌, inl, inr, ℕ, List, length, Option, Some, None, Result, Ok, Err, refl}
use Rattle.pipe_lexer.specs.declared.token.Token.{Token}
use Rattle.pipe_lexer.specs.declared.fault.LexFault.TheVariants as lex
use Rattle.pipe_lexer.specs.Lexing as lexing
use Rattle.pipe_lexer.specs.Lexing.{LexesAs}
use Rattle.pipe_tree.specs.declared.fault.ParseFault.TheVariants as parse
use Rattle.pipe_tree.specs.Parsing as parsing
use Rattle.pipe_tree.specs.Parsing.{ParsesAs}
use Rattle.pipe_tree.specs.Tokens.{Tok, toks_of}
use Rattle.pipe_tree.specs.Trees.{Text}
use Rattle.kind_rules.specs.declared.fault.TypeFault.TheVariants as types
use Rattle.kind_rules.specs.Checked.{Checked}
use Rattle.kind_rules.specs.Checking.{check_of}
use Rattle.list_denotation.specs.Terms.{Pipeline}
use Rattle.status_lines.specs.declared.refusals.Refusal.{Refusal}
use Rattle.status_lines.specs.declared.refusals.Refusal.TheVariants.{Lex, Parse, Kinds}
use Rattle.status_lines.specs.declared.statuses.Status.{Status}
use Rattle.status_lines.specs.declared.statuses.Status.TheVariants.{Refused}
use Rattle.job_steps.specs.Steps.{Then}
use Rattle.job_steps.specs.Pipelines.{names_of, HasTokens, HasTree, HasKinds, ReadsPipeline, HasRefusal}

-- what each step of reading is answered with
abbrev pub EachLexes : Type 0
EachLexes = (src : List ℕ) → (a : lexing.Answer) × (LexesAs src a × (a ≢ Err lex.NoMemory))

abbrev pub EachParses : Type 0
EachParses = (end : ℕ) (toks : List Tok) → (a : parsing.Answer) × (ParsesAs end toks a × (a ≢ Err parse.NoMemory))

abbrev pub EachChecks : Type 0
EachChecks = (tree : Text) → check_of tree ≢ Err types.NoMemory

-- ---- steps

-- the step gives something, or fails by a refusal
abbrev PassesOrRefuses : {A : Type 0} → (Result A Status → Type 0) → Type 0
PassesOrRefuses {A} step = ((a : A) × step (Ok a)) ⊎ ((refusal : Refusal) × step (Err (Refused refusal)))

then_some : {A B : Type 0} (first : Result A Status → Type 0) (next : A → Result B Status → Type 0)
    → PassesOrRefuses first → ((a : A) → PassesOrRefuses (next a)) → PassesOrRefuses (Then first next)
then_some first next (inr h) others = inr (h.0, inl h.1)
then_some first next (inl h) others = behind (others h.0) where
  behind : PassesOrRefuses (next h.0) → PassesOrRefuses (Then first next)
  behind (inl k) = inl (k.0, inr (h.0, (h.1, k.1)))
  behind (inr k) = inr (k.0, inr (h.0, (h.1, k.1)))

tokens_some : (src : List ℕ) (answer : lexing.Answer) → LexesAs src answer → answer ≢ Err lex.NoMemory → PassesOrRefuses (HasTokens src)
tokens_some src (Ok toks) h some = inl (toks, h)
tokens_some src (Err lex.NoMemory) h some = absurd (some refl)
tokens_some src (Err f) h some = inr (Lex f, h)

tree_some : (src : List ℕ) (toks : List Token) (answer : parsing.Answer) → ParsesAs (length src) (toks_of src toks) answer → answer ≢ Err parse.NoMemory → PassesOrRefuses (HasTree src toks)
tree_some src toks (Ok tree) h some = inl (tree, h)
tree_some src toks (Err parse.NoMemory) h some = absurd (some refl)
tree_some src toks (Err f) h some = inr (Parse f, h)

kinds_some : (tree : Text) (kinds : Checked Pipeline) → check_of tree ≡ kinds → kinds ≢ Err types.NoMemory → PassesOrRefuses (HasKinds tree)
kinds_some tree (Ok p) is some = inl (record { names = names_of tree; pipeline = p }, (is, refl))
kinds_some tree (Err types.NoMemory) is some = absurd (some refl)
kinds_some tree (Err f) is some = inr (Kinds f, is)

-- ---- files

reading_some : EachLexes → EachParses → EachChecks → (src : List ℕ) → PassesOrRefuses (ReadsPipeline src)
reading_some lexes parses checks src =
    let lexed = lexes src in
    then_some (HasTokens src) (λ toks. Then (HasTree src toks) HasKinds) (tokens_some src lexed.0 lexed.1.0 lexed.1.1) (λ toks.
    let parsed = parses (length src) (toks_of src toks) in
    then_some (HasTree src toks) HasKinds (tree_some src toks parsed.0 parsed.1.0 parsed.1.1) (λ tree.
    kinds_some tree (check_of tree) refl (checks tree)))

refusal_of : (src : List ℕ) → PassesOrRefuses (ReadsPipeline src) → (o : Option Refusal) × HasRefusal src o
refusal_of src (inl h) = (None, h)
refusal_of src (inr h) = (Some h.0, h.1)

pub some_refusal : EachLexes → EachParses → EachChecks → (src : List ℕ) → (o : Option Refusal) × HasRefusal src o
some_refusal lexes parses checks src = refusal_of src (reading_some lexes parses checks src)
