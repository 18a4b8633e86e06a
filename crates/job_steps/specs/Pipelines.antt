-- What comes of reading a pipeline text: its pipeline with the names of its inputs, or the first fault of its
-- tokens, then of its tree, and then of its kinds.
use Rattle.std.specs.Prelude.{◌≡◌, ℕ, ◌≤◌, List, length, map, Option, Some, None, Result, Ok, Err}
use Rattle.pipe_lexer.specs.declared.token.Token.{Token}
use Rattle.pipe_lexer.specs.declared.fault.LexFault.TheVariants as lex
use Rattle.pipe_lexer.specs.Lexing.{LexesAs}
use Rattle.pipe_tree.specs.declared.fault.ParseFault.TheVariants as parse
use Rattle.pipe_tree.specs.Parsing.{ParsesAs}
use Rattle.pipe_tree.specs.Tokens.{toks_of}
use Rattle.pipe_tree.specs.Trees.{Declaration, Text}
use Rattle.pipe_limits.specs.declared.TheConstants.{MOST_BYTES}
use Rattle.kind_rules.specs.declared.fault.TypeFault.TheVariants as types
use Rattle.kind_rules.specs.Checking.{check_of, IsTyped}
use Rattle.list_denotation.specs.Terms.{Pipeline}
use Rattle.strm_io.specs.Store.{Store}
use Rattle.status_lines.specs.declared.refusals.Refusal.{Refusal}
use Rattle.status_lines.specs.declared.refusals.Refusal.TheVariants.{Lex, Parse, Kinds}
use Rattle.status_lines.specs.declared.statuses.Status.{Status}
use Rattle.status_lines.specs.declared.statuses.Status.TheVariants.{Refused}
use Rattle.job_steps.specs.Steps.{Then}
use Rattle.job_steps.specs.Loads.{Loads}

-- a pipeline and the names of its inputs, in order of declaration
pub record Source : Type 0 where
  pub names : List (List ℕ)
  pub pipeline : Pipeline

abbrev pub names_of : Text → List (List ℕ)
names_of tree = map (λ (d : Declaration). d.name.text) tree.inputs

-- the tokens of the bytes, or their first fault
abbrev pub HasTokens : List ℕ → Result (List Token) Status → Type 0
HasTokens src (Ok toks) = LexesAs src (Ok toks)
HasTokens src (Err (Refused (Lex lex.NoMemory))) = ⊥
HasTokens src (Err (Refused (Lex fault))) = LexesAs src (Err fault)
HasTokens src (Err status) = ⊥

-- the tree of the tokens, which is within the limits, or their first fault
abbrev pub HasTree : List ℕ → List Token → Result Text Status → Type 0
HasTree src toks (Ok tree) = ParsesAs (length src) (toks_of src toks) (Ok tree)
HasTree src toks (Err (Refused (Parse parse.NoMemory))) = ⊥
HasTree src toks (Err (Refused (Parse fault))) = ParsesAs (length src) (toks_of src toks) (Err fault)
HasTree src toks (Err status) = ⊥

-- the pipeline that the tree stands for, or the first fault of its kinds
abbrev pub HasKinds : Text → Result Source Status → Type 0
HasKinds tree (Ok source) = IsTyped tree source.pipeline × (source.names ≡ names_of tree)
HasKinds tree (Err (Refused (Kinds types.NoMemory))) = ⊥
HasKinds tree (Err (Refused (Kinds fault))) = check_of tree ≡ Err fault
HasKinds tree (Err status) = ⊥

abbrev pub ReadsPipeline : List ℕ → Result Source Status → Type 0
ReadsPipeline src = Then (HasTokens src) (λ toks. Then (HasTree src toks) HasKinds)

-- the file is loaded and read
abbrev pub LoadsPipeline : Option Store → List ℕ → Result Source Status → Type 0
LoadsPipeline store name = Then (Loads store name MOST_BYTES) ReadsPipeline

-- ---- what a file is

-- the bytes are few enough, and are this pipeline
pub record IsPipelineFile (src : List ℕ) (p : Pipeline) : Type 0 where
  pub within : length src ≤ MOST_BYTES
  pub names : List (List ℕ)
  pub reads : ReadsPipeline src (Ok (record { names = names; pipeline = p }))

-- why the bytes are no pipeline, however many there are, or that they are one
abbrev pub HasRefusal : List ℕ → Option Refusal → Type 0
HasRefusal src None = (source : Source) × ReadsPipeline src (Ok source)
HasRefusal src (Some refusal) = ReadsPipeline src (Err (Refused refusal))
