-- What comes of reading a pipeline text, from what the steps of reading it gave.
use Rattle.std.proofs.Common.{◌≡◌, ◌↔◌, ℕ, List, length, Ok, Err, sym, ap, ◌∙◌, subst}
use Rattle.std.proofs.lemmas.List.{length-map}
use Rattle.std.specs.Prelude.{Result, Box, IsErrAnd}
use Rattle.std.specs.declared.alloc.Global.{Global}
use Rattle.pipe_lexer.specs.declared.token.Token.{Token}
use Rattle.pipe_lexer.specs.Lexing.{LexesAs}
use Rattle.pipe_tree.specs.Parsing.{ParsesAs}
use Rattle.pipe_tree.specs.Tokens.{toks_of}
use Rattle.pipe_tree.specs.Trees.{Declaration, Text}
use Rattle.pipe_tree.specs.TreeCopies.{text_of, declaration_of}
use Rattle.pipe_tree.specs.declared.tree.Tree.{Tree}
use Rattle.kind_rules.specs.declared.fault.TypeFault.{TypeFault}
use Rattle.kind_rules.specs.declared.fault.TypeFault.TheVariants as types
use Rattle.kind_rules.specs.Checked.{IsOneUnlessRefused}
use Rattle.kind_rules.specs.Checking.{check_of, IsTyped}
use Rattle.kind_rules.specs.Inputs.{input_kind}
use Rattle.kind_rules.specs.StandsFor.{StandsFor}
use Rattle.list_denotation.specs.declared.program.Program.{Program}
use Rattle.list_denotation.specs.Terms.{Pipeline}
use Rattle.list_denotation.specs.Pipelines.{pipeline_of}
use Rattle.status_lines.specs.FaultStatuses.{type_status}
use Rattle.status_lines.specs.declared.statuses.Status.{Status}
use Rattle.job_steps.specs.Pipelines.{HasTokens, HasTree, HasKinds, ReadsPipeline}
use Rattle.job_steps.specs.Steps.{Then, ComesOf}
use Rattle.job_steps.proofs.TakenSteps.{first_gives}
use Rattle.job_files.specs.Sources.{source_of}
use Rattle.job_files.specs.declared.source.Source.{Source}

kinds_fail : (tree : Text) (f : TypeFault) → IsOneUnlessRefused pipeline_of (Err f) (check_of tree) → ComesOf source_of (HasKinds tree) (Err (type_status f))
kinds_fail tree types.NoMemory h = tt
kinds_fail tree f h = h

module _ (src : List ℕ) (toks : List Token) (tree : Text) (lexes : LexesAs src (Ok toks)) (parses : ParsesAs (length src) (toks_of src toks) (Ok tree)) where
  -- behind the tree, what comes of its kinds comes of the text
  behind_tree : (end : Result (Box Source Global) Status) → ComesOf source_of (HasKinds tree) end → ComesOf source_of (ReadsPipeline src) end
  behind_tree end h =
      first_gives (λ (t : List Token). t) source_of (HasTokens src) (λ t. Then (HasTree src t) HasKinds) toks end lexes
      (first_gives (λ (t : Text). t) source_of (HasTree src toks) HasKinds tree end parses h)

  pub kinds_failed : (f : TypeFault) (end : Result (Box Source Global) Status) → IsOneUnlessRefused pipeline_of (Err f) (check_of tree) → IsErrAnd end (λ s. s ≡ type_status f) → ComesOf source_of (ReadsPipeline src) end
  kinds_failed f (Ok s) h is = absurd is
  kinds_failed f (Err s) h is =
      behind_tree (Err s) (subst (λ (t : Status). ComesOf source_of (HasKinds tree) (Err t)) (sym is) (kinds_fail tree f h))

abbrev StandsWhereTyped : Type 0
StandsWhereTyped = (t : Text) (p : Pipeline) → IsTyped t p ↔ StandsFor t p

-- a program has as many inputs as its tree names
pub as_many : StandsWhereTyped → (tree : Tree) (p : Program) → check_of (text_of tree) ≡ Ok (pipeline_of p) → length tree.inputs ≡ length p.inputs
as_many stands tree p typed =
    let inputs = ((stands (text_of tree) (pipeline_of p)).0 typed).inputs in
    sym (length-map tree.inputs declaration_of) ∙ sym (length-map (text_of tree).inputs (λ (d : Declaration). input_kind d.kind)) ∙ sym (ap length inputs)
