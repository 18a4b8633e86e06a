use Rattle.std.proofs.Common.{rules, ◌≡◌, inr, length, Ok, Err}
use Rattle.std.specs.Prelude.{IsErrAnd}
use Rattle.kind_rules.specs.Checked.{IsOneUnlessRefused}
use Rattle.kind_rules.specs.Checking.{check_of, IsTyped}
use Rattle.list_denotation.specs.Pipelines.{pipeline_of}
use Rattle.pipe_tree.specs.Parsing.{ParsesAs}
use Rattle.pipe_tree.specs.Tokens.{toks_of}
use Rattle.pipe_tree.specs.TreeCopies.{text_of}
use Rattle.status_lines.specs.FaultStatuses.{type_status}
use Rattle.job_steps.specs.Pipelines.{names_of}
use Rattle.job_files.proofs.KindSteps.{kinds_failed, as_many}
use Rattle.job_files.proofs.pipelines.read_pipeline.Goals as goal

pub returns-in_err-program : goal.returns-in_err-program
returns-in_err-program c =
    let tree = text_of c.in_ok-tree.tree.value in
    let parses : ParsesAs (length c.args.src.now) (toks_of c.args.src.now c.in_ok-toks.toks) (Ok (text_of c.in_ok-tree.tree.value)) = search rules in
    let checks : IsOneUnlessRefused pipeline_of (Err c.in_err-program.field-0.0) (check_of (text_of c.in_ok-tree.tree.value)) = search rules in
    let is : IsErrAnd c.from_residual-in_err-program.result (λ s. s ≡ type_status c.in_err-program.field-0.0) = search rules in
    kinds_failed c.args.src.now c.in_ok-toks.toks tree c.in_ok-toks.ensures.lexes parses c.in_err-program.field-0.0 c.from_residual-in_err-program.result checks is

pub returns : goal.returns
returns c =
    let parses : ParsesAs (length c.args.src.now) (toks_of c.args.src.now c.in_ok-toks.toks) (Ok (text_of c.in_ok-tree.tree.value)) = search rules in
    let typed : IsTyped (text_of c.in_ok-tree.tree.value) (pipeline_of c.in_ok-new.field-0.value.program) = search rules in
    let names : names_of (text_of c.in_ok-new.field-0.value.tree.value) ≡ names_of (text_of c.in_ok-tree.tree.value) = search rules in
    inr (c.in_ok-toks.toks, (c.in_ok-toks.ensures.lexes, inr (text_of c.in_ok-tree.tree.value, (parses, (typed, names)))))

pub invariant_of-new : goal.invariant_of-new
invariant_of-new c =
    let typed : check_of (text_of c.in_ok-tree.tree.value) ≡ Ok (pipeline_of c.in_ok-program.program) = search rules in
    record { named = as_many c.typed_trees_stand_for_programs.ensures c.in_ok-tree.tree.value c.in_ok-program.program typed }
