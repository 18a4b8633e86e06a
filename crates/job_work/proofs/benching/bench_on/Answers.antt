use Rattle.std.proofs.Common.{arith, subst, sym}
use Rattle.list_denotation.specs.Pipelines.{pipeline_of}
use Rattle.job_work.proofs.Benches.{IsRow, lines_done, no_other_end, row_written}
use Rattle.status_lines.specs.declared.statuses.Status.TheVariants as status
use Rattle.job_work.proofs.benching.bench_on.Goals as goal

pub returns-in-Done-clause-does : goal.returns-in-Done-clause-does
returns-in-Done-clause-does g c =
    let row = row_written c.runs_follow_the_lists.ensures c.bench_shows_one_row.ensures c.bench_is_little_work.ensures c.bench_inputs_fit.ensures c.args.seed c.args.count c.requires.few (pipeline_of c.args.program.now) c.args.inputs.now c.requires.program c.requires.inputs c.args.row.now.written c.run.new.out.written 0 0 c.requires.empty c.in-Done.ensures.does in
    let kept = subst (IsRow c.args.seed c.args.count status.Done) (sym c.bytes.ensures) row in
    lines_done c.bench_text_is_its_pipeline.ensures c.args.seed c.args.count (pipeline_of c.args.program.now) c.requires.program c.bytes.result.now kept _ _ _ _ c.write_lines.result c.write_lines.ensures.does

pub returns-in_default : goal.returns-in_default
returns-in_default g c =
    record {
      does = no_other_end c.runs_follow_the_lists.ensures c.bench_shows_one_row.ensures c.bench_is_little_work.ensures c.bench_inputs_fit.ensures c.args.seed c.args.count c.requires.few (pipeline_of c.args.program.now) c.args.inputs.now c.requires.program c.requires.inputs _ _ _ _ c.run.result c.run.ensures.does c.in_default.not-Done c.in_default.not-WriteFault _ _;
      faults = omega arith;
    }
