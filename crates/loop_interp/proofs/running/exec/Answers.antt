use Rattle.std.proofs.Common.{◌≡◌, ℕ, List, take, replicate, subst}
use Rattle.loop_ir.specs.Meaning.{run, seen_of}
use Rattle.loop_ir.specs.StatementCopies.{block_of}
use Rattle.loop_interp.specs.Answers.{Answers}
use Rattle.loop_interp.specs.Runs.{output_of, state_of}
use Rattle.loop_interp.proofs.Endings.{run_answers}
use Rattle.loop_interp.proofs.running.exec.Goals as goal

pub returns-clause-answers : goal.returns-clause-answers
returns-clause-answers g c =
    let written = g.O.Sink.written in
    let faults = g.O.Sink.faults in
    let vars = c.args.q.now.vars in
    let body = rw c.as_slice.ensures at c.block-ended.ensures.follows in
    let start : take vars c.clear.new.words ≡ replicate vars 0 = c.clear.ensures.zero vars c.requires in
    let answers = run_answers _ (written c.args.sink.now) (faults c.args.sink.now) _ c.args.turns
    (state_of vars (written c.block-ended.new.sink) (faults c.block-ended.new.sink) c.block-ended.new.regs c.block-ended.new.progress)
    c.block-ended.result
    (output_of (written c.finish.new.sink) (faults c.finish.new.sink) c.finish.new.regs)
    c.finish.result body c.finish.ensures.finishes in
    subst (λ (env : List ℕ). Answers (seen_of (run c.args.inputs.now (block_of c.args.q.now.body) env c.args.turns)) (written c.args.sink.now) (written c.finish.new.sink) c.finish.result) start answers
