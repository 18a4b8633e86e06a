use Rattle.std.proofs.lemmas.Result.{IfOk-weaker}
use Rattle.list_denotation.specs.Copies.{term_of, terms_of}
use Rattle.stateful_core.specs.CoreCopies.{actions_of, core_term_of}
use Rattle.loop_emit.proofs.Compiled.{few_temps, room, well_formed, is_emitted}
use Rattle.loop_emit.proofs.emission.program_body.Goals as goal

pub machine_temps-temps-requires : goal.machine_temps-temps-requires
machine_temps-temps-requires c =
    let p = c.args.p.now in
    let m = c.in_ok-machine.machine in
    few_temps c.laws_below.ensures p (core_term_of c.args.c.now) c.requires m.scope (terms_of m.init) (term_of m.guard) (actions_of m.acts) (terms_of m.item) c.in_ok-machine.ensures p.typed p.words

pub statements-requires : goal.statements-requires
statements-requires c =
    let p = c.args.p.now in
    let m = c.in_ok-machine.machine in
    room c.laws_below.ensures p (core_term_of c.args.c.now) c.requires m.scope (terms_of m.init) (term_of m.guard) (actions_of m.acts) (terms_of m.item) c.in_ok-machine.ensures p.typed p.words
    c.machine_temps-temps.result (actions_of c.push_lets.new.acts) c.machine_temps-temps.ensures c.in_ok-push_lets.ensures

pub returns : goal.returns
returns c =
    let p = c.args.p.now in
    let m = c.in_ok-machine.machine in
    record {
      well_formed =
          IfOk-weaker c.statements.result _ _
          (λ it is.
          well_formed c.laws_below.ensures p (core_term_of c.args.c.now) c.requires m.scope (terms_of m.init) (term_of m.guard) (actions_of m.acts) (terms_of m.item) c.in_ok-machine.ensures p.typed p.words
          c.machine_temps-temps.result (actions_of c.push_lets.new.acts) c.machine_temps-temps.ensures c.in_ok-push_lets.ensures it.1 it.0 is)
          c.statements.ensures;
      emitted =
          IfOk-weaker c.statements.result _ _
          (λ it is.
          is_emitted c.laws_below.ensures p (core_term_of c.args.c.now) c.requires m.scope (terms_of m.init) (term_of m.guard) (actions_of m.acts) (terms_of m.item) c.in_ok-machine.ensures p.typed p.words
          c.machine_temps-temps.result (actions_of c.push_lets.new.acts) c.machine_temps-temps.ensures c.in_ok-push_lets.ensures it.1 it.0 is)
          c.statements.ensures;
    }
