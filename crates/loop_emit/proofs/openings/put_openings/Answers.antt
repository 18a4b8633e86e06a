use Rattle.std.proofs.Common.{length, sym, ap, subst, ◌∙◌, arith}
use Rattle.std.specs.Prelude.{IsTrue}
use Rattle.list_denotation.specs.Copies.{term_of}
use Rattle.list_denotation.specs.Scopes.{is_bound}
use Rattle.loop_ir.specs.StatementCopies.{block_of}
use Rattle.loop_emit.proofs.Appends.{bound_at, temps_at, opens_one}
use Rattle.loop_emit.proofs.openings.put_openings.Goals as goal

pub lower_into-requires-clause-bound : goal.lower_into-requires-clause-bound
lower_into-requires-clause-bound c =
    subst (λ n. IsTrue (is_bound n (term_of c.get.result.now))) (sym (ap length c.requires.no_words))
    (bound_at 0 c.args.es.now c.loop-i.i c.get.result.now c.get.ensures c.requires.bound)

pub lower_into-requires-clause-temporaries : goal.lower_into-requires-clause-temporaries
lower_into-requires-clause-temporaries c =
    let within = temps_at c.args.es.now c.loop-i.i c.get.result.now c.get.ensures in
    let few = c.requires.temporaries in
    omega (arith, within, few)

pub loop-i-preserved : goal.loop-i-preserved
loop-i-preserved c =
    opens_one (block_of c.loop-i.block) (block_of c.lower_into.new.block) c.args.es.now c.args.slots.now.rows c.args.slots.now.first_temp c.args.first c.loop-i.i c.get.result.now
    c.requires.no_words c.requires.first_temp c.get.ensures c.in_ok-lower_into.ensures.block
    ∙ c.loop-i.invariant
