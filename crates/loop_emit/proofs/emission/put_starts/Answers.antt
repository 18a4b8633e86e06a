use Rattle.std.proofs.Common.{◌+◌, subst}
use Rattle.std.proofs.lemmas.Result.{on_ok_weaker}
use Rattle.list_denotation.specs.Copies.{terms_of, finish_of}
use Rattle.expr_phrases.specs.PhraseCopies.{Appends}
use Rattle.loop_emit.specs.Emission.{held_count, finish_openings, openings}
use Rattle.loop_emit.proofs.Appends.{appends_more}
use Rattle.loop_emit.proofs.emission.put_starts.Goals as goal

pub returns : goal.returns
returns c =
    let t = finish_of c.args.t.now in
    let init = terms_of c.args.m.now.init in
    let first = subst (λ n. Appends c.args.block.now c.put_finish_openings.new.block (finish_openings t n)) c.new-slots.ensures.temps c.in_ok-put_finish_openings.ensures in
    on_ok_weaker c.put_openings.result
    (λ second.
    appends_more c.args.block.now c.put_finish_openings.new.block c.put_openings.new.block (finish_openings t c.args.temps) (openings init (c.args.temps + held_count t)) first
    (subst (λ n. Appends c.put_finish_openings.new.block c.put_openings.new.block (openings init (c.args.temps + n))) c.held_count.ensures second))
    c.put_openings.ensures
