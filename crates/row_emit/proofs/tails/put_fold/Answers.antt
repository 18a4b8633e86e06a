use Rattle.std.proofs.Common.{◌≡◌, ◌++◌, ap, ◌∙◌, arith}
use Rattle.list_denotation.specs.Copies.{terms_of}
use Rattle.loop_ir.specs.Statements.{join}
use Rattle.loop_ir.specs.StatementCopies.{block_of}
use Rattle.turn_blocks.specs.Pieces.{last}
use Rattle.turn_blocks.specs.StateBlocks.{words_piece}
use Rattle.row_emit.proofs.SetWords.{words_grow, taken}
use Rattle.row_emit.proofs.tails.put_fold.Goals as goal

pub overflow_sub-after : goal.overflow_sub-after
overflow_sub-after c =
    omega (arith, c.in_ok-after.ensures.next, words_grow c.in_ok-scope.scope.rows c.in_ok-scope.scope.first_temp 0 (terms_of c.args.next.now) c.args.slots.now.next)

pub returns : goal.returns
returns c =
    let slots = c.args.slots.now in
    let scope = c.in_ok-scope.scope in
    let es = terms_of c.args.next.now in
    let same : words_piece scope.rows scope.first_temp 0 es slots.next ≡ words_piece (c.args.vars.now ++ last c.args.width slots.rows) slots.first_temp 0 es slots.next =
    ap (λ rows. words_piece rows scope.first_temp 0 es slots.next) c.in_ok-scope.ensures.rows
    ∙ ap (λ t. words_piece (c.args.vars.now ++ last c.args.width slots.rows) t 0 es slots.next) c.in_ok-scope.ensures.first_temp in
    record {
      block = c.in_ok-after.ensures.block ∙ ap (λ p. join (block_of c.args.block.now) p.block) same;
      slots = record { next = taken scope.rows scope.first_temp 0 es slots.next c.in_ok-after.after _ c.in_ok-after.ensures.next c.reserve_variables.ensures.takes.next ∙ ap (λ p. p.next) same; rows = c.reserve_variables.ensures.takes.rows; first_temp = c.reserve_variables.ensures.takes.first_temp; temps = c.reserve_variables.ensures.takes.temps };
    }
