use Rattle.std.proofs.Common.{arith}
use Rattle.list_denotation.specs.Copies.{terms_of}
use Rattle.row_emit.proofs.SetWords.{words_grow, taken}
use Rattle.row_emit.proofs.state_words.put_words.Goals as goal

pub overflow_sub-after : goal.overflow_sub-after
overflow_sub-after c =
    omega (arith, c.in_ok-after.ensures.next, words_grow c.args.slots.now.rows c.args.slots.now.first_temp c.args.k (terms_of c.args.row.now) c.args.slots.now.next)

pub returns : goal.returns
returns c =
    let slots = c.args.slots.now in
    record {
      block = c.in_ok-after.ensures.block;
      slots = record { next = taken slots.rows slots.first_temp c.args.k (terms_of c.args.row.now) slots.next c.in_ok-after.after _ c.in_ok-after.ensures.next c.reserve_variables.ensures.takes.next; rows = c.reserve_variables.ensures.takes.rows; first_temp = c.reserve_variables.ensures.takes.first_temp; temps = c.reserve_variables.ensures.takes.temps };
    }
