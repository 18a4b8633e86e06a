use Rattle.std.proofs.Common.{ℕ, ◌+◌, ◌<◌, ◌^◌, ap, arith, rules}
use Rattle.pipe_lexer.proofs.Passing.{stands_in_rest, piece_within, piece_size, passed_size, passed_more}
use Rattle.pipe_lexer.proofs.lexing.cut.Goals as goal

pub size-requires : goal.size-requires
size-requires c =
    let chars = c.args.chars.now in
    let from = c.loop-from.from in
    let piece = piece_size chars from c.in-Ok.prefix.len in
    let whole = passed_size chars from c.loop-from.at c.loop-from.found c.loop-from.invariant.passed in
    let bound = c.requires in
    omega arith

pub overflow_add-end : goal.overflow_add-end
overflow_add-end c =
    let chars = c.args.chars.now in
    let from = c.loop-from.from in
    let piece = piece_size chars from c.in-Ok.prefix.len in
    let whole = passed_size chars from c.loop-from.at c.loop-from.found c.loop-from.invariant.passed in
    let bound = c.requires in
    let size = c.size.ensures in
    let fits : c.loop-from.at + c.size.result < 2 ^ 32 = omega arith in
    search rules

pub loop-from-preserved : goal.loop-from-preserved
loop-from-preserved c =
    let chars = c.args.chars.now in
    let from = c.loop-from.from in
    let prefix = stands_in_rest chars from c.in-Ok.prefix.piece c.in-Ok.prefix.len c.in-Ok.ensures in
    record {
      within = piece_within chars from c.in-Ok.prefix.piece c.in-Ok.prefix.len c.loop-from.invariant.within prefix;
      passed = passed_more chars from c.loop-from.at c.loop-from.found c.in-Ok.prefix.piece c.in-Ok.prefix.len _ _ c.loop-from.invariant.passed prefix (ap (λ (n : ℕ). c.loop-from.at + n) c.size.ensures) c.in_ok-push_token-in-Ok.ensures.ok;
    }
