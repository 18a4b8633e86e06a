use Rattle.std.proofs.Common.{◌+◌, ◌<◌, ◌^◌, ℕ, length, ap, arith, rules}
use Rattle.std.specs.Prelude.{encode_utf8}
use Rattle.pipe_lexer.proofs.Sizes.{size_of-take_more, size_of_prefix}
use Rattle.pipe_lexer.proofs.lexing.size.Goals as goal

pub overflow_add-size : goal.overflow_add-size
overflow_add-size c =
    let chars = c.args.chars.now in
    let i = c.loop-c.c-index in
    let more = size_of-take_more chars i c.c-item.result (omega arith) in
    let one = ap (λ (x : ℕ). length (encode_utf8 x)) c.c-item.is in
    let whole = size_of_prefix (i + 1) chars in
    let so_far = c.loop-c.invariant in
    let len = c.len_utf8.ensures.len in
    let bound = c.requires in
    let fits : c.loop-c.size + c.len_utf8.result < 2 ^ 32 = omega arith in
    search rules

pub loop-c-preserved : goal.loop-c-preserved
loop-c-preserved c =
    let chars = c.args.chars.now in
    let more = size_of-take_more chars c.loop-c.c-index c.c-item.result (omega arith) in
    let one = ap (λ (x : ℕ). length (encode_utf8 x)) c.c-item.is in
    let so_far = c.loop-c.invariant in
    let len = c.len_utf8.ensures.len in
    omega arith
