use Rattle.std.proofs.Common.{◌-◌, ◌+◌, ◌*◌, ℕ, take, ap, ◌∙◌, sym, arith}
use Rattle.pipe_lexer.specs.Pieces.{value_with}
use Rattle.pipe_lexer.specs.Prefixes.{within_limit}
use Rattle.pipe_lexer.proofs.Digits.{value_with-take_more}
use Rattle.pipe_lexer.proofs.scanning.value.Goals as goal

pub loop-c-preserved : goal.loop-c-preserved
loop-c-preserved c =
    let digits = c.args.digits.now in
    let before = value_with 0 (take c.loop-c.c-index digits) in
    let grown = c.with_digit-value.ensures before c.loop-c.invariant in
    grown
    ∙ ap (λ (d : ℕ). within_limit (before * 10 + (d - 48))) c.c-item.is
    ∙ ap within_limit (sym (value_with-take_more 0 digits c.loop-c.c-index c.c-item.result (omega arith)))
