use Rattle.std.proofs.Common.{◌≡◌, true, length, arith, rules}
use Rattle.kind_rules.specs.Scopes.{is_wide}
use Rattle.kind_rules.proofs.KindTests.{is_wide-only}
use Rattle.pipe_kinds.proofs.rows.next_state.Goals as goal

pub alike_parts-requires-clause-state : goal.alike_parts-requires-clause-state
alike_parts-requires-clause-state c =
    let wide : is_wide (length c.in_ok-typed.typed.kinds) (length c.args.state.now) ≡ true = search rules in
    let same = is_wide-only (length c.in_ok-typed.typed.kinds) (length c.args.state.now) wide in
    grind arith
