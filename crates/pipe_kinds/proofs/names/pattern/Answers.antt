use Rattle.std.proofs.Common.{◌≡◌, true, length, map, rules}
use Rattle.pipe_tree.specs.TreeCopies.{label_of}
use Rattle.kind_rules.specs.Scopes.{is_wide, names_of}
use Rattle.kind_rules.proofs.Faults.{in_turn}
use Rattle.kind_rules.proofs.KindTests.{is_wide-only}
use Rattle.pipe_kinds.proofs.PatternNames.{pattern_width}
use Rattle.pipe_kinds.proofs.names.pattern.Goals as goal

pub returns-in_err-distinct : goal.returns-in_err-distinct
returns-in_err-distinct c =
    let wide : is_wide (length c.args.pat.now.names) (length c.args.kinds.now) ≡ true = search rules in
    rw (pattern_width (names_of (map label_of c.args.beside.now)) c.args.pat.now c.args.kinds.now true wide) (search in_turn)

pub bind-requires : goal.bind-requires
bind-requires c = is_wide-only _ _ (search rules)

pub returns : goal.returns
returns c =
    let wide : is_wide (length c.args.pat.now.names) (length c.args.kinds.now) ≡ true = search rules in
    rw (pattern_width (names_of (map label_of c.args.beside.now)) c.args.pat.now c.args.kinds.now true wide) (search in_turn)
