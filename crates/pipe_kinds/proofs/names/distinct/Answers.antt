use Rattle.std.proofs.Common.{sym, ◌∙◌, map, rules}
use Rattle.pipe_tree.specs.TreeCopies.{label_of}
use Rattle.kind_rules.specs.Scopes.{names_of}
use Rattle.pipe_kinds.proofs.PatternNames.{once_at, twice_at}
use Rattle.pipe_kinds.proofs.names.distinct.Goals as goal

pub returns-then-is_taken : goal.returns-then-is_taken
returns-then-is_taken c =
    sym c.loop-i.invariant
    ∙ twice_at label_of (names_of (map label_of c.args.beside.now)) c.args.names.now c.loop-i.i c.index-names-i.result c.loop-i-test.true c.index-names-i.is (search rules)

pub loop-i-preserved : goal.loop-i-preserved
loop-i-preserved c =
    once_at label_of (names_of (map label_of c.args.beside.now)) c.args.names.now c.loop-i.i c.index-names-i.result c.loop-i-test.true c.index-names-i.is (search rules)
    ∙ c.loop-i.invariant
