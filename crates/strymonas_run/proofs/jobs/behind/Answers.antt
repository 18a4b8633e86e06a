use Rattle.std.proofs.Common.{arith}
use Rattle.strymonas_run.proofs.WordsBehind.{some_behind, none_behind}
use Rattle.strymonas_run.proofs.jobs.behind.Goals as goal

pub returns-then-from-words : goal.returns-then-from-words
returns-then-from-words c = some_behind c.args.rest c.args.words.now

pub returns-else-from-words : goal.returns-else-from-words
returns-else-from-words c = none_behind c.args.rest c.args.words.now (omega (arith, c.if-from-words.false))
