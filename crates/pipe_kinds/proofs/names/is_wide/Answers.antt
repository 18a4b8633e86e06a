use Rattle.std.proofs.Common.{arith}
use Rattle.std.proofs.lemmas.Bool.Decides.{nat_tests}
use Rattle.pipe_kinds.proofs.PatternNames.{wide_where}
use Rattle.pipe_kinds.proofs.names.is_wide.Goals as goal

pub returns : goal.returns
returns c = wide_where c.args.names c.args.words _ (λ e. grind (arith, nat_tests)) (λ e. grind (arith, nat_tests))
