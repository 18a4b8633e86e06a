use Rattle.std.proofs.Common.{◌++◌, codes, decimal}
use Rattle.c_printer.proofs.PrintedText.{three_put}
use Rattle.c_printer.proofs.frame.put_array_param.Goals as goal

pub returns : goal.returns
returns c =
    three_put _ _ _ _
    (codes "const uint64_t *a" ++ decimal c.args.k) (codes ", uint64_t n") (decimal c.args.k)
    c.in_ok-put_numbered.ensures c.put_numbered-2.ensures
