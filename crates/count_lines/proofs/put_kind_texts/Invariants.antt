use Rattle.std.proofs.Common.{◌≡◌, ◌++◌, drop}
use Rattle.count_lines.specs.CountLines.{kind_texts}
use Rattle.count_lines.proofs.put_kind_texts.Given as goal

-- what is there and the words of the kinds left are all of them
abbrev pub invariant-loop-kind : goal.invariant-loop-kind
invariant-loop-kind l = l.out.items ++ kind_texts (drop l.kind-index l.kind-items) ≡ l.fn.out.items ++ kind_texts l.kinds
