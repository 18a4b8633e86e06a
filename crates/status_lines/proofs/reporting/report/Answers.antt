use Rattle.status_lines.proofs.WrittenLines.{line_reported}
use Rattle.status_lines.proofs.reporting.report.Goals as goal

pub returns-in_default : goal.returns-in_default
returns-in_default g c =
    record {
      line = line_reported c.args.status.now _ _ _ _ _ c.in_default.not-Done c.put_line-written.ensures.puts c.put_line-written.ensures.cause;
      quiet = λ done. absurd (c.in_default.not-Done done);
      faults = c.put_line-written.ensures.faults;
    }
