use Rattle.std.proofs.Common.{◌+◌, ◌<◌, Option, Some, ℕ, length, true, false, ap, subst, sym, ◌∙◌, IfSome}
use Rattle.strm_io.specs.MemoryFiles.{found_bytes}
use Rattle.strm_io.proofs.Entries.{found_from, found_from-step, entry_bytes-at}
use Rattle.strm_io.proofs.memory_files.find.Goals as goal
use Rattle.strm_io.proofs.memory_files.find.Goals.{then-eq, else-eq}

pub loop-i-preserved : goal.loop-i-preserved
loop-i-preserved c =
    let entries = c.args.entries.now in
    let name = c.args.name.now in
    let i = c.loop-i.i in
    let entry = c.index-entries-i.result in
    let before = found_bytes entries c.loop-i.found in
    let is = c.index-entries-i.is in
    let within = λ (found : Option ℕ). IfSome found (λ j. j < length entries) in
    elim c.if-eq.branch [
      | then-eq w ↦ record {
        found =
            ap (λ found. found_from entries name (i + 1) (found_bytes entries found)) w.found-is
            ∙ ap (λ bytes. found_from entries name (i + 1) (Some bytes))
            (entry_bytes-at entries i entry c.loop-i-test.true is)
            ∙ sym (found_from-step entries name i entry before true c.loop-i-test.true is (cc))
            ∙ c.loop-i.invariant.found;
        within = subst within (sym w.found-is) c.loop-i-test.true;
      }
      | else-eq w ↦ record {
        found =
            ap (λ found. found_from entries name (i + 1) (found_bytes entries found)) w.found-is
            ∙ sym (found_from-step entries name i entry before false c.loop-i-test.true is (cc))
            ∙ c.loop-i.invariant.found;
        within = subst within (sym w.found-is) c.loop-i.invariant.within;
      }
    ]
