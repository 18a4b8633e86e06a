use Rattle.std.proofs.Common.{◌≡◌, ◌-◌, List, ℕ, length, take, drop, arith, subst, length-drop}
use Rattle.std.proofs.lemmas.List.{take_all}
use Rattle.strm_io.specs.Writing.{PutsPiece}
use Rattle.strm_io.specs.declared.writing.Put.TheVariants.{Took}
use Rattle.strm_io.proofs.Pieces.{appended_twice}
use Rattle.strm_io.proofs.appending.put_all.Goals as goal

pub loop-done-preserved : goal.loop-done-preserved
loop-done-preserved g c =
    let written = g.O.Sink.written in
    let bytes = c.args.bytes.now in
    let done = c.loop-done.done in
    let n = c.in-Took.n in
    let rest : take (length bytes - done) (drop done bytes) ≡ drop done bytes =
    take_all (length bytes - done) (drop done bytes) (omega (arith, length-drop done bytes)) in
    let took = subst (λ (l : List ℕ). PutsPiece (written c.loop-done.sink) (written c.put.new.self) l (Took n)) rest c.in-Took.ensures.puts in
    record {
      within = omega (arith, length-drop done bytes, took.0);
      appended = appended_twice _ _ _ bytes done n c.loop-done.invariant.appended took.2;
      faults = omega (arith, c.loop-done.invariant.faults, c.put.ensures.faults);
    }
