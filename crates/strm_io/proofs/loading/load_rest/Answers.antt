use Rattle.std.proofs.Common.{◌≡◌, ◌+◌, ◌++◌, take, vec_len, arith}
use Rattle.std.proofs.lemmas.Grind.{common_steps}
use Rattle.strm_io.proofs.Pieces.{taken_twice}
use Rattle.strm_io.proofs.loading.load_rest.Goals as goal

pub loop-buffer-preserved : goal.loop-buffer-preserved
loop-buffer-preserved g c =
    let n = c.in-Got.n in
    let bytes = c.loop-buffer.bytes in
    let longer = c.extend_from_slice.new.self in
    let items : longer.items ≡ bytes.items ++ take n c.piece.new.buf = grind (arith, common_steps) in
    let len : vec_len longer ≡ vec_len bytes + n = grind (arith, common_steps) in
    let taken =
    taken_twice _ _ _ _ n _ (take n c.piece.new.buf) c.loop-buffer.invariant.taken c.in-Got.ensures.brings.2 in
    record {
      taken = rw (items, len) taken;
      holds = cc;
      misses = omega (arith, c.loop-buffer.invariant.misses, c.in-Got.ensures.leaves.misses);
      faults = omega (arith, c.loop-buffer.invariant.faults, c.in-Got.ensures.leaves.faults);
    }
