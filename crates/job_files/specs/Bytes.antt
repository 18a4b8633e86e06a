-- The bytes of a loaded file.
use Rattle.std.specs.Prelude.{ℕ, List}
use Rattle.std.specs.declared.alloc.Global.{Global}
use Rattle.std.specs.declared.vec.Vec.{Vec}

abbrev pub bytes_of : Vec ℕ Global → List ℕ
bytes_of v = v.items
