-- What a store of files holds.
use Rattle.std.specs.Prelude.{ℕ, List, [], ◌∷◌, Option, Some, None, if◌then◌else◌}
use Rattle.std.specs.Option.{option_or}
use Rattle.std.specs.Str.{bytes_eq}

-- the files as they were set, each as the bytes of its name and its own bytes
abbrev pub Store : Type 0
Store = List (List ℕ × List ℕ)

-- the bytes of the file of this name, which is the last one that was set under it
abbrev pub held : Store → List ℕ → Option (List ℕ)
held [] name = None
held (file ∷ later) name =
    option_or (held later name) (if bytes_eq file.0 name then Some file.1 else None)
