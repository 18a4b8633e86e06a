-- What inputs are called.
use Rattle.std.specs.Prelude.{ℕ, List, map}
use Rattle.pipe_tree.specs.declared.tree.Decl.{Decl}
use Rattle.status_lines.specs.declared.statuses.InputName.{InputName}
use Rattle.status_lines.specs.declared.statuses.InputName.TheVariants as name
use Rattle.job_inputs.specs.declared.called.Called.{Called}
use Rattle.job_inputs.specs.declared.called.Called.TheVariants.{Named, Position}

-- the names of declarations
abbrev pub names_of : List Decl → List (List ℕ)
names_of decls = map (λ (d : Decl). d.name.text) decls

-- what an input is called, as statuses have it
abbrev pub name_of : Called → InputName
name_of (Named bytes) = name.Named bytes.now
name_of (Position k) = name.Position k
