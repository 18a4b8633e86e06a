-- What is promised of the definitions. Each statement has one name, which its law and those who stand on it cite.
use Rattle.std.specs.Prelude.{◌≡◌, ◌≢◌, ◌↔◌, ◌&&◌, Err, IsTrue}
use Rattle.list_denotation.specs.Terms.{Pipeline}
use Rattle.list_denotation.specs.Typing.{has_kinds, is_within_limits, program_kinds}
use Rattle.pipe_tree.specs.Bounds.{IsBounded}
use Rattle.pipe_tree.specs.Trees.{Text}
use Rattle.kind_rules.specs.declared.fault.TypeFault.{TypeFault}
use Rattle.kind_rules.specs.declared.fault.TypeFault.TheVariants.{NoMemory}
use Rattle.kind_rules.specs.Checking.{IsTyped, check_of}
use Rattle.kind_rules.specs.FirstFault.{FirstFault}
use Rattle.kind_rules.specs.StandsFor.{StandsFor}

-- A tree is typed as a program exactly where it stands for it.
abbrev pub TypedTreesStandForPrograms : Type 0
TypedTreesStandForPrograms =
    (t : Text) (p : Pipeline) → IsTyped t p ↔ StandsFor t p

-- A tree has a fault of kinds exactly where this is the fault of the first part that breaks its rule.
abbrev pub FaultsAreFirst : Type 0
FaultsAreFirst =
    (t : Text) (f : TypeFault) → (check_of t ≡ Err f) ↔ FirstFault t f

-- A program that a tree within the limits stands for is typed, and within the limits.
abbrev pub ProgramsOfTreesAreTyped : Type 0
ProgramsOfTreesAreTyped =
    (t : Text) (p : Pipeline) → StandsFor t p → IsBounded t
    → IsTrue (has_kinds (program_kinds p.inputs p.stream p.terminal)
    && is_within_limits p.inputs p.stream p.terminal)

-- Each tree stands for a program, or has a fault that is no refusal of memory.
abbrev pub TreesHaveAnAnswer : Type 0
TreesHaveAnAnswer =
    (t : Text) → check_of t ≢ Err NoMemory
