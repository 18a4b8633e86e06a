-- What is promised of the definitions. Each statement has one name, which its law and those who stand on it cite.
use Rattle.std.specs.Prelude.{◌≡◌, ◌≤◌, ◌^◌, ℕ, List}
use Rattle.loop_ir.specs.Layout.{layout}
use Rattle.loop_ir.specs.Statements.{Routine}
use Rattle.loop_ir.specs.WellFormed.{IsWellFormed}
use Rattle.c_grammar.specs.Reading.{Reads}

-- Bytes read as one program at most.
abbrev pub TextsReadAsOneProgram : Type 0
TextsReadAsOneProgram =
    (src : List ℕ) (p q : Routine) → Reads src p → Reads src q → p ≡ q

-- The layout of a well-formed program with at most 2^32 variables reads as this program.
abbrev pub LayoutsReadAsTheirPrograms : Type 0
LayoutsReadAsTheirPrograms =
    (q : Routine) → IsWellFormed q → q.vars ≤ 2 ^ 32 → Reads (layout q) q
