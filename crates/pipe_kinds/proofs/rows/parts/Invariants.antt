use Rattle.std.proofs.Common.{◌≡◌, ◌≤◌, ◌+◌, ℕ, drop, length, map, true}
use Rattle.list_denotation.specs.Copies.{terms_of}
use Rattle.list_denotation.specs.Literals.{all_have_words}
use Rattle.pipe_tree.specs.TreeCopies.{formula_of}
use Rattle.kind_rules.specs.Rows.{parts_of, typed_row}
use Rattle.pipe_kinds.specs.Copies.{scope_of}
use Rattle.pipe_kinds.specs.RowParts.{part_of}
use Rattle.pipe_kinds.proofs.FoundParts.{found_and_left}
use Rattle.pipe_kinds.proofs.rows.parts.Given as goal

-- the parts that are there, and those left in the room that is left, are all of them
abbrev pub invariant-loop-e : goal.invariant-loop-e
invariant-loop-e l = record {
  count : length l.kinds ≡ l.e-index;
  within : l.e-index ≤ 8;
  words : all_have_words (terms_of l.exprs) ≡ true;
  left : (room : ℕ) → l.e-index + room ≡ 8
      → found_and_left (part_of l.divisions (scope_of l.scope)) (typed_row l.kinds (terms_of l.exprs)) room (map formula_of (drop l.e-index l.parts))
      ≡ parts_of (part_of l.divisions (scope_of l.scope)) 8 (map formula_of l.parts);
}
