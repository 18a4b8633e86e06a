-- What the steps of `values` give: the answer to an item at its place.
use Rattle.std.specs.Prelude.{ℕ, List, nat_lt, Result, Ok, Err, if◌then◌else◌}
use Rattle.value_files.specs.Numbers.{value_of}
use Rattle.pipe_limits.specs.declared.TheConstants.{MOST_ITEMS}
use Rattle.value_files.specs.declared.fault.ItemFault.{ItemFault}
use Rattle.value_files.specs.declared.fault.ItemFault.TheVariants as item_fault
use Rattle.value_files.specs.declared.fault.ValueFault.{ValueFault}
use Rattle.value_files.specs.declared.fault.ValueFault.TheVariants as fault

-- the fault of an item as a file's, with the item's place
abbrev pub placed : ℕ → Result ℕ ItemFault → Result ℕ ValueFault
placed place (Ok word) = Ok word
placed place (Err item_fault.Bad) = Err (fault.Bad place)
placed place (Err item_fault.Range) = Err (fault.Range place)

-- what an item at a place is answered with behind so many others
abbrev pub answer_at : ℕ → List ℕ → ℕ → Result ℕ ValueFault
answer_at behind item place = if nat_lt behind MOST_ITEMS then placed place (value_of item) else Err (fault.TooMany place)
