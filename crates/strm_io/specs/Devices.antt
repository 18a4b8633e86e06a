-- What devices tell of themselves, and what a call leaves of them.
use Rattle.std.specs.Prelude.{◌≡◌, ℕ, ◌≤◌, List, Option}
use Rattle.strm_io.specs.Store.{Store}

-- of files: what the store holds and what is left of the file that is open, where they tell these, and how often no file of a
-- name was found and a call failed
pub record FilesTold : Type 0 where
  pub holds : Option Store
  pub left : Option (List ℕ)
  pub misses : ℕ
  pub faults : ℕ

-- what the store holds stays, no count falls, and the answer has its cause in the counts
pub record LeavesFiles (old new : FilesTold) (has_cause : FilesTold → FilesTold → Type 0) : Type 0 where
  pub holds : new.holds ≡ old.holds
  pub misses : old.misses ≤ new.misses
  pub faults : old.faults ≤ new.faults
  pub cause : has_cause old new
