-- What is promised of the definitions. Each statement has one name, which its law and those who stand on it cite.
use Rattle.std.specs.Prelude.{◌≢◌, ℕ, List, Err}
use Rattle.value_files.specs.declared.fault.ValueFault.TheVariants.{NoMemory}
use Rattle.value_files.specs.Files.{Answer, ReadsAs, IsSameUnlessRefused}

-- Bytes have one answer, unless memory is refused.
abbrev pub ValueFilesHaveOneAnswer : Type 0
ValueFilesHaveOneAnswer =
    (bytes : List ℕ) (a b : Answer) → ReadsAs bytes a → ReadsAs bytes b
    → IsSameUnlessRefused a b

-- Any bytes have values, or a fault that is no refusal of memory: together with the law before it,
-- exactly one of these.
abbrev pub ValueFilesHaveAnAnswer : Type 0
ValueFilesHaveAnAnswer =
    (bytes : List ℕ) → (a : Answer) × (ReadsAs bytes a × (a ≢ Err NoMemory))
