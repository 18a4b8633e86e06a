-- The commands, by their words.
use Rattle.std.specs.Prelude.{ℕ, ◌≤◌, List, [], ◌∷◌, Option, Some, None, nat_le, String, string_bytes, map, drop, codes, if◌then◌else◌, option_map}
use Rattle.std.specs.declared.alloc.Global.{Global}
use Rattle.std.specs.List.{list_all}
use Rattle.std.specs.Option.{option_and_then}
use Rattle.std.specs.Str.{bytes_eq}
use Rattle.value_files.specs.Numbers.{natural_of}
use Rattle.command_words.specs.Bindings.{is_binding}
use Rattle.command_words.specs.declared.jobs.Job.{Job}
use Rattle.command_words.specs.declared.jobs.Job.TheVariants.{Check, Compile, Run, Exec, Model, Bench}
use Rattle.command_words.specs.declared.jobs.TheConstants.{DEFAULT_TURNS, MOST_BENCH_ITEMS}

-- the words as bytes
abbrev pub texts_of : List (String Global) → List (List ℕ)
texts_of words = map string_bytes words

-- a bound, and the number of the first word behind it
pub record Bound : Type 0 where
  pub count : ℕ
  pub rest : ℕ

-- the bound that the option is followed by
abbrev pub bound_given : List (List ℕ) → Option Bound
bound_given [] = None
bound_given (n ∷ words) = option_map (λ count. record { count = count; rest = 4 }) (natural_of n)

-- the turns, by the words behind the file: those of the option --turns, or the default
abbrev pub turns_of : List (List ℕ) → Option Bound
turns_of [] = Some (record { count = DEFAULT_TURNS; rest = 2 })
turns_of (option ∷ words) =
    if bytes_eq option (codes "--turns") then bound_given words else Some (record { count = DEFAULT_TURNS; rest = 2 })

-- the pulls, by the words behind the file: those of the option --pulls
abbrev pub pulls_of : List (List ℕ) → Option Bound
pulls_of [] = None
pulls_of (option ∷ words) = if bytes_eq option (codes "--pulls") then bound_given words else None

-- the job, where no word stands behind the file
abbrev pub alone : Job → List (List ℕ) → Option Job
alone job [] = Some job
alone job (word ∷ words) = None

-- the job at a bound, where each word behind it is a binding
abbrev pub with_bindings : (ℕ → ℕ → Job) → List (List ℕ) → Bound → Option Job
with_bindings job words bound = if list_all is_binding (drop bound.rest words) then Some (job bound.count bound.rest) else None

-- the job of `bench`, where both are numbers, and the count is no more than it may be
abbrev pub bench_of : Option ℕ → Option ℕ → Option Job
bench_of (Some seed) (Some count) = if nat_le count MOST_BENCH_ITEMS then Some (Bench seed count) else None
bench_of seed count = None

-- the job of `bench`: its seed, its count, and nothing behind them
abbrev pub bench_job : List ℕ → List (List ℕ) → Option Job
bench_job seed (count ∷ []) = bench_of (natural_of seed) (natural_of count)
bench_job seed behind = None

-- the job of a command, by all words, by the first behind the command, and by those behind that
abbrev pub job_named : List ℕ → List (List ℕ) → List ℕ → List (List ℕ) → Option Job
job_named command words first behind =
    if bytes_eq command (codes "check") then alone Check behind
    else if bytes_eq command (codes "compile") then alone Compile behind
    else if bytes_eq command (codes "run") then option_and_then (with_bindings Run words) (turns_of behind)
    else if bytes_eq command (codes "exec") then option_map (λ (b : Bound). Exec b.count b.rest) (turns_of behind)
    else if bytes_eq command (codes "model") then option_and_then (with_bindings Model words) (pulls_of behind)
    else if bytes_eq command (codes "bench") then bench_job first behind
    else None

-- what the words ask for, where they are a command
abbrev pub job_of : List (List ℕ) → Option Job
job_of [] = None
job_of (command ∷ []) = None
job_of (command ∷ first ∷ behind) = job_named command (command ∷ first ∷ behind) first behind

-- the file that the words name
abbrev pub file_of : List (List ℕ) → List ℕ
file_of [] = []
file_of (command ∷ []) = []
file_of (command ∷ file ∷ behind) = file

-- a bench has no more items than it may have
abbrev pub IsWithin : Job → Type 0
IsWithin (Bench seed count) = count ≤ MOST_BENCH_ITEMS
IsWithin job = Unit {0}
