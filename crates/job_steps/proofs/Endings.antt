-- How work ends: never with the status of words, undefined only where it is a program of a C text, and in one way
-- where it isn't left to the choice of a program.
use Rattle.std.proofs.Common.{◌≡◌, inl, inr, ℕ, List, Option, Ok, refl, sym, ◌∙◌, subst, arith}
use Rattle.list_denotation.specs.declared.input.Input.{Input}
use Rattle.list_denotation.specs.Far.{Far}
use Rattle.list_denotation.specs.Inputs.{Fits}
use Rattle.list_denotation.specs.Observation.{Standing, Done, Going, Failed, Seen, observation}
use Rattle.list_denotation.specs.Terms.{Pipeline}
use Rattle.list_denotation.specs.Values.{Trap, Stuck}
use Rattle.loop_ir.specs.Meaning.{meaning}
use Rattle.loop_ir.specs.Statements.{Routine}
use Rattle.std.specs.Prelude.{◌≢◌}
use Rattle.strm_io.specs.Store.{Store}
use Rattle.status_lines.specs.declared.statuses.Status.{Status}
use Rattle.status_lines.specs.declared.statuses.Status.TheVariants as status
use Rattle.status_lines.specs.declared.statuses.Status.TheVariants.{Undefined, Words}
use Rattle.job_steps.specs.Jobs.{Prepares}
use Rattle.job_steps.specs.Works.{Work, Counting, Compiling, Running, Executing, Listing, Benching, Ends, IsListed, IsSeen, status_at}

-- ---- the status of words

at_words : (n : ℕ) (s : Standing) → Words ≢ status_at n s
at_words n Done h = cc
at_words n Going h = cc
at_words n (Failed Trap) h = cc
at_words n (Failed Stuck) h = cc

pub never_words : (work : Work) (text : List ℕ) → Ends work Words text → ⊥
never_words (Counting p) text h = let e = h.0 in cc
never_words (Compiling p) text h = let e = h.0 in cc
never_words (Running p inputs n) text h = at_words n _ h.seen.0
never_words (Executing q inputs n) text h = at_words n _ h.0
never_words (Listing p inputs n) text h = at_words n _ h.1.0
never_words (Benching seed count) text h = let e = h.0 in cc

-- ---- undefined

at_undefined : (n : ℕ) (s : Standing) → Undefined ≡ status_at n s → s ≡ Failed Stuck
at_undefined n Done h = absurd cc
at_undefined n Going h = absurd cc
at_undefined n (Failed Trap) h = absurd cc
at_undefined n (Failed Stuck) h = refl

-- what is as far as something undefined is undefined too
stuck_further : (o u : Seen) → Far o u → o.standing ≡ Failed Stuck → u.standing ≡ Failed Stuck
stuck_further o u (inl same) e = subst (λ (v : Seen). v.standing ≡ Failed Stuck) same e
stuck_further o u (inr goes) e = let going = goes.going in absurd cc

abbrev pub NoneStuck : Type 0
NoneStuck = (p : Pipeline) (inputs : List Input) (n : ℕ) → (observation p inputs n).standing ≢ Failed Stuck

-- the inputs of the runs of these words fit
abbrev pub RunsFit : Option Store → List (List ℕ) → Type 0
RunsFit store words = (p : Pipeline) (inputs : List Input) (n : ℕ) → Prepares store words (Ok (Running p inputs n)) → Fits inputs p.inputs

pub undefined_program : (store : Option Store) (words : List (List ℕ)) → NoneStuck → RunsFit store words → (work : Work) (text : List ℕ)
    → Prepares store words (Ok work) → Ends work Undefined text → (q : Routine) × ((inputs : List Input) × ((n : ℕ) × (work ≡ Executing q inputs n)))
undefined_program store words none fit (Counting p) text h k = let e = k.0 in absurd cc
undefined_program store words none fit (Compiling p) text h k = let e = k.0 in absurd cc
undefined_program store words none fit (Running p inputs n) text h k =
    absurd (none p inputs n (stuck_further (meaning k.routine inputs n) (observation p inputs n) (k.emitted.no_further inputs n (fit p inputs n h)) (at_undefined n _ k.seen.0)))
undefined_program store words none fit (Executing q inputs n) text h k = (q, (inputs, (n, refl)))
undefined_program store words none fit (Listing p inputs n) text h k = absurd (none p inputs n (at_undefined n _ k.1.0))
undefined_program store words none fit (Benching seed count) text h k = let e = k.0 in absurd cc

-- ---- one way to end

pub seen_one : (n : ℕ) (o : Seen) (s t : Status) (a b : List ℕ) → IsSeen n o s a → IsSeen n o t b → (s ≡ t) × (a ≡ b)
seen_one n o s t a b h k = (h.0 ∙ sym k.0, h.1 ∙ sym k.1)

pub counting_one : (p : Pipeline) (s t : Status) (a b : List ℕ) → Ends (Counting p) s a → Ends (Counting p) t b → (s ≡ t) × (a ≡ b)
counting_one p s t a b h k = (h.0 ∙ sym k.0, h.1 ∙ sym k.1)

pub listed_one : (p : Pipeline) (inputs : List Input) (n : ℕ) (s t : Status) (a b : List ℕ) → IsListed p inputs n s a → IsListed p inputs n t b → (s ≡ t) × (a ≡ b)
listed_one p inputs n status.TooMuch status.TooMuch a b h k = (refl, h.1 ∙ sym k.1)
listed_one p inputs n status.TooMuch t a b h k = let more = h.0 in let few = k.0 in absurd (omega arith)
listed_one p inputs n s status.TooMuch a b h k = let few = h.0 in let more = k.0 in absurd (omega arith)
listed_one p inputs n s t a b h k = seen_one n (observation p inputs n) s t a b h.1 k.1
