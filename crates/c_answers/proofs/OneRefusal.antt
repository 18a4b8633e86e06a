-- A text has one refusal or none, since it has one answer, and some refusal or none, since it has some answer.
use Rattle.std.proofs.Common.{◌≡◌, ◌≢◌, ℕ, List, Option, Some, None, Ok, Err, refl}
use Rattle.c_faults.specs.Answers.{Answer, ReadsAs, IsSameUnlessRefused}
use Rattle.c_faults.specs.Promises.{CTextsHaveOneAnswer}
use Rattle.c_faults.specs.declared.fault.CFault.{CFault}
use Rattle.c_faults.specs.declared.fault.CFault.TheVariants as fault
use Rattle.c_answers.specs.Promises.{CTextsHaveAnAnswer}
use Rattle.c_answers.specs.Refusals.{HasCRefusal}

-- ---- one

same_unless_none : (a b : Answer) → IsSameUnlessRefused a b → a ≢ Err fault.NoMemory → b ≢ Err fault.NoMemory → a ≡ b
same_unless_none (Err fault.NoMemory) b h some others = absurd (some refl)
same_unless_none a (Err fault.NoMemory) h some others = absurd (others refl)
same_unless_none a b h some others = h

module _ (one : CTextsHaveOneAnswer) (src : List ℕ) where
  same_answer : (a b : Answer) → ReadsAs src a → ReadsAs src b → a ≢ Err fault.NoMemory → b ≢ Err fault.NoMemory → a ≡ b
  same_answer a b h k some others = same_unless_none a b (one src a b h k) some others

  pub one_refusal : (a b : Option CFault) → HasCRefusal src a → HasCRefusal src b → a ≡ b
  one_refusal None None h k = refl
  one_refusal None (Some f) h k = let e = same_answer (Ok h.0) (Err f) h.1 k.0 (λ n. cc) (λ n. k.1 (cc)) in absurd cc
  one_refusal (Some f) None h k = let e = same_answer (Err f) (Ok k.0) h.0 k.1 (λ n. h.1 (cc)) (λ n. cc) in absurd cc
  one_refusal (Some f) (Some g) h k = let e = same_answer (Err f) (Err g) h.0 k.0 (λ n. h.1 (cc)) (λ n. k.1 (cc)) in cc

-- ---- some

refusal_of : (src : List ℕ) (a : Answer) → ReadsAs src a → a ≢ Err fault.NoMemory → (o : Option CFault) × HasCRefusal src o
refusal_of src (Ok q) h some = (None, (q, h))
refusal_of src (Err f) h some = (Some f, (h, λ none. some (cc)))

pub some_refusal : CTextsHaveAnAnswer → (src : List ℕ) → (o : Option CFault) × HasCRefusal src o
some_refusal answers src = let answer = answers src in refusal_of src answer.0 answer.1.0 answer.1.1
