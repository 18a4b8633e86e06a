-- When a status comes, from what each status says.
use Rattle.std.proofs.Common.{◌≡◌, inl, inr, ℕ, List, Option, Some, None, Result, Ok, Err, refl, sym, subst}
use Rattle.std.specs.Prelude.{◌⊎◌}
use Rattle.command_words.specs.Commands.{job_of}
use Rattle.job_steps.specs.Answers.{Answers, AnswersSteps, ComesOfFailing, ComesOfWork, IsCutShort, IsOneUnlessUnread, IsUnread}
use Rattle.job_steps.specs.Jobs.{Prepares}
use Rattle.job_steps.specs.Works.{Work, Ends}
use Rattle.strm_io.specs.Store.{Store}
use Rattle.status_lines.specs.declared.statuses.Status.{Status}
use Rattle.status_lines.specs.declared.statuses.Status.TheVariants.{Words, ReadFault, WriteFault, NoMemory}

-- the work ends with the status, or the device failed
abbrev IsOfWork : Work → Status → Type 0
IsOfWork work s = ((text : List ℕ) × Ends work s text) ⊎ (s ≡ WriteFault)

-- why a status is answered
abbrev HasReason : (Result Work Status → Type 0) → Status → Type 0
HasReason steps s = IsUnread s ⊎ (steps (Err s) ⊎ ((work : Work) × (steps (Ok work) × IsOfWork work s)))

reason : (steps : Result Work Status → Type 0) (out out' : Option (List ℕ)) (s : Status) → AnswersSteps steps out out' s → HasReason steps s
reason steps out out' NoMemory h = inl tt
reason steps out out' WriteFault h = inr (inr (h.work, (h.passes, inr refl)))
reason steps out out' s (inl h) = inr (inl h.0)
reason steps out out' s (inr h) =
    inr (inr (h.work, (h.passes, inl (h.text, subst (λ (t : Status). Ends h.work t h.text) h.holds_of_it.0 h.ends))))

-- ---- a step fails

unread_failing : (failed s : Status) → IsUnread s → ComesOfFailing failed s
unread_failing (ReadFault name) s h = tt
unread_failing failed s h = inr h

same_failing : (failed s : Status) → IsOneUnlessUnread (Err failed) (Err s) → ComesOfFailing failed s
same_failing (ReadFault name) s h = tt
same_failing failed (ReadFault name) h = inr tt
same_failing failed s h = inl cc

work_failing : (failed : Status) (work : Work) (s : Status) → IsOneUnlessUnread (Err failed) (Ok work) → ComesOfFailing failed s
work_failing (ReadFault name) work s h = tt
work_failing failed work s h = absurd cc

-- ---- all steps pass

unread_working : (work : Work) (s : Status) → IsUnread s → ComesOfWork work s
unread_working work NoMemory h = inr tt
unread_working work (ReadFault name) h = inr tt
unread_working work s h = absurd h

failed_working : (work : Work) (s : Status) → IsOneUnlessUnread (Ok work) (Err s) → ComesOfWork work s
failed_working work (ReadFault name) h = inr tt
failed_working work s h = absurd cc

same_working : (work other : Work) (s : Status) → other ≡ work → IsOfWork other s → ComesOfWork work s
same_working work other s e (inl h) = inl (h.0, subst (λ (w : Work). Ends w s h.0) e h.1)
same_working work other s e (inr h) = inr (subst IsCutShort (sym h) tt)

one_work : (work other : Work) → IsOneUnlessUnread (Ok work) (Ok other) → other ≡ work
one_work work other h = cc

-- ---- over a store that tells

abbrev OneComes : Type 0
OneComes = (store : Store) (words : List (List ℕ)) (a b : Result Work Status) → Prepares (Some store) words a → Prepares (Some store) words b → IsOneUnlessUnread a b

module _ (one : OneComes) (store : Store) (words : List (List ℕ)) where
  failing_by : (failed s : Status) → Prepares (Some store) words (Err failed) → HasReason (Prepares (Some store) words) s → ComesOfFailing failed s
  failing_by failed s h (inl unread) = unread_failing failed s unread
  failing_by failed s h (inr (inl k)) = same_failing failed s (one store words (Err failed) (Err s) h k)
  failing_by failed s h (inr (inr k)) = work_failing failed k.0 s (one store words (Err failed) (Ok k.0) h k.1.0)

  working_by : (work : Work) (s : Status) → Prepares (Some store) words (Ok work) → HasReason (Prepares (Some store) words) s → ComesOfWork work s
  working_by work s h (inl unread) = unread_working work s unread
  working_by work s h (inr (inl k)) = failed_working work s (one store words (Ok work) (Err s) h k)
  working_by work s h (inr (inr k)) = same_working work k.0 s (one_work work k.0 (one store words (Ok work) (Ok k.0) h k.1.0)) k.1.1

  module _ (holds : Option Store) (told : holds ≡ Some store) (out out' : Option (List ℕ)) (s : Status) (answers : Answers holds words out out' s) where
    reason_told : HasReason (Prepares (Some store) words) s
    reason_told = reason (Prepares (Some store) words) out out' s (subst (λ (h : Option Store). Answers h words out out' s) told answers)

    pub comes_of_failing : (failed : Status) → Prepares (Some store) words (Err failed) → ComesOfFailing failed s
    comes_of_failing failed h = failing_by failed s h reason_told

    pub comes_of_work : (work : Work) → Prepares (Some store) words (Ok work) → ComesOfWork work s
    comes_of_work work h = working_by work s h reason_told

-- ---- words that are no command

abbrev FailsSo : Type 0
FailsSo = (store : Option Store) (words : List (List ℕ)) → Prepares store words (Err Words) → job_of words ≡ None

abbrev EndsSo : Type 0
EndsSo = (work : Work) (text : List ℕ) → Ends work Words text → ⊥

as_words : FailsSo → EndsSo → (store : Option Store) (words : List (List ℕ)) (out out' : Option (List ℕ)) → Answers store words out out' Words → job_of words ≡ None
as_words fails ends store words out out' (inl h) = fails store words h.0
as_words fails ends store words out out' (inr h) =
    absurd (ends h.work h.text (subst (λ (t : Status). Ends h.work t h.text) h.holds_of_it.0 h.ends))

pub words_only : FailsSo → EndsSo → (store : Option Store) (words : List (List ℕ)) (out out' : Option (List ℕ)) (s : Status) → Answers store words out out' s → s ≡ Words → job_of words ≡ None
words_only fails ends store words out out' s h e =
    as_words fails ends store words out out' (subst (λ (t : Status). Answers store words out out' t) e h)
