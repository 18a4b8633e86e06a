-- Taking inputs one behind another: what comes of the next comes of all that are left.
use Rattle.std.proofs.Common.{◌≡◌, inl, inr, List, [], ◌∷◌, ◌++◌, Option, Result, Ok, Err, sym, subst}
use Rattle.list_denotation.specs.declared.input.Input.{Input}
use Rattle.strm_io.specs.Store.{Store}
use Rattle.status_lines.specs.declared.statuses.Status.{Status}
use Rattle.status_lines.specs.declared.statuses.Status.TheVariants.{NoMemory}
use Rattle.job_steps.specs.Bindings.{Given}
use Rattle.job_steps.specs.Inputs.{TakesInput, TakesInputs}
use Rattle.job_steps.specs.Steps.{ComesOf}

module _ (store before : Option Store) (held : before ≡ store) (taken : List Input) (g : Given) (gs rest : List Given) (all : Result (List Input) Status → Type 0) (here : rest ≡ g ∷ gs) (left : (end : Result (List Input) Status) → TakesInputs store taken rest end → all end) where
  left_here : (end : Result (List Input) Status) → TakesInputs store taken (g ∷ gs) end → all end
  left_here end h = left end (subst (λ z. TakesInputs store taken z end) (sym here) h)

  pub take_fails : (s : Status) → ComesOf (λ (i : Input). i) (TakesInput before g) (Err s) → ComesOf (λ (is : List Input). is) all (Err s)
  take_fails NoMemory h = tt
  take_fails s h = left_here (Err s) (inl (subst (λ z. TakesInput z g (Err s)) held h))

  pub take_goes : (i : Input) (now : List Input) → TakesInput before g (Ok i) → now ≡ taken ++ i ∷ [] → (end : Result (List Input) Status) → TakesInputs store now gs end → all end
  take_goes i now took e end h = left_here end (inr (i, (subst (λ z. TakesInput z g (Ok i)) held took, subst (λ z. TakesInputs store z gs end) e h)))
