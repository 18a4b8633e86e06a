-- A program of a pipeline is one still without its dead code. By the first half of the headline it shows no more than an
-- observation, which is never stuck; so no run of it comes to what C leaves undefined.
use Rattle.std.proofs.Common.{◌≡◌, inl, inr, ℕ, ◌≤◌, List, sym, ap, ◌∙◌, subst, arith}
use Rattle.list_denotation.specs.declared.input.Input.{Input}
use Rattle.list_denotation.specs.Far.{Far}
use Rattle.list_denotation.specs.Inputs.{Fits}
use Rattle.list_denotation.specs.Observation.{Going, Failed, Seen, observation}
use Rattle.list_denotation.specs.Terms.{Pipeline}
use Rattle.list_denotation.specs.Values.{Stuck}
use Rattle.list_denotation.specs.Work.{work}
use Rattle.headline.specs.Headline.{IsEmitted}
use Rattle.loop_ir.specs.Meaning.{meaning}
use Rattle.loop_ir.specs.Statements.{Routine}
use Rattle.dead_code.specs.LiveRoutines.{live_routine}
use Rattle.loop_emit.specs.Laws.{Laws}

-- what is as far as something that isn't stuck isn't stuck
far_sound : (o u : Seen) → Far o u → (u.standing ≡ Failed Stuck → ⊥) → o.standing ≡ Failed Stuck → ⊥
far_sound o u (inl same) sound stuck = sound (sym (ap (λ s. s.standing) same) ∙ stuck)
far_sound o u (inr on) sound stuck = let no : Going ≡ Failed Stuck = sym on.going ∙ stuck in absurd (cc)

module _ (laws : Laws) (p : Pipeline) (q : Routine) (emitted : IsEmitted p q) where
  same_meaning : (inputs : List Input) (n : ℕ) → Fits inputs p.inputs → meaning (live_routine q) inputs n ≡ meaning q inputs n
  same_meaning inputs n fits =
      laws.dead_code q inputs n (far_sound (meaning q inputs n) (observation p inputs n) (emitted.no_further inputs n fits) (laws.never_stuck p inputs n))

  pub live_emitted : IsEmitted p (live_routine q)
  live_emitted = record {
    no_further = λ inputs n fits. subst (λ o. Far o (observation p inputs n)) (sym (same_meaning inputs n fits)) (emitted.no_further inputs n fits);
    as_far = λ inputs n fits. subst (Far (observation p inputs n)) (sym (same_meaning inputs (work p inputs n) fits)) (emitted.as_far inputs n fits);
    vars = (let few = (laws.no_larger q).vars in let most = emitted.vars in omega (arith, few, most));
    params = (laws.no_larger q).params ∙ emitted.params;
  }
