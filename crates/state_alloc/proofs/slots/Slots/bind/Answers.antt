use Rattle.std.proofs.Common.{◌+◌, List, ℕ, subst, sym}
use Rattle.state_alloc.specs.Layouts.{IsLaidOut}
use Rattle.state_alloc.proofs.Places.{bound_words}
use Rattle.state_alloc.proofs.slots.Slots.bind.Goals as goal

pub invariant_of-self-2 : goal.invariant_of-self-2
invariant_of-self-2 c =
    let before = c.args.self.now in
    record {
      laid_out = subst (λ (rows : List ℕ). IsLaidOut rows before.first_temp before.temps (before.next + c.args.width)) (sym c.in_ok-push_variables.ensures.ok)
          (bound_words before.rows before.first_temp before.temps before.next c.args.width c.requires before.laid_out);
    }
