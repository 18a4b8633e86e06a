use Rattle.std.proofs.Common.{◌<◌, ℕ, length, subst, ◌∙◌}
use Rattle.c_faults.specs.Answers.{IsTooDeep}
use Rattle.pipe_limits.specs.declared.TheConstants.{MOST_OPEN_BRACKETS}
use Rattle.c_program_reader.specs.StateCopies.{state_of}
use Rattle.c_subset_reader.specs.Depths.{IsDepthOf}
use Rattle.c_subset_reader.specs.Reached.{IsReached}
use Rattle.c_subset_reader.proofs.Taking.{taken_more, taken_all, taken_last, extends_both}
use Rattle.c_subset_reader.proofs.DepthsSoFar.{deep_where, depth_taken, depth_too_large, within_where}
use Rattle.c_subset_reader.proofs.ReachedSoFar.{IsStuck, reached_more, stuck_there, stops_at}
use Rattle.c_subset_reader.proofs.BothSoFar.{AreBothSoFar, depth_behind_found}
use Rattle.c_subset_reader.proofs.parsing.take_all.Goals as goal

pub next_token-requires : goal.next_token-requires
next_token-requires c = let h = c.loop-found.invariant.taken c.requires.tokens.0 c.requires.tokens.1 in (h.left, h.is_left)

pub returns-then-is_too_deep-clause-takes : goal.returns-then-is_too_deep-clause-takes
returns-then-is_too_deep-clause-takes c = λ toks h.
    let deep = deep_where c.depth_with-depth.result c.is_too_deep.result c.is_too_deep.ensures c.if-is_too_deep.true in
    let depth = c.loop-found.depth in
    taken_last (AreBothSoFar depth (state_of c.loop-found.reader)) IsTooDeep c.in-Some.found c.loop-found.cursor c.next_token.new.self toks (c.loop-found.invariant.taken toks h) c.in-Some.ensures.takes
    (λ before t seen so_far. depth_too_large depth before t so_far.0 (subst (λ (n : ℕ). MOST_OPEN_BRACKETS < n) (c.depth_with-depth.ensures t.what seen.stands) deep))

pub depth_fault-requires-clause-taken : goal.depth_fault-requires-clause-taken
depth_fault-requires-clause-taken c =
    let small = within_where c.depth_with-depth.result c.is_too_deep.result c.is_too_deep.ensures c.if-is_too_deep.false in
    let toks = c.requires.tokens.0 in (
      toks,
      depth_behind_found c.loop-found.depth c.depth_with-depth.result (state_of c.loop-found.reader) c.in-Some.found c.loop-found.cursor c.next_token.new.self toks
          (c.loop-found.invariant.taken toks c.requires.tokens.1) c.in-Some.ensures.takes c.depth_with-depth.ensures small,
    )

pub returns-in-Some-depth_fault-clause-takes : goal.returns-in-Some-depth_fault-clause-takes
returns-in-Some-depth_fault-clause-takes c = λ toks h.
    let small = within_where c.depth_with-depth.result c.is_too_deep.result c.is_too_deep.ensures c.if-is_too_deep.false in
    c.in-Some-depth_fault.ensures.fault toks
    (depth_behind_found c.loop-found.depth c.depth_with-depth.result (state_of c.loop-found.reader) c.in-Some.found c.loop-found.cursor c.next_token.new.self toks
    (c.loop-found.invariant.taken toks h) c.in-Some.ensures.takes c.depth_with-depth.ensures small)

pub returns-in-None-clause-takes : goal.returns-in-None-clause-takes
returns-in-None-clause-takes c = λ toks h.
    let small = within_where c.depth_with-depth.result c.is_too_deep.result c.is_too_deep.ensures c.if-is_too_deep.false in
    let depth = c.loop-found.depth in
    let now = state_of c.loop-found.reader in
    let so_far = c.loop-found.invariant.taken toks h in (
      c.in-None.ensures.fault toks
          (depth_behind_found depth c.depth_with-depth.result now c.in-Some.found c.loop-found.cursor c.next_token.new.self toks
          so_far c.in-Some.ensures.takes c.depth_with-depth.ensures small),
      stops_at c.programs_are_read_exactly.ensures.stops (length c.args.text.now) c.in-Some.found.at toks
          (taken_last (AreBothSoFar depth now) IsStuck c.in-Some.found c.loop-found.cursor c.next_token.new.self toks so_far c.in-Some.ensures.takes
          (λ before t seen both. stuck_there now (state_of c.take.new.self) c.in-Some.found c.in_ok-take.field-0 c.in_ok-take.ensures c.if-not-branch.true before t seen.stands both.1)),
    )

pub loop-found-preserved : goal.loop-found-preserved
loop-found-preserved c =
    let small = within_where c.depth_with-depth.result c.is_too_deep.result c.is_too_deep.ensures c.if-is_too_deep.false in
    let depth = c.loop-found.depth in
    let deeper = c.depth_with-depth.result in
    let now = state_of c.loop-found.reader in
    let next = state_of c.take.new.self in
    record {
      text = c.in-Some.ensures.text ∙ c.loop-found.invariant.text;
      small = small;
      taken = λ toks h. taken_more (AreBothSoFar depth now) (AreBothSoFar deeper next) c.in-Some.found c.loop-found.cursor c.next_token.new.self toks (c.loop-found.invariant.taken toks h)
          c.in-Some.ensures.takes
          (extends_both c.in-Some.found (IsDepthOf depth) (IsReached now) (IsDepthOf deeper) (IsReached next)
          (depth_taken depth deeper c.in-Some.found c.depth_with-depth.ensures small)
          (reached_more now next c.in-Some.found c.in_ok-take.field-0 c.in_ok-take.ensures c.if-not-branch.false));
    }

pub returns-clause-takes : goal.returns-clause-takes
returns-clause-takes c = λ toks h.
    let both = taken_all (AreBothSoFar c.loop-found.depth (state_of c.loop-found.reader)) c.loop-found.cursor c.next_token.new.self toks (c.loop-found.invariant.taken toks h) c.in_default.ensures.takes in
    (both.0.within, both.1)
