use Rattle.std.proofs.Common.{◌<◌, ℕ, subst, ◌∙◌}
use Rattle.c_faults.specs.Answers.{IsTooDeep}
use Rattle.pipe_limits.specs.declared.TheConstants.{MOST_OPEN_BRACKETS}
use Rattle.c_subset_reader.proofs.Taking.{taken_more, taken_all, taken_last}
use Rattle.c_subset_reader.specs.Depths.{IsDepthOf}
use Rattle.c_subset_reader.proofs.DepthsSoFar.{deep_where, depth_taken, depth_too_large, within_where}
use Rattle.c_subset_reader.proofs.depth.depth_fault.Goals as goal

pub next_token-requires : goal.next_token-requires
next_token-requires c = let h = c.loop-found.invariant.taken c.requires.taken.0 c.requires.taken.1 in (h.left, h.is_left)

pub returns-then-is_too_deep-clause-fault : goal.returns-then-is_too_deep-clause-fault
returns-then-is_too_deep-clause-fault c = λ toks h.
    let deep = deep_where c.depth_with-depth.result c.is_too_deep.result c.is_too_deep.ensures c.if-is_too_deep.true in
    let depth = c.loop-found.depth in
    taken_last (IsDepthOf depth) IsTooDeep c.in-Some.found c.loop-found.cursor c.next_token.new.self toks (c.loop-found.invariant.taken toks h) c.in-Some.ensures.takes
    (λ before t seen so_far. depth_too_large depth before t so_far (subst (λ (n : ℕ). MOST_OPEN_BRACKETS < n) (c.depth_with-depth.ensures t.what seen.stands) deep))

pub loop-found-preserved : goal.loop-found-preserved
loop-found-preserved c =
    let small = within_where c.depth_with-depth.result c.is_too_deep.result c.is_too_deep.ensures c.if-is_too_deep.false in
    let depth = c.loop-found.depth in
    let next = c.depth_with-depth.result in
    record {
      text = c.in-Some.ensures.text ∙ c.loop-found.invariant.text;
      small = small;
      taken = λ toks h. taken_more (IsDepthOf depth) (IsDepthOf next) c.in-Some.found c.loop-found.cursor c.next_token.new.self toks (c.loop-found.invariant.taken toks h)
          c.in-Some.ensures.takes (depth_taken depth next c.in-Some.found c.depth_with-depth.ensures small);
    }

pub returns-clause-fault : goal.returns-clause-fault
returns-clause-fault c = λ toks h.
    (taken_all (IsDepthOf c.loop-found.depth) c.loop-found.cursor c.next_token.new.self toks (c.loop-found.invariant.taken toks h) c.in_default.ensures.takes).within
