-- A loop program without its dead code: what it means, the turns of its loops, its size, and that it is well formed.
use Rattle.std.proofs.Common.{◌≡◌, ℕ, zero, suc, Bool, false, List, length, refl, sym, ap, ◌∙◌, subst, arith}
use Rattle.std.specs.Prelude.{IsTrue, replicate, slice_index}
use Rattle.std.proofs.lemmas.List.{length-replicate}
use Rattle.list_denotation.specs.declared.input.Input.{Input}
use Rattle.list_denotation.specs.Observation.{Done, Going, Failed}
use Rattle.list_denotation.specs.Values.{Trap, Stuck}
use Rattle.loop_ir.specs.Constants.{is_word_leaf}
use Rattle.loop_ir.specs.DeclaredNames.{is_named_leaf, declared_names, block_names}
use Rattle.loop_ir.specs.LoopTurns.{block_turns, loop_turns}
use Rattle.loop_ir.specs.Meaning.{Outcome, Runs, Over, run, seen_of, meaning}
use Rattle.loop_ir.specs.Statements.{Block, Routine}
use Rattle.loop_ir.specs.WellFormed.{IsWellFormed}
use Rattle.dead_code.specs.Ends.{reached}
use Rattle.dead_code.specs.FirstZeros.{without_first_zeros}
use Rattle.dead_code.specs.Live.{marked_count, ranks}
use Rattle.dead_code.specs.LiveRoutines.{needed_of, live_body, live_routine}
use Rattle.dead_code.specs.Needs.{needs_of_block}
use Rattle.dead_code.specs.Promises.{IsNoLarger}
use Rattle.dead_code.proofs.FirstZeroBlocks.{first_needs, first_loops, first_nest, first_count}
use Rattle.dead_code.proofs.FirstZeroRuns.{IsZeroed, first_run, first_turns}
use Rattle.dead_code.proofs.Growth.{needed_closed, needed_long}
use Rattle.dead_code.proofs.KeptVariables.{kept, kept_same, count_within}
use Rattle.dead_code.proofs.LiveCounts.{live_loops, live_nest, live_count}
use Rattle.dead_code.proofs.LiveLeaves.{reached_leaves, first_leaves, names_over, words_over}
use Rattle.dead_code.proofs.LiveRuns.{IsKept, block_kept}
use Rattle.dead_code.proofs.LiveTurns.{SameTurns, block_same}
use Rattle.dead_code.proofs.ReachedBlocks.{reached_loops, reached_nest, reached_count}
use Rattle.dead_code.proofs.ReachedRuns.{block_reached, turns_reached}

-- variables start at 0
all_zero : (n v : ℕ) → slice_index (replicate n 0) v ≡ 0
all_zero zero v = refl
all_zero (suc n) zero = refl
all_zero (suc n) (suc v) = all_zero n v

starts_zeroed : (n : ℕ) → IsZeroed (replicate n false) (replicate n 0)
starts_zeroed n = record { long = length-replicate n 0 ∙ sym (length-replicate n false); zeros = λ v h. all_zero n v }

-- ---- what is seen

kept_seen : (m : List Bool) (o u : Outcome) → IsKept m o u → ((seen_of o).standing ≡ Failed Stuck → ⊥) → seen_of u ≡ seen_of o
kept_seen m (Runs events env left) u h sound = ap seen_of h.1
kept_seen m (Over events Done) u h sound = ap seen_of h
kept_seen m (Over events Going) u h sound = ap seen_of h
kept_seen m (Over events (Failed Trap)) u h sound = ap seen_of h
kept_seen m (Over events (Failed Stuck)) u h sound = absurd (sound refl)

same_turns : (o : Outcome) (xs ys : List ℕ) → SameTurns o xs ys → ((seen_of o).standing ≡ Failed Stuck → ⊥) → ys ≡ xs
same_turns (Runs events env left) xs ys h sound = h
same_turns (Over events Done) xs ys h sound = h
same_turns (Over events Going) xs ys h sound = h
same_turns (Over events (Failed Trap)) xs ys h sound = h
same_turns (Over events (Failed Stuck)) xs ys h sound = absurd (sound refl)

module _ (q : Routine) where
  abbrev marks : List Bool
  marks = needed_of q

  abbrev opened : Block
  opened = without_first_zeros (replicate q.vars false) (reached q.body)

  abbrev start : List ℕ
  start = replicate q.vars 0

  closed : needs_of_block opened marks ≡ marks
  closed = first_needs (replicate q.vars false) (reached q.body) marks ∙ needed_closed q.vars (reached q.body)

  long : length marks ≡ q.vars
  long = needed_long q.vars (reached q.body)

  kept_start : kept marks start ≡ replicate (marked_count marks) 0
  kept_start = ap (λ n. kept marks (replicate n 0)) (sym long) ∙ kept_same marks 0

  start_long : length start ≡ length marks
  start_long = length-replicate q.vars 0 ∙ sym long

  same_run : (inputs : List Input) (m : ℕ) → run inputs opened start m ≡ run inputs q.body start m
  same_run inputs m = first_run inputs (replicate q.vars false) (reached q.body) start m (starts_zeroed q.vars) ∙ block_reached inputs q.body start m

  pub live_means : (inputs : List Input) (m : ℕ) → ((meaning q inputs m).standing ≡ Failed Stuck → ⊥) → meaning (live_routine q) inputs m ≡ meaning q inputs m
  live_means inputs m sound =
      kept_seen marks (run inputs q.body start m) (run inputs (live_body q) (replicate (marked_count marks) 0) m)
      (subst (λ o. IsKept marks o (run inputs (live_body q) (replicate (marked_count marks) 0) m)) (same_run inputs m)
      (subst (λ e. IsKept marks (run inputs opened start m) (run inputs (live_body q) e m)) kept_start
      (block_kept inputs marks opened closed start m start_long)))
      sound

  same_opened : (inputs : List Input) (m : ℕ) → block_turns inputs opened start m ≡ block_turns inputs q.body start m
  same_opened inputs m = first_turns inputs (replicate q.vars false) (reached q.body) start m (starts_zeroed q.vars) ∙ turns_reached inputs q.body start m

  pub live_turns : (inputs : List Input) (m : ℕ) → ((meaning q inputs m).standing ≡ Failed Stuck → ⊥) → loop_turns (live_routine q) inputs m ≡ loop_turns q inputs m
  live_turns inputs m sound =
      same_turns (run inputs q.body start m) (loop_turns q inputs m) (loop_turns (live_routine q) inputs m)
      (subst (λ o. SameTurns o (loop_turns q inputs m) (loop_turns (live_routine q) inputs m)) (same_run inputs m)
      (subst (λ xs. SameTurns (run inputs opened start m) xs (loop_turns (live_routine q) inputs m)) (same_opened inputs m)
      (subst (λ e. SameTurns (run inputs opened start m) (block_turns inputs opened start m) (block_turns inputs (live_body q) e m)) kept_start
      (block_same inputs marks opened closed start m start_long))))
      sound

  pub no_larger : IsNoLarger q (live_routine q)
  no_larger = record {
    params = refl;
    vars = (let few = count_within marks in omega (arith, few, long));
    loops = live_loops marks (ranks marks) opened ∙ first_loops (replicate q.vars false) (reached q.body) ∙ reached_loops q.body;
    nest = live_nest marks (ranks marks) opened ∙ first_nest (replicate q.vars false) (reached q.body) ∙ reached_nest q.body;
    statements = (let first = live_count marks (ranks marks) opened in
        let second = first_count (replicate q.vars false) (reached q.body) in
        let third = reached_count q.body in
        omega (arith, first, second, third));
  }

  pub live_well_formed : IsWellFormed q → IsWellFormed (live_routine q)
  live_well_formed formed =
      let names = declared_names q.params q.vars in
      record {
        few = formed.few;
        names =
            names_over q.params marks opened closed
            (subst (λ n. IsTrue (block_names (declared_names q.params n) opened)) (sym long)
            (first_leaves (is_named_leaf names) (replicate q.vars false) (reached q.body) (reached_leaves (is_named_leaf names) q.body formed.names)));
        constants =
            words_over marks opened closed (first_leaves is_word_leaf (replicate q.vars false) (reached q.body) (reached_leaves is_word_leaf q.body formed.constants));
      }
