-- The program that the code makes is the one that is defined.
use Rattle.std.proofs.Common.{◌≡◌, ℕ, Bool, false, List, ap, ◌∙◌}
use Rattle.std.specs.Prelude.{replicate}
use Rattle.list_denotation.specs.declared.input.InputKind.{InputKind}
use Rattle.loop_ir.specs.declared.syntax.Stmt.{Stmt}
use Rattle.loop_ir.specs.StatementCopies.{block_of, routine_from}
use Rattle.dead_code.specs.Ends.{reached}
use Rattle.dead_code.specs.FirstZeros.{without_first_zeros}
use Rattle.dead_code.specs.Live.{marked_count, ranks, live}
use Rattle.dead_code.specs.LiveRoutines.{live_routine}
use Rattle.dead_code.specs.Needs.{needed}

-- the parts of the program, one by one
module _ (params made_params : List InputKind) (vars : ℕ) (body kept made : List Stmt) (marks : List Bool) (numbers : List ℕ) (count : ℕ) where
  pub made_program : block_of kept ≡ reached (block_of body) → marks ≡ needed vars (block_of kept) → numbers ≡ ranks marks → count ≡ marked_count marks → block_of made ≡ live marks numbers (without_first_zeros (replicate vars false) (block_of kept)) → made_params ≡ params → routine_from made_params count made ≡ live_routine (routine_from params vars body)
  made_program reach need number counts lives same =
      let needs : marks ≡ needed vars (reached (block_of body)) = need ∙ ap (needed vars) reach in
      let whole : block_of made ≡ live (needed vars (reached (block_of body))) (ranks (needed vars (reached (block_of body)))) (without_first_zeros (replicate vars false) (reached (block_of body))) =
      lives
      ∙ ap (λ b. live marks numbers (without_first_zeros (replicate vars false) b)) reach
      ∙ ap (λ n. live marks n (without_first_zeros (replicate vars false) (reached (block_of body)))) (number ∙ ap ranks needs)
      ∙ ap (λ m. live m (ranks (needed vars (reached (block_of body)))) (without_first_zeros (replicate vars false) (reached (block_of body)))) needs in
      λ i. record { params = same i; vars = (counts ∙ ap marked_count needs) i; body = whole i }
