-- A loop program without dead code.
use Rattle.std.specs.Prelude.{Bool, false, List, replicate}
use Rattle.loop_ir.specs.Statements.{Block, Routine}
use Rattle.dead_code.specs.Ends.{reached}
use Rattle.dead_code.specs.FirstZeros.{without_first_zeros}
use Rattle.dead_code.specs.Live.{marked_count, ranks, live}
use Rattle.dead_code.specs.Needs.{needed}

-- the variables that are needed, where what is never reached is gone
abbrev pub needed_of : Routine → List Bool
needed_of q = needed q.vars (reached q.body)

-- all statements that are reached and needed, over the needed variables, but for those that set a variable to 0 first
abbrev pub live_body : Routine → Block
live_body q = live (needed_of q) (ranks (needed_of q)) (without_first_zeros (replicate q.vars false) (reached q.body))

abbrev pub live_routine : Routine → Routine
live_routine q = record { params = q.params; vars = marked_count (needed_of q); body = live_body q }
