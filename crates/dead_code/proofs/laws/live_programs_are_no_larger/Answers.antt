use Rattle.dead_code.proofs.LivePrograms.{no_larger, live_well_formed}
use Rattle.dead_code.proofs.laws.live_programs_are_no_larger.Goals as goal

pub returns : goal.returns
returns c = record { sizes = no_larger; well_formed = live_well_formed }
