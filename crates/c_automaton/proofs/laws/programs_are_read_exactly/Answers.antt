use Rattle.c_automaton.proofs.Runs.{read_program, ends_early, stops_there}
use Rattle.c_automaton.proofs.laws.programs_are_read_exactly.Goals as goal

pub returns-clause-reads : goal.returns-clause-reads
returns-clause-reads c = λ toks seen s q. read_program toks seen s q

pub returns-clause-ends : goal.returns-clause-ends
returns-clause-ends c = λ toks seen s. ends_early toks seen s

pub returns-clause-stops : goal.returns-clause-stops
returns-clause-stops c = λ before t rest seen u s. stops_there before t rest seen u s
