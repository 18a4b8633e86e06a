use Rattle.job_steps.proofs.Endings.{never_words}
use Rattle.job_steps.proofs.NeverFailing.{no_command}
use Rattle.job_steps.proofs.laws.only_words_end_as_words.Goals as goal

pub returns-clause-steps : goal.returns-clause-steps
returns-clause-steps c = no_command

pub returns-clause-work : goal.returns-clause-work
returns-clause-work c = never_words
