use Rattle.command_words.specs.Commands.{texts_of}
use Rattle.strymonas_run.proofs.StatusConditions.{comes_of_failing, comes_of_work, words_only}
use Rattle.strymonas_run.proofs.running.run_words.Goals as goal

pub returns-clause-exact : goal.returns-clause-exact
returns-clause-exact g c store failed told fails =
    comes_of_failing c.words_come_to_one.ensures store (texts_of c.args.words.now) (g.F.Files.told c.args.files.now).holds told (g.O.Sink.written c.args.out.now) _ c.perform-status.result c.perform-status.ensures.answers failed fails

pub returns-clause-complete : goal.returns-clause-complete
returns-clause-complete g c store work told passes =
    comes_of_work c.words_come_to_one.ensures store (texts_of c.args.words.now) (g.F.Files.told c.args.files.now).holds told (g.O.Sink.written c.args.out.now) _ c.perform-status.result c.perform-status.ensures.answers work passes

pub returns-clause-words : goal.returns-clause-words
returns-clause-words g c =
    (words_only c.only_words_end_as_words.ensures.steps c.only_words_end_as_words.ensures.work (g.F.Files.told c.args.files.now).holds (texts_of c.args.words.now) (g.O.Sink.written c.args.out.now) _ c.perform-status.result c.perform-status.ensures.answers, c.perform-status.ensures.words)
