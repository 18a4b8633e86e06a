use Rattle.std.proofs.Common.{Option, Box, Global, length, ap, arith, ◌∙◌, ◌≤◌}
use Rattle.std.proofs.lemmas.Result.{err_from_is_err_and}
use Rattle.std.specs.Prelude.{option_map}
use Rattle.c_program_reader.specs.StateCopies.{routine_of, state_of}
use Rattle.c_program_reader.specs.declared.reader.Parsed.{Parsed}
use Rattle.c_subset_reader.proofs.ReachedSoFar.{reads_all, ends_early}
use Rattle.c_subset_reader.proofs.parsing.parsed.Goals as goal

pub finish-requires : goal.finish-requires
finish-requires c = λ q e.
    let toks = c.requires.tokens.0 in
    let tokens = c.requires.tokens.1 in
    let reached = (c.in_ok-take_all.ensures.takes toks tokens).1 in
    let program = reads_all c.programs_are_read_exactly.ensures.reads (state_of c.take_all.new.reader) toks q reached e in
    let few : q.vars ≤ length c.args.text.now = c.programs_of_texts_have_few_variables.ensures c.args.text.now toks q tokens program in
    omega (arith, few, c.requires.short)

pub returns-in_err-take_all-clause-parses : goal.returns-in_err-take_all-clause-parses
returns-in_err-take_all-clause-parses c = λ toks h.
    let p = err_from_is_err_and c.from_residual-in_err-take_all.result c.from_residual-in_err-take_all.ensures.1 in
    rw (p.1, p.2) (c.in_err-take_all.ensures.takes toks h)

pub returns-in-Some-clause-parses : goal.returns-in-Some-clause-parses
returns-in-Some-clause-parses c = λ toks h.
    let taken = c.in_ok-take_all.ensures.takes toks h in (
      taken.0,
      reads_all c.programs_are_read_exactly.ensures.reads (state_of c.take_all.new.reader) toks (routine_of c.in-Some.parts.value) taken.1
          (c.in_ok-parts.ensures ∙ ap (λ (o : Option (Box Parsed Global)). option_map (λ (b : Box Parsed Global). routine_of b.value) o) c.in-Some.is),
    )

pub returns-in-None-clause-parses : goal.returns-in-None-clause-parses
returns-in-None-clause-parses c = λ toks h.
    let taken = c.in_ok-take_all.ensures.takes toks h in (
      taken.0,
      ends_early c.programs_are_read_exactly.ensures.ends (state_of c.take_all.new.reader) toks (length c.args.text.now) taken.1
          (c.in_ok-parts.ensures ∙ ap (λ (o : Option (Box Parsed Global)). option_map (λ (b : Box Parsed Global). routine_of b.value) o) c.in-None.is),
    )
