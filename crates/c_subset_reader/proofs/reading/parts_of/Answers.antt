use Rattle.std.proofs.lemmas.Result.{err_from_is_err_and}
use Rattle.c_subset_reader.proofs.TextFaults.{token_fault, names_fault, text_is, text_is_well_formed}
use Rattle.c_program_reader.specs.StateCopies.{routine_of}
use Rattle.c_subset_reader.proofs.reading.parts_of.Goals as goal

pub returns-in_err-parts-clause-answers : goal.returns-in_err-parts-clause-answers
returns-in_err-parts-clause-answers c =
    let cut = c.in_default.ensures.cut in
    let p = err_from_is_err_and c.from_residual.result c.from_residual.ensures.1 in
    rw (p.1, p.2)
    (token_fault c.args.text.now cut.0 c.in_err-parts.field-0.0 cut.1 (c.in_err-parts.ensures.parses cut.0 cut.1))

pub returns-in-Some-name_fault-clause-answers : goal.returns-in-Some-name_fault-clause-answers
returns-in-Some-name_fault-clause-answers c =
    let cut = c.in_default.ensures.cut in
    let parsed = c.in_ok-parts.ensures.parses cut.0 cut.1 in
    names_fault c.args.text.now cut.0 c.in-Some-name_fault.at c.in_ok-parts.parts.value c.deref.result.now c.deref.ensures cut.1
    parsed.0 parsed.1 (c.in-Some-name_fault.ensures.fault cut.0 cut.1)

pub returns-clause-answers : goal.returns-clause-answers
returns-clause-answers c =
    let cut = c.in_default.ensures.cut in
    let parsed = c.in_ok-parts.ensures.parses cut.0 cut.1 in
    text_is c.declared_tokens_are_declared_names.ensures.names c.args.text.now cut.0 c.in_ok-parts.parts.value c.deref.result.now c.deref.ensures cut.1
    parsed.0 parsed.1 (c.in_default-name_fault.ensures.fault cut.0 cut.1)

pub returns-clause-well_formed : goal.returns-clause-well_formed
returns-clause-well_formed c =
    let cut = c.in_default.ensures.cut in
    let parsed = c.in_ok-parts.ensures.parses cut.0 cut.1 in
    text_is_well_formed c.programs_of_texts_have_words.ensures c.programs_have_few_params.ensures c.args.text.now (routine_of c.in_ok-parts.parts.value)
    (text_is c.declared_tokens_are_declared_names.ensures.names c.args.text.now cut.0 c.in_ok-parts.parts.value c.deref.result.now c.deref.ensures cut.1
    parsed.0 parsed.1 (c.in_default-name_fault.ensures.fault cut.0 cut.1))
