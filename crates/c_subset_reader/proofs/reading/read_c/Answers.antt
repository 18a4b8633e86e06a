use Rattle.std.proofs.Common.{◌-◌, Ok, Err, length, refl, sym, subst, inl}
use Rattle.loop_ir.specs.WellFormed.{IsWellFormed}
use Rattle.c_faults.specs.Answers.{ReadsAs}
use Rattle.c_faults.specs.declared.fault.CFault.{CFault}
use Rattle.c_faults.specs.declared.fault.CFault.TheVariants.{Syntax}
use Rattle.c_program_reader.specs.StateCopies.{routine_of}
use Rattle.c_program_reader.specs.declared.reader.Parsed.{Parsed}
use Rattle.c_subset_reader.specs.TextAnswers.{IsTextOf}
use Rattle.c_subset_reader.proofs.TextFaults.{reads_program, reads_fault}
use Rattle.c_subset_reader.proofs.reading.read_c.Goals as goal

pub returns-in_default-clause-only : goal.returns-in_default-clause-only
returns-in_default-clause-only c = λ other h.
    c.texts_have_one_answer.ensures c.args.c.now (Err (Syntax 0)) other (inl (c.in_default.ensures.header, refl)) h

pub invariant_of-result : goal.invariant_of-result
invariant_of-result c = record {
  well_formed = subst (λ (p : Parsed). IsWellFormed (routine_of p)) (sym c.into_inner-params.ensures) c.in-Ok.ensures.well_formed;
}

pub returns-in-Ok-clause-only : goal.returns-in-Ok-clause-only
returns-in-Ok-clause-only c = λ other h.
    let q = routine_of c.into_inner-params.result in
    c.texts_have_one_answer.ensures c.args.c.now (Ok q) other
    (reads_program c.args.c.now c.in-Some.text.now q c.in-Some.ensures.header
    (subst (λ (p : Parsed). IsTextOf c.in-Some.text.now (routine_of p)) (sym c.into_inner-params.ensures) c.in-Ok.ensures.answers)) h

pub returns-in-Err-clause-only : goal.returns-in-Err-clause-only
returns-in-Err-clause-only c = λ other h.
    c.texts_have_one_answer.ensures c.args.c.now (Err c.fault_behind.result) other
    (subst (λ (f : CFault). ReadsAs c.args.c.now (Err f)) (sym c.fault_behind.ensures)
    (reads_fault c.args.c.now c.in-Some.text.now (length c.args.c.now - length c.in-Some.text.now) c.in-Err.fault c.in-Some.ensures.header refl c.in-Err.ensures.answers)) h
