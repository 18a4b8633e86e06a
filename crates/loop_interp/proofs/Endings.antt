-- What a whole run answers and has written.
use Rattle.std.proofs.Common.{◌≡◌, inl, inr, ℕ, ◌+◌, List, [], ◌++◌, length, take, false, Option, Result, Ok, Err, refl, sym, ap, ◌∙◌, subst, length-append, arith}
use Rattle.std.proofs.Math.Seq.{take-append-add, take-append_seam}
use Rattle.list_denotation.specs.Observation.{Standing, Done, Going, Failed, Seen}
use Rattle.list_denotation.specs.Values.{Trap, Stuck}
use Rattle.loop_ir.specs.Meaning.{Outcome, seen_of}
use Rattle.event_texts.specs.Texts.{events_text}
use Rattle.strm_io.specs.Writing.{Appends}
use Rattle.strm_io.specs.Appending.{AppendsPrefix}
use Rattle.loop_interp.specs.declared.outcome.Outcome.{Outcome as Answer}
use Rattle.loop_interp.specs.declared.outcome.Outcome.TheVariants as answer
use Rattle.loop_interp.specs.Answers.{answer_of, Answers}
use Rattle.loop_interp.specs.Output.{Adds, IsCut}
use Rattle.loop_interp.specs.Runs.{Output, State, Pending, Follows, PutsRest, Finishes}
use Rattle.loop_interp.proofs.Adding.{appends_then}

-- ---- the text of a run
whole_text : (a b c : Option (List ℕ)) (p text : List ℕ) → Adds a b [] p text → Appends b c p → Appends a c text
whole_text a b c p text h k = subst (λ t. Appends a c t) h.same (appends_then a b c h.put p h.appended k)

prefix_text : (a b c : Option (List ℕ)) (p text : List ℕ) → Adds a b [] p text → AppendsPrefix b c p → AppendsPrefix a c text
prefix_text a b c p text h k =
    let whole : h.put ++ p ≡ text = h.same in
    record {
      count = length h.put + k.count;
      within = omega (arith, k.within, length-append h.put p, ap length whole);
      appended = subst (λ t. Appends a c t) (sym (ap (λ t. take (length h.put + k.count) t) (sym whole) ∙ take-append-add h.put p k.count))
          (appends_then a b c h.put (take k.count p) h.appended k.appended);
    }

cut_text : (a b : Option (List ℕ)) (text : List ℕ) → IsCut a b [] text → AppendsPrefix a b text
cut_text a b text h =
    let whole : h.put ++ h.rest ≡ text = h.same in
    record {
      count = length h.put;
      within = omega (arith, length-append h.put h.rest, ap length whole);
      appended = subst (λ t. Appends a b t) (sym (ap (λ t. take (length h.put) t) (sym whole) ∙ take-append_seam h.put h.rest)) h.appended;
    }

-- ---- the answer
stands : (seen : Seen) (standing : Standing) (a b : Option (List ℕ)) → standing ≡ seen.standing → Appends a b (events_text seen.events) → Answers seen a b (answer_of standing)
stands seen Done a b e h = (ap answer_of e, h)
stands seen Going a b e h = (ap answer_of e, h)
stands seen (Failed Trap) a b e h = (ap answer_of e, h)
stands seen (Failed Stuck) a b e h = (ap answer_of e, h)

rest_answers : (seen : Seen) (before result : Answer) (a : Option (List ℕ)) (o o' : Pending)
    → before ≡ answer_of seen.standing → Adds a o.written [] o.pending (events_text seen.events)
    → PutsRest before o o' result → Answers seen a o'.written result
rest_answers seen before result a o o' e h (inl k) =
    subst (λ r. Answers seen a o'.written r) (sym (k.0 ∙ e))
    (stands seen seen.standing a o'.written refl (whole_text a o.written o'.written o.pending (events_text seen.events) h k.1))
rest_answers seen before result a o o' e h (inr k) =
    subst (λ r. Answers seen a o'.written r) (sym k.0) (prefix_text a o.written o'.written o.pending (events_text seen.events) h k.1)

-- what is put at the end of a run that failed before
finishes_before : (before result : Answer) (o o' : Pending) (standing : Standing) → before ≡ answer_of standing → Finishes (Err before) o o' result → PutsRest before o o' result
finishes_before answer.Done result o o' standing e h = h
finishes_before answer.Trap result o o' standing e h = h
finishes_before answer.Spent result o o' standing e h = h
finishes_before answer.Undefined result o o' standing e h = h
finishes_before answer.Write result o o' Done e h = absurd cc
finishes_before answer.Write result o o' Going e h = absurd cc
finishes_before answer.Write result o o' (Failed Trap) e h = absurd cc
finishes_before answer.Write result o o' (Failed Stuck) e h = absurd cc

-- how the output stands before a run
abbrev pub fresh : Option (List ℕ) → ℕ → Output
fresh written faults = record { written = written; faults = faults; pending = []; in_row = false }

abbrev pub pending_of : Output → Pending
pending_of o = record { written = o.written; faults = o.faults; pending = o.pending }

pub run_answers : (o : Outcome) (a : Option (List ℕ)) (faults : ℕ) (env : List ℕ) (left : ℕ) (s : State) (ended : Result (Unit {0}) Answer) (o' : Pending) (result : Answer)
    → Follows o (record { out = fresh a faults; env = env; left = left }) s ended → Finishes ended (pending_of s.out) o' result
    → Answers (seen_of o) a o'.written result
run_answers o a faults env left s (Ok done) o' result h k =
    subst (λ u. Answers (seen_of u) a o'.written result) (sym h.is)
    (rest_answers (record { events = h.events; standing = Done }) answer.Done result a (pending_of s.out) o' refl h.wrote.text k)
run_answers o a faults env left s (Err before) o' result (inl h) k =
    subst (λ u. Answers (seen_of u) a o'.written result) (sym h.is)
    (rest_answers (record { events = h.events; standing = h.standing }) before result a (pending_of s.out) o' h.answer h.wrote.text (finishes_before before result (pending_of s.out) o' h.standing h.answer k))
run_answers o a faults env left s (Err before) o' result (inr h) k =
    let failed : Finishes (Err answer.Write) (pending_of s.out) o' result = subst (λ r. Finishes (Err r) (pending_of s.out) o' result) h.answer k in
    subst (λ r. Answers (seen_of o) a o'.written r) (sym failed.0)
    (subst (λ w. AppendsPrefix a w (events_text (seen_of o).events)) (sym failed.1) (cut_text a s.out.written (events_text (seen_of o).events) h.cut.cut))
