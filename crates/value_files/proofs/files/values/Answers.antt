use Rattle.std.proofs.Common.{◌≡◌, ℕ, ◌+◌, ◌-◌, take, drop, Ok, Err, refl, sym, ap, subst, rules}
use Rattle.value_files.specs.Files.{ReadsAs}
use Rattle.value_files.proofs.OneAnswer.{one_answer}
use Rattle.value_files.proofs.Passing.{passed_none, passed_all, item_here, passed_more, passed_fault, slice_within}
use Rattle.value_files.proofs.files.values.Goals as goal

pub loop-from-init : goal.loop-from-init
loop-from-init c = record {
  within = c.blanks_len-from.ensures.within;
  passed = passed_none c.args.bytes.now c.new-found.result c.blanks_len-from.result c.new-found.ensures c.blanks_len-from.ensures.run;
}

pub returns-in_err-word : goal.returns-in_err-word
returns-in_err-word c =
    let bytes = c.args.bytes.now in
    let from = c.loop-from.from in
    let end = from + c.item_len.result in
    let item = take (end - from) (drop from bytes) in
    let here = item_here bytes c.loop-from.found item from end c.loop-from.invariant.passed c.loop-from-test.true (ap (λ (n : ℕ). from + n) c.item_len.ensures.run) refl in
    let fault = passed_fault bytes c.loop-from.found item (drop end bytes) from c.len.result c.in_err-word.field-0.0 here c.len.ensures c.in_err-word.ensures in
    let same : c.from_residual.result ≡ Err c.in_err-word.field-0.0 = search rules in
    let reads = subst (ReadsAs bytes) (sym same) fault in
    record { reads = reads; only = λ other h. one_answer bytes other c.from_residual.result h reads }

pub loop-from-preserved : goal.loop-from-preserved
loop-from-preserved c =
    let bytes = c.args.bytes.now in
    let from = c.loop-from.from in
    let end = from + c.item_len.result in
    let item = take (end - from) (drop from bytes) in
    let here = item_here bytes c.loop-from.found item from end c.loop-from.invariant.passed c.loop-from-test.true (ap (λ (n : ℕ). from + n) c.item_len.ensures.run) refl in
    let end_within = slice_within bytes from c.item_len.result c.loop-from.invariant.within c.item_len.ensures.within in
    record {
      within = slice_within bytes end c.blanks_len.result end_within c.blanks_len.ensures.within;
      passed = passed_more bytes c.loop-from.found item c.push.new.self from end (end + c.blanks_len.result) c.len.result c.in_ok-word.word here c.len.ensures c.in_ok-word.ensures c.in_ok-push.ensures.ok (ap (λ (n : ℕ). end + n) c.blanks_len.ensures.run);
    }

pub returns : goal.returns
returns c =
    let bytes = c.args.bytes.now in
    let found = c.loop-from.found in
    let reads = passed_all bytes found c.loop-from.from c.loop-from.invariant.passed c.loop-from-test.false in
    record { reads = reads; only = λ other h. one_answer bytes other (Ok found) h reads }
