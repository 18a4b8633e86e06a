use Rattle.std.proofs.Common.{◌≡◌, ℕ, List, ap, ◌∙◌}
use Rattle.strm_io.specs.MemoryFiles.{file_of}
use Rattle.strm_io.specs.MemoryStates.{with_file}
use Rattle.strm_io.specs.declared.memory_files.Entry.{Entry}
use Rattle.strm_io.proofs.Entries.{state-append}
use Rattle.strm_io.proofs.memory_files.MemFiles.add.Goals as goal

pub returns-clause-ok : goal.returns-clause-ok
returns-clause-ok c =
    let fields = c.self.inside in
    let file : List ℕ × List ℕ = (c.args.name.now, c.args.bytes.now) in
    let entry : Entry = record { name = c.in_ok-from_str.field-0; bytes = c.in_ok-from_slice.field-0 } in
    let file-is : file_of entry ≡ file =
    ap (λ name. (name, c.in_ok-from_slice.field-0.items)) c.in_ok-from_str.ensures.ok
    ∙ ap (λ bytes. (c.args.name.now, bytes)) c.in_ok-from_slice.ensures.items in
    state-append fields.entries.items c.push.new.self.items entry file
    fields.opened fields.read fields.faults fields.misses
    c.self.invariant c.in_ok-push.ensures.items file-is
    ∙ ap (λ s. with_file s c.args.name.now c.args.bytes.now) c.self.view_is
