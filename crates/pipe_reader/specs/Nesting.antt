-- How deep streams are nested at least, by the form of a source or a stage.
use Rattle.std.specs.Prelude.{ℕ, ◌+◌}
use Rattle.pipe_reader.specs.declared.forms.SourceForm.{SourceForm}
use Rattle.pipe_reader.specs.declared.forms.StageForm.{StageForm}
use Rattle.pipe_reader.specs.declared.forms.SourceForm.TheVariants.{Array as ArrayForm, Range as RangeForm, Unfold as UnfoldForm, Zip as ZipForm}
use Rattle.pipe_reader.specs.declared.forms.StageForm.TheVariants.{Map as MapForm, Filter as FilterForm, TakeWhile as TakeWhileForm, Take as TakeForm, Drop as DropForm, Scan as ScanForm, FlatMap as FlatMapForm}

-- a source that stands in this number of streams
abbrev pub source_depth : SourceForm → ℕ → ℕ
source_depth ArrayForm around = around + 1
source_depth RangeForm around = around + 1
source_depth UnfoldForm around = around + 1
source_depth ZipForm around = around + 2

-- a stage that does
abbrev pub stage_depth : StageForm → ℕ → ℕ
stage_depth MapForm around = around + 1
stage_depth FilterForm around = around + 1
stage_depth TakeWhileForm around = around + 1
stage_depth TakeForm around = around + 1
stage_depth DropForm around = around + 1
stage_depth ScanForm around = around + 1
stage_depth FlatMapForm around = around + 2
