-- Reading the bench's text by computation gives its pipeline.
use Rattle.std.proofs.Common.{◌≡◌, Some, refl}
use Rattle.std.specs.Char.{encode_utf8}
use Rattle.std.specs.Str.{chars, is_utf8}
use Rattle.unicode_ident.proofs.Computing.{unicode_ident}
use Rattle.bench_pipeline.specs.Texts.{bench_text}
use Rattle.bench_pipeline.specs.Pipelines.{bench_pipeline}
use Rattle.bench_reading.proofs.Reading.{pipeline_of}

pub bench_reads : pipeline_of bench_text ≡ Some bench_pipeline
unfolding is_utf8 chars encode_utf8 unicode_ident
bench_reads = refl
