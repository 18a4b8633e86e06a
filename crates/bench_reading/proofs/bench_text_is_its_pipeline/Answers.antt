use Rattle.bench_pipeline.specs.Pipelines.{bench_pipeline}
use Rattle.bench_pipeline.specs.Texts.{bench_text}
use Rattle.bench_reading.proofs.BenchReading.{bench_reads}
use Rattle.bench_reading.proofs.Reading.{reads_as_given}
use Rattle.bench_reading.proofs.bench_text_is_its_pipeline.Goals as goal

pub returns : goal.returns
returns c = reads_as_given c.texts_are_read_exactly.ensures bench_text bench_pipeline bench_reads
