use Rattle.denotation_laws.proofs.TypedStreams.{stream_reads, program_reads, typed_rows, width_few}
use Rattle.denotation_laws.proofs.laws.typed_streams_read_their_scopes.Goals as goal

pub returns : goal.returns
returns c =
    let bound = c.typed_expressions_read_the_scope.ensures.bound in
    let names = c.typed_expressions_read_the_scope.ensures.inputs in
    record {
      streams = λ inputs scope ks p h w. (stream_reads bound names inputs p scope ks h w).reads;
      widths = λ inputs scope ks p h w. (stream_reads bound names inputs p scope ks h w).same;
      few = width_few;
      programs = λ inputs s t h w. program_reads bound names inputs s t h w;
      rows = λ kinds scope ks p inputs env n h w fits words. typed_rows bound names kinds scope ks p h w inputs fits env words n;
    }
