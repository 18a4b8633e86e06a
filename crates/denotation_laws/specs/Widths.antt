-- How many words the rows of a stream have.
use Rattle.std.specs.Prelude.{ℕ, ◌+◌, length}
use Rattle.list_denotation.specs.Terms.{Pipe, Array, Range, Unfold, Map, Filter, Take, Drop, TakeWhile, Scan, FlatMap, Zip}

abbrev pub stream_width : Pipe → ℕ
stream_width (Array k) = 1
stream_width (Range a b) = 1
stream_width (Unfold seed guard item next) = length item
stream_width (Map of body) = length body
stream_width (Filter of e) = stream_width of
stream_width (Take of e) = stream_width of
stream_width (Drop of e) = stream_width of
stream_width (TakeWhile of e) = stream_width of
stream_width (Scan of seed next) = length next
stream_width (FlatMap of inner) = stream_width inner
stream_width (Zip left right) = stream_width left + stream_width right
