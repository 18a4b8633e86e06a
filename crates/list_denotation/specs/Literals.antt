-- The numbers in a pipeline, each of which is a word: below 2 ^ 64.
use Rattle.std.specs.Prelude.{◌^◌, Bool, true, ◌&&◌, List, nat_lt}
use Rattle.std.specs.List.{list_all}
use Rattle.list_denotation.specs.declared.stream.Stream.{Stream}
use Rattle.list_denotation.specs.declared.terminal.Terminal.{Terminal}
use Rattle.list_denotation.specs.Terms.{Term, Lit, Pipe, Array, Range, Unfold, Map, Filter, Take, Drop, TakeWhile, Scan, FlatMap, Zip, Finish, Fold, Print}
use Rattle.list_denotation.specs.Copies.{pipe_of, finish_of}
use Rattle.list_denotation.specs.Leaves.{all_leaves}

abbrev pub is_word_leaf : Term → Bool
is_word_leaf (Lit w) = nat_lt w (2 ^ 64)
is_word_leaf _ = true

-- each number in the expression is a word
abbrev pub has_words : Term → Bool
has_words = all_leaves is_word_leaf

abbrev pub all_have_words : List Term → Bool
all_have_words = list_all has_words

-- each number in the stream is a word
abbrev pub pipe_has_words : Pipe → Bool
pipe_has_words (Array k) = true
pipe_has_words (Range a b) = has_words a && has_words b
pipe_has_words (Unfold seed guard item next) =
    all_have_words seed && (has_words guard && (all_have_words item && all_have_words next))
pipe_has_words (Map of body) = pipe_has_words of && all_have_words body
pipe_has_words (Filter of e) = pipe_has_words of && has_words e
pipe_has_words (Take of e) = pipe_has_words of && has_words e
pipe_has_words (Drop of e) = pipe_has_words of && has_words e
pipe_has_words (TakeWhile of e) = pipe_has_words of && has_words e
pipe_has_words (Scan of seed next) = pipe_has_words of && (all_have_words seed && all_have_words next)
pipe_has_words (FlatMap of inner) = pipe_has_words of && pipe_has_words inner
pipe_has_words (Zip left right) = pipe_has_words left && pipe_has_words right

abbrev pub finish_has_words : Finish → Bool
finish_has_words (Fold seed next) = all_have_words seed && all_have_words next
finish_has_words Print = true

-- what a program keeps of its numbers
abbrev pub program_has_words : Stream → Terminal → Bool
program_has_words stream terminal = pipe_has_words (pipe_of stream) && finish_has_words (finish_of terminal)
