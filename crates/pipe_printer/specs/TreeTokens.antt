-- The tokens of a text without their offsets.
use Rattle.std.specs.Prelude.{List, map}
use Rattle.pipe_tree.specs.Tokens.{What, Tok}

-- what each token is, without its offset
abbrev pub contents_of : List Tok → List What
contents_of = map (λ (t : Tok). t.what)
