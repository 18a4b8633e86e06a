-- How the keywords are written.
use Rattle.std.specs.Prelude.{ℕ, List, codes}
use Rattle.pipe_lexer.specs.declared.keyword.Keyword.{Keyword}
use Rattle.pipe_lexer.specs.declared.keyword.Keyword.TheVariants as keyword

-- the characters of a keyword
abbrev pub keyword_text : Keyword → List ℕ
keyword_text keyword.Input = codes "input"
keyword_text keyword.Array = codes "array"
keyword_text keyword.Int = codes "int"
keyword_text keyword.Range = codes "range"
keyword_text keyword.Unfold = codes "unfold"
keyword_text keyword.With = codes "with"
keyword_text keyword.While = codes "while"
keyword_text keyword.Yield = codes "yield"
keyword_text keyword.Next = codes "next"
keyword_text keyword.Zip = codes "zip"
keyword_text keyword.Map = codes "map"
keyword_text keyword.Filter = codes "filter"
keyword_text keyword.Take = codes "take"
keyword_text keyword.Drop = codes "drop"
keyword_text keyword.TakeWhile = codes "takeWhile"
keyword_text keyword.Scan = codes "scan"
keyword_text keyword.FlatMap = codes "flatMap"
keyword_text keyword.Fold = codes "fold"
keyword_text keyword.Print = codes "print"
keyword_text keyword.If = codes "if"
keyword_text keyword.Then = codes "then"
keyword_text keyword.Else = codes "else"
keyword_text keyword.True = codes "true"
keyword_text keyword.False = codes "false"
keyword_text keyword.Len = codes "len"
keyword_text keyword.Window = codes "window"
keyword_text keyword.Pairwise = codes "pairwise"
keyword_text keyword.Index = codes "index"
keyword_text keyword.Sum = codes "sum"
keyword_text keyword.Count = codes "count"
keyword_text keyword.Least = codes "least"
keyword_text keyword.Greatest = codes "greatest"
