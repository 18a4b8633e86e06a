-- What `check` writes of a pipeline, the kinds of the row that its terminal gives, and its counts, a line each; and
-- what `bench` writes.
use Rattle.std.specs.Prelude.{ℕ, List, [], ◌∷◌, ◌++◌, Option, Some, None, codes, decimal}
use Rattle.list_denotation.specs.declared.kind.Kind.{Kind}
use Rattle.list_denotation.specs.declared.kind.Kind.TheVariants.{Int, Bool}
use Rattle.list_denotation.specs.Terms.{Pipeline}
use Rattle.list_denotation.specs.Typing.{program_kinds}
use Rattle.list_denotation.specs.Counts.{ops, nodes, depth, loops_of, nest_of, most_vars, most_stmts}

-- a blank and the kind
abbrev pub kind_text : Kind → List ℕ
kind_text Int = codes " int"
kind_text Bool = codes " bool"

abbrev pub kind_texts : List Kind → List ℕ
kind_texts [] = []
kind_texts (k ∷ ks) = kind_text k ++ kind_texts ks

-- the kinds of a row, where it has any
abbrev pub row_text : Option (List Kind) → List ℕ
row_text None = []
row_text (Some ks) = kind_texts ks

abbrev pub kinds_line : Pipeline → List ℕ
kinds_line p = codes "kinds" ++ row_text (program_kinds p.inputs p.stream p.terminal) ++ codes "\n"

-- what is counted, and the number
abbrev pub count_line : List ℕ → ℕ → List ℕ
count_line what n = what ++ decimal n ++ codes "\n"

-- the sizes of its text
abbrev pub size_lines : Pipeline → List ℕ
size_lines p = count_line (codes "ops ") (ops p) ++ count_line (codes "nodes ") (nodes p) ++ count_line (codes "depth ") (depth p)

-- the loops that its C text has once it is fused, and how many stand inside one another
abbrev pub loop_lines : Pipeline → List ℕ
loop_lines p = count_line (codes "loops ") (loops_of p) ++ count_line (codes "nesting ") (nest_of p)

-- the bounds of its C text
abbrev pub bound_lines : Pipeline → List ℕ
bound_lines p = count_line (codes "variables at most ") (most_vars p) ++ count_line (codes "statements at most ") (most_stmts p)

abbrev pub counts_text : Pipeline → List ℕ
counts_text p = kinds_line p ++ size_lines p ++ loop_lines p ++ bound_lines p

-- the lines of a bench: how many items it ran on, the row that it gave, whose text ends its line, and its loops
abbrev pub bench_lines : Pipeline → ℕ → List ℕ → List ℕ
bench_lines p items row = count_line (codes "items ") items ++ (codes "result " ++ row) ++ loop_lines p
