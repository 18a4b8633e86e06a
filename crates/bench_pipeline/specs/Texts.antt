-- The pipeline that a bench runs, as text.
use Rattle.std.specs.Prelude.{ℕ, List, ◌++◌, codes}

abbrev pub bench_text : List ℕ
bench_text =
    codes "input a: array;\n"
    ++ codes "zip(array a | map x -> x % 4 | flatMap k -> (range(0, k) | map i -> k * 10 + i),\n"
    ++ codes "    array a | map y -> {y, y % 3} | flatMap {y, k} -> (range(0, k) | map j -> y + j))\n"
    ++ codes "| fold {0, 0} with {s, c} {u, v} -> {s + u * v, c + 1}\n"
