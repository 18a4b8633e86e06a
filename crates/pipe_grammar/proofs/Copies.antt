-- The plain copies of streams, sources and stages, by their parts.
use Rattle.std.proofs.Common.{◌≡◌, ℕ, ◌∙◌, ap, rules}
use Rattle.std.specs.declared.alloc.Global.{Global}
use Rattle.std.specs.declared.boxed.Box.{Box}
use Rattle.pipe_tree.specs.declared.tree.TExpr.{TExpr}
use Rattle.pipe_tree.specs.declared.tree.TPat.{TPat}
use Rattle.pipe_tree.specs.declared.tree.TRow.{TRow}
use Rattle.pipe_tree.specs.declared.tree.TSource.{the_lemmas}
use Rattle.pipe_tree.specs.declared.tree.TSource.TheVariants as source
use Rattle.pipe_tree.specs.declared.tree.TStageNode.TheVariants as node
use Rattle.pipe_tree.specs.declared.tree.TStream.{TStream}
use Rattle.pipe_tree.specs.Trees as t
use Rattle.pipe_tree.specs.TreeCopies.{formula_of, row_of, pattern_of, source_of, stage_at, stream_of}

plain_range : (a b : TExpr) → source_of (source.Range a b) ≡ t.Range (formula_of a) (formula_of b)
plain_range a b = search (rules, the_lemmas)

pub range_copy : (low high : Box TExpr Global) {a b : TExpr} → a ≡ low.value → b ≡ high.value → source_of (source.Range a b) ≡ t.Range (formula_of low.value) (formula_of high.value)
range_copy low high {a} {b} e f = plain_range a b ∙ ap (λ x. t.Range (formula_of x) (formula_of b)) e ∙ ap (λ x. t.Range (formula_of low.value) (formula_of x)) f

pub scan_copy : (at : ℕ) (seed : TRow) (state pat : TPat) (next : TRow) → stage_at at (node.Scan seed state pat next) ≡ t.Scan at (row_of seed) (pattern_of state) (pattern_of pat) (row_of next)
scan_copy at seed state pat next = search (rules, the_lemmas)

pub zip_copy : (a b : Box TStream Global) → source_of (source.Zip a b) ≡ t.Zip (stream_of a.value) (stream_of b.value)
zip_copy a b = search (rules, the_lemmas)

pub flat_map_copy : (at : ℕ) (pat : TPat) (s : Box TStream Global) → stage_at at (node.FlatMap pat s) ≡ t.FlatMap at (pattern_of pat) (stream_of s.value)
flat_map_copy at pat s = search (rules, the_lemmas)
