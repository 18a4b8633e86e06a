-- The offsets of expressions and those of their plain copies.
use Rattle.std.proofs.Common.{◌≡◌, ℕ, refl}
use Rattle.pipe_tree.specs.declared.tree.TExpr.{TExpr}
use Rattle.pipe_tree.specs.declared.tree.TNode.{TNode}
use Rattle.pipe_tree.specs.declared.tree.TNode.TheVariants as node
use Rattle.pipe_tree.specs.TreeCopies.{formula_at, formula_of}
use Rattle.pipe_tree.specs.Trees.{offset_of}

offset_at : (at : ℕ) (n : TNode) → offset_of (formula_at at n) ≡ at
offset_at at (node.Num w) = refl
offset_at at (node.Truth b) = refl
offset_at at (node.Name n) = refl
offset_at at (node.Len n) = refl
offset_at at (node.Neg' p i a) = refl
offset_at at (node.Not' p i a) = refl
offset_at at (node.Paren' p i a) = refl
offset_at at (node.Bin' o q p i a r j b) = refl
offset_at at (node.And' q p i a r j b) = refl
offset_at at (node.Or' q p i a r j b) = refl
offset_at at (node.If' p i c q j a r k b) = refl

-- the offset of an expression's first token is that of its plain copy
pub offset_is : (e : TExpr) → offset_of (formula_of e) ≡ e.at
offset_is e = offset_at e.at e.node
