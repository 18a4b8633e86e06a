-- The names of a tree's inputs, as the code has them and as their plain copies.
use Rattle.std.proofs.Common.{◌≡◌, List, [], ◌∷◌, map, refl, ap}
use Rattle.job_inputs.specs.Names.{names_of}
use Rattle.pipe_tree.specs.TreeCopies.{declaration_of}
use Rattle.pipe_tree.specs.Trees.{Declaration}
use Rattle.pipe_tree.specs.declared.tree.Decl.{Decl}

pub same_names : (decls : List Decl) → names_of decls ≡ map (λ (d : Declaration). d.name.text) (map declaration_of decls)
same_names [] = refl
same_names (d ∷ decls) = ap (λ names. d.name.text ∷ names) (same_names decls)
