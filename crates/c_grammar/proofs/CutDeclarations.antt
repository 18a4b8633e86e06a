-- The texts of parameters and declarations are cut into their tokens.
use Rattle.std.proofs.Common.{ℕ, zero, suc, ◌+◌, ◌^◌, ◌<◌, ◌≤◌, List, [], ◌∷◌, ◌++◌, length, refl, arith, append_assoc, codes}
use Rattle.list_denotation.specs.declared.input.InputKind.{InputKind}
use Rattle.list_denotation.specs.declared.input.InputKind.TheVariants as kind
use Rattle.loop_ir.specs.Layout.{param_text, more_params_text, params_text, declarations_text}
use Rattle.c_tokens.specs.Pieces.{What}
use Rattle.c_grammar.specs.Grammar.{IsParam, AreMoreParams, AreParams, AreDeclarations}
use Rattle.c_grammar.proofs.Cuttings.{Cuts, IsCut, Stops, ended, space, line, phrase, key, name, constant_zero, semicolon, comma, star, equal}

param_cut : (k : ℕ) (p : InputKind) → k < 2 ^ 32 → (rest : List ℕ) → Stops rest → (r : List What) → Cuts rest r → IsCut (λ x. IsParam k p x r) (param_text k p ++ rest)
param_cut k kind.Array small rest stops r h =
    let length_name = key (codes "uint64_t") refl refl (space (name (codes "n") k refl small stops (ended h))) in
    simp append_assoc
    (key (codes "const") refl refl (space (key (codes "uint64_t") refl refl (space (star (name (codes "a") k refl small refl (comma (space length_name))))))))
param_cut k kind.Int small rest stops r h =
    simp append_assoc (key (codes "uint64_t") refl refl (space (name (codes "i") k refl small stops (ended h))))

more_stop : (k : ℕ) (ps : List InputKind) (rest : List ℕ) → Stops rest → Stops (more_params_text k ps ++ rest)
more_stop k [] rest stops = stops
more_stop k (p ∷ ps) rest stops = refl

more_params_cut : (k : ℕ) (ps : List InputKind) → k + length ps ≤ 2 ^ 32 → (rest : List ℕ) → Stops rest → (r : List What) → Cuts rest r → IsCut (λ x. AreMoreParams k ps x r) (more_params_text k ps ++ rest)
more_params_cut k [] few rest stops r h = ended h
more_params_cut k (p ∷ ps) few rest stops r h =
    simp append_assoc
    (comma (space (phrase (param_cut k p (omega arith) _ (more_stop (k + 1) ps rest stops)) (more_params_cut (k + 1) ps (omega arith) rest stops r h))))

pub params_cut : (ps : List InputKind) → length ps ≤ 2 ^ 32 → (rest : List ℕ) → Stops rest → (r : List What) → Cuts rest r → IsCut (λ x. AreParams ps x r) (params_text ps ++ rest)
params_cut [] few rest stops r h = key (codes "void") refl stops (ended h)
params_cut (p ∷ ps) few rest stops r h =
    simp append_assoc
    (phrase (param_cut 0 p (omega arith) _ (more_stop 1 ps rest stops)) (more_params_cut 1 ps (omega arith) rest stops r h))

pub declarations_cut : (k n : ℕ) → k + n ≤ 2 ^ 32 → (rest : List ℕ) (r : List What) → Cuts rest r → IsCut (λ x. AreDeclarations k n x r) (declarations_text k n ++ rest)
declarations_cut k zero few rest r h = ended h
declarations_cut k (suc n) few rest r h =
    let small : k < 2 ^ 32 = omega arith in
    simp append_assoc
    (space (space (key (codes "uint64_t") refl refl (space (name (codes "v") k refl small refl (space (equal (space
    (constant_zero refl (semicolon (line (declarations_cut (k + 1) n (omega arith) rest r h))))))))))))
