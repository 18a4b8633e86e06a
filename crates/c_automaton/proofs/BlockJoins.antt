-- The tokens of statements after statements are those of the first ones and then those of the others.
use Rattle.std.proofs.Common.{refl, sym, subst, List}
use Rattle.c_tokens.specs.Pieces.{What}
use Rattle.c_grammar.specs.Grammar.{Then, IsBlock}
use Rattle.loop_ir.specs.Statements.{Block, Nil, Cons, join}

pub joined_blocks : (a b : Block) (x y r : List What) → IsBlock a x y → IsBlock b y r → IsBlock (join a b) x r
joined_blocks Nil b x y r h k = subst (λ (z : List What). IsBlock b z r) (sym h) k
joined_blocks (Cons st ss) b x y r h k = record { rest = h.rest; phrase_is = h.phrase_is; goes_on = joined_blocks ss b h.rest y r h.goes_on k }

pub parted_blocks : (a b : Block) (x r : List What) → IsBlock (join a b) x r → Then (IsBlock a) (λ y. IsBlock b y r) x
parted_blocks Nil b x r h = record { rest = x; phrase_is = refl; goes_on = h }
parted_blocks (Cons st ss) b x r h =
    let p = parted_blocks ss b h.rest r h.goes_on in
    record { rest = p.rest; phrase_is = record { rest = h.rest; phrase_is = h.phrase_is; goes_on = p.phrase_is }; goes_on = p.goes_on }
