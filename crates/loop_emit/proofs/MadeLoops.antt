-- The loop that the code makes.
use Rattle.std.proofs.Common.{◌≡◌, ℕ, List, [], ◌∷◌, ◌++◌, None, ap, ◌∙◌}
use Rattle.list_denotation.specs.Terms.{Term}
use Rattle.loop_ir.specs.declared.syntax.Stmt.{Stmt}
use Rattle.loop_ir.specs.declared.syntax.Stmt.TheVariants as stmt
use Rattle.loop_ir.specs.declared.syntax.T.{T}
use Rattle.loop_ir.specs.Statements.{Block, Nil, Cons, Loop, join}
use Rattle.loop_ir.specs.StatementCopies.{test_of, block_of}
use Rattle.loop_ir.proofs.Copies.{loop_push}
use Rattle.expr_phrases.specs.PhraseCopies.{Appends}
use Rattle.stateful_core.specs.CoreTerms.{Actions}
use Rattle.turn_emit.specs.declared.turns.Turn.{Turn}
use Rattle.turn_emit.specs.Turns.{piece_at}
use Rattle.loop_emit.specs.Emission.{loop_guard, guarded_loop}
use Rattle.loop_emit.proofs.Appends.{appends_more}

pub piece_same : (turn : Turn) (acts : Actions) (rows rows' : List ℕ) (t next next' : ℕ) → rows' ≡ rows → t ≡ 0 → next' ≡ next → piece_at turn None acts rows' t next' ≡ piece_at turn None acts rows 0 next
piece_same turn acts rows rows' t next next' r z n =
    ap (λ rs. piece_at turn None acts rs t next') r
    ∙ ap (λ x. piece_at turn None acts rows x next') z
    ∙ ap (piece_at turn None acts rows 0) n

-- what is appended to no statement
pub whole_body : (none some whole : List Stmt) (a b : Block) → none ≡ [] → Appends none some a → Appends some whole b → block_of whole ≡ join a b
whole_body none some whole a b empty first more =
    appends_more none some whole a b first more ∙ ap (λ ss. join (block_of ss) (join a b)) empty

pub loop_appended : (old mid new body : List Stmt) (rows : List ℕ) (e : Term) (v : ℕ) (turn : Block) (t : T) → Appends old mid (loop_guard rows e v).block → test_of t ≡ (loop_guard rows e v).test → block_of body ≡ join turn (loop_guard rows e v).block → new ≡ mid ++ stmt.Loop t body ∷ [] → Appends old new (guarded_loop rows e v turn)
loop_appended old mid new body rows e v turn t first test inside is =
    let loop : Block = Cons (Loop (loop_guard rows e v).test (join turn (loop_guard rows e v).block)) Nil in
    let pushed : Appends mid new loop =
    ap block_of is
    ∙ loop_push mid t body
    ∙ ap (λ x. join (block_of mid) (Cons (Loop x (block_of body)) Nil)) test
    ∙ ap (λ b. join (block_of mid) (Cons (Loop (loop_guard rows e v).test b) Nil)) inside in
    appends_more old mid new (loop_guard rows e v).block loop first pushed
