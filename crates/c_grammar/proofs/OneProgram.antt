-- Tokens are those of one program at most.
use Rattle.std.proofs.Common.{◌≡◌, ℕ, List}
use Rattle.c_tokens.specs.Pieces.{What}
use Rattle.c_grammar.specs.Grammar.{IsProgram}
use Rattle.loop_ir.specs.Statements.{Block, Routine}
use Rattle.list_denotation.specs.declared.input.InputKind.{InputKind}
use Rattle.c_grammar.proofs.OneParameterList.{one_parameter_list}
use Rattle.c_grammar.proofs.OneCount.{one_count}
use Rattle.c_grammar.proofs.OneBody.{one_body, no_declaration_begins_a_body}

-- a program is made of its parts
abbrev made_of : List InputKind → ℕ → Block → Routine
made_of params vars body = record { params = params; vars = vars; body = body }

same_parts : (p q : Routine) → p.params ≡ q.params → p.vars ≡ q.vars → p.body ≡ q.body → p ≡ q
same_parts p q e f g = let made : made_of p.params p.vars p.body ≡ made_of q.params q.vars q.body = (cc) in made

pub one_program : (p q : Routine) (x : List What) → IsProgram p x → IsProgram q x → p ≡ q
one_program p q x f g =
    let head = f.goes_on.goes_on in
    let other = g.goes_on.goes_on in
    let params = one_parameter_list p.params q.params _ _ _ _ _ _ (cc) head.goes_on.phrase_is other.goes_on.phrase_is
    head.goes_on.goes_on.is other.goes_on.goes_on.is in
    let inside = head.goes_on.goes_on.goes_on in
    let as_inside = other.goes_on.goes_on.goes_on in
    let body = inside.goes_on.goes_on in
    let as_body = as_inside.goes_on.goes_on in
    let vars = one_count p.vars q.vars 0 _ _ _ _ (cc) inside.goes_on.phrase_is as_inside.goes_on.phrase_is
    (no_declaration_begins_a_body p.body _ _ body.phrase_is body.goes_on)
    (no_declaration_begins_a_body q.body _ _ as_body.phrase_is as_body.goes_on) in
    let statements : p.body ≡ q.body = one_body p.body q.body _ _ _ _ vars.1
    body.phrase_is as_body.phrase_is body.goes_on as_body.goes_on in
    same_parts p q params.0 vars.0 statements
