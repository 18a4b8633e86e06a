-- The tokens that complete the first state are those of whole programs.
use Rattle.std.proofs.Common.{◌≡◌, ℕ, ◌+◌, List, [], ◌∷◌, refl, sym, ap, subst, ◌∙◌, inl, inr, arith}
use Rattle.list_denotation.specs.declared.input.InputKind.{InputKind}
use Rattle.loop_ir.specs.Statements.{Block, join, Routine}
use Rattle.c_tokens.specs.Pieces.{What}
use Rattle.c_tokens.specs.declared.symbol.Symbol.TheVariants as sym
use Rattle.c_grammar.specs.Grammar.{Then, Ends, Sign, IsBlock, AreParams, AreDeclarations, IsClosed, IsProgram}
use Rattle.c_words.specs.declared.token.CToken.{CToken}
use Rattle.c_words.specs.declared.token.CToken.TheVariants as token
use Rattle.c_words.specs.declared.token.Keyword.TheVariants as keyword
use Rattle.c_automaton.specs.Automaton.{State, start}
use Rattle.c_automaton.proofs.Completions.{BodyOpens, AtFirstParam, Completes}
use Rattle.c_automaton.proofs.TokenForms.{all_forms_of, all_seen_of, all_forms_map}
use Rattle.c_automaton.proofs.ReturnsLast.{last_return}
use Rattle.c_automaton.proofs.BlockJoins.{joined_blocks, parted_blocks}

-- a program behind its parameters
abbrev BehindParams : Routine → List What → Type 0
BehindParams q = Sign sym.CloseParen (Sign sym.OpenBrace (Then (AreDeclarations 0 q.vars) (Then (IsBlock q.body) IsClosed)))

abbrev first_tokens : List CToken
first_tokens = token.Key keyword.Int ∷ token.Key keyword.Pipeline ∷ token.Sym sym.OpenParen ∷ []

-- the first state with these parameters
abbrev with_params : List InputKind → State
with_params ps = record start { params = ps }

-- ---- from the state

body_is : (q : Routine) (ps : List InputKind) (x : List What) → BodyOpens q (with_params ps) x → (q.params ≡ ps) × BehindParams q x
body_is q ps x h =
    let o = h.goes_on in
    let d = o.goes_on in
    let b = d.is.goes_on in
    let t = b.is.goes_on in
    let joined : IsBlock (join t.body last_return) d.is.rest b.is.rest = subst (λ (c : Block). IsBlock c d.is.rest b.is.rest) t.returns b.is.phrase_is in
    let p = parted_blocks t.body last_return d.is.rest b.is.rest joined in
    let ret = p.goes_on in
    let e : 0 + d.more ≡ d.more = omega arith in
    let made : q ≡ record { params = ps; vars = d.more; body = t.body } = t.made ∙ ap (λ (n : ℕ). record { params = ps; vars = n; body = t.body }) e in
    let closed : IsClosed p.rest = record { rest = ret.rest; phrase_is = ret.phrase_is; goes_on = subst (λ (y : List What). Sign sym.CloseBrace (Ends []) y) (sym ret.goes_on) t.is } in
    let whole : BehindParams (record { params = ps; vars = d.more; body = t.body }) x = record {
      rest = h.rest;
      is = h.is;
      goes_on =
          record {
            rest = o.rest;
            is = o.is;
            goes_on = record { rest = d.is.rest; phrase_is = d.is.phrase_is; goes_on = record { rest = p.rest; phrase_is = p.phrase_is; goes_on = closed } };
          };
    } in
    (ap (λ (r : Routine). r.params) made, subst (λ (r : Routine). BehindParams r x) (sym made) whole)

-- the parameters, and what is behind them
params_are : (q : Routine) (x : List What) → AtFirstParam q start x → Then (AreParams q.params) (BehindParams q) x
params_are q x (inl h) =
    let b = body_is q [] h.rest h.goes_on in
    record { rest = h.rest; phrase_is = subst (λ (ps : List InputKind). AreParams ps x h.rest) (sym b.0) (record { rest = h.rest; is = h.is; goes_on = refl }); goes_on = b.1 }
params_are q x (inr h) =
    let e = h.is.goes_on in
    let b = body_is q (h.kind ∷ e.more) e.is.rest e.is.goes_on in
    record {
      rest = e.is.rest;
      phrase_is = subst (λ (ps : List InputKind). AreParams ps x e.is.rest) (sym b.0) (record { rest = h.is.rest; phrase_is = h.is.phrase_is; goes_on = e.is.phrase_is });
      goes_on = b.1;
    }

pub start_program : (q : Routine) (x : List What) → Completes q start x → IsProgram q x
start_program q x h =
    all_forms_map first_tokens (AtFirstParam q start) (Then (AreParams q.params) (BehindParams q)) (λ y k. params_are q y k) x (all_forms_of first_tokens (AtFirstParam q start) x h)

-- ---- to the state

body_opens : (q : Routine) (ps : List InputKind) (x : List What) → q.params ≡ ps → BehindParams q x → BodyOpens q (with_params ps) x
body_opens q ps x e h =
    let o = h.goes_on in
    let d = o.goes_on in
    let b = d.goes_on in
    let c = b.goes_on in
    let z : q.vars ≡ 0 + q.vars = omega arith in
    let made : q ≡ record { params = ps; vars = 0 + q.vars; body = q.body } = λ i. record { params = e i; vars = z i; body = q.body } in
    record {
      rest = h.rest;
      is = h.is;
      goes_on =
          record {
            rest = o.rest;
            is = o.is;
            goes_on =
                record {
                  more = q.vars;
                  is =
                      record {
                        rest = d.rest;
                        phrase_is = d.phrase_is;
                        goes_on =
                            record {
                              block = join q.body last_return;
                              is =
                                  record {
                                    rest = c.rest;
                                    phrase_is = joined_blocks q.body last_return d.rest b.rest c.rest b.phrase_is (record { rest = c.rest; phrase_is = c.phrase_is; goes_on = refl });
                                    goes_on = record { body = q.body; returns = refl; made = made; is = c.goes_on };
                                  };
                            };
                      };
                };
          };
    }

at_params : (q : Routine) (ps : List InputKind) (x r : List What) → q.params ≡ ps → AreParams ps x r → BehindParams q r → AtFirstParam q start x
at_params q [] x r e h k = inl (record { rest = h.rest; is = h.is; goes_on = subst (λ (y : List What). BodyOpens q start y) (sym h.goes_on) (body_opens q [] r e k) })
at_params q (p ∷ ps) x r e h k =
    inr (record {
      kind = p;
      is = record { rest = h.rest; phrase_is = h.phrase_is; goes_on = record { more = ps; is = record { rest = r; phrase_is = h.goes_on; goes_on = body_opens q (p ∷ ps) r e k } } };
    })

pub program_start : (q : Routine) (x : List What) → IsProgram q x → Completes q start x
program_start q x h =
    all_seen_of first_tokens (AtFirstParam q start) x
    (all_forms_map first_tokens (Then (AreParams q.params) (BehindParams q)) (AtFirstParam q start) (λ y k. at_params q q.params y k.rest refl k.phrase_is k.goes_on) x h)
