use Rattle.std.proofs.Common.{List, ◌∙◌, sym}
use Rattle.c_faults.specs.Undeclared.{IsUndeclared}
use Rattle.c_tokens.specs.Cutting.{Token}
use Rattle.loop_ir.specs.DeclaredNames.{declared_names}
use Rattle.c_subset_reader.proofs.Taking.{taken_more, taken_all, taken_last}
use Rattle.c_subset_reader.proofs.NamesSoFar.{AreDeclared, names_taken, undeclared_is}
use Rattle.c_subset_reader.proofs.names.first_undeclared.Goals as goal

pub next_token-requires : goal.next_token-requires
next_token-requires c = let h = c.loop-found.invariant.taken c.requires.0 c.requires.1 in (h.left, h.is_left)

pub returns-then-not-is_declared-clause-fault : goal.returns-then-not-is_declared-clause-fault
returns-then-not-is_declared-clause-fault c = λ toks h.
    let names = declared_names c.args.params.now c.args.vars in
    taken_last (AreDeclared names) (λ (before : List Token) (t : Token). AreDeclared names before × IsUndeclared names t.what) c.in-Some.found c.loop-found.cursor c.next_token.new.self toks
    (c.loop-found.invariant.taken toks h) c.in-Some.ensures.takes
    (λ before t seen so_far. (so_far, undeclared_is names c.in-Some.found.token t.what seen.stands (sym c.is_declared.ensures ∙ c.if-not-is_declared.true)))

pub loop-found-preserved : goal.loop-found-preserved
loop-found-preserved c =
    let names = declared_names c.args.params.now c.args.vars in
    record {
      text = c.in-Some.ensures.text ∙ c.loop-found.invariant.text;
      taken = λ toks h. taken_more (AreDeclared names) (AreDeclared names) c.in-Some.found c.loop-found.cursor c.next_token.new.self toks (c.loop-found.invariant.taken toks h)
          c.in-Some.ensures.takes (names_taken names c.in-Some.found (sym c.is_declared.ensures ∙ c.if-not-is_declared.false));
    }

pub returns-clause-fault : goal.returns-clause-fault
returns-clause-fault c = λ toks h.
    taken_all (AreDeclared (declared_names c.args.params.now c.args.vars)) c.loop-found.cursor c.next_token.new.self toks (c.loop-found.invariant.taken toks h) c.in_default.ensures.takes
