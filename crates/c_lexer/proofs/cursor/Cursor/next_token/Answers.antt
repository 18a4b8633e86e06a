use Rattle.std.proofs.Common.{drop, refl, subst, arith}
use Rattle.std.proofs.lemmas.List.{take_rest}
use Rattle.c_lexer.specs.Comments.{IsUnclosed}
use Rattle.c_lexer.specs.Prefixes.{StandsAtPrefix, BeginsNoPiece}
use Rattle.c_lexer.specs.declared.piece.Piece.{Piece}
use Rattle.c_lexer.proofs.Passing.{stands_in_rest, piece_within, unclosed_further, no_tokens, none_left, token_passed, no_token_passed}
use Rattle.c_lexer.proofs.cursor.Cursor.next_token.Goals as goal

pub returns-in_err-prefix-clause-takes : goal.returns-in_err-prefix-clause-takes
returns-in_err-prefix-clause-takes c = λ toks h.
    let cursor = c.loop-self.self in
    let none = subst BeginsNoPiece (take_rest cursor.text.now cursor.from) c.in_err-prefix.ensures.stands in
    absurd (no_tokens cursor.from cursor.text.now toks c.loop-self-test.true none (c.loop-self.invariant.left toks h))

pub invariant_of-self : goal.invariant_of-self
invariant_of-self c =
    let cursor = c.loop-self.self in
    let found = c.in_ok-prefix.prefix in
    let stands = stands_in_rest cursor.text.now cursor.from found.piece found.len c.in_ok-prefix.ensures.stands in
    record {
      within = piece_within cursor.text.now cursor.from found.piece found.len c.loop-self.invariant.within stands;
      unclosed = λ e. unclosed_further cursor.text.now cursor.from found.piece found.len stands (subst IsUnclosed (take_rest cursor.text.now cursor.from) (c.in_ok-prefix.ensures.open e));
    }

pub returns-in-Token-clause-takes : goal.returns-in-Token-clause-takes
returns-in-Token-clause-takes c = λ toks h.
    let cursor = c.loop-self.self in
    let found = c.in_ok-prefix.prefix in
    let stands = stands_in_rest cursor.text.now cursor.from found.piece found.len c.in_ok-prefix.ensures.stands in
    let passed = token_passed c.in-Token.token cursor.from found.len cursor.text.now toks
    (subst (λ (p : Piece). StandsAtPrefix (drop cursor.from cursor.text.now) p found.len) c.in-Token.is stands)
    (c.loop-self.invariant.left toks h) in
    record {
      token = record { what = passed.what; at = cursor.from };
      rest = passed.rest;
      parts = passed.parts;
      seen = record { stands = passed.stands; place = refl };
      left = passed.left;
    }

pub loop-self-preserved : goal.loop-self-preserved
loop-self-preserved c =
    let cursor = c.loop-self.self in
    let found = c.in_ok-prefix.prefix in
    let stands = stands_in_rest cursor.text.now cursor.from found.piece found.len c.in_ok-prefix.ensures.stands in
    record {
      within = piece_within cursor.text.now cursor.from found.piece found.len c.loop-self.invariant.within stands;
      text = c.loop-self.invariant.text;
      from = let before = c.loop-self.invariant.from in omega arith;
      left = λ toks h. no_token_passed found.piece cursor.from found.len cursor.text.now toks c.in_default.not-Token stands (c.loop-self.invariant.left toks h);
    }

pub returns-clause-takes : goal.returns-clause-takes
returns-clause-takes c = λ toks h.
    let cursor = c.loop-self.self in
    none_left cursor.from cursor.text.now toks c.loop-self-test.false (c.loop-self.invariant.left toks h)
