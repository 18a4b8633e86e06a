use Rattle.std.proofs.Common.{◌≡◌, ◌≤◌, ◌-◌, List, length}
use Rattle.c_tokens.specs.Cutting.{Token}
use Rattle.c_lexer.specs.TokensFrom.{IsLeft}
use Rattle.c_lexer.proofs.cursor.Cursor.next_token.Given as goal

abbrev pub invariant-loop-self : goal.invariant-loop-self
invariant-loop-self l = record {
  within : l.self.from ≤ length l.self.text.now;
  text : l.self.text.now ≡ l.initial.self.text.now;
  from : l.initial.self.from ≤ l.self.from;
  left : (toks : List Token) → IsLeft l.initial.self toks → IsLeft l.self toks;
}

abbrev pub decreases-loop-self : goal.decreases-loop-self
decreases-loop-self l = length l.self.text.now - l.self.from
