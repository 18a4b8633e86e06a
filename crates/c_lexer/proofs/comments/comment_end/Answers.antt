use Rattle.std.proofs.Common.{◌≡◌, drop, false, sym, ap, ◌∙◌}
use Rattle.std.proofs.lemmas.List.{take_rest}
use Rattle.c_tokens.specs.Pieces.{begins_with_pair}
use Rattle.c_lexer.proofs.CommentEnds.{goes_on_there}
use Rattle.c_lexer.proofs.comments.comment_end.Goals as goal

pub loop-i-preserved : goal.loop-i-preserved
loop-i-preserved c =
    let cs = c.args.behind.now in
    let i = c.loop-i.i in
    let pair : begins_with_pair 42 47 (drop i cs) ≡ false = sym (ap (begins_with_pair 42 47) (take_rest cs i)) ∙ sym c.begins_with_pair.ensures ∙ c.if-begins_with_pair.false in
    goes_on_there cs i c.loop-i-test.true pair (sym c.is_in_comment.ensures ∙ c.if-not-is_in_comment.false) ∙ c.loop-i.invariant
