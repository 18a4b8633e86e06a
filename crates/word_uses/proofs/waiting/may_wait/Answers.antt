use Rattle.std.proofs.Common.{◌≡◌, ◌+◌, true, length, sym, ◌∙◌}
use Rattle.list_denotation.specs.Copies.{terms_of}
use Rattle.stateful_core.specs.CoreCopies.{actions_of}
use Rattle.turn_blocks.specs.WordUses.{are_unread, actions_keep}
use Rattle.word_uses.proofs.WordUses.{and_then, and_else}
use Rattle.word_uses.proofs.waiting.may_wait.Goals as goal

pub returns-then-actions_keep : goal.returns-then-actions_keep
returns-then-actions_keep c =
    let unread : are_unread (c.args.place.scope + c.args.k) (length (terms_of c.args.row.now)) (actions_of c.args.acts.now) ≡ true = cc in
    let kept : actions_keep c.args.k (length (terms_of c.args.row.now)) (actions_of c.args.acts.now) ≡ true = cc in
    and_then _ _ _ unread (and_then _ _ _ kept c.row_is_lasting.ensures)

pub returns-else-are_unread : goal.returns-else-are_unread
returns-else-are_unread c =
    let read : are_unread (c.args.place.scope + c.args.k) (length (terms_of c.args.row.now)) (actions_of c.args.acts.now) ≡ c.are_unread.result = cc in
    and_else _ _ _ (read ∙ c.if-are_unread.false) (sym read)
