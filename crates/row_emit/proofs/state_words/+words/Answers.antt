use Rattle.std.proofs.Common.{sym, ◌∙◌, ◌+◌, subst, arith}
use Rattle.std.proofs.lemmas.Result.{on_ok_weaker}
use Rattle.list_denotation.specs.Copies.{term_of, terms_of}
use Rattle.row_emit.specs.Settings.{AreSettable}
use Rattle.row_emit.proofs.SetWords.{settable_straight, empty_appends, straight_appends, held_appends, straight_room, held_room}
use Rattle.row_emit.proofs.state_words.+words.Goals as goal

pub set_first-set_at_once-requires-clause-room : goal.set_first-set_at_once-requires-clause-room
set_first-set_at_once-requires-clause-room t c =
    straight_room c.args.slots.now c.args.k (term_of c.args.e.now) (terms_of c.args.rest.now) c.args.next c.requires
    (sym c.is_word.ensures ∙ c.if-is_word.false) (sym c.row_avoids.ensures ∙ c.if-row_avoids.true)

pub set_first-set_words-requires-then-row_avoids : goal.set_first-set_words-requires-then-row_avoids
set_first-set_words-requires-then-row_avoids t c = (
  omega arith,
  subst (λ n. AreSettable c.args.slots.now (c.args.k + 1) (terms_of c.args.rest.now) n) (sym c.in_ok-next.ensures.next)
      (settable_straight c.args.slots.now c.args.k (term_of c.args.e.now) (terms_of c.args.rest.now) c.args.next c.requires
      (sym c.is_word.ensures ∙ c.if-is_word.false) (sym c.row_avoids.ensures ∙ c.if-row_avoids.true)),
)

pub set_first-returns-then-row_avoids-clause-block : goal.set_first-returns-then-row_avoids-clause-block
set_first-returns-then-row_avoids-clause-block t c =
    on_ok_weaker c.set_words-then-row_avoids.result
    (straight_appends c.args.slots.now.rows c.args.slots.now.first_temp c.args.k (term_of c.args.e.now) (terms_of c.args.rest.now) c.args.next c.in_ok-next.next _ _ _
    (sym c.is_word.ensures ∙ c.if-is_word.false) (sym c.row_avoids.ensures ∙ c.if-row_avoids.true) c.in_ok-next.ensures.next c.in_ok-next.ensures.block)
    c.set_words-then-row_avoids.ensures.block

pub set_first-overflow_add-next : goal.set_first-overflow_add-next
set_first-overflow_add-next t c =
    omega (
      arith,
      held_room c.args.slots.now c.args.k (term_of c.args.e.now) (terms_of c.args.rest.now) c.args.next c.requires
          (sym c.is_word.ensures ∙ c.if-is_word.false) (sym c.row_avoids.ensures ∙ c.if-row_avoids.false),
    )

pub set_first-returns-clause-block : goal.set_first-returns-clause-block
set_first-returns-clause-block t c =
    held_appends c.args.slots.now.rows c.args.slots.now.first_temp c.args.k (term_of c.args.e.now) (terms_of c.args.rest.now) c.args.next c.var_of-v.result _ _ _ _
    (sym c.is_word.ensures ∙ c.if-is_word.false) (sym c.row_avoids.ensures ∙ c.if-row_avoids.false) c.var_of-v.ensures.row
    c.in_ok-lower_into.ensures.block c.in_ok-after.ensures.block c.in_ok-push.ensures.ok

pub set_words-returns-in-empty-clause-block : goal.set_words-returns-in-empty-clause-block
set_words-returns-in-empty-clause-block t c =
    empty_appends c.args.slots.now.rows c.args.slots.now.first_temp c.args.k c.args.row.now c.args.next c.args.block.now c.in-empty.len_below
