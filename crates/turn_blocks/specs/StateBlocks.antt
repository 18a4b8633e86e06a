-- The statements that set words which stand in variables, each to the value of an expression over words that may be set.
use Rattle.std.specs.Prelude.{ℕ, ◌+◌, Bool, false, ◌||◌, not, ◌==◌, List, [], ◌∷◌, slice_index, if◌then◌else◌, Option, is_some}
use Rattle.list_denotation.specs.Terms as term
use Rattle.list_denotation.specs.Terms.{Term}
use Rattle.list_denotation.specs.Values.{choice}
use Rattle.loop_ir.specs.Statements.{Var, Block, Nil, join}
use Rattle.expr_constants.specs.Constants.{by_constant, constant_of}
use Rattle.expr_lower.specs.Costs.{is_plain}
use Rattle.expr_forms.specs.Forms.{is_empty}
use Rattle.expr_lower.specs.Lowering.{lowered_into, lowered_test}
use Rattle.expr_phrases.specs.Phrases.{set}
use Rattle.turn_blocks.specs.Pieces.{Piece, no_piece, behind, choose}
use Rattle.turn_blocks.specs.WordUses.{avoids, row_avoids}

-- whether the branch that a constant chooses is the word; none is chosen where the condition is no constant
abbrev pub chosen_word : Option ℕ → Bool → Bool → Bool
chosen_word c on off = by_constant c (λ x. choice x off on) false

-- whether an expression is word k as it stands: the word, or a choice of it that a constant makes
abbrev pub is_word : ℕ → Term → Bool
is_word k (term.Var j) = j == k
is_word k (term.If c a b) = chosen_word (constant_of c) (is_word k a) (is_word k b)
is_word k _ = false

-- a choice that is computed as a whole, and not in the branches of a test: it doesn't read word k, or a constant chooses
abbrev pub is_whole : ℕ → Term → Term → Term → Bool
is_whole k c a b = avoids k (term.If c a b) || is_some (constant_of c)

-- words stand in the variables `rows`; the temporaries are those from t on
module _ (rows : List ℕ) (t : ℕ) where
  -- an expression whose value may be put into the variable of word k as it stands
  abbrev pub is_straight : ℕ → Term → Bool
  is_straight k e = is_plain e || avoids k e

  -- the statements for one that is computed as a whole: none where it is the word itself; by way of the variable s where the
  -- word is read while its value is computed
  abbrev pub leaf_block : ℕ → ℕ → Term → Block
  leaf_block k s e =
      if is_word k e then Nil
      else if is_straight k e then lowered_into rows e (slice_index rows k) t
      else join (lowered_into rows e s t) (set (slice_index rows k) (Var s))

  abbrev pub leaf_needs : ℕ → Term → Bool
  leaf_needs k e = not (is_word k e || is_straight k e)

  -- the statements that set word k to the value of an expression. Any other choice sets it in its branches
  abbrev pub word_block : ℕ → ℕ → Term → Block
  word_block k s (term.If c a b) =
      if is_whole k c a b then leaf_block k s (term.If c a b)
      else choose (lowered_test rows c s t) (word_block k s a) (word_block k s b)
  word_block k s e = leaf_block k s e

  -- whether they use the variable s
  abbrev pub word_needs : ℕ → ℕ → Term → Bool
  word_needs k s (term.If c a b) =
      if is_whole k c a b then leaf_needs k (term.If c a b)
      else not (is_empty (lowered_test rows c s t).block) || (word_needs k s a || word_needs k s b)
  word_needs k s e = leaf_needs k e

  -- the words from k on are set to the values of a row's expressions. One that a later expression reads is set once these are
  abbrev pub words_piece : ℕ → List Term → ℕ → Piece
  words_piece k [] next = no_piece next
  words_piece k (e ∷ es) next =
      if is_word k e then words_piece (k + 1) es next
      else if row_avoids k es then behind (word_block k next e) (words_piece (k + 1) es (if word_needs k next e then next + 1 else next))
      else held (words_piece (k + 1) es (next + 1))
    where
      held : Piece → Piece
      held p = record {
        block = join (lowered_into rows e next t) (join p.block (set (slice_index rows k) (Var next)));
        next = p.next;
      }
