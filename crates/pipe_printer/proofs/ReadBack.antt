-- The printed text of a tree reads as this tree, but for offsets.
use Rattle.std.proofs.Common.{◌≡◌, ℕ, List, sym, subst, ◌∙◌}
use Rattle.std.specs.Prelude.{All}
use Rattle.pipe_tree.specs.Tokens.{What, toks_of}
use Rattle.pipe_printer.specs.TreeTokens.{contents_of}
use Rattle.pipe_tree.specs.Trees.{Text}
use Rattle.pipe_printer.specs.Printing.{tree_tokens, spaced_text}
use Rattle.pipe_printer.specs.Spellings.{IsSpelling}
use Rattle.pipe_printer.specs.WithoutOffsets.{ReadsBack, IsPrintable}
use Rattle.pipe_printer.proofs.TreeTokens.{sentence_contents}
use Rattle.pipe_printer.proofs.SpacedTokens.{spaced_is_lexed}
use Rattle.pipe_printer.proofs.LexedSpellings.{lexed_are_spellings}
use Rattle.pipe_printer.proofs.OtherStreams.{replaced_sentence}
use Rattle.pipe_printer.proofs.TokensWithoutOffsets.{same_tree_tokens}
use Rattle.pipe_printer.proofs.BoundsWithoutOffsets.{bounded_like}

spaced_reads_back : (t : Text) → IsPrintable t → ReadsBack (spaced_text (tree_tokens t)) t
spaced_reads_back t (src, h) =
    let contents : contents_of (toks_of src h.toks) ≡ tree_tokens t = sentence_contents (toks_of src h.toks) h.tree h.sentence ∙ same_tree_tokens h.tree t h.same in
    let spellings = subst (λ (ws : List What). All IsSpelling ws) contents (lexed_are_spellings src h.toks h.lexed) in
    let lexed = spaced_is_lexed (tree_tokens t) spellings in
    let like = replaced_sentence (toks_of src h.toks) (toks_of (spaced_text (tree_tokens t)) lexed.toks) h.tree h.sentence (lexed.contents ∙ sym contents) in
    record {
      toks = lexed.toks;
      tree = like.tree;
      lexed = lexed.lexed;
      sentence = like.sentence;
      bounded = bounded_like like.tree h.tree like.same h.bounded;
      same = like.same ∙ h.same;
    }

-- a text that is printed of the tree reads as it
pub reads_back : (out : List ℕ) (t : Text) → out ≡ spaced_text (tree_tokens t) → IsPrintable t → ReadsBack out t
reads_back out t is printable = subst (λ (bs : List ℕ). ReadsBack bs t) (sym is) (spaced_reads_back t printable)
