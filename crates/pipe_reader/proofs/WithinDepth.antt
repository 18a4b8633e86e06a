-- Continuations that some text within the limits completes: the expression that is open is not too deep, and
-- no stream that is to come is nested too deep.
use Rattle.std.proofs.Common.{ℕ, ◌+◌}
use Rattle.pipe_lexer.specs.declared.operator.InputKind.{InputKind}
use Rattle.pipe_reader.specs.Continuations.{Continuation, End, ASeparator, ALabel, AKind, AnExpression, ARow, MoreParts, APattern, MoreNames, Nested, AStream, MoreStages, AStage, ATerminal, MoreDeclarations}
use Rattle.pipe_reader.specs.Depths.{least_depth_of}
use Rattle.pipe_tree.specs.Trees.{Formula, Label, Row, Pattern, Stream, Terminal}
use Rattle.exact_reader.proofs.Limited.{Limits, Free, AtMost}

abbrev pub WithinDepth : Limits → Continuation → Type 0
WithinDepth l (End t) = Unit {0}
WithinDepth l (ASeparator w c) = WithinDepth l c
WithinDepth l (ALabel f) = (n : Label) → WithinDepth l (f n)
WithinDepth l (AKind f) = (kind : InputKind) → WithinDepth l (f kind)
WithinDepth l (AnExpression s f) = AtMost l 200 (least_depth_of s) × ((e : Formula) → WithinDepth l (f e))
WithinDepth l (ARow f) = (r : Row) → WithinDepth l (f r)
WithinDepth l (MoreParts at es f) = (r : Row) → WithinDepth l (f r)
WithinDepth l (APattern f) = (p : Pattern) → WithinDepth l (f p)
WithinDepth l (MoreNames at ns f) = (p : Pattern) → WithinDepth l (f p)
WithinDepth l (Nested n c) = AtMost l 16 n × WithinDepth l c
WithinDepth l (AStream around f) = AtMost l 16 (around + 1) × ((s : Stream) → WithinDepth l (f s))
WithinDepth l (MoreStages around at source ss f) = AtMost l 16 (around + 1) × ((s : Stream) → WithinDepth l (f s))
WithinDepth l (AStage around at source ss f) = AtMost l 16 (around + 1) × ((s : Stream) → WithinDepth l (f s))
WithinDepth l (ATerminal f) = (at : ℕ) (t : Terminal) → WithinDepth l (f at t)
WithinDepth l (MoreDeclarations ds) = Unit {0}

-- without limits each of them is such a one
pub within_depth_free : (c : Continuation) → WithinDepth Free c
within_depth_free (End t) = tt
within_depth_free (ASeparator w c) = within_depth_free c
within_depth_free (ALabel f) = λ n. within_depth_free (f n)
within_depth_free (AKind f) = λ kind. within_depth_free (f kind)
within_depth_free (AnExpression s f) = (tt, λ e. within_depth_free (f e))
within_depth_free (ARow f) = λ r. within_depth_free (f r)
within_depth_free (MoreParts at es f) = λ r. within_depth_free (f r)
within_depth_free (APattern f) = λ p. within_depth_free (f p)
within_depth_free (MoreNames at ns f) = λ p. within_depth_free (f p)
within_depth_free (Nested n c) = (tt, within_depth_free c)
within_depth_free (AStream around f) = (tt, λ s. within_depth_free (f s))
within_depth_free (MoreStages around at source ss f) = (tt, λ s. within_depth_free (f s))
within_depth_free (AStage around at source ss f) = (tt, λ s. within_depth_free (f s))
within_depth_free (ATerminal f) = λ at t. within_depth_free (f at t)
within_depth_free (MoreDeclarations ds) = tt
