-- The plain copies of what the code holds while it reads an expression: the forms that are open, what
-- is awaited, and tokens as it sees them.
use Rattle.std.specs.Prelude.{ℕ, List, ◌∷◌, map, Option, Some, None}
use Rattle.pipe_expressions.specs.declared.frames.Final.{Final}
use Rattle.pipe_expressions.specs.declared.frames.Final.TheVariants as final
use Rattle.pipe_expressions.specs.declared.frames.Inner.{Inner}
use Rattle.pipe_expressions.specs.declared.frames.Inner.TheVariants as inner
use Rattle.pipe_expressions.specs.declared.frames.Frame.{Frame}
use Rattle.pipe_expressions.specs.declared.frames.Frame.TheVariants as frame
use Rattle.pipe_expressions.specs.declared.frames.Mode.{Mode}
use Rattle.pipe_expressions.specs.declared.frames.Mode.TheVariants as mode
use Rattle.pipe_expressions.specs.declared.frames.Step.{Step}
use Rattle.pipe_expressions.specs.declared.frames.Step.TheVariants as step
use Rattle.pipe_expressions.specs.declared.token_roles.Start.{Start}
use Rattle.pipe_expressions.specs.declared.token_roles.Start.TheVariants as start
use Rattle.pipe_reader.specs.declared.infix_op.InfixOp.{InfixOp}
use Rattle.pipe_reader.specs.Machine as m
use Rattle.pipe_tree.specs.TreeCopies.{formula_of}
use Rattle.pipe_tree.specs.Trees.{Formula, Num, Truth, Name}

abbrev pub final_of : Final → m.Final
final_of (final.Negates at) = m.Negates at
final_of (final.Denies at) = m.Denies at
final_of (final.Joins operator q a) = m.Joins operator q (formula_of a.expr.value)
final_of (final.Chooses at c a) = m.Chooses at (formula_of c.expr.value) (formula_of a.expr.value)

abbrev pub inner_of : Inner → m.Frame
inner_of (inner.Encloses at) = m.Encloses at
inner_of (inner.Tests at) = m.Tests at
inner_of (inner.Branches at c) = m.Branches at (formula_of c.expr.value)

abbrev pub frame_of : Frame → m.Frame
frame_of (frame.Last f) = m.Last (final_of f)
frame_of (frame.Inside f) = inner_of f

abbrev pub frames_of : List Frame → List m.Frame
frames_of forms = map frame_of forms

-- what is awaited inside these open forms
abbrev pub state_of : Mode → List Frame → m.State
state_of mode.Need forms = m.Need (frames_of forms)
state_of (mode.Have u) forms = m.Have (frames_of forms) (formula_of u.expr.value)
state_of (mode.Calls at) forms = m.Calls (frames_of forms) at
state_of (mode.Spells at) forms = m.Spells (frames_of forms) at
state_of (mode.Closes at name) forms = m.Closes (frames_of forms) at name.at name.text

abbrev pub step_of : Step → List Frame → m.Step
step_of (step.Goes mode) forms = m.Goes (state_of mode forms)
step_of (step.Leaves e) forms = m.Leaves (formula_of e.value)
step_of step.Stuck forms = m.Stuck

-- of a token with this text, at this offset
abbrev pub start_copy : Start → List ℕ → ℕ → m.Start
start_copy start.Name text at = m.Leaf (Name at text)
start_copy (start.Number w) text at = m.Leaf (Num at w)
start_copy (start.Truth b) text at = m.Leaf (Truth at b)
start_copy start.Length text at = m.Length at
start_copy start.Negates text at = m.Opens (m.Last (m.Negates at))
start_copy start.Denies text at = m.Opens (m.Last (m.Denies at))
start_copy start.Encloses text at = m.Opens (m.Encloses at)
start_copy start.Tests text at = m.Opens (m.Tests at)
start_copy start.Nothing text at = m.Nothing

-- the form that this infix operator opens with a left operand; or something else where there is none
abbrev pub step_by_infix : Option InfixOp → List m.Frame → Formula → ℕ → m.Step → m.Step
step_by_infix None s u at other = other
step_by_infix (Some operator) s u at other = m.Goes (m.Need (m.Last (m.Joins operator at u) ∷ s))
