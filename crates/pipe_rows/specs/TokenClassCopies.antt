-- The plain copies of the code's classes of tokens.
use Rattle.std.specs.Prelude.{ℕ, List}
use Rattle.pipe_rows.specs.declared.token_class.TokenClass.TheVariants as class
use Rattle.pipe_rows.specs.declared.token_class.TokenClass.{TokenClass as CodeClass}
use Rattle.pipe_reader.specs.Continuations as c
use Rattle.pipe_reader.specs.Continuations.{TokenClass}

-- the class of a token whose text this is
abbrev pub class_copy : CodeClass → List ℕ → TokenClass
class_copy class.Name text = c.Names text
class_copy (class.Separator w) text = c.Separates w
class_copy class.Bar text = c.Bars
class_copy class.OpenBrace text = c.Braces
class_copy class.Input text = c.Declares
class_copy class.Int text = c.IsInt
class_copy (class.Source form) text = c.BeginsSource form
class_copy (class.Stage form) text = c.BeginsStage form
class_copy (class.Terminal form) text = c.BeginsTerminal form
class_copy class.Nothing text = c.OtherToken
