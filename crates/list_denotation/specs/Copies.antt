-- The plain copies of the code's expressions, streams and terminals.
use Rattle.std.specs.Prelude.{List, [], ◌∷◌}
use Rattle.list_denotation.specs.declared.expr.Expr.{Expr}
use Rattle.list_denotation.specs.declared.expr.Expr.TheVariants as expr
use Rattle.list_denotation.specs.declared.stream.Stream.{Stream}
use Rattle.list_denotation.specs.declared.stream.Stream.TheVariants as stream
use Rattle.list_denotation.specs.declared.terminal.Terminal.{Terminal}
use Rattle.list_denotation.specs.declared.terminal.Terminal.TheVariants as terminal
use Rattle.list_denotation.specs.Terms.{Term, Lit, Truth, Var, Param, Len, Neg, Not, Bin, And, Or, If, Pipe, Array, Range, Unfold, Map, Filter, Take, Drop, TakeWhile, Scan, FlatMap, Zip, Finish, Fold, Print}

abbrev pub term_of : Expr → Term
term_of (expr.Lit w) = Lit w
term_of (expr.Truth b) = Truth b
term_of (expr.Var k) = Var k
term_of (expr.Param k) = Param k
term_of (expr.Len k) = Len k
term_of (expr.Neg' p a) = Neg (term_of a)
term_of (expr.Not' p a) = Not (term_of a)
term_of (expr.Bin' op p a q b) = Bin op (term_of a) (term_of b)
term_of (expr.And' p a q b) = And (term_of a) (term_of b)
term_of (expr.Or' p a q b) = Or (term_of a) (term_of b)
term_of (expr.If' p c q a r b) = If (term_of c) (term_of a) (term_of b)

abbrev pub terms_of : List Expr → List Term
terms_of [] = []
terms_of (e ∷ es) = term_of e ∷ terms_of es

abbrev pub pipe_of : Stream → Pipe
pipe_of (stream.Array k) = Array k
pipe_of (stream.Range a b) = Range (term_of a) (term_of b)
pipe_of (stream.Unfold seed guard item next) = Unfold (terms_of seed) (term_of guard) (terms_of item) (terms_of next)
pipe_of (stream.Map' p of body) = Map (pipe_of of) (terms_of body)
pipe_of (stream.Filter' p of e) = Filter (pipe_of of) (term_of e)
pipe_of (stream.Take' p of e) = Take (pipe_of of) (term_of e)
pipe_of (stream.Drop' p of e) = Drop (pipe_of of) (term_of e)
pipe_of (stream.TakeWhile' p of e) = TakeWhile (pipe_of of) (term_of e)
pipe_of (stream.Scan' p of seed next) = Scan (pipe_of of) (terms_of seed) (terms_of next)
pipe_of (stream.FlatMap' p of q inner) = FlatMap (pipe_of of) (pipe_of inner)
pipe_of (stream.Zip' p left q right) = Zip (pipe_of left) (pipe_of right)

abbrev pub finish_of : Terminal → Finish
finish_of (terminal.Fold seed next) = Fold (terms_of seed) (terms_of next)
finish_of terminal.Print = Print
