-- That what the reader of whole texts makes of tokens, and the counts of its tree, are the answer.
use Rattle.std.proofs.Common.{◌≡◌, ℕ, List, subst}
use Rattle.std.specs.Prelude.{Ok, Err}
use Rattle.pipe_tree.specs.declared.fault.ParseFault.{ParseFault}
use Rattle.pipe_tree.specs.declared.fault.ParseFault.TheVariants as fault
use Rattle.pipe_reader.specs.Continuations.{read_text}
use Rattle.pipe_tree.specs.Texts.{texts}
use Rattle.tree_counts.specs.CountedTexts.{HasFew, CountsAs}
use Rattle.exact_reader.specs.Exactness.{IsExact, Outcome, Read, Syntax, TooDeep}
use Rattle.pipe_tree.specs.Parsing.{ParsesAs}
use Rattle.pipe_tree.specs.Tokens.{Tok}
use Rattle.pipe_tree.specs.Trees.{Text}
use Rattle.pipe_grammar.specs.WholeTexts.{ReadsAs}

-- the reader of texts is exact
module _ (exact : (toks : List Tok) → IsExact texts toks (read_text toks)) where
  exact_as : (toks : List Tok) (o : Outcome Tok Text) → read_text toks ≡ o → IsExact texts toks o
  exact_as toks o e = subst (IsExact texts toks) e (exact toks)

  -- the tokens are no sentence within the depths
  pub unread_answer : (end : ℕ) (toks : List Tok) (e : ParseFault) → ReadsAs end toks (Err e) → ParsesAs end toks (Err e)
  unread_answer end toks (fault.Syntax at) h = record { rest = h.rest; stops = exact_as toks (Syntax h.rest) h.outcome; offset = h.offset }
  unread_answer end toks (fault.TooDeep at) h = record { rest = h.rest; stops = exact_as toks (TooDeep h.rest) h.outcome; offset = h.offset }
  unread_answer end toks (fault.TooManyInputs at) h = absurd h
  unread_answer end toks (fault.TooManyOps at) h = absurd h
  unread_answer end toks (fault.TooManyNodes at) h = absurd h
  unread_answer end toks fault.NoMemory h = tt

  -- they are one with too much of something
  pub counted_answer : (end : ℕ) (toks : List Tok) (t : Text) (e : ParseFault) → ReadsAs end toks (Ok t) → CountsAs t (Err e) → ParsesAs end toks (Err e)
  counted_answer end toks t (fault.TooManyInputs at) h c = let x = exact_as toks (Read t) h in record { tree = t; sentence = x.0; within = x.1; goes_on = c }
  counted_answer end toks t (fault.TooManyOps at) h c = let x = exact_as toks (Read t) h in record { tree = t; sentence = x.0; within = x.1; goes_on = c }
  counted_answer end toks t (fault.TooManyNodes at) h c = let x = exact_as toks (Read t) h in record { tree = t; sentence = x.0; within = x.1; goes_on = c }
  counted_answer end toks t (fault.Syntax at) h c = absurd c
  counted_answer end toks t (fault.TooDeep at) h c = absurd c
  counted_answer end toks t fault.NoMemory h c = absurd c

  -- they are one within the limits
  pub parsed_answer : (end : ℕ) (toks : List Tok) (t : Text) → ReadsAs end toks (Ok t) → HasFew t → ParsesAs end toks (Ok t)
  parsed_answer end toks t h c = let x = exact_as toks (Read t) h in (x.0, record { within = x.1; inputs = c.inputs; ops = c.ops; nodes = c.nodes })
