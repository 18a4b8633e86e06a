-- How many brackets are open behind the tokens so far, and the state that the automaton comes to over them.
use Rattle.std.proofs.Common.{◌≡◌, ℕ, ◌≤◌, List}
use Rattle.c_automaton.specs.Automaton.{State}
use Rattle.c_faults.specs.Brackets.{depth_with}
use Rattle.pipe_limits.specs.declared.TheConstants.{MOST_OPEN_BRACKETS}
use Rattle.c_lexer.specs.TokensFrom.{IsLeft, IsTakenOff}
use Rattle.c_lexer.specs.declared.cursor.Cursor.{Cursor}
use Rattle.c_lexer.specs.declared.cursor.Found.{Found}
use Rattle.c_tokens.specs.Cutting.{Token}
use Rattle.c_tokens.specs.Pieces.{What}
use Rattle.c_words.specs.Words.{StandsFor}
use Rattle.c_subset_reader.specs.Depths.{IsDepthOf}
use Rattle.c_subset_reader.specs.Reached.{IsReached}
use Rattle.c_subset_reader.specs.Taken.{HasTaken}
use Rattle.c_subset_reader.proofs.Taking.{taken_more}
use Rattle.c_subset_reader.proofs.DepthsSoFar.{depth_taken}

abbrev pub AreBothSoFar : ℕ → State → List Token → Type 0
AreBothSoFar depth s before = IsDepthOf depth before × IsReached s before

-- one more is found: so many are open behind it
pub depth_behind_found : (depth next : ℕ) (s : State) (found : Found) (cursor after : Cursor) (toks : List Token) → HasTaken (AreBothSoFar depth s) cursor toks
    → ((xs : List Token) → IsLeft cursor xs → IsTakenOff found xs after) → ((what : What) → StandsFor found.token what → next ≡ depth_with depth what) → next ≤ MOST_OPEN_BRACKETS
    → HasTaken (IsDepthOf next) after toks
depth_behind_found depth next s found cursor after toks h takes is small =
    taken_more (AreBothSoFar depth s) (IsDepthOf next) found cursor after toks h takes (λ before t seen so_far. depth_taken depth next found is small before t seen so_far.0)
