-- What a C text is answered with: its program, or the fault and its place.
use Rattle.std.specs.Prelude.{◌≡◌, ℕ, ◌+◌, ◌-◌, ◌<◌, List, [], ◌∷◌, ◌++◌, length, All, Result, Ok, Err, true, ◌⊎◌}
use Rattle.loop_ir.specs.DeclaredNames.{declared_names}
use Rattle.loop_ir.specs.Statements.{Routine}
use Rattle.exact_reader.specs.Exactness.{Language, StopsAt, GoesNowhere}
use Rattle.c_tokens.specs.Pieces.{Piece, IsPiece}
use Rattle.c_tokens.specs.Cutting.{Token, Part, Passes, AreTokensOf}
use Rattle.c_grammar.specs.Grammar.{IsProgram}
use Rattle.c_grammar.specs.Reading.{HasHeader, whats, Reads}
use Rattle.c_faults.specs.Brackets.{depth_with, depth_behind, is_within}
use Rattle.pipe_limits.specs.declared.TheConstants.{MOST_OPEN_BRACKETS}
use Rattle.c_faults.specs.Undeclared.{IsUndeclared, IsDeclared}
use Rattle.c_faults.specs.declared.fault.CFault.{CFault}
use Rattle.c_faults.specs.declared.fault.CFault.TheVariants as fault

-- the grammar of programs, as a language of tokens; none of them is too deep for it
abbrev pub programs : Language Token
programs = record {
  Tree = Routine;
  IsSentence = λ toks q. IsProgram q (whats toks);
  IsWithin = λ q. Unit {0};
}

-- ---- places

-- behind its first line something holds of the rest of the text, at a place there
pub record Behind (src : List ℕ) (at : ℕ) (holds : List ℕ → ℕ → Type 0) : Type 0 where
  pub rest : List ℕ
  pub header : HasHeader src rest
  pub offset : ℕ
  pub place : at ≡ (length src - length rest) + offset
  pub holds_there : holds rest offset

abbrev pub size_of_parts : List Part → ℕ
size_of_parts [] = 0
size_of_parts (p ∷ ps) = length p.text + size_of_parts ps

-- the offset of the first token, or the text's length where none is left
abbrev pub offset_or_end : ℕ → List Token → ℕ
offset_or_end end [] = end
offset_or_end end (t ∷ x) = t.at

-- among the tokens there is one at this offset, and something holds of those before it and of it
pub record HasTokenAt (at : ℕ) (holds : List Token → Token → Type 0) (toks : List Token) : Type 0 where
  pub before : List Token
  pub token : Token
  pub after : List Token
  pub parts : toks ≡ before ++ token ∷ after
  pub is_there : token.at ≡ at
  pub holds_of_it : holds before token

-- the text is cut into tokens whose brackets are within the limit, and something holds of them
pub record IsCutWithin (holds : List Token → Type 0) (text : List ℕ) : Type 0 where
  pub toks : List Token
  pub tokens : AreTokensOf text toks
  pub within : is_within 0 (whats toks) ≡ true
  pub goes_on : holds toks

-- ---- faults

-- no token, blank or whole comment begins the characters, of which there are some
abbrev pub BeginsNothing : List ℕ → Type 0
BeginsNothing [] = ⊥
BeginsNothing (c ∷ cs) = (p : Piece) (text rest : List ℕ) → c ∷ cs ≡ text ++ rest → IsPiece p text rest → ⊥

-- the text is cut into pieces up to this offset, at which none begins
pub record IsLexFault (text : List ℕ) (at : ℕ) : Type 0 where
  pub parts : List Part
  pub end : List ℕ
  pub passes : Passes text parts end
  pub offset : at ≡ size_of_parts parts
  pub stuck : BeginsNothing end

-- with this token, and with none before it, more brackets are open than may be
pub record IsTooDeep (before : List Token) (t : Token) : Type 0 where
  pub within : is_within 0 (whats before) ≡ true
  pub too_deep : MOST_OPEN_BRACKETS < depth_with (depth_behind 0 (whats before)) t.what

pub record IsDepthFault (text : List ℕ) (at : ℕ) : Type 0 where
  pub toks : List Token
  pub tokens : AreTokensOf text toks
  pub fault : HasTokenAt at IsTooDeep toks

-- the tokens before this offset begin a program, and with the one there they begin none
pub record StopsThere (end at : ℕ) (toks : List Token) : Type 0 where
  pub rest : List Token
  pub stops : StopsAt programs (GoesNowhere programs) toks rest
  pub offset : at ≡ offset_or_end end rest

-- the tokens are a program, and the name at this offset is the first that it doesn't declare
pub record NamesFrom (at : ℕ) (toks : List Token) : Type 0 where
  pub program : Routine
  pub is : IsProgram program (whats toks)
  pub fault : HasTokenAt at (λ before t. All (λ u. IsDeclared (declared_names program.params program.vars) u.what) before
      × IsUndeclared (declared_names program.params program.vars) t.what) toks

-- ---- answers

abbrev pub Answer : Type 0
Answer = Result Routine CFault

-- the brackets are within the limit
pub record IsWithinBrackets (src : List ℕ) : Type 0 where
  pub rest : List ℕ
  pub header : HasHeader src rest
  pub cut : IsCutWithin (λ toks. Unit {0}) rest

abbrev pub HasNoHeader : List ℕ → Type 0
HasNoHeader src = (rest : List ℕ) → HasHeader src rest → ⊥

-- what the text is answered with. The faults are in their order: a later one is that of a text which has
-- none of those before it
abbrev pub ReadsAs : List ℕ → Answer → Type 0
ReadsAs src (Ok q) = Reads src q × IsWithinBrackets src
ReadsAs src (Err (fault.Lex at)) = Behind src at IsLexFault
ReadsAs src (Err (fault.TooDeep at)) = Behind src at IsDepthFault
ReadsAs src (Err (fault.Syntax at)) = (HasNoHeader src × (at ≡ 0)) ⊎ Behind src at (λ text offset. IsCutWithin (StopsThere (length text) offset) text)
ReadsAs src (Err (fault.Unbound at)) = Behind src at (λ text offset. IsCutWithin (NamesFrom offset) text)
ReadsAs src (Err fault.NoMemory) = Unit {0}

-- the answers are one, or memory was refused in one of them
abbrev pub IsSameUnlessRefused : Answer → Answer → Type 0
IsSameUnlessRefused (Err fault.NoMemory) other = Unit {0}
IsSameUnlessRefused answer (Err fault.NoMemory) = Unit {0}
IsSameUnlessRefused answer other = answer ≡ other
