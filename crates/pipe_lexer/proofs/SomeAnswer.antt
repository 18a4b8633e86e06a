-- Each list of bytes has tokens, or a fault where it stops.
use Rattle.std.proofs.Common.{◌≡◌, ◌≢◌, ℕ, zero, suc, ◌≤◌, List, [], ◌∷◌, length, take, drop, Result, Ok, Err, refl, sym, subst, arith, inl, inr}
use Rattle.std.proofs.lemmas.List.{length-drop, take-append-drop}
use Rattle.std.specs.Str.{chars, IsUtf8, IsValidUpTo}
use Rattle.pipe_lexer.specs.Pieces.{IsLargeNumber, IsBadChar}
use Rattle.pipe_lexer.specs.Prefixes.{HasPrefix}
use Rattle.pipe_lexer.specs.Lexing.{Part, Passes, size_of_parts, tokens_from, StopsAt, IsLexed, Answer, LexesAs}
use Rattle.pipe_lexer.specs.declared.piece.Prefix.{Prefix}
use Rattle.pipe_lexer.specs.declared.piece.Stop.{Stop}
use Rattle.pipe_lexer.specs.declared.piece.Stop.TheVariants as stop
use Rattle.pipe_lexer.specs.declared.fault.LexFault.TheVariants as fault
use Rattle.pipe_lexer.proofs.LongestPrefixes.{longest_prefix, text_or_not}
use Rattle.pipe_lexer.proofs.SomePrefix.{some_prefix}

-- why the cutting goes no further than this rest
data End : Type 0 where
  AtEnd : End
  AtBadChar : End
  AtLargeNumber : End

abbrev IsEnd : End → List ℕ → Type 0
IsEnd AtEnd rest = rest ≡ []
IsEnd AtBadChar rest = IsBadChar rest
IsEnd AtLargeNumber rest = IsLargeNumber rest

-- the characters are parts as far as any piece begins
record IsCutUp (cs : List ℕ) : Type 0 where
  pub parts : List Part
  pub rest : List ℕ
  pub passes : Passes cs parts rest
  pub end : End
  pub is_end : IsEnd end rest

goes_nowhere : (cs : List ℕ) (end : End) → IsEnd end cs → IsCutUp cs
goes_nowhere cs end is = record { parts = []; rest = cs; passes = refl; end = end; is_end = is }

-- characters that begin with a piece, before others that are cut up
with_piece : (cs : List ℕ) (prefix : Prefix) → HasPrefix cs (Ok prefix) → IsCutUp (drop prefix.len cs) → IsCutUp cs
with_piece cs prefix stands later = record {
  parts = record { piece = prefix.piece; text = take prefix.len cs } ∷ later.parts;
  rest = later.rest;
  passes = record { rest = drop prefix.len cs; split = sym (take-append-drop prefix.len cs); piece = stands.piece; goes_on = later.passes };
  end = later.end;
  is_end = later.is_end;
}

-- what stands at the start, before any shorter rest that is cut up
by_prefix : (most : ℕ) (cs : List ℕ) → length cs ≤ suc most → ((rest : List ℕ) → length rest ≤ most → IsCutUp rest)
    → (r : Result Prefix Stop) → HasPrefix cs r → IsCutUp cs
by_prefix most cs within later (Ok prefix) h =
    let some = h.some in
    let shorter : length (drop prefix.len cs) ≤ most = omega (arith, length-drop prefix.len cs) in
    with_piece cs prefix h (later (drop prefix.len cs) shorter)
by_prefix most cs within later (Err stop.BadChar) h = goes_nowhere cs AtBadChar h
by_prefix most cs within later (Err stop.NumberTooLarge) h = goes_nowhere cs AtLargeNumber h

-- characters, of which there are at most so many, are cut up
cut_up : (most : ℕ) (cs : List ℕ) → length cs ≤ most → IsCutUp cs
cut_up most [] within = goes_nowhere [] AtEnd refl
cut_up zero (c ∷ cs) within = absurd (omega arith)
cut_up (suc most) (c ∷ cs) within =
    let prefix = some_prefix (c ∷ cs) (omega arith) in
    by_prefix most (c ∷ cs) within (λ rest shorter. cut_up most rest shorter) prefix.0 prefix.1

-- tokens, or a fault that is no refusal of memory
abbrev pub SomeAnswer : List ℕ → Type 0
SomeAnswer src = (a : Answer) × (LexesAs src a × (a ≢ Err fault.NoMemory))

by_end : (src : List ℕ) → IsUtf8 src → (parts : List Part) (rest : List ℕ) → Passes (chars src) parts rest → (end : End) → IsEnd end rest → SomeAnswer src
by_end src text parts rest passes AtEnd is =
    let lexed : IsLexed src (tokens_from 0 parts) = (text, record { parts = parts; passes = subst (Passes (chars src) parts) is passes; tokens = refl }) in
    (Ok (tokens_from 0 parts), (lexed, λ e. cc))
by_end src text parts rest passes AtBadChar is =
    let stops : StopsAt (chars src) (size_of_parts parts) IsBadChar = record { parts = parts; rest = rest; passes = passes; offset = refl; stops = is } in
    (Err (fault.BadChar (size_of_parts parts)), ((text, stops), λ e. cc))
by_end src text parts rest passes AtLargeNumber is =
    let stops : StopsAt (chars src) (size_of_parts parts) IsLargeNumber = record { parts = parts; rest = rest; passes = passes; offset = refl; stops = is } in
    (Err (fault.NumberTooLarge (size_of_parts parts)), ((text, stops), λ e. cc))

text_lexes : (src : List ℕ) → IsUtf8 src → SomeAnswer src
text_lexes src text =
    let cut = cut_up (length (chars src)) (chars src) (omega arith) in
    by_end src text cut.parts cut.rest cut.passes cut.end cut.is_end

no_text_lexes : (src : List ℕ) → (at : ℕ) × IsValidUpTo src at → SomeAnswer src
no_text_lexes src prefix = (Err (fault.NotUtf8 prefix.0), (prefix.1, λ e. cc))

pub some_answer : (src : List ℕ) → SomeAnswer src
some_answer src = elim (text_or_not src) [ inl text ↦ text_lexes src text | inr no_text ↦ no_text_lexes src (longest_prefix src no_text) ]
