-- A text has one answer: it is cut into parts in one way, as far as any piece begins.
use Rattle.std.proofs.Common.{◌≡◌, ℕ, List, [], ◌∷◌, ◌++◌, length, Ok, Err, refl, sym, ap, subst, ◌∙◌, arith}
use Rattle.std.proofs.lemmas.List.{take_all}
use Rattle.std.proofs.lemmas.Str.{utf8_valid_len-IsValidUpTo, encodes-chars}
use Rattle.std.specs.Str.{chars, IsUtf8, IsValidUpTo}
use Rattle.pipe_lexer.specs.Characters.{size_of}
use Rattle.pipe_lexer.specs.Pieces.{IsPiece, IsDigits, IsLargeNumber, IsBadChar}
use Rattle.pipe_lexer.specs.Lexing.{Part, Passes, size_of_parts, tokens_from, AreTokensOf, StopsAt, Answer, LexesAs, IsSameUnlessRefused}
use Rattle.pipe_lexer.specs.Steps.{IsCut}
use Rattle.pipe_lexer.specs.declared.token.Token.{Token}
use Rattle.pipe_lexer.specs.declared.piece.Piece.{Piece}
use Rattle.pipe_lexer.specs.declared.fault.LexFault.TheVariants as fault
use Rattle.pipe_lexer.proofs.OnePiece.{one_piece, no_empty_piece, no_piece_at_large}

-- no piece begins
abbrev IsEnd : List ℕ → Type 0
IsEnd cs = (p : Piece) (text rest : List ℕ) → cs ≡ text ++ rest → IsPiece p text rest → ⊥

nothing_is_end : IsEnd []
nothing_is_end p [] rest e h = no_empty_piece p rest h
nothing_is_end p (c ∷ text) rest e h = absurd cc

same_part : (p q : Part) → p.piece ≡ q.piece → p.text ≡ q.text → p ≡ q
same_part p q e f = λ i. record { piece = e i; text = f i }

-- characters are cut into parts in one way
same_parts : (cs : List ℕ) (ps qs : List Part) (r s : List ℕ) → Passes cs ps r → Passes cs qs s → IsEnd r → IsEnd s → (ps ≡ qs) × (r ≡ s)
same_parts cs [] [] r s f g end_r end_s = (refl, sym f ∙ g)
same_parts cs [] (q ∷ qs) r s f g end_r end_s = absurd (end_r q.piece q.text g.rest (sym f ∙ g.split) g.piece)
same_parts cs (p ∷ ps) [] r s f g end_r end_s = absurd (end_s p.piece p.text f.rest (sym g ∙ f.split) f.piece)
same_parts cs (p ∷ ps) (q ∷ qs) r s f g end_r end_s =
    let first = one_piece p.piece q.piece p.text f.rest q.text g.rest (sym f.split ∙ g.split) f.piece g.piece in
    let later = same_parts g.rest ps qs r s (subst (λ (xs : List ℕ). Passes xs ps r) first.rests f.goes_on) g.goes_on end_r end_s in
    (both (same_part p q first.pieces first.texts) later.0, later.1)
  where
    both : p ≡ q → ps ≡ qs → (p ∷ ps) ≡ (q ∷ qs)
    both e h = cc

same_lexed : (cs : List ℕ) (ts us : List Token) → AreTokensOf cs ts → AreTokensOf cs us → ts ≡ us
same_lexed cs ts us f g =
    let same = same_parts cs f.parts g.parts [] [] f.passes g.passes nothing_is_end nothing_is_end in
    f.tokens ∙ ap (tokens_from 0) same.0 ∙ sym g.tokens

-- two offsets where characters stop
record IsOneStop (r s : List ℕ) (at to : ℕ) : Type 0 where
  pub rests : r ≡ s
  pub offsets : at ≡ to

same_stop : (cs : List ℕ) (at to : ℕ) (P Q : List ℕ → Type 0) → ((r : List ℕ) → P r → IsEnd r) → ((r : List ℕ) → Q r → IsEnd r) → (f : StopsAt cs at P) (g : StopsAt cs to Q) → IsOneStop f.rest g.rest at to
same_stop cs at to P Q end_p end_q f g =
    let same = same_parts cs f.parts g.parts f.rest g.rest f.passes g.passes (end_p f.rest f.stops) (end_q g.rest g.stops) in
    record { rests = same.1; offsets = f.offset ∙ ap size_of_parts same.0 ∙ sym g.offset }

bad_end : (r : List ℕ) → IsBadChar r → IsEnd r
bad_end r h = h.no_piece

large_end : (r : List ℕ) → IsLargeNumber r → IsEnd r
large_end r h = no_piece_at_large r h

no_large_nothing : IsLargeNumber [] → ⊥
no_large_nothing h = by_text h.text h.split h.digits
  where
    by_text : (text : List ℕ) → [] ≡ text ++ h.rest → IsDigits text h.rest → ⊥
    by_text [] e d = d
    by_text (c ∷ text) e d = absurd cc

-- characters that are parts to their end stop nowhere
no_stop : (cs : List ℕ) (ts : List Token) (at : ℕ) (P : List ℕ → Type 0) → ((r : List ℕ) → P r → IsEnd r) → (P [] → ⊥) → AreTokensOf cs ts → StopsAt cs at P → ⊥
no_stop cs ts at P end_p some f g =
    let same = same_parts cs f.parts g.parts [] g.rest f.passes g.passes nothing_is_end (end_p g.rest g.stops) in
    some (subst P (sym same.1) g.stops)

no_bad_nothing : IsBadChar [] → ⊥
no_bad_nothing h = h.some refl

bad_or_large : (cs : List ℕ) (at to : ℕ) → StopsAt cs at IsBadChar → StopsAt cs to IsLargeNumber → ⊥
bad_or_large cs at to f g =
    let same = same_stop cs at to IsBadChar IsLargeNumber bad_end large_end f g in
    f.stops.no_number (subst IsLargeNumber (sym same.rests) g.stops)

not_text : (src : List ℕ) (at : ℕ) → IsUtf8 src → IsValidUpTo src at → ⊥
not_text src at text h = h.longest (length src) h.short (subst IsUtf8 (sym (take_all (length src) src (omega arith))) text)

same_invalid : (src : List ℕ) (at to : ℕ) → IsValidUpTo src at → IsValidUpTo src to → at ≡ to
same_invalid src at to f g = sym (utf8_valid_len-IsValidUpTo src at f) ∙ utf8_valid_len-IsValidUpTo src to g

-- a text has one answer, but for a refusal of memory
pub one_answer : (src : List ℕ) (a b : Answer) → LexesAs src a → LexesAs src b → IsSameUnlessRefused a b
one_answer src (Ok ts) (Ok us) f g = ap Ok (same_lexed (chars src) ts us f.1 g.1)
one_answer src (Ok ts) (Err (fault.NotUtf8 at)) f g = absurd (not_text src at f.0 g)
one_answer src (Ok ts) (Err (fault.BadChar at)) f g = absurd (no_stop (chars src) ts at IsBadChar bad_end no_bad_nothing f.1 g.1)
one_answer src (Ok ts) (Err (fault.NumberTooLarge at)) f g = absurd (no_stop (chars src) ts at IsLargeNumber large_end no_large_nothing f.1 g.1)
one_answer src (Ok ts) (Err fault.NoMemory) f g = tt
one_answer src (Err (fault.NotUtf8 at)) (Ok us) f g = absurd (not_text src at g.0 f)
one_answer src (Err (fault.NotUtf8 at)) (Err (fault.NotUtf8 to)) f g = ap (λ (n : ℕ). Err (fault.NotUtf8 n)) (same_invalid src at to f g)
one_answer src (Err (fault.NotUtf8 at)) (Err (fault.BadChar to)) f g = absurd (not_text src at g.0 f)
one_answer src (Err (fault.NotUtf8 at)) (Err (fault.NumberTooLarge to)) f g = absurd (not_text src at g.0 f)
one_answer src (Err (fault.NotUtf8 at)) (Err fault.NoMemory) f g = tt
one_answer src (Err (fault.BadChar at)) (Ok us) f g = absurd (no_stop (chars src) us at IsBadChar bad_end no_bad_nothing g.1 f.1)
one_answer src (Err (fault.BadChar at)) (Err (fault.NotUtf8 to)) f g = absurd (not_text src to f.0 g)
one_answer src (Err (fault.BadChar at)) (Err (fault.BadChar to)) f g = ap (λ (n : ℕ). Err (fault.BadChar n)) (same_stop (chars src) at to IsBadChar IsBadChar bad_end bad_end f.1 g.1).offsets
one_answer src (Err (fault.BadChar at)) (Err (fault.NumberTooLarge to)) f g = absurd (bad_or_large (chars src) at to f.1 g.1)
one_answer src (Err (fault.BadChar at)) (Err fault.NoMemory) f g = tt
one_answer src (Err (fault.NumberTooLarge at)) (Ok us) f g = absurd (no_stop (chars src) us at IsLargeNumber large_end no_large_nothing g.1 f.1)
one_answer src (Err (fault.NumberTooLarge at)) (Err (fault.NotUtf8 to)) f g = absurd (not_text src to f.0 g)
one_answer src (Err (fault.NumberTooLarge at)) (Err (fault.BadChar to)) f g = absurd (bad_or_large (chars src) to at g.1 f.1)
one_answer src (Err (fault.NumberTooLarge at)) (Err (fault.NumberTooLarge to)) f g = ap (λ (n : ℕ). Err (fault.NumberTooLarge n)) (same_stop (chars src) at to IsLargeNumber IsLargeNumber large_end large_end f.1 g.1).offsets
one_answer src (Err (fault.NumberTooLarge at)) (Err fault.NoMemory) f g = tt
one_answer src (Err fault.NoMemory) b f g = tt

-- what the characters of a text are answered with is what the text is
pub cut_answers : (src cs : List ℕ) (a : Answer) → IsUtf8 src → cs ≡ chars src → IsCut cs a → LexesAs src a
cut_answers src cs (Ok ts) text e h = (text, subst (λ (xs : List ℕ). AreTokensOf xs ts) e h)
cut_answers src cs (Err (fault.NotUtf8 at)) text e h = absurd h
cut_answers src cs (Err (fault.BadChar at)) text e h = (text, subst (λ (xs : List ℕ). StopsAt xs at IsBadChar) e h)
cut_answers src cs (Err (fault.NumberTooLarge at)) text e h = (text, subst (λ (xs : List ℕ). StopsAt xs at IsLargeNumber) e h)
cut_answers src cs (Err fault.NoMemory) text e h = tt

-- the characters of a text have its bytes
pub size_of-chars : (src cs : List ℕ) → IsUtf8 src → cs ≡ chars src → size_of cs ≡ length src
size_of-chars src cs text e = ap size_of e ∙ ap length (encodes-chars src text)
