-- A reader sees one thing alone in a token.
use Rattle.std.proofs.Common.{◌≡◌, ℕ, ◌^◌, ◌<◌, List, ◌++◌, decimal, true, refl, sym, ap, ◌∙◌}
use Rattle.c_tokens.specs.declared.symbol.Symbol.{Symbol}
use Rattle.c_tokens.specs.Pieces as piece
use Rattle.c_tokens.specs.Pieces.{What, Word}
use Rattle.c_words.specs.declared.token.Keyword.{Keyword}
use Rattle.c_words.specs.declared.token.Letter.{Letter}
use Rattle.c_words.specs.declared.token.CToken.{CToken}
use Rattle.c_words.specs.declared.token.CToken.TheVariants.{Key, Name, OtherWord, Bare, Constant, Sym}
use Rattle.c_words.specs.Words.{keyword_text, letter_text, IsOtherWord, StandsFor}
use Rattle.c_words.specs.SameTokens.{is_same_token}
use Rattle.c_words.proofs.SameTokens.{IsSeen, same_token_self}
use Rattle.c_words.proofs.WordTexts.{one_keyword, no_keyword_name, one_name}

same_word : (v w : List ℕ) (what : What) → what ≡ Word v → what ≡ Word w → v ≡ w
same_word v w what e f = let words : Word v ≡ Word w = sym e ∙ f in cc

key_alone : (what : What) (k : Keyword) (u : CToken) → what ≡ Word (keyword_text k) → StandsFor u what → Key k ≡ u
key_alone what k (Key j) e h = ap Key (one_keyword k j (same_word (keyword_text k) (keyword_text j) what e h))
key_alone what k (Name l n) e h = absurd (no_keyword_name k l n h.0 (same_word (keyword_text k) (letter_text l ++ decimal n) what e h.1))
key_alone what k OtherWord e h = absurd (h.1.1.no_keyword k (same_word (keyword_text k) h.0 what e h.1.0))
key_alone what k (Bare n) e h = absurd (let clash : Word (keyword_text k) ≡ piece.Bare n = sym e ∙ h in cc)
key_alone what k (Constant n) e h = absurd (let clash : Word (keyword_text k) ≡ piece.Const n = sym e ∙ h in cc)
key_alone what k (Sym s) e h = absurd (let clash : Word (keyword_text k) ≡ piece.Sym s = sym e ∙ h in cc)

name_alone : (what : What) (l : Letter) (n : ℕ) (u : CToken) → n < 2 ^ 32 → what ≡ Word (letter_text l ++ decimal n) → StandsFor u what → Name l n ≡ u
name_alone what l n (Key j) small e h = absurd (no_keyword_name j l n small (same_word (keyword_text j) (letter_text l ++ decimal n) what h e))
name_alone what l n (Name m k) small e h =
    let same = one_name l m n k small h.0 (same_word (letter_text l ++ decimal n) (letter_text m ++ decimal k) what e h.1) in
    both same.0 same.1
  where
    both : l ≡ m → n ≡ k → Name l n ≡ Name m k
    both p q = cc
name_alone what l n OtherWord small e h = absurd (h.1.1.no_name l n small (same_word (letter_text l ++ decimal n) h.0 what e h.1.0))
name_alone what l n (Bare m) small e h = absurd (let clash : Word (letter_text l ++ decimal n) ≡ piece.Bare m = sym e ∙ h in cc)
name_alone what l n (Constant m) small e h = absurd (let clash : Word (letter_text l ++ decimal n) ≡ piece.Const m = sym e ∙ h in cc)
name_alone what l n (Sym s) small e h = absurd (let clash : Word (letter_text l ++ decimal n) ≡ piece.Sym s = sym e ∙ h in cc)

other_alone : (what : What) (text : List ℕ) (u : CToken) → what ≡ Word text → IsOtherWord text → StandsFor u what → OtherWord ≡ u
other_alone what text (Key j) e other h = absurd (other.no_keyword j (same_word (keyword_text j) text what h e))
other_alone what text (Name m k) e other h = absurd (other.no_name m k h.0 (same_word (letter_text m ++ decimal k) text what h.1 e))
other_alone what text OtherWord e other h = refl
other_alone what text (Bare m) e other h = absurd (let clash : Word text ≡ piece.Bare m = sym e ∙ h in cc)
other_alone what text (Constant m) e other h = absurd (let clash : Word text ≡ piece.Const m = sym e ∙ h in cc)
other_alone what text (Sym s) e other h = absurd (let clash : Word text ≡ piece.Sym s = sym e ∙ h in cc)

-- in what is no word no word is seen
bare_alone : (what : What) (n : ℕ) (u : CToken) → what ≡ piece.Bare n → StandsFor u what → Bare n ≡ u
bare_alone what n (Key j) e h = absurd (let clash : piece.Bare n ≡ Word (keyword_text j) = sym e ∙ h in cc)
bare_alone what n (Name m k) e h = absurd (let clash : piece.Bare n ≡ Word (letter_text m ++ decimal k) = sym e ∙ h.1 in cc)
bare_alone what n OtherWord e h = absurd (let clash : piece.Bare n ≡ Word h.0 = sym e ∙ h.1.0 in cc)
bare_alone what n (Bare m) e h = let same : piece.Bare n ≡ piece.Bare m = sym e ∙ h in let numbers : n ≡ m = cc in ap Bare numbers
bare_alone what n (Constant m) e h = absurd (let clash : piece.Bare n ≡ piece.Const m = sym e ∙ h in cc)
bare_alone what n (Sym s) e h = absurd (let clash : piece.Bare n ≡ piece.Sym s = sym e ∙ h in cc)

constant_alone : (what : What) (n : ℕ) (u : CToken) → what ≡ piece.Const n → StandsFor u what → Constant n ≡ u
constant_alone what n (Key j) e h = absurd (let clash : piece.Const n ≡ Word (keyword_text j) = sym e ∙ h in cc)
constant_alone what n (Name m k) e h = absurd (let clash : piece.Const n ≡ Word (letter_text m ++ decimal k) = sym e ∙ h.1 in cc)
constant_alone what n OtherWord e h = absurd (let clash : piece.Const n ≡ Word h.0 = sym e ∙ h.1.0 in cc)
constant_alone what n (Bare m) e h = absurd (let clash : piece.Const n ≡ piece.Bare m = sym e ∙ h in cc)
constant_alone what n (Constant m) e h = let same : piece.Const n ≡ piece.Const m = sym e ∙ h in let numbers : n ≡ m = cc in ap Constant numbers
constant_alone what n (Sym s) e h = absurd (let clash : piece.Const n ≡ piece.Sym s = sym e ∙ h in cc)

symbol_alone : (what : What) (r : Symbol) (u : CToken) → what ≡ piece.Sym r → StandsFor u what → Sym r ≡ u
symbol_alone what r (Key j) e h = absurd (let clash : piece.Sym r ≡ Word (keyword_text j) = sym e ∙ h in cc)
symbol_alone what r (Name m k) e h = absurd (let clash : piece.Sym r ≡ Word (letter_text m ++ decimal k) = sym e ∙ h.1 in cc)
symbol_alone what r OtherWord e h = absurd (let clash : piece.Sym r ≡ Word h.0 = sym e ∙ h.1.0 in cc)
symbol_alone what r (Bare m) e h = absurd (let clash : piece.Sym r ≡ piece.Bare m = sym e ∙ h in cc)
symbol_alone what r (Constant m) e h = absurd (let clash : piece.Sym r ≡ piece.Const m = sym e ∙ h in cc)
symbol_alone what r (Sym s) e h = let same : piece.Sym r ≡ piece.Sym s = sym e ∙ h in let symbols : r ≡ s = cc in ap Sym symbols

pub one_token : (what : What) (t u : CToken) → StandsFor t what → StandsFor u what → t ≡ u
one_token what (Key k) u f g = key_alone what k u f g
one_token what (Name l n) u f g = name_alone what l n u f.0 f.1 g
one_token what OtherWord u f g = other_alone what f.0 u f.1.0 f.1.1 g
one_token what (Bare n) u f g = bare_alone what n u f g
one_token what (Constant n) u f g = constant_alone what n u f g
one_token what (Sym s) u f g = symbol_alone what s u f g

-- what stands for one token is the same
pub stands_same : (a t : CToken) (what : What) → StandsFor a what → StandsFor t what → IsSeen a → is_same_token a t ≡ true
stands_same a t what f g seen = sym (ap (is_same_token a) (one_token what a t f g)) ∙ same_token_self a seen
