-- What holds of the tokens before the place of a cursor, as it goes on.
use Rattle.std.proofs.Common.{◌≡◌, List, [], ◌∷◌, ◌++◌, refl, sym, ap, subst, ◌∙◌, append-nil, append_assoc}
use Rattle.c_faults.specs.Answers.{HasTokenAt}
use Rattle.c_lexer.specs.TokensFrom.{IsLeft, IsFound, IsTakenOff}
use Rattle.c_lexer.specs.declared.cursor.Cursor.{Cursor}
use Rattle.c_lexer.specs.declared.cursor.Found.{Found}
use Rattle.c_tokens.specs.Cutting.{Token}
use Rattle.c_subset_reader.specs.Taken.{HasTaken}

pub taken_none : (holds : List Token → Type 0) (cursor : Cursor) (toks : List Token) → IsLeft cursor toks → holds [] → HasTaken holds cursor toks
taken_none holds cursor toks h so_far = record { before = []; left = toks; parts = refl; is_left = h; so_far = so_far }

-- what holds of the tokens that were taken holds of one more
abbrev pub Extends : Found → (List Token → Type 0) → (List Token → Type 0) → Type 0
Extends found holds after = (before : List Token) (t : Token) → IsFound found t → holds before → after (before ++ t ∷ [])

-- of one more each of two holds
pub extends_both : (found : Found) (p q r s : List Token → Type 0) → Extends found p r → Extends found q s → Extends found (λ x. p x × q x) (λ x. r x × s x)
extends_both found p q r s first second = λ before t seen h. (first before t seen h.0, second before t seen h.1)

pub taken_more : (holds after : List Token → Type 0) (found : Found) (cursor next : Cursor) (toks : List Token) → HasTaken holds cursor toks
    → ((xs : List Token) → IsLeft cursor xs → IsTakenOff found xs next) → Extends found holds after → HasTaken after next toks
taken_more holds after found cursor next toks h takes more =
    let taken = takes h.left h.is_left in
    record {
      before = h.before ++ taken.token ∷ [];
      left = taken.rest;
      parts = h.parts ∙ ap (λ (xs : List Token). h.before ++ xs) taken.parts ∙ sym (append_assoc h.before (taken.token ∷ []) taken.rest);
      is_left = taken.left;
      so_far = more h.before taken.token taken.seen h.so_far;
    }

-- where none is left it holds of all
pub taken_all : (holds : List Token → Type 0) (cursor next : Cursor) (toks : List Token) → HasTaken holds cursor toks
    → ((xs : List Token) → IsLeft cursor xs → xs ≡ []) → holds toks
taken_all holds cursor next toks h takes =
    subst holds (sym (h.parts ∙ ap (λ (xs : List Token). h.before ++ xs) (takes h.left h.is_left) ∙ append-nil h.before)) h.so_far

-- the token that was found is among them, with what holds of it and of those before it
pub taken_last : (holds : List Token → Type 0) (last : List Token → Token → Type 0) (found : Found) (cursor next : Cursor) (toks : List Token) → HasTaken holds cursor toks
    → ((xs : List Token) → IsLeft cursor xs → IsTakenOff found xs next)
    → ((before : List Token) (t : Token) → IsFound found t → holds before → last before t) → HasTokenAt found.at last toks
taken_last holds last found cursor next toks h takes at_last =
    let taken = takes h.left h.is_left in
    record {
      before = h.before;
      token = taken.token;
      after = taken.rest;
      parts = h.parts ∙ ap (λ (xs : List Token). h.before ++ xs) taken.parts;
      is_there = taken.seen.place;
      holds_of_it = at_last h.before taken.token taken.seen h.so_far;
    }
