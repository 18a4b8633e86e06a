-- A whole comment stands at the start, or none does.
use Rattle.std.proofs.Common.{◌≡◌, ◌⊎◌, ℕ, List, [], ◌∷◌, ◌++◌, codes, Bool, true, false, ◌==◌, ◌&&◌, refl, sym, ap, ◌∙◌, arith, inl, inr, true≢false}
use Rattle.std.proofs.lemmas.Bool.Decides.{nat_tests}
use Rattle.c_tokens.specs.Characters.{is_in_comment}
use Rattle.c_tokens.specs.Pieces.{begins_with_pair, EndsOr, IsToItsEnd, IsComment}
use Rattle.c_answers.proofs.Beginnings.{by_test, begins_or_not}

-- characters at the start that go to the first */
record HasEnd (cs : List ℕ) : Type 0 where
  pub text : List ℕ
  pub rest : List ℕ
  pub split : cs ≡ text ++ rest
  pub to_its_end : IsToItsEnd text

-- at the start nothing goes to the first */
abbrev HasNoEnd : List ℕ → Type 0
HasNoEnd cs = (text rest : List ℕ) → cs ≡ text ++ rest → IsToItsEnd text → ⊥

abbrev EndOrNone : List ℕ → Type 0
EndOrNone cs = HasEnd cs ⊎ HasNoEnd cs

-- two characters that begin a text begin what it begins
pair_goes_on : (text rest : List ℕ) → begins_with_pair 42 47 text ≡ true → begins_with_pair 42 47 (text ++ rest) ≡ true
pair_goes_on [] rest e = absurd (true≢false (sym e))
pair_goes_on (c ∷ []) rest e = absurd (true≢false (sym e))
pair_goes_on (c ∷ d ∷ text) rest e = e

second_is : (c d : ℕ) → ((c == 42) && (d == 47)) ≡ true → d ≡ 47
second_is c d e = grind (arith, nat_tests)

at_end : (c : ℕ) (cs : List ℕ) → begins_with_pair 42 47 (c ∷ cs) ≡ true → HasEnd (c ∷ cs)
at_end c [] e = absurd (true≢false (sym e))
at_end c (d ∷ cs) e = record {
  text = c ∷ d ∷ [];
  rest = cs;
  split = refl;
  to_its_end = ended (begins_with_pair 42 47 (c ∷ d ∷ [])) e;
}
  where
    ended : (b : Bool) → b ≡ true → EndsOr b (d ∷ []) ((is_in_comment c ≡ true) × IsToItsEnd (d ∷ []))
    ended true same = let is = second_is c d e in (let whole : (d ∷ []) ≡ (47 ∷ []) = cc in whole)
    ended false same = absurd (true≢false (sym same))

-- where the end doesn't begin, it doesn't in a text there
no_pair : (c : ℕ) (cs text rest : List ℕ) → c ∷ cs ≡ text ++ rest → begins_with_pair 42 47 (c ∷ cs) ≡ false → begins_with_pair 42 47 text ≡ false
no_pair c cs text rest e fails = by_test {A = begins_with_pair 42 47 text ≡ false} (begins_with_pair 42 47 text)
    (λ holds. absurd (true≢false (sym (pair_goes_on text rest holds) ∙ ap (begins_with_pair 42 47) (sym e) ∙ fails)))
    (λ other. other)

module _ (c : ℕ) (cs : List ℕ) (no_end : begins_with_pair 42 47 (c ∷ cs) ≡ false) where
  -- a text at the start goes on to its end behind its first character
  goes_on : (d : ℕ) (text rest : List ℕ) → c ∷ cs ≡ (d ∷ text) ++ rest → IsToItsEnd (d ∷ text) → (is_in_comment d ≡ true) × IsToItsEnd text
  goes_on d text rest e h = by_pair (begins_with_pair 42 47 (d ∷ text)) (no_pair c cs (d ∷ text) rest e no_end) h
    where
      by_pair : (b : Bool) → b ≡ false → EndsOr b text ((is_in_comment d ≡ true) × IsToItsEnd text) → (is_in_comment d ≡ true) × IsToItsEnd text
      by_pair true same h = absurd (true≢false same)
      by_pair false same h = h

  heads : (d : ℕ) (text rest : List ℕ) → c ∷ cs ≡ (d ∷ text) ++ rest → c ≡ d
  heads d text rest e = cc

  tails : (d : ℕ) (text rest : List ℕ) → c ∷ cs ≡ (d ∷ text) ++ rest → cs ≡ text ++ rest
  tails d text rest e = cc

  no_comment_character : is_in_comment c ≡ false → HasNoEnd (c ∷ cs)
  no_comment_character fails [] rest e h = h
  no_comment_character fails (d ∷ text) rest e h =
      true≢false (sym (goes_on d text rest e h).0 ∙ ap is_in_comment (sym (heads d text rest e)) ∙ fails)

  one_more : is_in_comment c ≡ true → EndOrNone cs → EndOrNone (c ∷ cs)
  one_more holds (inl later) = inl (record {
    text = c ∷ later.text;
    rest = later.rest;
    split = ap (λ (xs : List ℕ). c ∷ xs) later.split;
    to_its_end = more (begins_with_pair 42 47 (c ∷ later.text)) (no_pair c cs (c ∷ later.text) later.rest (ap (λ (xs : List ℕ). c ∷ xs) later.split) no_end);
  })
    where
      more : (b : Bool) → b ≡ false → EndsOr b later.text ((is_in_comment c ≡ true) × IsToItsEnd later.text)
      more true same = absurd (true≢false same)
      more false same = (holds, later.to_its_end)
  one_more holds (inr none) = inr refuses
    where
      refuses : HasNoEnd (c ∷ cs)
      refuses [] rest e h = h
      refuses (d ∷ text) rest e h = none text rest (tails d text rest e) (goes_on d text rest e h).1

end_or_none : (cs : List ℕ) → EndOrNone cs
end_or_none [] = inr refuses
  where
    refuses : HasNoEnd []
    refuses [] rest e h = h
    refuses (d ∷ text) rest e h = absurd cc
end_or_none (c ∷ cs) = by_test {A = EndOrNone (c ∷ cs)} (begins_with_pair 42 47 (c ∷ cs))
    (λ holds. inl (at_end c cs holds))
    (λ fails. by_test {A = EndOrNone (c ∷ cs)} (is_in_comment c)
    (λ holds. one_more c cs fails holds (end_or_none cs))
    (λ other. inr (no_comment_character c cs fails other)))

-- ---- whole comments

pub record HasComment (cs : List ℕ) : Type 0 where
  pub text : List ℕ
  pub rest : List ℕ
  pub split : cs ≡ text ++ rest
  pub comment : IsComment text

abbrev pub HasNoComment : List ℕ → Type 0
HasNoComment cs = (text rest : List ℕ) → cs ≡ text ++ rest → IsComment text → ⊥

by_end : (cs behind : List ℕ) → cs ≡ codes "/*" ++ behind → EndOrNone behind → HasComment cs ⊎ HasNoComment cs
by_end cs behind begins (inl end) = inl (record {
  text = codes "/*" ++ end.text;
  rest = end.rest;
  split = begins ∙ ap (λ (xs : List ℕ). codes "/*" ++ xs) end.split;
  comment = record { inside = end.text; is = refl; to_its_end = end.to_its_end };
})
by_end cs behind begins (inr none) = inr refuses
  where
    refuses : HasNoComment cs
    refuses text rest e h =
        let whole : codes "/*" ++ behind ≡ codes "/*" ++ (h.inside ++ rest) = sym begins ∙ e ∙ ap (λ (xs : List ℕ). xs ++ rest) h.is in
        let same : behind ≡ h.inside ++ rest = cc in
        none h.inside rest same h.to_its_end

pub comment_or_none : (cs : List ℕ) → HasComment cs ⊎ HasNoComment cs
comment_or_none cs = elim (begins_or_not (codes "/*") cs) [
  | inl begins ↦ by_end cs begins.0 begins.1 (end_or_none begins.0)
  | inr none ↦ inr (λ text rest e h. none (h.inside ++ rest, e ∙ ap (λ (xs : List ℕ). xs ++ rest) h.is))
]
