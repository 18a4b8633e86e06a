-- A comment ends at the first */, so that there is one at the start.
use Rattle.std.proofs.Common.{◌≡◌, ℕ, List, [], ◌∷◌, ◌++◌, length, codes, Bool, true, false, ◌==◌, ◌&&◌, refl, sym, ap, ◌∙◌, true≢false}
use Rattle.c_tokens.specs.Characters.{is_in_comment}
use Rattle.c_tokens.specs.Pieces.{begins_with_pair, EndsOr, IsToItsEnd, IsComment}
use Rattle.c_tokens.proofs.Runs.{same_prefix}

-- where the end begins, it begins in each text that goes to its end
same_pair : (c d : ℕ) (t r u s : List ℕ) → c ≡ d → t ++ r ≡ u ++ s → IsToItsEnd u → begins_with_pair 42 47 (c ∷ t) ≡ true → begins_with_pair 42 47 (d ∷ u) ≡ true
same_pair c d [] r u s same e g p = absurd cc
same_pair c d (x ∷ t) r [] s same e g p = absurd g
same_pair c d (x ∷ t) r (y ∷ u) s same e g p =
    let next : y ≡ x = cc in
    ap (λ (z : ℕ). (z == 42) && (y == 47)) (sym same) ∙ ap (λ (z : ℕ). (c == 42) && (z == 47)) next ∙ p

-- two texts at one start that go to the first */ are the same
same_to_its_end : (t r u s : List ℕ) → t ++ r ≡ u ++ s → IsToItsEnd t → IsToItsEnd u → (t ≡ u) × (r ≡ s)
same_to_its_end [] r u s e f g = absurd f
same_to_its_end (c ∷ t) r [] s e f g = absurd g
same_to_its_end (c ∷ t) r (d ∷ u) s e f g =
    let first : c ≡ d = cc in
    let tail : t ++ r ≡ u ++ s = cc in
    by_tests first tail (same_to_its_end t r u s tail) (begins_with_pair 42 47 (c ∷ t)) (begins_with_pair 42 47 (d ∷ u)) refl refl f g
  where
    both : c ≡ d → (t ≡ u) × (r ≡ s) → ((c ∷ t) ≡ (d ∷ u)) × (r ≡ s)
    both first same = let tails = same.0 in (cc, same.1)

    by_tests : c ≡ d → t ++ r ≡ u ++ s → (IsToItsEnd t → IsToItsEnd u → (t ≡ u) × (r ≡ s)) → (a b : Bool) → begins_with_pair 42 47 (c ∷ t) ≡ a → begins_with_pair 42 47 (d ∷ u) ≡ b → EndsOr a t ((is_in_comment c ≡ true) × IsToItsEnd t) → EndsOr b u ((is_in_comment d ≡ true) × IsToItsEnd u) → ((c ∷ t) ≡ (d ∷ u)) × (r ≡ s)
    by_tests first tail later true true p q f g = both first (same_prefix t r u s tail (ap length (f ∙ sym g)))
    by_tests first tail later true false p q f g = absurd (true≢false (sym (same_pair c d t r u s first tail g.1 p) ∙ q))
    by_tests first tail later false true p q f g = absurd (true≢false (sym (same_pair d c u s t r (sym first) (sym tail) f.1 q) ∙ p))
    by_tests first tail later false false p q f g = both first (later f.1 g.1)

-- two comments at one start are the same
pub same_comment : (t r u s : List ℕ) → t ++ r ≡ u ++ s → IsComment t → IsComment u → (t ≡ u) × (r ≡ s)
same_comment t r u s e f g =
    let whole : codes "/*" ++ (f.inside ++ r) ≡ codes "/*" ++ (g.inside ++ s) = sym (ap (λ (xs : List ℕ). xs ++ r) f.is) ∙ e ∙ ap (λ (xs : List ℕ). xs ++ s) g.is in
    let behind : f.inside ++ r ≡ g.inside ++ s = cc in
    let same = same_to_its_end f.inside r g.inside s behind f.to_its_end g.to_its_end in
    (f.is ∙ ap (λ (xs : List ℕ). codes "/*" ++ xs) same.0 ∙ sym g.is, same.1)
