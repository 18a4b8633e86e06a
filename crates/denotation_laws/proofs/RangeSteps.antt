-- Counting with words: ranges go on by one, counts go down by one, and low words are ordered as numbers.
use Rattle.std.proofs.Common.{◌≡◌, ℕ, suc, ◌+◌, ◌-◌, ◌^◌, ◌≤◌, ◌<◌, [], ◌∷◌, refl, ap, arith, Bool, true, false}
use Rattle.std.proofs.lemmas.Bool.{ltb-true, ltb-false, lt-ltb, le-ltb}
use Rattle.std.proofs.lemmas.Int.{ints}
use Rattle.std.specs.Prelude.{nat_lt, ℤ, pos, negsuc, ◌+ℤ◌, ◌-ℤ◌, ◌≤ℤ◌, ◌<ℤ◌, int_lt}
use Rattle.strm_num.specs.Words.{signed, sum_of, difference_of, is_less}
use Rattle.list_denotation.specs.Denotation.{count_of, words_from, words_between}

-- ---- signed values

signed_low : (x : ℕ) → x < 2 ^ 63 → signed x ≡ pos x
signed_low x h = rw (lt-ltb x (2 ^ 63) h) refl

signed_high : (x : ℕ) → 2 ^ 63 ≤ x → signed x ≡ negsuc (2 ^ 64 - 1 - x)
signed_high x h = rw (le-ltb x (2 ^ 63) h) refl

pub low_order : (x y : ℕ) → x < 2 ^ 63 → y < 2 ^ 63 → is_less x y ≡ nat_lt x y
low_order x y h k = rw (signed_low x h, signed_low y k) refl

less_below : (a b : ℤ) → int_lt a b ≡ true → a <ℤ b
less_below a b h = grind (arith, ints)

not_less_above : (a b : ℤ) → int_lt a b ≡ false → b ≤ℤ a
not_less_above a b h = grind (arith, ints)

signed_most : (x : ℕ) → x < 2 ^ 64 → signed x ≤ℤ pos (2 ^ 63 - 1)
signed_most x h = by_half (nat_lt x (2 ^ 63)) refl
  where
    by_half : (t : Bool) → nat_lt x (2 ^ 63) ≡ t → signed x ≤ℤ pos (2 ^ 63 - 1)
    by_half true e = let lt = ltb-true x (2 ^ 63) e in rw (signed_low x lt) (omega (arith, ints))
    by_half false e = let le = ltb-false x (2 ^ 63) e in rw (signed_high x le) (omega (arith, ints))

-- the next word is one more, but for the greatest
next_low : (x : ℕ) → x < 2 ^ 63 - 1 → signed (sum_of x 1) ≡ signed x +ℤ pos 1
next_low x h =
    let e : sum_of x 1 ≡ x + 1 = omega arith in
    rw (e, signed_low (x + 1) (omega arith), signed_low x (omega arith)) (omega (arith, ints))

next_high : (x : ℕ) → 2 ^ 63 ≤ x → x < 2 ^ 64 - 1 → signed (sum_of x 1) ≡ signed x +ℤ pos 1
next_high x h k =
    let e : sum_of x 1 ≡ x + 1 = omega arith in
    rw (e, signed_high (x + 1) (omega arith), signed_high x h) (omega (arith, ints))

next_last : (x : ℕ) → x ≡ 2 ^ 64 - 1 → signed (sum_of x 1) ≡ signed x +ℤ pos 1
next_last x e = rw e refl

signed_next : (x : ℕ) → x < 2 ^ 64 → signed x <ℤ pos (2 ^ 63 - 1) → signed (sum_of x 1) ≡ signed x +ℤ pos 1
signed_next x word below = by_low (nat_lt x (2 ^ 63 - 1)) refl
  where
    by_last : (t : Bool) → nat_lt x (2 ^ 64 - 1) ≡ t → 2 ^ 63 ≤ x → signed (sum_of x 1) ≡ signed x +ℤ pos 1
    by_last true e le = next_high x le (ltb-true x (2 ^ 64 - 1) e)
    by_last false e le = let last = ltb-false x (2 ^ 64 - 1) e in next_last x (omega arith)

    by_half : (t : Bool) → nat_lt x (2 ^ 63) ≡ t → 2 ^ 63 - 1 ≤ x → signed (sum_of x 1) ≡ signed x +ℤ pos 1
    by_half true e le =
        let lt = ltb-true x (2 ^ 63) e in
        let same : signed x ≡ pos x = signed_low x lt in
        absurd (omega (arith, ints, same))
    by_half false e le = by_last (nat_lt x (2 ^ 64 - 1)) refl (ltb-false x (2 ^ 63) e)

    by_low : (t : Bool) → nat_lt x (2 ^ 63 - 1) ≡ t → signed (sum_of x 1) ≡ signed x +ℤ pos 1
    by_low true e = next_low x (ltb-true x (2 ^ 63 - 1) e)
    by_low false e = by_half (nat_lt x (2 ^ 63)) refl (ltb-false x (2 ^ 63 - 1) e)

-- ---- counts

count_is : (z : ℤ) (n : ℕ) → z ≡ pos n → count_of z ≡ n
count_is z n e = ap count_of e

count_none : (z : ℤ) → z ≤ℤ pos 0 → count_of z ≡ 0
count_none (pos n) h = omega (arith, ints)
count_none (negsuc n) h = refl

count_next : (a b c : ℤ) → a <ℤ b → c ≡ a +ℤ pos 1 → count_of (b -ℤ a) ≡ suc (count_of (b -ℤ c))
count_next a b c h e = by_sign (b -ℤ c) refl
  where
    by_sign : (d : ℤ) → b -ℤ c ≡ d → count_of (b -ℤ a) ≡ suc (count_of d)
    by_sign (pos n) q = count_is (b -ℤ a) (suc n) (omega (arith, ints))
    by_sign (negsuc n) q = absurd (omega (arith, ints))

pub range_more : (x y : ℕ) → x < 2 ^ 64 → y < 2 ^ 64 → is_less x y ≡ true → words_between x y ≡ x ∷ words_between (sum_of x 1) y
range_more x y h k less =
    let below = less_below (signed x) (signed y) less in
    let next : signed (sum_of x 1) ≡ signed x +ℤ pos 1 = signed_next x h (omega (arith, ints, signed_most y k)) in
    ap (λ n. words_from n x) (count_next (signed x) (signed y) (signed (sum_of x 1)) below next)

pub range_over : (x y : ℕ) → is_less x y ≡ false → words_between x y ≡ []
range_over x y h =
    let above = not_less_above (signed x) (signed y) h in
    ap (λ n. words_from n x) (count_none (signed y -ℤ signed x) (omega (arith, ints)))

pub count_more : (k : ℕ) → k < 2 ^ 64 → is_less 0 k ≡ true → count_of (signed k) ≡ suc (count_of (signed (difference_of k 1)))
count_more k word less = by_half (nat_lt k (2 ^ 63)) refl
  where
    by_half : (t : Bool) → nat_lt k (2 ^ 63) ≡ t → count_of (signed k) ≡ suc (count_of (signed (difference_of k 1)))
    by_half true e =
        let lt = ltb-true k (2 ^ 63) e in
        let same : signed k ≡ pos k = signed_low k lt in
        let test : int_lt (pos 0) (signed k) ≡ true = less in
        let some : 0 < k = ltb-true 0 k (rw same at test) in
        let one_less : difference_of k 1 ≡ k - 1 = omega arith in
        rw (one_less, same, signed_low (k - 1) (omega arith)) (omega arith)
    by_half false e =
        let le = ltb-false k (2 ^ 63) e in
        let same : signed k ≡ negsuc (2 ^ 64 - 1 - k) = signed_high k le in
        let test : int_lt (pos 0) (signed k) ≡ true = less in
        let never : false ≡ true = rw same at test in
        cc

pub count_over : (k : ℕ) → is_less 0 k ≡ false → count_of (signed k) ≡ 0
count_over k h = count_none (signed k) (not_less_above (signed 0) (signed k) h)
