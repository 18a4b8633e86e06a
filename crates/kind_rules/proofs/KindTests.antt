-- The tests of kinds and widths.
use Rattle.std.proofs.Common.{◌≡◌, ◌≢◌, ℕ, zero, suc, Bool, true, false, ◌||◌, refl, ap}
use Rattle.list_denotation.specs.declared.kind.Kind.{Kind}
use Rattle.list_denotation.specs.declared.kind.Kind.TheVariants as kind
use Rattle.kind_rules.specs.Scopes.{is_wide}
use Rattle.kind_rules.specs.Signs.{is_kind}

pub is_kind-same : (k : Kind) → is_kind k k ≡ true
is_kind-same kind.Int = refl
is_kind-same kind.Bool = refl

pub same_kind : (j k : Kind) → is_kind j k ≡ true → j ≡ k
same_kind kind.Int kind.Int h = refl
same_kind kind.Bool kind.Bool h = refl
same_kind kind.Int kind.Bool h = absurd cc
same_kind kind.Bool kind.Int h = absurd cc

pub unlike_kind : (j k : Kind) → is_kind j k ≡ false → j ≢ k
unlike_kind kind.Int kind.Int h = absurd cc
unlike_kind kind.Bool kind.Bool h = absurd cc
unlike_kind kind.Int kind.Bool h = λ e. cc
unlike_kind kind.Bool kind.Int h = λ e. cc

pub is_kind-other : (j k : Kind) → j ≢ k → is_kind j k ≡ false
is_kind-other kind.Int kind.Int h = absurd (h refl)
is_kind-other kind.Bool kind.Bool h = absurd (h refl)
is_kind-other kind.Int kind.Bool h = refl
is_kind-other kind.Bool kind.Int h = refl

-- ---- widths

pub is_wide-same : (n m : ℕ) → n ≡ m → is_wide n m ≡ true
is_wide-same zero zero h = refl
is_wide-same (suc n) (suc m) h = is_wide-same n m cc
is_wide-same zero (suc m) h = absurd cc
is_wide-same (suc n) zero h = absurd cc

pub is_wide-other : (n m : ℕ) → n ≢ m → is_wide n m ≡ false
is_wide-other zero zero h = absurd (h refl)
is_wide-other zero (suc m) h = refl
is_wide-other (suc n) zero h = refl
is_wide-other (suc n) (suc m) h = is_wide-other n m (λ e. h (ap suc e))

pub is_wide-only : (n m : ℕ) → is_wide n m ≡ true → n ≡ m
is_wide-only zero zero h = refl
is_wide-only zero (suc m) h = absurd cc
is_wide-only (suc n) zero h = absurd cc
is_wide-only (suc n) (suc m) h = ap suc (is_wide-only n m h)

pub is_wide-differs : (n m : ℕ) → is_wide n m ≡ false → n ≢ m
is_wide-differs zero zero h = absurd cc
is_wide-differs zero (suc m) h = λ e. cc
is_wide-differs (suc n) zero h = λ e. cc
is_wide-differs (suc n) (suc m) h = λ e. is_wide-differs n m h cc

-- ---- booleans

pub or_false : (a b : Bool) → (a || b) ≡ false → (a ≡ false) × (b ≡ false)
or_false false b h = (refl, h)
or_false true b h = absurd cc

pub or_assoc : (a b c : Bool) → ((a || b) || c) ≡ (a || (b || c))
or_assoc true b c = refl
or_assoc false b c = refl

pub or_nothing : (a : Bool) → (a || false) ≡ a
or_nothing true = refl
or_nothing false = refl
