-- Tokens have one exact outcome, in a language whose sentences have one tree each.
use Rattle.std.proofs.Common.{◌≡◌, List, [], ◌∷◌, ◌++◌, refl, sym, ap, subst, ◌∙◌, append_assoc, append-nil}
use Rattle.exact_reader.specs.Exactness.{Language, Begins, BeginsWithin, GoesNowhere, GoesDeeper, StopsAt, Outcome, Read, Syntax, TooDeep, IsExact}

-- ---- two ways to cut the same tokens

-- x before r and y before s are cut at one offset, or the first is cut earlier, or later
pub data Cuts {Token : Type 0} (x r y s : List Token) : Type 0 where
  Same : x ≡ y → r ≡ s → Cuts x r y s
  Earlier : (t : Token) (d : List Token) → y ≡ x ++ t ∷ d → r ≡ t ∷ (d ++ s) → Cuts x r y s
  Later : (t : Token) (d : List Token) → x ≡ y ++ t ∷ d → s ≡ t ∷ (d ++ r) → Cuts x r y s

behind : {Token : Type 0} (a : Token) (x r y s : List Token) → Cuts x r y s → Cuts (a ∷ x) r (a ∷ y) s
behind {Token} a x r y s (Same i j) = Same (ap (λ (z : List Token). a ∷ z) i) j
behind {Token} a x r y s (Earlier t d i j) = Earlier t d (ap (λ (z : List Token). a ∷ z) i) j
behind {Token} a x r y s (Later t d i j) = Later t d (ap (λ (z : List Token). a ∷ z) i) j

pub cuts : {Token : Type 0} (x r y s : List Token) → x ++ r ≡ y ++ s → Cuts x r y s
cuts [] r [] s e = Same refl e
cuts [] r (b ∷ y) s e = Earlier b y refl e
cuts (a ∷ x) r [] s e = Later a x refl (sym e)
cuts {Token} (a ∷ x) r (b ∷ y) s e =
    let i : x ++ r ≡ y ++ s = cc in
    let j : a ≡ b = cc in
    subst (λ (c : Token). Cuts (a ∷ x) r (c ∷ y) s) j (behind a x r y s (cuts x r y s i))

module _ {Token : Type 0} (language : Language Token) where
  -- after x no sentence within the depths goes on with the first token of the rest, or ends
  abbrev StopsWithin : List Token → List Token → Type 0
  StopsWithin x [] = (tree : language.Tree) → language.IsSentence x tree → language.IsWithin tree → ⊥
  StopsWithin x (t ∷ rest) = BeginsWithin language (x ++ t ∷ []) → ⊥

  begins : (x : List Token) → BeginsWithin language x → Begins language x
  begins x b = record { more = b.more; tree = b.tree; sentence = b.sentence }

  nowhere_within : (x rest : List Token) → GoesNowhere language x rest → StopsWithin x rest
  nowhere_within x [] h = λ tree k w. h tree k
  nowhere_within x (t ∷ rest) h = λ b. h (begins (x ++ t ∷ []) b)

  deeper_within : (x rest : List Token) → GoesDeeper language x rest → StopsWithin x rest
  deeper_within x [] h = absurd h
  deeper_within x (t ∷ rest) h = h.1

  -- a prefix of what begins a sentence begins it too
  prefix_begins : (x : List Token) (t : Token) (d : List Token) → BeginsWithin language (x ++ t ∷ d) → BeginsWithin language (x ++ t ∷ [])
  prefix_begins x t d b =
      let parts = append_assoc x (t ∷ d) b.more ∙ sym (append_assoc x (t ∷ []) (d ++ b.more)) in
      record { more = d ++ b.more; tree = b.tree; sentence = subst (λ (y : List Token). language.IsSentence y b.tree) parts b.sentence; within = b.within }

  -- ---- no sentence within the depths stops

  stop_is_no_end : (x rest : List Token) (tree : language.Tree) → StopsWithin x rest → language.IsSentence (x ++ rest) tree → language.IsWithin tree → ⊥
  stop_is_no_end x [] tree h k w = h tree (subst (λ (y : List Token). language.IsSentence y tree) (append-nil x) k) w
  stop_is_no_end x (t ∷ rest) tree h k w =
      h (record { more = rest; tree = tree; sentence = subst (λ (y : List Token). language.IsSentence y tree) (sym (append_assoc x (t ∷ []) rest)) k; within = w })

  read_never_stops : (how : List Token → List Token → Type 0) (toks rest : List Token) (tree : language.Tree) → ((x y : List Token) → how x y → StopsWithin x y) → StopsAt language how toks rest
      → language.IsSentence toks tree → language.IsWithin tree → ⊥
  read_never_stops how toks rest tree f h k w =
      stop_is_no_end h.before rest tree (f h.before rest h.stops) (subst (λ (y : List Token). language.IsSentence y tree) h.parts k) w

  -- ---- tokens stop at one offset

  no_later : (x rest y : List Token) (t : Token) (d : List Token) → StopsWithin x rest → BeginsWithin language y → y ≡ x ++ t ∷ d → (r : List Token) → rest ≡ t ∷ r → ⊥
  no_later x rest y t d h b i r j =
      let stops : StopsWithin x (t ∷ r) = subst (λ (z : List Token). StopsWithin x z) j h in
      stops (prefix_begins x t d (subst (λ (z : List Token). BeginsWithin language z) i b))

  record AreSame (x r y s : List Token) : Type 0 where
    pub befores : x ≡ y
    pub rests : r ≡ s

  one_stop : (how other : List Token → List Token → Type 0) (toks r s : List Token) → ((x y : List Token) → how x y → StopsWithin x y) → ((x y : List Token) → other x y → StopsWithin x y)
      → (h : StopsAt language how toks r) (k : StopsAt language other toks s) → AreSame h.before r k.before s
  one_stop how other toks r s f g h k =
      elim (cuts h.before r k.before s (sym h.parts ∙ k.parts)) [
        | Same i j ↦ record { befores = i; rests = j }
        | Earlier t d i j ↦ absurd (no_later h.before r k.before t d (f h.before r h.stops) k.begins i (d ++ s) j)
        | Later t d i j ↦ absurd (no_later k.before s h.before t d (g k.before s k.stops) h.begins i (d ++ r) j)
      ]

  -- ---- and stop in one way

  one_way : (x rest : List Token) → GoesNowhere language x rest → GoesDeeper language x rest → ⊥
  one_way x [] h k = k
  one_way x (t ∷ rest) h k = h k.0

  not_both : (toks r s : List Token) → StopsAt language (GoesNowhere language) toks r → StopsAt language (GoesDeeper language) toks s → ⊥
  not_both toks r s h k =
      let same = one_stop (GoesNowhere language) (GoesDeeper language) toks r s nowhere_within deeper_within h k in
      let i : GoesNowhere language k.before r = subst (λ (x : List Token). GoesNowhere language x r) same.befores h.stops in
      one_way k.before s (subst (λ (y : List Token). GoesNowhere language k.before y) same.rests i) k.stops

  pub one_outcome : ((toks : List Token) (tree other : language.Tree) → language.IsSentence toks tree → language.IsSentence toks other → tree ≡ other)
      → (toks : List Token) (o p : Outcome Token language.Tree) → IsExact language toks o → IsExact language toks p → o ≡ p
  one_outcome one toks (Read t) (Read u) h k = ap Read (one toks t u h.0 k.0)
  one_outcome one toks (Read t) (Syntax s) h k = absurd (read_never_stops (GoesNowhere language) toks s t nowhere_within k h.0 h.1)
  one_outcome one toks (Read t) (TooDeep s) h k = absurd (read_never_stops (GoesDeeper language) toks s t deeper_within k h.0 h.1)
  one_outcome one toks (Syntax r) (Read u) h k = absurd (read_never_stops (GoesNowhere language) toks r u nowhere_within h k.0 k.1)
  one_outcome one toks (Syntax r) (Syntax s) h k = ap Syntax (one_stop (GoesNowhere language) (GoesNowhere language) toks r s nowhere_within nowhere_within h k).rests
  one_outcome one toks (Syntax r) (TooDeep s) h k = absurd (not_both toks r s h k)
  one_outcome one toks (TooDeep r) (Read u) h k = absurd (read_never_stops (GoesDeeper language) toks r u deeper_within h k.0 k.1)
  one_outcome one toks (TooDeep r) (Syntax s) h k = absurd (not_both toks s r k h)
  one_outcome one toks (TooDeep r) (TooDeep s) h k = ap TooDeep (one_stop (GoesDeeper language) (GoesDeeper language) toks r s deeper_within deeper_within h k).rests
