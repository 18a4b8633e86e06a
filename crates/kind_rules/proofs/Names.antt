-- Names that differ, and the first that doesn't.
use Rattle.std.proofs.Common.{◌≡◌, ℕ, List, [], ◌∷◌, ◌++◌, Bool, true, false, ◌||◌, bytes_eq, Ok, Err, refl, ap, sym, ◌∙◌, subst, append_assoc, append-nil, if◌then◌else◌}
use Rattle.std.specs.List.{IsDistinct, AllByRecursion}
use Rattle.pipe_tree.specs.Trees.{Label}
use Rattle.kind_rules.specs.declared.fault.TypeFault.TheVariants as fault
use Rattle.kind_rules.specs.declared.fault.TypeFault.{TypeFault}
use Rattle.kind_rules.specs.FirstFault as fails
use Rattle.kind_rules.specs.FirstFault.{Repeats}
use Rattle.kind_rules.specs.Scopes.{names_of, AreDistinct, is_among, distinct_names}
use Rattle.kind_rules.proofs.Answered.{Answered, weaker}
use Rattle.kind_rules.proofs.KindTests.{or_false, or_assoc, or_nothing}

-- the names differ from these and from one another, in the order of the text
abbrev pub Differ : List (List ℕ) → List Label → Type 0
Differ before [] = Unit {0}
Differ before (n ∷ ns) = (is_among n.text before ≡ false) × Differ (before ++ n.text ∷ []) ns

-- no name is among these
abbrev NoneAmong : List (List ℕ) → List Label → Type 0
NoneAmong before [] = Unit {0}
NoneAmong before (n ∷ ns) = (is_among n.text before ≡ false) × NoneAmong before ns

among_more : (m : List ℕ) (before : List (List ℕ)) (n : List ℕ) → is_among m (before ++ n ∷ []) ≡ (is_among m before || bytes_eq n m)
among_more m [] n = or_nothing (bytes_eq n m)
among_more m (b ∷ bs) n = ap (λ r. bytes_eq b m || r) (among_more m bs n) ∙ sym (or_assoc (bytes_eq b m) (is_among m bs) (bytes_eq n m))

none_split : (before : List (List ℕ)) (n : List ℕ) (ns : List Label) → NoneAmong (before ++ n ∷ []) ns → NoneAmong before ns × AllByRecursion (λ y. bytes_eq n y ≡ false) (names_of ns)
none_split before n [] h = (tt, tt)
none_split before n (m ∷ ns) h =
    let one = or_false (is_among m.text before) (bytes_eq n m.text) (sym (among_more m.text before n) ∙ h.0) in
    let more = none_split before n ns h.1 in
    ((one.0, more.0), (one.1, more.1))

none_join : (before : List (List ℕ)) (n : List ℕ) (ns : List Label) → NoneAmong before ns → AllByRecursion (λ y. bytes_eq n y ≡ false) (names_of ns) → NoneAmong (before ++ n ∷ []) ns
none_join before n [] h k = tt
none_join before n (m ∷ ns) h k = (among_more m.text before n ∙ rw (h.0, k.0) refl, none_join before n ns h.1 k.1)

differ_from : (before : List (List ℕ)) (ns : List Label) → NoneAmong before ns → IsDistinct bytes_eq (names_of ns) → Differ before ns
unfolding IsDistinct
differ_from before [] h d = tt
differ_from before (n ∷ ns) h d = (h.0, differ_from (before ++ n.text ∷ []) ns (none_join before n.text ns h.1 d.0) d.1)

distinct_from : (before : List (List ℕ)) (ns : List Label) → Differ before ns → NoneAmong before ns × IsDistinct bytes_eq (names_of ns)
unfolding IsDistinct
distinct_from before [] h = (tt, tt)
distinct_from before (n ∷ ns) h =
    let r = distinct_from (before ++ n.text ∷ []) ns h.1 in
    let s = none_split before n.text ns r.0 in
    ((h.0, s.0), (s.1, r.1))

none_in_nothing : (ns : List Label) → NoneAmong [] ns
none_in_nothing [] = tt
none_in_nothing (n ∷ ns) = (refl, none_in_nothing ns)

pub differ_all : (ns : List Label) → AreDistinct ns → Differ [] ns
differ_all ns d = differ_from [] ns (none_in_nothing ns) d

pub all_distinct : (ns : List Label) → Differ [] ns → AreDistinct ns
all_distinct ns h = (distinct_from [] ns h).1

-- names of two lists
pub differ_split : (before : List (List ℕ)) (ms ns : List Label) → Differ before (ms ++ ns) → Differ before ms × Differ (before ++ names_of ms) ns
differ_split before [] ns h = (tt, subst (λ b. Differ b ns) (sym (append-nil before)) h)
differ_split before (m ∷ ms) ns h =
    let r = differ_split (before ++ m.text ∷ []) ms ns h.1 in
    ((h.0, r.0), subst (λ b. Differ b ns) (append_assoc before (m.text ∷ []) (names_of ms)) r.1)

pub differ_join : (before : List (List ℕ)) (ms ns : List Label) → Differ before ms → Differ (before ++ names_of ms) ns → Differ before (ms ++ ns)
differ_join before [] ns h k = subst (λ b. Differ b ns) (append-nil before) k
differ_join before (m ∷ ms) ns h k =
    (h.0, differ_join (before ++ m.text ∷ []) ms ns h.1 (subst (λ b. Differ b ns) (sym (append_assoc before (m.text ∷ []) (names_of ms))) k))

-- ---- the test

pub names_pass : (before : List (List ℕ)) (ns : List Label) → Differ before ns → (all : List (List ℕ)) × (distinct_names before ns ≡ Ok all)
names_pass before [] h = (before, refl)
names_pass before (n ∷ ns) h = let r = names_pass (before ++ n.text ∷ []) ns h.1 in (r.0, rw h.0 r.1)

pub names_fail : {before : List (List ℕ)} {ns : List Label} {f : TypeFault} → Repeats before ns f → distinct_names before ns ≡ Err f
names_fail (fails.repeated h) = rw h refl
names_fail (fails.repeated_later h r) = rw h (names_fail r)

pub names_answered : (before : List (List ℕ)) (ns : List Label) → Answered (λ (all : List (List ℕ)). Differ before ns) (Repeats before ns) (distinct_names before ns)
names_answered before [] = record { is = tt }
names_answered before (n ∷ ns) = by_test (is_among n.text before) refl (names_answered (before ++ n.text ∷ []) ns)
  where
    by_test : (twice : Bool) → is_among n.text before ≡ twice
        → Answered (λ (all : List (List ℕ)). Differ (before ++ n.text ∷ []) ns) (Repeats (before ++ n.text ∷ []) ns) (distinct_names (before ++ n.text ∷ []) ns)
        → Answered (λ (all : List (List ℕ)). Differ before (n ∷ ns)) (Repeats before (n ∷ ns)) (if twice then Err (fault.Twice n.at) else distinct_names (before ++ n.text ∷ []) ns)
    by_test true e h = record { is = fails.repeated e }
    by_test false e h = weaker (distinct_names (before ++ n.text ∷ []) ns) h (λ all d. (e, d)) (λ f r. fails.repeated_later e r)
