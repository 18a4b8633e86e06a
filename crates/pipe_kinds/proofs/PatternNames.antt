-- Names of patterns and of inputs, and widths.
use Rattle.std.proofs.Common.{◌≡◌, ◌≢◌, ◌<◌, ◌+◌, ℕ, List, [], ◌∷◌, ◌++◌, Bool, true, false, ◌||◌, Ok, Err, length, drop, take, map, get_or, refl, ap, sym, ◌∙◌, append_assoc}
use Rattle.std.proofs.lemmas.List.{map-append, length-map}
use Rattle.std.proofs.lemmas.Simd.{map-map}
use Rattle.list_denotation.specs.declared.kind.Kind.{Kind}
use Rattle.pipe_tree.specs.declared.tree.TPat.{TPat}
use Rattle.pipe_tree.specs.Trees.{Declaration, Label}
use Rattle.pipe_tree.specs.declared.tree.Decl.{Decl}
use Rattle.pipe_tree.specs.TreeCopies.{declaration_of, label_of, pattern_of as pattern_copy}
use Rattle.kind_rules.specs.declared.fault.TypeFault.TheVariants as fault
use Rattle.kind_rules.specs.Checked.{after, unless}
use Rattle.kind_rules.specs.Inputs.{declared_names}
use Rattle.kind_rules.specs.Scopes.{bind, distinct_names, is_among, is_wide, names_of, pattern_of}
use Rattle.kind_rules.proofs.KindTests.{is_wide-same, is_wide-other, or_assoc}
use Rattle.pipe_kinds.proofs.ListsInLoops.{left_at, passed_at}

pub is_among_append : (name : List ℕ) (xs ys : List (List ℕ)) → is_among name (xs ++ ys) ≡ (is_among name xs || is_among name ys)
is_among_append name [] ys = refl
is_among_append name (x ∷ xs) ys = rw (is_among_append name xs ys, or_assoc) refl

-- ---- names that differ

distinct-twice : (taken : List (List ℕ)) (n : Label) (ns : List Label) → is_among n.text taken ≡ true → distinct_names taken (n ∷ ns) ≡ Err (fault.Twice n.at)
distinct-twice taken n ns h = rw h refl

distinct-once : (taken : List (List ℕ)) (n : Label) (ns : List Label) → is_among n.text taken ≡ false → distinct_names taken (n ∷ ns) ≡ distinct_names (taken ++ n.text ∷ []) ns
distinct-once taken n ns h = rw h refl

-- the names of a list that is gone through up to a place
module _ {X : Type 0} (f : X → Label) (beside : List (List ℕ)) (xs : List X) where
  abbrev pub before : ℕ → List (List ℕ)
  before i = beside ++ names_of (map f (take i xs))

  before_next : (i : ℕ) (x : X) → i < length xs → x ≡ get_or xs i x → before (i + 1) ≡ before i ++ (f x).text ∷ []
  before_next i x h e = rw (passed_at f xs i x h e) (simp (map-append, append_assoc))

  pub twice_at : (i : ℕ) (x : X) → i < length xs → x ≡ get_or xs i x → is_among (f x).text (before i) ≡ true → distinct_names (before i) (map f (drop i xs)) ≡ Err (fault.Twice (f x).at)
  twice_at i x h e k = ap (distinct_names (before i)) (left_at f xs i x h e) ∙ distinct-twice (before i) (f x) (map f (drop (i + 1) xs)) k

  pub once_at : (i : ℕ) (x : X) → i < length xs → x ≡ get_or xs i x → is_among (f x).text (before i) ≡ false → distinct_names (before (i + 1)) (map f (drop (i + 1) xs)) ≡ distinct_names (before i) (map f (drop i xs))
  once_at i x h e k =
      ap (λ taken. distinct_names taken (map f (drop (i + 1) xs))) (before_next i x h e)
      ∙ sym (ap (distinct_names (before i)) (left_at f xs i x h e) ∙ distinct-once (before i) (f x) (map f (drop (i + 1) xs)) k)

-- ---- widths

-- a pattern whose width is as this test says
pub pattern_width : (names : List (List ℕ)) (p : TPat) (ks : List Kind) (b : Bool) → is_wide (length p.names) (length ks) ≡ b
    → pattern_of names (pattern_copy p) ks ≡ unless b (fault.WidthMismatch p.at) (after (distinct_names names (map label_of p.names)) (λ all. Ok (bind (map label_of p.names) ks)))
pattern_width names p ks b h = rw (length-map, h) refl

-- whether two numbers are one
pub wide_where : (n m : ℕ) (b : Bool) → (b ≡ true → n ≡ m) → (b ≡ false → n ≢ m) → b ≡ is_wide n m
wide_where n m true h k = sym (is_wide-same n m (h refl))
wide_where n m false h k = sym (is_wide-other n m (k refl))

-- ---- names of inputs

abbrev name_label : Decl → Label
name_label d = label_of d.name

labels_are : (ds : List Decl) → declared_names (map declaration_of ds) ≡ map name_label ds
labels_are ds = map-map (λ (d : Declaration). d.name) declaration_of ds

module _ (ds : List Decl) (i : ℕ) (d : Decl) (h : i < length ds) (e : d ≡ get_or ds i d) where
  abbrev Declared : ℕ → List (List ℕ)
  Declared n = names_of (declared_names (map declaration_of (take n ds)))

  pub declared_twice : is_among d.name.text (Declared i) ≡ true → distinct_names (Declared i) (declared_names (map declaration_of (drop i ds))) ≡ Err (fault.Twice d.name.at)
  declared_twice k =
      let k' = rw labels_are at k in
      rw (labels_are (take i ds), labels_are (drop i ds)) (twice_at name_label [] ds i d h e k')

  pub declared_once : is_among d.name.text (Declared i) ≡ false
      → distinct_names (Declared (i + 1)) (declared_names (map declaration_of (drop (i + 1) ds))) ≡ distinct_names (Declared i) (declared_names (map declaration_of (drop i ds)))
  declared_once k =
      let k' = rw labels_are at k in
      rw (labels_are (take (i + 1) ds), labels_are (drop (i + 1) ds), labels_are (take i ds), labels_are (drop i ds)) (once_at name_label [] ds i d h e k')
