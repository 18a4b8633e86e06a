-- A map from the names of inputs to their declarations says of a name what the list of the declarations says.
use Rattle.std.proofs.Common.{◌≡◌, ◌+◌, ◌<◌, length, get_or, take, ◌||◌, ℕ, List, [], ◌∷◌, map, Option, Some, None, Bool, true, false, is_some, nat_eq, bytes_eq, position, if◌then◌else◌, Bor, refl, ap, sym, ◌∙◌}
use Rattle.std.specs.Cmp.{IsEquivalence}
use Rattle.std.specs.Cmp.Lexicographic.{pointwise, on_texts_equal}
use Rattle.std.specs.List.{IsDistinct, position_from}
use Rattle.std.specs.Map.{keys_of, lookup}
use Rattle.std.proofs.lemmas.Iterator.Adapters.{position_from-zero}
use Rattle.std.proofs.lemmas.List.{map-append}
use Rattle.std.proofs.lemmas.Map.{NonePasses}
use Rattle.std.proofs.lemmas.Map.Entries.{none_past_head}
use Rattle.std.proofs.lemmas.Map.Keys.{IsDistinct-tail}
use Rattle.indexmap.specs.IndexMap.{IndexMap, get, insert_entry}
use Rattle.indexmap.proofs.CallerLemmas.{insert_entry-new}
use Rattle.pipe_tree.specs.declared.tree.Decl.{Decl}
use Rattle.pipe_tree.specs.TreeCopies.{declaration_of}
use Rattle.kind_rules.specs.Inputs.{declared_names}
use Rattle.pipe_kinds.specs.Copies.{inputs_of, input_of}
use Rattle.kind_rules.specs.declared.meaning.Meaning.{Meaning}
use Rattle.kind_rules.specs.declared.meaning.Meaning.TheVariants as meaning
use Rattle.kind_rules.specs.Scopes.{input_from, is_among, names_of, newer}
use Rattle.pipe_kinds.proofs.ListsInLoops.{passed_at}

abbrev pub Entry : Type 0
Entry = Bor (List ℕ) × Bor Decl

-- whether two names are spelled alike
abbrev pub same_name : Bor (List ℕ) → Bor (List ℕ) → Bool
same_name a b = pointwise nat_eq a.now b.now

same_laws : IsEquivalence same_name
same_laws = on_texts_equal (λ (b : Bor (List ℕ)). b.now)

-- the input at this position with this declaration
abbrev pub input_at : Option ℕ → Option (Bor Decl) → Option Meaning
input_at (Some i) (Some d) = Some (meaning.Input i d.now.kind)
input_at _ _ = None

newer-none : (m : Option Meaning) → newer None m ≡ m
newer-none None = refl
newer-none (Some m) = refl

among_next : (b r : Bool) (o : Option (Bor Decl)) (d : Bor Decl) → r ≡ is_some o → (b || r) ≡ is_some (if b then Some d else o)
among_next true r o d h = refl
among_next false r o d h = h

found_next : (b : Bool) (n : ℕ) (d : Bor Decl) (later : Option Meaning) (i : Option ℕ) (o : Option (Bor Decl)) → (b ≡ true → later ≡ None) → (b ≡ false → later ≡ input_at i o)
    → newer (if b then Some (meaning.Input n d.now.kind) else None) later ≡ input_at (if b then Some n else i) (if b then Some d else o)
found_next true n d later i o h k = ap (newer (Some (meaning.Input n d.now.kind))) (h refl)
found_next false n d later i o h k = newer-none later ∙ k refl

module _ (q : Bor (List ℕ)) where
  -- a name is among those of the entries where a look-up finds it
  is_among_lookup : (es : List Entry) → is_among q.now (names_of (declared_names (map input_of es))) ≡ is_some (lookup (same_name q) es)
  is_among_lookup [] = refl
  is_among_lookup (e ∷ es) =
      ap (λ b. b || is_among q.now (names_of (declared_names (map input_of es)))) (same_laws.symm e.0 q)
      ∙ among_next (same_name q e.0) (is_among q.now (names_of (declared_names (map input_of es)))) (lookup (same_name q) es) e.1 (is_among_lookup es)

  input_absent : (n : ℕ) (es : List Entry) → NonePasses (same_name q) es → input_from n (map input_of es) q.now ≡ None
  input_absent n [] h = refl
  input_absent n (e ∷ es) h =
      let apart : bytes_eq e.0.now q.now ≡ false = same_laws.symm e.0 q ∙ h.0 in
      rw (apart, input_absent (n + 1) es h.1) refl

  -- the last entry with a name is the first, where names differ
  input_found : (n : ℕ) (es : List Entry) → IsDistinct same_name (keys_of es)
      → input_from n (map input_of es) q.now ≡ input_at (position_from (same_name q) n (keys_of es)) (lookup (same_name q) es)
  input_found n [] d = refl
  input_found n (e ∷ es) d =
      let later = input_from (n + 1) (map input_of es) q.now in
      ap (λ b. newer (if b then Some (meaning.Input n e.1.now.kind) else None) later) (same_laws.symm e.0 q)
      ∙ found_next (same_name q e.0) n e.1 later (position_from (same_name q) (n + 1) (keys_of es)) (lookup (same_name q) es)
      (λ t. input_absent (n + 1) es (none_past_head same_laws q e es d t))
      (λ f. input_found (n + 1) es (IsDistinct-tail same_name e.0 (keys_of es) d))

  -- what a name stands for among inputs whose names differ
  pub input_named_is : (es : List Entry) → IsDistinct same_name (keys_of es)
      → input_from 0 (map input_of es) q.now ≡ input_at (position (same_name q) (keys_of es)) (lookup (same_name q) es)
  input_named_is es d = input_found 0 es d ∙ ap (λ i. input_at i (lookup (same_name q) es)) (sym (position_from-zero (same_name q) (keys_of es)))

-- ---- a map that is made from declarations one by one

none_where : {X : Type 0} (o : Option X) → is_some o ≡ false → o ≡ None
none_where None h = refl
none_where (Some x) h = absurd cc

module _ {S : Type 0} (m : IndexMap (Bor (List ℕ)) (Bor Decl) S) (ds : List Decl) (i : ℕ) (d : Decl) (so_far : inputs_of m ≡ map declaration_of (take i ds))
    (k : Bor (List ℕ)) (spelled : k.now ≡ d.name.text) where
  -- a name is among those so far where the map has it
  pub among_so_far : is_among d.name.text (names_of (declared_names (map declaration_of (take i ds)))) ≡ is_some (get same_name m k)
  among_so_far = rw (← so_far, ← spelled) (is_among_lookup k m.entries)

  -- a new name goes behind them
  pub one_more : (v : Bor Decl) → v.now ≡ d → i < length ds → d ≡ get_or ds i d → is_some (get same_name m k) ≡ false → map input_of (insert_entry same_name m.entries k v) ≡ map declaration_of (take (i + 1) ds)
  one_more v same h e new =
      let is : input_of (k, v) ≡ declaration_of d = rw (same, spelled) refl in
      ap (map input_of) (insert_entry-new same_name m k v (none_where (get same_name m k) new))
      ∙ map-append input_of m.entries ((k, v) ∷ [])
      ∙ rw (so_far, is) (sym (passed_at declaration_of ds i d h e))
