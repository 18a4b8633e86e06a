-- The item at the start of bytes: there is one unless they are blanks, and no other.
use Rattle.std.proofs.Common.{◌≡◌, ◌≢◌, ℕ, ◌+◌, ◌<◌, ◌⊎◌, List, [], ◌∷◌, ◌++◌, length, take, drop, Bool, true, false, cond, refl, sym, ap, subst, ◌∙◌, arith, inl, inr}
use Rattle.std.specs.List.{prefix_len}
use Rattle.std.specs.Prelude.{not}
use Rattle.std.proofs.Math.Numerals.{one-add}
use Rattle.std.proofs.lemmas.List.{append-nil, take-append-drop}
use Rattle.value_files.specs.Bytes.{is_blank, is_inner}
use Rattle.value_files.specs.Items.{IsRun, IsItem, IsBlank}
use Rattle.value_files.proofs.Runs.{run_at_prefix, run_stops, same_run}

-- two items at the start of the same bytes
pub record IsOneItem (item rest other left : List ℕ) : Type 0 where
  pub items : item ≡ other
  pub rests : rest ≡ left

pub one_item : (bytes item rest other left : List ℕ) → IsItem bytes item rest → IsItem bytes other left → IsOneItem item rest other left
one_item bytes item rest other left f g =
    let outer = same_run is_blank f.blanks (item ++ rest) g.blanks (other ++ left) (sym f.split ∙ g.split) f.blank g.blank in
    let same = same_run is_inner item rest other left outer.1 f.inner g.inner in
    record { items = same.0; rests = same.1 }

no_text : (item rest : List ℕ) → [] ≡ item ++ rest → item ≡ []
no_text [] rest e = refl
no_text (c ∷ item) rest e = absurd cc

-- among blanks is no item
pub no_item : (bytes item rest : List ℕ) → IsBlank bytes → IsItem bytes item rest → ⊥
no_item bytes item rest blank h =
    let same = same_run is_blank bytes [] h.blanks (item ++ rest) (append-nil bytes ∙ h.split) blank h.blank in
    h.some (no_text item rest same.1)

-- a run of a first byte that passes has that byte
some_run : (test : ℕ → Bool) (c : ℕ) (cs : List ℕ) → test c ≡ true → take (prefix_len test (c ∷ cs)) (c ∷ cs) ≢ []
some_run test c cs passes = by_test (test c) passes
  where
    by_test : (b : Bool) → b ≡ true → take (cond b (1 + prefix_len test cs) 0) (c ∷ cs) ≢ []
    by_test false e = absurd cc
    by_test true e = λ none. cons_not_nil (take (prefix_len test cs) cs) (sym (ap (λ (n : ℕ). take n (c ∷ cs)) (one-add (prefix_len test cs))) ∙ none)
      where
        cons_not_nil : (xs : List ℕ) → (c ∷ xs) ≡ [] → ⊥
        cons_not_nil xs h = cc

-- behind a longest run of blanks that ends before the bytes do stands an item
item_behind : (blanks behind : List ℕ) → IsRun is_blank blanks behind → 0 < length behind → IsItem (blanks ++ behind) (take (prefix_len is_inner behind) behind) (drop (prefix_len is_inner behind) behind)
item_behind blanks [] run some = absurd (omega arith)
item_behind blanks (c ∷ cs) run some =
    let behind : List ℕ = c ∷ cs in
    let len = prefix_len is_inner behind in
    let whole : behind ≡ take len behind ++ drop len behind = sym (take-append-drop len behind) in
    record {
      blanks = blanks;
      split = ap (λ (xs : List ℕ). blanks ++ xs) whole;
      blank = subst (IsRun is_blank blanks) whole run;
      some = some_run is_inner c cs (ap not (run_stops is_blank blanks c cs run));
      inner = run_at_prefix is_inner behind;
    }

-- the item behind the first blanks
pub item_at_prefix : (bytes : List ℕ) → let behind = drop (prefix_len is_blank bytes) bytes in 0 < length behind → IsItem bytes (take (prefix_len is_inner behind) behind) (drop (prefix_len is_inner behind) behind)
item_at_prefix bytes some =
    let len = prefix_len is_blank bytes in
    let behind = drop len bytes in
    subst (λ (xs : List ℕ). IsItem xs (take (prefix_len is_inner behind) behind) (drop (prefix_len is_inner behind) behind)) (take-append-drop len bytes)
    (item_behind (take len bytes) behind (run_at_prefix is_blank bytes) some)

-- bytes with nothing behind their first blanks are blanks
pub blank_at_prefix : (bytes : List ℕ) → drop (prefix_len is_blank bytes) bytes ≡ [] → IsBlank bytes
blank_at_prefix bytes none =
    let len = prefix_len is_blank bytes in
    let run : IsRun is_blank (take len bytes) [] = subst (IsRun is_blank (take len bytes)) none (run_at_prefix is_blank bytes) in
    let all : take len bytes ≡ bytes = sym (append-nil (take len bytes)) ∙ ap (λ (xs : List ℕ). take len bytes ++ xs) (sym none) ∙ take-append-drop len bytes in
    subst IsBlank all run

-- an item at the start of bytes
pub record SomeItem (bytes : List ℕ) : Type 0 where
  pub item : List ℕ
  pub rest : List ℕ
  pub is_item : IsItem bytes item rest

pub blank_or_item : (bytes : List ℕ) → IsBlank bytes ⊎ SomeItem bytes
blank_or_item bytes = by_rest (drop (prefix_len is_blank bytes) bytes) refl
  where
    by_rest : (behind : List ℕ) → drop (prefix_len is_blank bytes) bytes ≡ behind → IsBlank bytes ⊎ SomeItem bytes
    by_rest [] none = inl (blank_at_prefix bytes none)
    by_rest (c ∷ cs) is =
        let len = ap length is in
        inr (record { item = _; rest = _; is_item = item_at_prefix bytes (omega arith) })
