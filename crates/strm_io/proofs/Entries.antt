-- Entries of the files over memory: which one a name finds, and what one more entry leaves as it was.
use Rattle.std.proofs.Common.{◌≡◌, ℕ, zero, suc, ◌+◌, ◌<◌, List, [], ◌∷◌, ◌++◌, length, get_or, drop}
use Rattle.std.proofs.Common.{Option, Some, None, Bool, if◌then◌else◌, string_bytes, slice_get}
use Rattle.std.proofs.Common.{refl, sym, ap, ◌∙◌, arith, drop-cons}
use Rattle.std.specs.Option.{option_or, ForSome}
use Rattle.std.specs.Str.{bytes_eq}
use Rattle.std.proofs.lemmas.Option.{slice_get_read}
use Rattle.std.proofs.lemmas.List.{map-append}
use Rattle.strm_io.specs.MemoryStates.{FilesState}
use Rattle.strm_io.specs.MemoryFiles.{file_of, store_of, entry_bytes, left_of}
use Rattle.strm_io.specs.Store.{held}
use Rattle.strm_io.specs.declared.memory_files.Entry.{Entry}

-- what the name finds where the entries before i gave this, since a later entry hides them
abbrev pub found_from : List Entry → List ℕ → ℕ → Option (List ℕ) → Option (List ℕ)
found_from entries name i before = option_or (held (store_of (drop i entries)) name) before

-- the bytes of an entry, if it has the name
abbrev pub named_bytes : Entry → Bool → Option (List ℕ)
named_bytes entry same = if same then Some entry.bytes.items else None

-- the entries from i on are the one at i and those behind it
drop-at : (entries : List Entry) (i : ℕ) (entry : Entry) →
    i < length entries → entry ≡ get_or entries i entry →
    drop i entries ≡ entry ∷ drop (i + 1) entries
drop-at entries i entry within is =
    let next : i + 1 ≡ suc i = omega arith in
    drop-cons entries i entry within
    ∙ ap (λ e. e ∷ drop (suc i) entries) (sym is)
    ∙ ap (λ j. entry ∷ drop j entries) (sym next)

-- the first of two alternatives and then a third, or the first and then the other two
option_or_assoc : (a b c : Option (List ℕ)) → option_or (option_or a b) c ≡ option_or a (option_or b c)
option_or_assoc None b c = refl
option_or_assoc (Some x) b c = refl

-- the entry at i gives its bytes to the search from i + 1 on, if it has the name
pub found_from-step : (entries : List Entry) (name : List ℕ) (i : ℕ) (entry : Entry) (before : Option (List ℕ)) (same : Bool) →
    i < length entries → entry ≡ get_or entries i entry → bytes_eq (string_bytes entry.name) name ≡ same →
    found_from entries name i before ≡ found_from entries name (i + 1) (option_or (named_bytes entry same) before)
found_from-step entries name i entry before same within is test =
    let behind = held (store_of (drop (i + 1) entries)) name in
    ap (λ es. option_or (held (store_of es) name) before) (drop-at entries i entry within is)
    ∙ ap (λ b. option_or (option_or behind (named_bytes entry b)) before) test
    ∙ option_or_assoc behind (named_bytes entry same) before

-- the entry that was read at i is the one there
pub entry_bytes-at : (entries : List Entry) (i : ℕ) (entry : Entry) →
    i < length entries → entry ≡ get_or entries i entry →
    entry_bytes (slice_get entries i) ≡ entry.bytes.items
entry_bytes-at entries i entry within is =
    ap entry_bytes (slice_get_read entries (length entries) i entry refl within is)

-- an entry stays where another is added behind
slice_get-append : (entries : List Entry) (entry : Entry) (i : ℕ) →
    i < length entries → slice_get (entries ++ entry ∷ []) i ≡ slice_get entries i
slice_get-append [] entry i within = absurd (omega arith)
slice_get-append (e ∷ es) entry zero within = refl
slice_get-append (e ∷ es) entry (suc i) within = slice_get-append es entry i (omega arith)

-- one more entry leaves what is left of the open one
left_of-append : (entries : List Entry) (entry : Entry) (opened : Option ℕ) (read : ℕ) →
    ForSome opened (λ i. i < length entries) →
    left_of (entries ++ entry ∷ []) opened read ≡ left_of entries opened read
left_of-append entries entry None read within = refl
left_of-append entries entry (Some i) read within =
    ap (λ e. drop read (entry_bytes e)) (slice_get-append entries entry i (within i refl))

-- what is seen of the files once one more entry stands behind the others
pub state-append : (entries longer : List Entry) (entry : Entry) (file : List ℕ × List ℕ) (opened : Option ℕ) (read faults misses : ℕ) →
    ForSome opened (λ i. i < length entries) → longer ≡ entries ++ entry ∷ [] → file_of entry ≡ file →
    ◌≡◌ {A = FilesState}
    (record { files = store_of longer; left = left_of longer opened read; faults = faults; misses = misses })
    (record { files = store_of entries ++ file ∷ []; left = left_of entries opened read; faults = faults; misses = misses })
state-append entries longer entry file opened read faults misses within longer-is file-is =
    let files : store_of longer ≡ store_of entries ++ file ∷ [] =
    ap store_of longer-is
    ∙ map-append file_of entries (entry ∷ [])
    ∙ ap (λ f. store_of entries ++ f ∷ []) file-is in
    let left : left_of longer opened read ≡ left_of entries opened read =
    ap (λ l. left_of l opened read) longer-is
    ∙ left_of-append entries entry opened read within in
    cc
