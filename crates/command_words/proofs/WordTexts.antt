-- Words and their texts.
use Rattle.std.proofs.Common.{◌≡◌, ℕ, ◌<◌, List, [], ◌∷◌, None, length, drop, String, string_bytes, refl, rules}
use Rattle.std.specs.declared.alloc.Global.{Global}
use Rattle.std.specs.List.{list_all}
use Rattle.std.proofs.lemmas.List.{drop-map}
use Rattle.std.proofs.lemmas.List.Folds.{list_all-map}
use Rattle.command_words.specs.Bindings.{is_binding}
use Rattle.command_words.specs.Commands.{job_of, texts_of}

-- the words from some number on are bindings as texts where they are as strings
pub bindings_behind : (n : ℕ) (words : List (String Global))
    → list_all is_binding (drop n (texts_of words)) ≡ list_all (λ word. is_binding (string_bytes word)) (drop n words)
bindings_behind n words = search (rules, drop-map, list_all-map)

-- fewer than two words are no command
pub few_words : (words : List (String Global)) → length words < 2 → job_of (texts_of words) ≡ None
few_words [] _ = refl
few_words (_ ∷ []) _ = refl
few_words (_ ∷ _ ∷ words) few = search rules
