-- Where comments end.
use Rattle.std.specs.Prelude.{◌≡◌, ℕ, ◌+◌, List, [], ◌∷◌, ◌++◌, true, Option, Some, None, if◌then◌else◌}
use Rattle.c_tokens.specs.Characters.{is_in_comment}
use Rattle.c_tokens.specs.Pieces.{begins_with_pair}

-- this many characters more
abbrev pub further : ℕ → Option ℕ → Option ℕ
further n None = None
further n (Some m) = Some (n + m)

-- how many characters of a comment there are up to and with the first */, or none where it has no end
abbrev pub comment_end : List ℕ → Option ℕ
comment_end [] = None
comment_end (c ∷ cs) = if begins_with_pair 42 47 (c ∷ cs) then Some 2 else if is_in_comment c then further 1 (comment_end cs) else None

abbrev pub AreInComment : List ℕ → Type 0
AreInComment [] = Unit {0}
AreInComment (c ∷ cs) = (is_in_comment c ≡ true) × AreInComment cs

-- behind characters that may stand in a comment none begins that has an end
abbrev pub IsUnclosed : List ℕ → Type 0
IsUnclosed cs = (before behind : List ℕ) → AreInComment before → cs ≡ before ++ (47 ∷ 42 ∷ behind) → comment_end behind ≡ None
