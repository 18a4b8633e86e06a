-- The decimal of a word's signed value.
use Rattle.std.specs.Prelude.{ℕ, List, [], ◌++◌, Bool, true, false, codes, decimal}
use Rattle.strm_num.specs.Magnitudes.{is_negative, magnitude_of}

-- the sign of a number, where it is below 0
abbrev pub sign_text : Bool → List ℕ
sign_text true = codes "-"
sign_text false = []

-- the signed value of a word in decimal
abbrev pub signed_text : ℕ → List ℕ
signed_text w = sign_text (is_negative w) ++ decimal (magnitude_of w)
