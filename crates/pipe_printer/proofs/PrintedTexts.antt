-- How a printed text ends: with a line feed in place of the last gap.
use Rattle.std.proofs.Common.{◌≡◌, ◌-◌, ℕ, List, [], ◌∷◌, ◌++◌, length, take, true, refl, append_assoc, codes, arith}
use Rattle.std.proofs.lemmas.Grind.{common_steps}
use Rattle.pipe_lexer.specs.Characters.{is_blank}
use Rattle.pipe_lexer.specs.declared.symbol.Symbol.TheVariants.{Semicolon}
use Rattle.pipe_tree.specs.Tokens.{What, Named, Number, Key, Sym}
use Rattle.pipe_printer.specs.Printing.{spelling, gap, run_text, spaced_text}

-- one blank stands between two tokens
pub record GapIsBlank (w : What) : Type 0 where
  pub blank : ℕ
  pub is_blank : is_blank blank ≡ true
  pub gap_is : gap w ≡ blank ∷ []

pub gap_is_blank : (w : What) → GapIsBlank w
gap_is_blank (Named text) = record { blank = 32; is_blank = refl; gap_is = refl }
gap_is_blank (Number n) = record { blank = 32; is_blank = refl; gap_is = refl }
gap_is_blank (Key k) = record { blank = 32; is_blank = refl; gap_is = refl }
gap_is_blank (Sym s) =
    elim s as (λ t. GapIsBlank (Sym t)) [ Semicolon ↦ record { blank = 10; is_blank = refl; gap_is = refl } | _ ↦ record { blank = 32; is_blank = refl; gap_is = refl } ]

-- tokens with their gaps are a text and a last character, and with a line feed in its place they are spaced
record Ending (ws : List What) : Type 0 where
  text : List ℕ
  last : ℕ
  run : run_text ws ≡ text ++ last ∷ []
  spaced_is : spaced_text ws ≡ text ++ codes "\n"

ending : (w : What) (ws : List What) → Ending (w ∷ ws)
ending w [] =
    let g = gap_is_blank w in
    record { text = spelling w; last = g.blank; run = rw g.gap_is (simp append_assoc); spaced_is = refl }
ending w (v ∷ ws) =
    let e = ending v ws in
    record { text = spelling w ++ gap w ++ e.text; last = e.last; run = rw e.run (simp append_assoc); spaced_is = rw e.spaced_is (simp append_assoc) }

-- all but the last character
all_but_last : (text : List ℕ) (x : ℕ) → take (length (text ++ x ∷ []) - 1) (text ++ x ∷ []) ≡ text
all_but_last text x = grind (arith, common_steps)

fed : (w : What) (ws : List What) → take (length (run_text (w ∷ ws)) - 1) (run_text (w ∷ ws)) ++ codes "\n" ≡ spaced_text (w ∷ ws)
fed w ws = let e = ending w ws in rw (e.spaced_is, e.run, all_but_last) refl

-- a line feed in place of the last character makes tokens with their gaps spaced
pub ends_in_feed : (ws vs : List What) (v : What) →
    take (length (run_text (ws ++ v ∷ vs)) - 1) (run_text (ws ++ v ∷ vs)) ++ codes "\n" ≡ spaced_text (ws ++ v ∷ vs)
ends_in_feed [] vs v = fed v vs
ends_in_feed (w ∷ ws) vs v = fed w (ws ++ v ∷ vs)
