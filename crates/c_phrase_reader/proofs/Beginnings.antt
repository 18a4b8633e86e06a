-- A phrase begins inside any open forms with what is wanted there, except with a !.
use Rattle.std.proofs.Common.{◌≡◌, List, [], ◌∷◌, refl}
use Rattle.c_tokens.specs.declared.symbol.Symbol.TheVariants as sym
use Rattle.c_words.specs.declared.token.CToken.{CToken}
use Rattle.c_words.specs.declared.token.CToken.TheVariants as token
use Rattle.c_automaton.specs.declared.forms.Want.{Want}
use Rattle.c_automaton.specs.Phrases.{Frame, Open, Left, Negation, begins, phrase_begins, wanted}

pub begins_as_wanted : (outer : Want) (fs : List Frame) (t : CToken) → (t ≡ token.Sym sym.Bang → ⊥) → begins outer fs t ≡ phrase_begins (wanted outer fs) fs t
begins_as_wanted outer [] t h = refl
begins_as_wanted outer (Left o p ∷ fs) t h = refl
begins_as_wanted outer (Negation ∷ fs) t h = refl
begins_as_wanted outer (Open w ∷ fs) (token.Sym sym.Bang) h = absurd (h refl)
begins_as_wanted outer (Open w ∷ fs) t h = refl
