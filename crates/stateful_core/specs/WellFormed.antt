-- When a core term is well formed: one test of scopes, variables, updates, divisions, and the number of its words.
use Rattle.std.specs.Prelude.{ℕ, ◌+◌, ◌^◌, Bool, true, ◌&&◌, ◌==◌, nat_lt, nat_le, List, length}
use Rattle.list_denotation.specs.Terms.{Term}
use Rattle.list_denotation.specs.Scopes.{is_bound, all_bound}
use Rattle.list_denotation.specs.Typing.{is_undivided, all_undivided}
use Rattle.stateful_core.specs.CoreTerms.{Action, Let, Read, KeepIf, StopUnless, Update, When, Actions, Nil, Cons, CoreTerm, Lin, Tr, Nest, Zip}
use Rattle.stateful_core.specs.CoreShapes.{action_locals, actions_locals, core_scope, core_width}
use Rattle.stateful_core.specs.MostWords.{most_words}

-- an expression that reads the first n words alone, and holds no division
abbrev pub is_sure : ℕ → Term → Bool
is_sure n e = is_bound n e && is_undivided e

abbrev pub all_sure : ℕ → List Term → Bool
all_sure n es = all_bound n es && all_undivided es

-- acts where n words are bound, m of them the state: they read bound words alone, write within the state, and hold no
-- division but in a Let
module _ (m : ℕ) where
  abbrev mutual
    pub is_sound_action : ℕ → Action → Bool
    is_sound_action n (Let e) = is_bound n e
    is_sound_action n (Read k e) = is_sure n e
    is_sound_action n (KeepIf e) = is_sure n e
    is_sound_action n (StopUnless e) = is_sure n e
    is_sound_action n (Update k es) = nat_le (k + length es) m && all_sure n es
    is_sound_action n (When e a b) = is_sure n e && (are_sound_actions n a && are_sound_actions n b)

    pub are_sound_actions : ℕ → Actions → Bool
    are_sound_actions n Nil = true
    are_sound_actions n (Cons a acts) = is_sound_action n a && are_sound_actions (n + action_locals a) acts

-- the parts of a Lin or a Tr in a scope of so many words, where the local words begin as a row of this width
abbrev pub are_sound_parts : ℕ → ℕ → List Term → Term → Actions → List Term → Bool
are_sound_parts scope width init guard acts item =
    all_sure scope init
    && (is_sure (scope + length init) guard
    && (are_sound_actions (length init) (scope + length init + width) acts
    && all_sure (scope + length init + width + actions_locals acts) item))

-- the scopes fit, and so do the parts of each Lin and Tr
abbrev pub is_sound_core : CoreTerm → Bool
is_sound_core (Lin scope init guard acts item) = are_sound_parts scope 0 init guard acts item
is_sound_core (Tr scope of init guard acts item) =
    is_sound_core of && (core_scope of == scope && are_sound_parts scope (core_width of) init guard acts item)
is_sound_core (Nest of inner) = is_sound_core of && (is_sound_core inner && core_scope inner == core_scope of + core_width of)
is_sound_core (Zip left right) = is_sound_core left && (is_sound_core right && core_scope right == core_scope left)

-- and a variable of each word has a number of 32 bits
abbrev pub is_well_formed : CoreTerm → Bool
is_well_formed c = is_sound_core c && nat_lt (most_words c 0) (2 ^ 32)
