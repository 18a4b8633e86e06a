-- How deep the brackets of a C text are.
use Rattle.std.specs.Prelude.{ℕ, ◌+◌, ◌-◌, nat_le, Bool, true, ◌&&◌, List, [], ◌∷◌}
use Rattle.c_tokens.specs.declared.symbol.Symbol.TheVariants as sym
use Rattle.c_tokens.specs.Pieces.{What, Sym}
use Rattle.pipe_limits.specs.declared.TheConstants.{MOST_OPEN_BRACKETS}

-- how many brackets are open behind a token: ( and { open one, ) and } close one
abbrev pub depth_with : ℕ → What → ℕ
depth_with depth (Sym sym.OpenParen) = depth + 1
depth_with depth (Sym sym.OpenBrace) = depth + 1
depth_with depth (Sym sym.CloseParen) = depth - 1
depth_with depth (Sym sym.CloseBrace) = depth - 1
depth_with depth t = depth

-- the same behind several tokens
abbrev pub depth_behind : ℕ → List What → ℕ
depth_behind depth [] = depth
depth_behind depth (t ∷ x) = depth_behind (depth_with depth t) x

-- behind none of the tokens are more open than may be
abbrev pub is_within : ℕ → List What → Bool
is_within depth [] = true
is_within depth (t ∷ x) = nat_le (depth_with depth t) MOST_OPEN_BRACKETS && is_within (depth_with depth t) x
