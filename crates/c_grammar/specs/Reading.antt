-- Which bytes read as which loop program.
use Rattle.std.specs.Prelude.{◌≡◌, ℕ, List, ◌++◌, map, codes, IsTrue, ◌⊎◌}
use Rattle.loop_ir.specs.DeclaredNames.{declared_names, block_names}
use Rattle.loop_ir.specs.Statements.{Routine}
use Rattle.c_tokens.specs.Cutting.{Token, AreTokensOf}
use Rattle.c_tokens.specs.Pieces.{What}
use Rattle.c_grammar.specs.Grammar.{IsProgram}

-- the bytes begin with the line of the header, which ends as lines do here or with a carriage return too
abbrev pub HasHeader : List ℕ → List ℕ → Type 0
HasHeader src rest = (src ≡ codes "#include \"pipeline.h\"\n" ++ rest) ⊎ (src ≡ codes "#include \"pipeline.h\"\r\n" ++ rest)

abbrev pub whats : List Token → List What
whats toks = map (λ t. t.what) toks

-- behind that line stand the tokens of this program, which names nothing that it doesn't declare
pub record Reads (src : List ℕ) (q : Routine) : Type 0 where
  pub rest : List ℕ
  pub header : HasHeader src rest
  pub toks : List Token
  pub tokens : AreTokensOf rest toks
  pub program : IsProgram q (whats toks)
  pub declared : IsTrue (block_names (declared_names q.params q.vars) q.body)
