use Rattle.std.proofs.Common.{◌≡◌, ◌≢◌, ℕ, List, ◌++◌, Option, None, Some, MatchOption, Bor, codes, inl, inr}
use Rattle.std.proofs.lemmas.Bool.Decides.{Decides-eqb}
use Rattle.std.proofs.lemmas.Slice.Eq.{strip_prefix_is}
use Rattle.c_faults.specs.Answers.{HasNoHeader}
use Rattle.c_grammar.specs.Reading.{HasHeader}
use Rattle.c_subset_reader.proofs.header.behind_header.Goals as goal

second_header : (c : List ℕ) (r : Option (Bor (List ℕ))) → ((rest : List ℕ) → c ≢ codes "#include \"pipeline.h\"\n" ++ rest)
    → MatchOption r ((rest : List ℕ) → c ≢ codes "#include \"pipeline.h\"\r\n" ++ rest) (λ x. c ≡ codes "#include \"pipeline.h\"\r\n" ++ x.now)
    → MatchOption r (HasNoHeader c) (λ text. HasHeader c text.now)
second_header c None first second = λ rest h. elim h [ inl e ↦ first rest e | inr e ↦ second rest e ]
second_header c (Some text) first second = inr second

pub returns-clause-header : goal.returns-clause-header
returns-clause-header c =
    second_header c.args.c.now c.strip_prefix-2.result
    (strip_prefix_is Decides-eqb c.args.c.now (codes "#include \"pipeline.h\"\n") None c.in_default.ensures.cases)
    (strip_prefix_is Decides-eqb c.args.c.now (codes "#include \"pipeline.h\"\r\n") c.strip_prefix-2.result c.strip_prefix-2.ensures.cases)
