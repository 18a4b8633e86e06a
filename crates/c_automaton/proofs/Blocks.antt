-- A block that goes on begins with a statement, or is at its end.
use Rattle.std.proofs.Common.{◌≡◌, List, [], ◌∷◌, ◌++◌, refl, sym, ap, subst, inl, inr, ◌⊎◌}
use Rattle.c_tokens.specs.Pieces.{What}
use Rattle.c_grammar.specs.Grammar.{Then, IsStatement, IsBlock}
use Rattle.loop_ir.specs.Statements.{Statement, Block, Nil, Cons, join}
use Rattle.loop_ir.specs.StatementCopies.{block_from}
use Rattle.c_automaton.proofs.Completions.{BlockThen, one_statement}

-- ---- statements after statements

pub join_nil : (b : Block) → join b Nil ≡ b
join_nil Nil = refl
join_nil (Cons st ss) = ap (Cons st) (join_nil ss)

pub join_one : (b : Block) (st : Statement) (ss : Block) → join (join b (one_statement st)) ss ≡ join b (Cons st ss)
join_one Nil st ss = refl
join_one (Cons t ts) st ss = ap (Cons t) (join_one ts st ss)

pub block_from_last : (ss : List Statement) (st : Statement) → block_from (ss ++ st ∷ []) ≡ join (block_from ss) (one_statement st)
block_from_last [] st = refl
block_from_last (s ∷ ss) st = ap (Cons s) (block_from_last ss st)

-- ---- blocks that go on

-- a statement, and then something holds of it and of the rest
pub record StatementThen (then_holds : Statement → List What → Type 0) (x : List What) : Type 0 where
  pub statement : Statement
  pub is : Then (IsStatement statement) (then_holds statement) x

-- more statements after these, and then something holds of all of them and of the rest
abbrev pub MoreThen : (Block → List What → Type 0) → Block → List What → Type 0
MoreThen then_holds here x = BlockThen (λ b. then_holds (join here b)) x

module _ (then_holds : Block → List What → Type 0) where
  first_of_block : (here b : Block) (x rest : List What) → IsBlock b x rest → then_holds (join here b) rest → then_holds here x ⊎ StatementThen (λ st. MoreThen then_holds (join here (one_statement st))) x
  first_of_block here Nil x rest e h =
      inl (subst (λ (b : Block). then_holds b x) (join_nil here) (subst (λ (y : List What). then_holds (join here Nil) y) (sym e) h))
  first_of_block here (Cons st ss) x rest e h =
      inr (record {
        statement = st;
        is =
            record {
              rest = e.rest;
              phrase_is = e.phrase_is;
              goes_on = record { block = ss; is = record { rest = rest; phrase_is = e.goes_on; goes_on = subst (λ (b : Block). then_holds b rest) (sym (join_one here st ss)) h } };
            };
      })

  -- the block is at its end, or begins with a statement
  pub more_first : (here : Block) (x : List What) → MoreThen then_holds here x → then_holds here x ⊎ StatementThen (λ st. MoreThen then_holds (join here (one_statement st))) x
  more_first here x h = first_of_block here h.block x h.is.rest h.is.phrase_is h.is.goes_on

  pub no_more : (here : Block) (x : List What) → then_holds here x → MoreThen then_holds here x
  no_more here x h = record { block = Nil; is = record { rest = x; phrase_is = refl; goes_on = subst (λ (b : Block). then_holds b x) (sym (join_nil here)) h } }

  pub one_more : (here : Block) (st : Statement) (x r : List What) → IsStatement st x r → MoreThen then_holds (join here (one_statement st)) r → MoreThen then_holds here x
  one_more here st x r e h =
      let b = h.block in
      record {
        block = Cons st b;
        is =
            record {
              rest = h.is.rest;
              phrase_is = record { rest = r; phrase_is = e; goes_on = h.is.phrase_is };
              goes_on = subst (λ (c : Block). then_holds c h.is.rest) (join_one here st b) h.is.goes_on;
            };
      }
