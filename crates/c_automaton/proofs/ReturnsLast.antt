-- The statements before a return 0 that is the last of them.
use Rattle.std.proofs.Common.{◌≡◌, List, [], ◌∷◌, Option, Some, None, refl, sym, ap, ◌∙◌}
use Rattle.loop_ir.specs.declared.syntax.Verdict.TheVariants as verdict
use Rattle.loop_ir.specs.Statements.{Statement, Set, Read, If, Loop, Emit, EndRow, Ret, Block, Nil, Cons, join}
use Rattle.loop_ir.specs.StatementCopies.{block_from}
use Rattle.c_automaton.specs.Automaton.{behind, before_return}
use Rattle.c_automaton.proofs.Completions.{one_statement}

abbrev pub last_return : Block
last_return = one_statement (Ret verdict.Done)

before_further : (st t : Statement) (ss : List Statement) → before_return (st ∷ t ∷ ss) ≡ behind st (before_return (t ∷ ss))
before_further (Set v w) t ss = refl
before_further (Read v a w) t ss = refl
before_further (If u a b) t ss = refl
before_further (Loop u b) t ss = refl
before_further (Emit w) t ss = refl
before_further EndRow t ss = refl
before_further (Ret verdict.Done) t ss = refl
before_further (Ret verdict.Trap) t ss = refl

pub record ReturnsLast (ss : List Statement) (body : Block) : Type 0 where
  pub before : List Statement
  pub found : before_return ss ≡ Some before
  pub is : block_from before ≡ body

further : (st t : Statement) (ss : List Statement) (u : Statement) (body : Block) → st ≡ u → ReturnsLast (t ∷ ss) body → ReturnsLast (st ∷ t ∷ ss) (Cons u body)
further st t ss u body e h =
    let b = h.before in
    let i : block_from b ≡ body = h.is in
    record { before = st ∷ b; found = before_further st t ss ∙ ap (behind st) h.found; is = cc }

pub returns_last : (ss : List Statement) (body : Block) → block_from ss ≡ join body last_return → ReturnsLast ss body
returns_last [] Nil e = absurd cc
returns_last [] (Cons u us) e = absurd cc
returns_last (st ∷ []) Nil e = let i : st ≡ Ret verdict.Done = cc in record { before = []; found = ap (λ (t : Statement). before_return (t ∷ [])) i; is = refl }
returns_last (st ∷ t ∷ ss) Nil e = absurd cc
returns_last (st ∷ []) (Cons u us) e = let i : Nil ≡ join us last_return = cc in absurd (no_end us i)
  where
    no_end : (b : Block) → Nil ≡ join b last_return → ⊥
    no_end Nil i = cc
    no_end (Cons v vs) i = cc
returns_last (st ∷ t ∷ ss) (Cons u us) e =
    let i : block_from (t ∷ ss) ≡ join us last_return = cc in
    let j : st ≡ u = cc in
    further st t ss u us j (returns_last (t ∷ ss) us i)

last_is : (st : Statement) (before : List Statement) → before_return (st ∷ []) ≡ Some before → Cons st Nil ≡ join (block_from before) last_return
last_is (Ret verdict.Done) before e = let i : [] ≡ before = cc in ap (λ (b : List Statement). join (block_from b) last_return) i
last_is (Ret verdict.Trap) before e = absurd cc
last_is (Set v w) before e = absurd cc
last_is (Read v a w) before e = absurd cc
last_is (If u a b) before e = absurd cc
last_is (Loop u b) before e = absurd cc
last_is (Emit w) before e = absurd cc
last_is EndRow before e = absurd cc

behind_is : (st : Statement) (ss before : List Statement) (o : Option (List Statement)) → behind st o ≡ Some before → ((b : List Statement) → o ≡ Some b → block_from ss ≡ join (block_from b) last_return)
    → Cons st (block_from ss) ≡ join (block_from before) last_return
behind_is st ss before None e f = absurd cc
behind_is st ss before (Some b) e f =
    let i : st ∷ b ≡ before = cc in
    ap (Cons st) (f b refl) ∙ ap (λ (c : List Statement). join (block_from c) last_return) i

pub ends_in_return : (ss before : List Statement) → before_return ss ≡ Some before → block_from ss ≡ join (block_from before) last_return
ends_in_return [] before e = absurd cc
ends_in_return (st ∷ []) before e = last_is st before e
ends_in_return (st ∷ t ∷ ss) before e =
    behind_is st (t ∷ ss) before (before_return (t ∷ ss)) (sym (before_further st t ss) ∙ e) (λ b f. ends_in_return (t ∷ ss) b f)
