-- The names, the constants and the counts of statements after statements are those of both parts.
use Rattle.std.proofs.Common.{◌≡◌, ◌+◌, max, Bool, arith}
use Rattle.std.specs.Prelude.{IsTrue}
use Rattle.strm_num.proofs.Truths.{both_true, true_both}
use Rattle.loop_ir.specs.Statements.{Operand, Block, Nil, Cons, join}
use Rattle.loop_ir.specs.Leaves.{statement_leaves, block_leaves}
use Rattle.loop_ir.specs.DeclaredNames.{Names, is_named_leaf, block_names}
use Rattle.loop_ir.specs.Constants.{is_word_leaf, block_has_words}
use Rattle.loop_ir.specs.Counts.{block_count, block_loops, block_nest}

pub leaves_joined : (test : Operand → Bool) (a b : Block) → IsTrue (block_leaves test a) → IsTrue (block_leaves test b) → IsTrue (block_leaves test (join a b))
leaves_joined test Nil b h k = k
leaves_joined test (Cons s ss) b h k =
    let parts = both_true (statement_leaves test s) (block_leaves test ss) h in
    true_both (statement_leaves test s) (block_leaves test (join ss b)) parts.0 (leaves_joined test ss b parts.1 k)

pub names_joined : (may : Names) (a b : Block) → IsTrue (block_names may a) → IsTrue (block_names may b) → IsTrue (block_names may (join a b))
names_joined may a b h k = leaves_joined (is_named_leaf may) a b h k

pub words_joined : (a b : Block) → IsTrue (block_has_words a) → IsTrue (block_has_words b) → IsTrue (block_has_words (join a b))
words_joined a b h k = leaves_joined is_word_leaf a b h k

pub count_join : (a b : Block) → block_count (join a b) ≡ block_count a + block_count b
count_join Nil b = omega arith
count_join (Cons s ss) b = omega (arith, count_join ss b)

pub loops_join : (a b : Block) → block_loops (join a b) ≡ block_loops a + block_loops b
loops_join Nil b = omega arith
loops_join (Cons s ss) b = omega (arith, loops_join ss b)

pub nest_join : (a b : Block) → block_nest (join a b) ≡ max (block_nest a) (block_nest b)
nest_join Nil b = omega arith
nest_join (Cons s ss) b = omega (arith, nest_join ss b)
