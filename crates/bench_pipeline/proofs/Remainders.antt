-- The remainders of low words, and the words between 0 and a few.
use Rattle.std.proofs.Common.{◌≡◌, ℕ, zero, suc, ◌^◌, ◌≤◌, length, refl, arith}
use Rattle.std.proofs.lemmas.Bool.{lt-ltb}
use Rattle.std.specs.Prelude.{pos}
use Rattle.strm_num.specs.Words.{signed, remainder_of}
use Rattle.list_denotation.specs.Denotation.{words_between}
use Rattle.bench_pipeline.proofs.Generator.{IsItem}

signed_item : (x : ℕ) → IsItem x → signed x ≡ pos x
signed_item x h = rw (lt-ltb x (2 ^ 63) (omega arith)) refl

pub remainder_by_4 : (x : ℕ) → IsItem x → remainder_of x 4 ≤ 3
remainder_by_4 x h = rw (signed_item x h) (omega arith)

pub remainder_by_3 : (x : ℕ) → IsItem x → remainder_of x 3 ≤ 2
remainder_by_3 x h = rw (signed_item x h) (omega arith)

pub few_between : (k : ℕ) → k ≤ 3 → length (words_between 0 k) ≡ k
few_between zero le = refl
few_between (suc zero) le = refl
few_between (suc (suc zero)) le = refl
few_between (suc (suc (suc zero))) le = refl
few_between (suc (suc (suc (suc k)))) le = absurd (omega (arith, le))
