-- What openings do: they put the words of a row that reads no bound word into variables, from one on.
use Rattle.std.proofs.Common.{◌≡◌, inr, ℕ, zero, suc, ◌+◌, ◌<◌, ◌≤◌, ◌^◌, List, [], ◌∷◌, length, refl, ap, ◌∙◌, subst, arith, All}
use Rattle.std.specs.Prelude.{IsTrue, slice_index}
use Rattle.std.specs.List.{range_with_len}
use Rattle.strm_num.specs.Words.{IsWord}
use Rattle.strm_num.proofs.Truths.{both_true}
use Rattle.list_denotation.specs.declared.input.Input.{Input}
use Rattle.list_denotation.specs.Literals.{has_words, all_have_words}
use Rattle.list_denotation.specs.Scopes.{is_bound, all_bound}
use Rattle.list_denotation.specs.Terms.{Term}
use Rattle.list_denotation.specs.Typing.{is_undivided, all_undivided}
use Rattle.list_denotation.specs.Values.{Got, Is, Fails, value}
use Rattle.loop_ir.specs.Meaning.{Runs, run}
use Rattle.loop_ir.specs.Statements.{Block}
use Rattle.loop_ir.proofs.Joins.{after_nothing, goes_on}
use Rattle.state_alloc.specs.Layouts.{IsLaidOut}
use Rattle.expr_lower.specs.Contract.{Scope, IsIn as InVariable, GoesOn, ComesTo, PutsValue}
use Rattle.expr_lower.specs.Costs.{temps_of}
use Rattle.expr_lower.specs.Lowering.{lowered_into}
use Rattle.stateful_core.specs.WordValues.{or_zero, word_value, word_values}
use Rattle.turn_blocks.specs.Temporaries.{row_temps}
use Rattle.turn_blocks.specs.TurnContract.{words_at, IsIn, HasWordInputs}
use Rattle.loop_emit.specs.Emission.{openings}
use Rattle.loop_emit.specs.Laws.{Laws}
use Rattle.loop_emit.proofs.Variables.{all_none, scope_in_place}

-- an expression that opens something: it reads no bound word, its numbers are words, and so many temporaries are enough
pub record IsOpen (temps : ℕ) (e : Term) : Type 0 where
  pub bound : IsTrue (is_bound 0 e)
  pub undivided : IsTrue (is_undivided e)
  pub numbers : IsTrue (has_words e)
  pub few : temps_of e ≤ temps

pub record AreOpen (temps : ℕ) (es : List Term) : Type 0 where
  pub bound : IsTrue (all_bound 0 es)
  pub undivided : IsTrue (all_undivided es)
  pub numbers : IsTrue (all_have_words es)
  pub few : row_temps es ≤ temps

pub first_open : (temps : ℕ) (e : Term) (es : List Term) → AreOpen temps (e ∷ es) → IsOpen temps e
first_open temps e es opens =
    let few = opens.few in
    record {
      bound = (both_true (is_bound 0 e) (all_bound 0 es) opens.bound).0;
      undivided = (both_true (is_undivided e) (all_undivided es) opens.undivided).0;
      numbers = (both_true (has_words e) (all_have_words es) opens.numbers).0;
      few = omega (arith, few);
    }

pub rest_open : (temps : ℕ) (e : Term) (es : List Term) → AreOpen temps (e ∷ es) → AreOpen temps es
rest_open temps e es opens =
    let few = opens.few in
    record {
      bound = (both_true (is_bound 0 e) (all_bound 0 es) opens.bound).1;
      undivided = (both_true (is_undivided e) (all_undivided es) opens.undivided).1;
      numbers = (both_true (has_words e) (all_have_words es) opens.numbers).1;
      few = omega (arith, few);
    }

-- the statements put these words into the variables from v on, and leave those below it that are no temporaries
pub record Opens (temps : ℕ) (inputs : List Input) (block : Block) (env : List ℕ) (v n : ℕ) (words : List ℕ) : Type 0 where
  pub env' : List ℕ
  pub runs : (left : ℕ) → run inputs block env left ≡ Runs [] env' left
  pub same : length env' ≡ length env
  pub before : (x : ℕ) → temps ≤ x → x < v → slice_index env' x ≡ slice_index env x
  pub holds : IsIn env' (range_with_len v n) words

-- a scope without words, whose temporaries are the first ones
abbrev pub no_scope : ℕ → Scope
no_scope temps = record { rows = []; first_temp = 0; temps = temps }

pub no_words_laid_out : (temps v : ℕ) → temps ≤ v → v < 2 ^ 32 → IsLaidOut [] 0 temps v
no_words_laid_out temps v le few =
    record { few = few; temporaries = omega (arith, le); words = λ k d lt. absurd (omega (arith, lt)) }

module _ (laws : Laws) (temps : ℕ) where
  pub opening_puts : (e : Term) (v : ℕ) → temps ≤ v → v < 2 ^ 32 → IsOpen temps e → PutsValue (no_scope temps) e v (lowered_into [] e v 0)
  opening_puts e v le small opens =
      let laid_out = no_words_laid_out temps v le small in
      laws.values (no_scope temps) v e v laid_out
      (record { words = opens.numbers; bound = opens.bound; temporaries = opens.few; is_target = laws.target (no_scope temps) v e v laid_out opens.bound (omega arith) })

  module _ (inputs : List Input) (has : HasWordInputs inputs) where
    abbrev word_goes_on : Term → ℕ → List ℕ → Type 0
    word_goes_on e v env = GoesOn inputs (lowered_into [] e v 0) env v 0 temps (InVariable v) (word_value e [] inputs)

    nothing_in : (env : List ℕ) → IsIn env [] []
    nothing_in env = record { there = refl; are_words = all_none IsWord }

    opened_one : (e : Term) (v : ℕ) (env : List ℕ) → temps ≤ v → v < length env → length env < 2 ^ 32 → IsOpen temps e → word_goes_on e v env
    opened_one e v env le inside small opens = of_value (value e [] inputs) (laws.undivided_value [] inputs e opens.undivided) comes
      where
        top : 0 + temps ≡ temps
        top = omega arith

        comes : ComesTo inputs (lowered_into [] e v 0) env v 0 temps (InVariable v) (value e [] inputs)
        comes =
            subst (λ n. ComesTo inputs (lowered_into [] e v 0) env v 0 n (InVariable v) (value e [] inputs)) top
            ((opening_puts e v le (omega (arith, inside, small)) opens).gives inputs [] env inside (omega (arith, le, inside))
            (laws.in_place [] [] inputs env e opens.bound (scope_in_place inputs env [] [] has (nothing_in env))))

        of_value : (g : Got ℕ) → ((w : ℕ) × (g ≡ Is w)) → ComesTo inputs (lowered_into [] e v 0) env v 0 temps (InVariable v) g → GoesOn inputs (lowered_into [] e v 0) env v 0 temps (InVariable v) (or_zero g)
        of_value (Is w) is goes = goes
        of_value (Fails f) is goes = absurd cc

    pub opened : (es : List Term) (v : ℕ) (env : List ℕ) → temps ≤ v → v + length es ≤ length env → length env < 2 ^ 32 → AreOpen temps es → Opens temps inputs (openings es v) env v (length es) (word_values es [] inputs)
    opened [] v env le room small opens =
        record { env' = env; runs = λ left. refl; same = refl; before = λ x low high. refl; holds = nothing_in env }
    opened (e ∷ es) v env le room small opens =
        let first = opened_one e v env le (omega (arith, room)) small (first_open temps e es opens) in
        let size = first.kept.same in
        let rest = opened es (v + 1) first.env' (omega (arith, le)) (omega (arith, room, size)) (omega (arith, small, size)) (rest_open temps e es opens) in
        record {
          env' = rest.env';
          runs = λ left.
              goes_on inputs (lowered_into [] e v 0) (openings es (v + 1)) [] env first.env' left (first.runs left)
              ∙ after_nothing (run inputs (openings es (v + 1)) first.env' left)
              ∙ rest.runs left;
          same = rest.same ∙ size;
          before = λ x low high.
              rest.before x low (omega (arith, high)) ∙ first.kept.others x (λ e. omega (arith, high, e)) (inr low);
          holds = record {
            there =
                ap (λ w. w ∷ words_at rest.env' (range_with_len (v + 1) (length es))) (rest.before v le (omega arith) ∙ first.holds)
                ∙ ap (λ ws. word_value e [] inputs ∷ ws) rest.holds.there;
            are_words = more_words (word_value e [] inputs) (word_values es [] inputs) first.word rest.holds.are_words;
          };
        }
      where
        more_words : (x : ℕ) (xs : List ℕ) → IsWord x → All IsWord xs → All IsWord (x ∷ xs)
        more_words x xs word all zero d lt = word
        more_words x xs word all (suc k) d lt = all k d (omega (arith, lt))
