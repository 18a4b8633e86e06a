-- Each part of a tree stands for something, or has a first fault: what the check of it gives.
use Rattle.std.proofs.Common.{◌≡◌, ℕ, zero, suc, ◌≤◌, List, [], ◌∷◌, ◌++◌, length, Option, Some, None, Bool, true, false, refl, sym, subst, arith}
use Rattle.std.proofs.lemmas.Bool.{leb-false, leb-true}
use Rattle.list_denotation.specs.declared.kind.Kind.{Kind}
use Rattle.list_denotation.specs.declared.kind.Kind.TheVariants as kind
use Rattle.list_denotation.specs.Terms.{Term, Finish, Pipeline}
use Rattle.pipe_tree.specs.Trees.{Formula, offset_of, Num, Truth, Name, Len, Neg, Not, Paren, Bin, And, Or, If, Row, Pattern, Stream, From, Source, Array, Range, Unfold, Zip, Stage, Map, Filter, TakeWhile, Take, Drop, Scan, FlatMap, Stages, Nil, Cons, Terminal, Fold, Print, Text}
use Rattle.pipe_lexer.specs.declared.operator.BinOp.{BinOp as Sign}
use Rattle.pipe_lexer.specs.declared.operator.InputKind.TheVariants as input
use Rattle.kind_rules.specs.declared.fault.TypeFault.{TypeFault}
use Rattle.kind_rules.specs.declared.fault.TypeFault.TheVariants as fault
use Rattle.kind_rules.specs.declared.meaning.Meaning.{Meaning}
use Rattle.kind_rules.specs.declared.meaning.Meaning.TheVariants as meaning
use Rattle.kind_rules.specs.Checked.{Checked, after}
use Rattle.kind_rules.specs.Checking.{check_of}
use Rattle.kind_rules.specs.Expressions.{Typed, Operands, value_named, array_named, both_of, alike_of, operation, expression_of, of_this_kind, has_division, first_division, if_undivided, opening_of, opening_kind}
use Rattle.kind_rules.specs.Inputs.{declared_names, outermost}
use Rattle.kind_rules.specs.FirstFault as fails
use Rattle.kind_rules.specs.FirstFault.{NoArray, Fails, FailsAs, BothFail, AlikeFail, OpeningFails, OpeningFailsAs, PartsFail, RowOfFails, RowFails, SeedFails, FirstUnlike, NextFails, PatternFails, PatternsFail, FoldingFails, TurnFails, TestFails, StreamFails, SourceFails, StagesFail, StageFails, TerminalFails, FirstFault}
use Rattle.kind_rules.specs.PatternScopes.{inside, inside_both, inside_of, inside_both_of}
use Rattle.kind_rules.specs.Rows.{TypedRow, parts_of, some_parts_of, row_of, seed_of, alike_parts, next_of}
use Rattle.kind_rules.specs.Scopes.{Bound, Scope, meaning_of, names_of, bind, pattern_of}
use Rattle.kind_rules.specs.Signs.{takes_ints}
use Rattle.kind_rules.specs.StandsFor as stands
use Rattle.kind_rules.specs.StandsFor.{Stands, Opens, Each, RowOf, RowStands, SeedStands, Binds, BindsBoth, Folds, StreamStands, SourceStands, StagesStand, StageStands, TerminalStands, StandsFor}
use Rattle.kind_rules.specs.Streams.{TypedStream, State, Turn, folding_of, turn_of, row_test, stream_of, source_of, stages_of, stage_of, terminal_of}
use Rattle.kind_rules.proofs.Answered.{Answered, answered_after, answered_unless, weaker}
use Rattle.kind_rules.proofs.Divisions.{division_none}
use Rattle.kind_rules.proofs.KindTests.{same_kind, unlike_kind, is_wide-only, is_wide-differs}
use Rattle.kind_rules.proofs.Names.{Differ, all_distinct, differ_join, names_answered}

-- ---- expressions

abbrev ExpressionIs : Scope → Formula → Type 0
ExpressionIs scope e = Answered (λ (t : Typed). Stands scope e t.kind t.term) (Fails scope e) (expression_of scope e)

name_answered : (scope : Scope) (at : ℕ) (n : List ℕ) (m : Option Meaning) → meaning_of scope n ≡ m
    → Answered (λ (t : Typed). Stands scope (Name at n) t.kind t.term) (Fails scope (Name at n)) (value_named at m)
name_answered scope at n None e = record { is = fails.unknown_name e }
name_answered scope at n (Some (meaning.Bound i k)) e = record { is = stands.bound_word e }
name_answered scope at n (Some (meaning.Input i input.Int)) e = record { is = stands.int_input e }
name_answered scope at n (Some (meaning.Input i input.Array)) e = record { is = fails.array_name e }

array_answered : (scope : Scope) (at : ℕ) (n : List ℕ) (m : Option Meaning) → meaning_of scope n ≡ m
    → Answered (λ (i : ℕ). meaning_of scope n ≡ Some (meaning.Input i input.Array)) (NoArray scope at n) (array_named at m)
array_answered scope at n None e = record { is = fails.absent e }
array_answered scope at n (Some (meaning.Bound i k)) e = record { is = fails.word e }
array_answered scope at n (Some (meaning.Input i input.Int)) e = record { is = fails.int e }
array_answered scope at n (Some (meaning.Input i input.Array)) e = record { is = e }

kind_answered : (scope : Scope) (k : Kind) (e : Formula) → ExpressionIs scope e → Answered (λ (x : Term). Stands scope e k x) (FailsAs scope k e) (of_this_kind scope k e)
kind_answered scope k e h =
    answered_after _ _ h (λ f b. fails.itself b)
    (λ t s. answered_unless _ _ _ (λ other. fails.other_kind s (unlike_kind t.kind k other))
    (λ same. record { is = subst (λ (j : Kind). Stands scope e j t.term) (same_kind t.kind k same) s }))

both_answered : (scope : Scope) (k : Kind) (a b : Formula) → ExpressionIs scope a → ExpressionIs scope b
    → Answered (λ (p : Operands). Stands scope a k p.left × Stands scope b k p.right) (BothFail scope k a b) (both_of scope k a b)
both_answered scope k a b ha hb =
    answered_after _ _ (kind_answered scope k a ha) (λ f l. fails.left l)
    (λ x s. answered_after _ _ (kind_answered scope k b hb) (λ f r. fails.right s r) (λ y t. record { is = (s, t) }))

alike_answered : (scope : Scope) (a b : Formula) → ExpressionIs scope a → ExpressionIs scope b
    → Answered (λ (p : Operands). Stands scope a p.kind p.left × Stands scope b p.kind p.right) (AlikeFail scope a b) (alike_of scope a b)
alike_answered scope a b ha hb =
    answered_after _ _ ha (λ f l. fails.first l)
    (λ x s. answered_after _ _ (kind_answered scope x.kind b hb) (λ f r. fails.second s r) (λ y t. record { is = (s, t) }))

operation_answered : (scope : Scope) (at : ℕ) (o : Sign) (q : ℕ) (a b : Formula) (ints : Bool) → takes_ints o ≡ ints → ExpressionIs scope a → ExpressionIs scope b
    → Answered (λ (t : Typed). Stands scope (Bin at o q a b) t.kind t.term) (Fails scope (Bin at o q a b))
    (operation o ints (offset_of a) (offset_of b) (expression_of scope a) (expression_of scope b))
operation_answered scope at o q a b true is ha hb =
    answered_after _ _ (both_answered scope kind.Int a b ha hb) (λ f h. fails.ints is h) (λ p h. record { is = stands.ints is h.0 h.1 })
operation_answered scope at o q a b false is ha hb =
    answered_after _ _ (alike_answered scope a b ha hb) (λ f h. fails.one_kind is h) (λ p h. record { is = stands.one_kind is h.0 h.1 })

expression_answered : (scope : Scope) (e : Formula) → ExpressionIs scope e
expression_answered scope (Num at w) = record { is = stands.number }
expression_answered scope (Truth at b) = record { is = stands.truth }
expression_answered scope (Name at n) = name_answered scope at n (meaning_of scope n) refl
expression_answered scope (Len at q n) =
    answered_after _ _ (array_answered scope q n (meaning_of scope n) refl) (λ f b. fails.no_array b) (λ i h. record { is = stands.array_length h })
expression_answered scope (Paren at a) = weaker (expression_of scope a) (expression_answered scope a) (λ t s. stands.parentheses s) (λ f b. fails.parentheses b)
expression_answered scope (Neg at a) =
    answered_after _ _ (kind_answered scope kind.Int a (expression_answered scope a)) (λ f b. fails.minus b) (λ x s. record { is = stands.minus s })
expression_answered scope (Not at a) =
    answered_after _ _ (kind_answered scope kind.Bool a (expression_answered scope a)) (λ f b. fails.not b) (λ x s. record { is = stands.not s })
expression_answered scope (Bin at o q a b) = operation_answered scope at o q a b (takes_ints o) refl (expression_answered scope a) (expression_answered scope b)
expression_answered scope (And at q a b) =
    answered_after _ _ (both_answered scope kind.Bool a b (expression_answered scope a) (expression_answered scope b)) (λ f h. fails.conjunction h)
    (λ p h. record { is = stands.conjunction h.0 h.1 })
expression_answered scope (Or at q a b) =
    answered_after _ _ (both_answered scope kind.Bool a b (expression_answered scope a) (expression_answered scope b)) (λ f h. fails.disjunction h)
    (λ p h. record { is = stands.disjunction h.0 h.1 })
expression_answered scope (If at c a b) =
    answered_after _ _ (kind_answered scope kind.Bool c (expression_answered scope c)) (λ f h. fails.condition h)
    (λ z s. answered_after _ _ (alike_answered scope a b (expression_answered scope a) (expression_answered scope b)) (λ f h. fails.branches s h)
    (λ p h. record { is = stands.choice s h.0 h.1 }))

undivided_answered : {A : Type 0} {E : TypeFault → Type 0} (e : Formula) (d : Option ℕ) (a : A) → first_division e ≡ d → ((at : ℕ) → first_division e ≡ Some at → E (fault.DivisionInOpening at))
    → Answered (λ (b : A). (a ≡ b) × (has_division e ≡ false)) E (if_undivided d a)
undivided_answered e None a is bad = record { is = (refl, division_none e is) }
undivided_answered e (Some at) a is bad = record { is = bad at is }

opening_answered : (scope : Scope) (e : Formula) → Answered (λ (t : Typed). Opens scope e t.kind t.term) (OpeningFails scope e) (opening_of scope e)
opening_answered scope e =
    answered_after _ _ (expression_answered scope e) (λ f b. fails.untyped b)
    (λ t s. weaker (if_undivided (first_division e) t) (undivided_answered {E = OpeningFails scope e} e (first_division e) t refl (λ at d. fails.divided s d))
    (λ u g. subst (λ (v : Typed). Opens scope e v.kind v.term) g.0 (record { stands = s; undivided = g.1 })) (λ f b. b))

opening_kind_answered : (scope : Scope) (k : Kind) (e : Formula) → Answered (λ (x : Term). Opens scope e k x) (OpeningFailsAs scope k e) (opening_kind scope k e)
opening_kind_answered scope k e =
    answered_after _ _ (kind_answered scope k e (expression_answered scope e)) (λ f b. fails.untyped_as b)
    (λ x s. weaker (if_undivided (first_division e) x) (undivided_answered {E = OpeningFailsAs scope k e} e (first_division e) x refl (λ at d. fails.divided_as s d))
    (λ u g. subst (λ (v : Term). Opens scope e k v) g.0 (record { stands = s; undivided = g.1 })) (λ f b. b))

-- ---- rows

module _ (R : Formula → Kind → Term → Type 0) (F : Formula → TypeFault → Type 0) (part : Formula → Checked Typed) (h : (e : Formula) → Answered (λ (t : Typed). R e t.kind t.term) (F e) (part e)) where
  parts_answered : (room : ℕ) (es : List Formula) → Answered (λ (r : TypedRow). (length es ≤ room) × Each R es r.kinds r.terms) (PartsFail R F room es) (parts_of part room es)
  parts_answered zero [] = record { is = (omega arith, stands.none) }
  parts_answered (suc room) [] = record { is = (omega arith, stands.none) }
  parts_answered zero (e ∷ es) = record { is = fails.no_room }
  parts_answered (suc room) (e ∷ es) =
      answered_after _ _ (h e) (λ f b. fails.here b)
      (λ t s. answered_after _ _ (parts_answered room es) (λ f b. fails.later s b) (λ r g. record { is = (omega (arith, g.0), stands.one_more s g.1) }))

  some_parts_answered : (row : Row) → Answered (λ (r : TypedRow). RowOf R row r.kinds r.terms) (RowOfFails R F row) (some_parts_of part row.at row.parts)
  some_parts_answered row = by_parts row.parts refl
    where
      by_parts : (es : List Formula) → row.parts ≡ es → Answered (λ (r : TypedRow). RowOf R row r.kinds r.terms) (RowOfFails R F row) (some_parts_of part row.at es)
      by_parts [] is = record { is = fails.no_parts is }
      by_parts (e ∷ es) is =
          weaker (parts_of part 8 (e ∷ es)) (parts_answered 8 (e ∷ es))
          (λ r g. record {
            some = subst (λ (fs : List Formula). 1 ≤ length fs) (sym is) (omega arith);
            few = subst (λ (fs : List Formula). length fs ≤ 8) (sym is) g.0;
            parts = subst (λ (fs : List Formula). Each R fs r.kinds r.terms) (sym is) g.1;
          })
          (λ f b. fails.in_parts (subst (λ (fs : List Formula). PartsFail R F 8 fs f) (sym is) b))

row_answered : (scope : Scope) (row : Row) → Answered (λ (r : TypedRow). RowStands scope row r.kinds r.terms) (RowFails scope row) (row_of scope row)
row_answered scope row = some_parts_answered (Stands scope) (Fails scope) (expression_of scope) (expression_answered scope) row

seed_answered : (scope : Scope) (row : Row) → Answered (λ (r : TypedRow). SeedStands scope row r.kinds r.terms) (SeedFails scope row) (seed_of scope row)
seed_answered scope row = some_parts_answered (Opens scope) (OpeningFails scope) (opening_of scope) (opening_answered scope) row

pub each_width : {R : Formula → Kind → Term → Type 0} {es : List Formula} {ks : List Kind} {xs : List Term} → Each R es ks xs → length ks ≡ length es
each_width stands.none = refl
each_width (stands.one_more s r) = let h = each_width r in omega (arith, h)

alike_parts_answered : (es : List Formula) (js ks : List Kind) (whole : List Term) → length js ≡ length es → length js ≡ length ks
    → Answered (λ (xs : List Term). (js ≡ ks) × (whole ≡ xs)) (FirstUnlike es js ks) (alike_parts es js ks whole)
alike_parts_answered [] [] [] whole w v = record { is = (refl, refl) }
alike_parts_answered (e ∷ es) (j ∷ js) (k ∷ ks) whole w v =
    answered_unless _ _ _ (λ other. fails.unlike (unlike_kind j k other))
    (λ same. weaker (alike_parts es js ks whole) (alike_parts_answered es js ks whole (omega (arith, w)) (omega (arith, v)))
    (λ xs g. (let e = same_kind j k same in cc, g.1))
    (λ f b. subst (λ (i : Kind). FirstUnlike (e ∷ es) (j ∷ js) (i ∷ ks) f) (same_kind j k same) (fails.unlike_later b)))
alike_parts_answered (e ∷ es) [] ks whole w v = absurd (omega (arith, w))
alike_parts_answered [] (j ∷ js) ks whole w v = absurd (omega (arith, w))
alike_parts_answered [] [] (k ∷ ks) whole w v = absurd (omega (arith, v))
alike_parts_answered (e ∷ es) (j ∷ js) [] whole w v = absurd (omega (arith, v))

next_answered : (scope : Scope) (state : List Kind) (row : Row) → Answered (λ (xs : List Term). RowStands scope row state xs) (NextFails scope state row) (next_of scope state row)
next_answered scope state row =
    answered_after _ _ (row_answered scope row) (λ f b. fails.no_row b)
    (λ r s. answered_unless _ _ _ (λ narrow. fails.other_width s (is_wide-differs (length r.kinds) (length state) narrow))
    (λ wide. weaker (alike_parts row.parts r.kinds state r.terms)
    (alike_parts_answered row.parts r.kinds state r.terms (each_width s.parts) (is_wide-only (length r.kinds) (length state) wide))
    (λ xs g. subst (λ (ys : List Term). RowStands scope row state ys) g.1 (subst (λ (js : List Kind). RowStands scope row js r.terms) g.0 s))
    (λ f b. fails.other_kinds s (is_wide-only (length r.kinds) (length state) wide) b)))

-- ---- patterns

-- a pattern beside these names, and what it binds
record BindsBeside (before : List (List ℕ)) (p : Pattern) (ks : List Kind) (bs : List Bound) : Type 0 where
  pub is : bs ≡ bind p.names ks
  pub width : length p.names ≡ length ks
  pub names : Differ before p.names

pattern_answered : (before : List (List ℕ)) (p : Pattern) (ks : List Kind) → Answered (λ (bs : List Bound). BindsBeside before p ks bs) (PatternFails before p ks) (pattern_of before p ks)
pattern_answered before p ks =
    answered_unless _ _ _ (λ other. fails.narrow_or_wide (is_wide-differs (length p.names) (length ks) other))
    (λ wide. answered_after _ _ (names_answered before p.names) (λ f r. fails.twice (is_wide-only (length p.names) (length ks) wide) r)
    (λ all d. record { is = record { is = refl; width = is_wide-only (length p.names) (length ks) wide; names = d } }))

-- what goes on inside a pattern
inside_answered : {B : Type 0} {H : B → Type 0} {E : TypeFault → Type 0} (scope : Scope) (p : Pattern) (ks : List Kind) (next : Scope → Checked B)
    → ((f : TypeFault) → PatternFails [] p ks f → E f) → (Binds p ks → Answered H E (next (inside scope p ks))) → Answered H E (after (inside_of scope p ks) next)
inside_answered {H = H} {E = E} scope p ks next bad good =
    answered_after _ next scope_answered bad (λ s g. subst (λ (z : Scope). Answered H E (next z)) (sym g.0) (good g.1))
  where
    scope_answered : Answered (λ (s : Scope). (s ≡ inside scope p ks) × Binds p ks) (PatternFails [] p ks) (inside_of scope p ks)
    scope_answered =
        answered_after _ _ (pattern_answered [] p ks) (λ f b. b)
        (λ bs g. record { is = (rw g.is refl, record { width = g.width; names = all_distinct p.names g.names }) })

inside_both_answered : {B : Type 0} {H : B → Type 0} {E : TypeFault → Type 0} (scope : Scope) (state : Pattern) (js : List Kind) (pat : Pattern) (ks : List Kind) (next : Scope → Checked B)
    → ((f : TypeFault) → PatternsFail state js pat ks f → E f) → (BindsBoth state js pat ks → Answered H E (next (inside_both scope state js pat ks))) → Answered H E (after (inside_both_of scope state js pat ks) next)
inside_both_answered {H = H} {E = E} scope state js pat ks next bad good =
    answered_after _ next scope_answered bad (λ s g. subst (λ (z : Scope). Answered H E (next z)) (sym g.0) (good g.1))
  where
    scope_answered : Answered (λ (s : Scope). (s ≡ inside_both scope state js pat ks) × BindsBoth state js pat ks) (PatternsFail state js pat ks) (inside_both_of scope state js pat ks)
    scope_answered =
        answered_after _ _ (pattern_answered [] state js) (λ f b. fails.state_fails b)
        (λ outer g. answered_after _ _ (pattern_answered (names_of state.names) pat ks) (λ f b. fails.row_fails (record { width = g.width; names = all_distinct state.names g.names }) b)
        (λ inner h. record {
          is = (
            rw (g.is, h.is) refl,
            record { state_width = g.width; row_width = h.width; names = all_distinct (state.names ++ pat.names) (differ_join [] state.names pat.names g.names h.names) },
          );
        }))

-- ---- streams

folding_answered : (scope : Scope) (seed : Row) (state pat : Pattern) (next : Row) (row : List Kind)
    → Answered (λ (s : State). Folds scope seed state pat next row s.seed.kinds s.seed.terms s.next) (FoldingFails scope seed state pat next row) (folding_of scope seed state pat next row)
folding_answered scope seed state pat next row =
    answered_after _ _ (seed_answered scope seed) (λ f b. fails.in_seed b)
    (λ r s. inside_both_answered scope state r.kinds pat row _ (λ f b. fails.in_patterns s b)
    (λ binds. answered_after _ _ (next_answered (inside_both scope state r.kinds pat row) r.kinds next) (λ f b. fails.in_next s binds b)
    (λ es n. record { is = record { first_state = s; binds = binds; next_state = n } })))

turn_answered : (scope : Scope) (state : List Kind) (guard : Formula) (item next : Row)
    → Answered (λ (t : Turn). Opens scope guard kind.Bool t.guard × RowStands scope item t.item.kinds t.item.terms × RowStands scope next state t.next) (TurnFails scope state guard item next) (turn_of scope state guard item next)
turn_answered scope state guard item next =
    answered_after _ _ (opening_kind_answered scope kind.Bool guard) (λ f b. fails.in_guard b)
    (λ g o. answered_after _ _ (row_answered scope item) (λ f b. fails.in_item o b)
    (λ r s. answered_after _ _ (next_answered scope state next) (λ f b. fails.in_next_state o s b)
    (λ es n. record { is = (o, s, n) })))

test_answered : (scope : Scope) (p : Pattern) (e : Formula) (ks : List Kind) → Answered (λ (x : Term). Binds p ks × Stands (inside scope p ks) e kind.Bool x) (TestFails scope p e ks) (row_test scope p e ks)
test_answered scope p e ks =
    inside_answered scope p ks _ (λ f b. fails.in_pattern b)
    (λ binds. weaker (of_this_kind (inside scope p ks) kind.Bool e) (kind_answered (inside scope p ks) kind.Bool e (expression_answered (inside scope p ks) e))
    (λ x s. (binds, s)) (λ f b. fails.in_test binds b))

mutual
  stream_answered : (s : Stream) (scope : Scope) → Answered (λ (t : TypedStream). StreamStands scope s t.kinds t.pipe) (StreamFails scope s) (stream_of scope s)
  stream_answered (From at source stages) scope =
      answered_after _ _ (source_answered source scope at) (λ f b. fails.in_source b)
      (λ of s. weaker (stages_of scope stages of) (stages_answered stages scope of) (λ t r. stands.from s r) (λ f b. fails.in_stages s b))

  source_answered : (s : Source) (scope : Scope) (at : ℕ) → Answered (λ (t : TypedStream). SourceStands scope s t.kinds t.pipe) (SourceFails scope at s) (source_of scope at s)
  source_answered (Array n) scope at =
      answered_after _ _ (array_answered scope n.at n.text (meaning_of scope n.text) refl) (λ f b. fails.array b) (λ i h. record { is = stands.array h })
  source_answered (Range a b) scope at =
      answered_after _ _ (opening_kind_answered scope kind.Int a) (λ f h. fails.low_bound h)
      (λ x s. answered_after _ _ (opening_kind_answered scope kind.Int b) (λ f h. fails.high_bound s h) (λ y t. record { is = stands.range s t }))
  source_answered (Unfold seed pat guard item next) scope at =
      answered_after _ _ (seed_answered scope seed) (λ f b. fails.unfold_seed b)
      (λ r s. inside_answered scope pat r.kinds _ (λ f b. fails.unfold_pattern s b)
      (λ binds. answered_after _ _ (turn_answered (inside scope pat r.kinds) r.kinds guard item next) (λ f b. fails.unfold_turn s binds b)
      (λ t g. record { is = stands.unfold_from s binds g.0 g.1 g.2 })))
  source_answered (Zip a b) scope at =
      answered_after _ _ (stream_answered a scope) (λ f h. fails.left_arm h)
      (λ x s. answered_after _ _ (stream_answered b scope) (λ f h. fails.right_arm s h)
      (λ y t. answered_unless _ _ _ (λ wide. fails.wide_arms s t (leb-false (length (x.kinds ++ y.kinds)) 8 wide))
      (λ narrow. record { is = stands.zip s t (leb-true (length (x.kinds ++ y.kinds)) 8 narrow) })))

  stages_answered : (ss : Stages) (scope : Scope) (of : TypedStream) → Answered (λ (t : TypedStream). StagesStand scope ss of.kinds of.pipe t.kinds t.pipe) (StagesFail scope ss of.kinds of.pipe) (stages_of scope ss of)
  stages_answered Nil scope of = record { is = stands.no_stage }
  stages_answered (Cons s ss) scope of =
      answered_after _ _ (stage_answered s scope of) (λ f b. fails.this_stage b)
      (λ t h. weaker (stages_of scope ss t) (stages_answered ss scope t) (λ u r. stands.one_stage h r) (λ f b. fails.later_stage h b))

  stage_answered : (s : Stage) (scope : Scope) (of : TypedStream) → Answered (λ (t : TypedStream). StageStands scope s of.kinds of.pipe t.kinds t.pipe) (StageFails scope s of.kinds) (stage_of scope s of)
  stage_answered (Map at p body) scope of =
      inside_answered scope p of.kinds _ (λ f b. fails.map_pattern b)
      (λ binds. answered_after _ _ (row_answered (inside scope p of.kinds) body) (λ f b. fails.map_body binds b) (λ r s. record { is = stands.map binds s }))
  stage_answered (Filter at p e) scope of = answered_after _ _ (test_answered scope p e of.kinds) (λ f b. fails.filter b) (λ x g. record { is = stands.filter g.0 g.1 })
  stage_answered (TakeWhile at p e) scope of = answered_after _ _ (test_answered scope p e of.kinds) (λ f b. fails.take_while b) (λ x g. record { is = stands.take_while g.0 g.1 })
  stage_answered (Take at e) scope of = answered_after _ _ (opening_kind_answered scope kind.Int e) (λ f b. fails.take b) (λ x g. record { is = stands.take g })
  stage_answered (Drop at e) scope of = answered_after _ _ (opening_kind_answered scope kind.Int e) (λ f b. fails.drop b) (λ x g. record { is = stands.drop g })
  stage_answered (Scan at seed state p next) scope of =
      answered_after _ _ (folding_answered scope seed state p next of.kinds) (λ f b. fails.scan b) (λ s g. record { is = stands.scan g })
  stage_answered (FlatMap at p inner) scope of =
      inside_answered scope p of.kinds _ (λ f b. fails.flat_map_pattern b)
      (λ binds. answered_after _ _ (stream_answered inner (inside scope p of.kinds)) (λ f b. fails.flat_map_stream binds b) (λ t s. record { is = stands.flat_map binds s }))

terminal_answered : (t : Terminal) (scope : Scope) (row : List Kind) → Answered (λ (f : Finish). TerminalStands scope t row f) (TerminalFails scope row t) (terminal_of scope t row)
terminal_answered (Fold seed state p next) scope row = answered_after _ _ (folding_answered scope seed state p next row) (λ f b. fails.fold b) (λ s g. record { is = stands.fold g })
terminal_answered Print scope row = record { is = stands.print }

pub text_answered : (t : Text) → Answered (λ (p : Pipeline). StandsFor t p) (FirstFault t) (check_of t)
text_answered t =
    answered_after _ _ (names_answered [] (declared_names t.inputs)) (λ f b. fails.input_twice b)
    (λ all d. answered_after _ _ (stream_answered t.stream (outermost t)) (λ f b. fails.in_stream (all_distinct (declared_names t.inputs) d) b)
    (λ s h. answered_after _ _ (terminal_answered t.terminal (outermost t) s.kinds) (λ f b. fails.in_terminal (all_distinct (declared_names t.inputs) d) h b)
    (λ f g. record { is = record { names = all_distinct (declared_names t.inputs) d; inputs = refl; row = s.kinds; stream_stands = h; terminal_stands = g } })))
