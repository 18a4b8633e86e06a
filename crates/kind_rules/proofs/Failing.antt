-- A tree with a first fault fails its check with it, and no refusal of memory is a first fault.
use Rattle.std.proofs.Common.{◌≡◌, ℕ, List, [], ◌∷◌, ◌++◌, length, Ok, Err, refl}
use Rattle.std.proofs.lemmas.Bool.{lt-leb}
use Rattle.list_denotation.specs.declared.kind.Kind.{Kind}
use Rattle.list_denotation.specs.Terms.{Term, Pipe}
use Rattle.pipe_tree.specs.Trees.{Formula, Row, Pattern, Stream, Source, Stages, Stage, Terminal, Text}
use Rattle.kind_rules.specs.declared.fault.TypeFault.{TypeFault}
use Rattle.kind_rules.specs.Checked.{Checked}
use Rattle.kind_rules.specs.Checking.{check_of}
use Rattle.kind_rules.specs.Expressions.{Typed, array_named, both_of, alike_of, expression_of, of_this_kind, opening_of, opening_kind, typed_term}
use Rattle.kind_rules.specs.FirstFault as fails
use Rattle.kind_rules.specs.FirstFault.{NoArray, Fails, FailsAs, BothFail, AlikeFail, OpeningFails, OpeningFailsAs, PartsFail, RowOfFails, RowFails, SeedFails, FirstUnlike, NextFails, Repeats, PatternFails, PatternsFail, FoldingFails, TurnFails, TestFails, StreamFails, SourceFails, StagesFail, StageFails, TerminalFails, FirstFault}
use Rattle.kind_rules.specs.Inputs.{declared_names}
use Rattle.kind_rules.specs.PatternScopes.{inside, inside_of, inside_both_of}
use Rattle.kind_rules.specs.Rows.{parts_of, some_parts_of, row_of, seed_of, alike_parts, next_of}
use Rattle.kind_rules.specs.Scopes.{Scope, meaning_of, pattern_of}
use Rattle.kind_rules.specs.StandsFor.{Stands, Opens}
use Rattle.kind_rules.specs.Streams.{stream, folding_of, turn_of, row_test, stream_of, source_of, stages_of, stage_of, terminal_of}
use Rattle.kind_rules.proofs.Answered.{goes_on, stops}
use Rattle.kind_rules.proofs.KindTests.{is_kind-same, is_kind-other, is_wide-same, is_wide-other}
use Rattle.kind_rules.proofs.Names.{differ_all, names_fail, names_pass}
use Rattle.kind_rules.proofs.Passes.{expression_passes, kind_passes, opening_passes, opening_kind_passes, row_passes, seed_passes, pattern_passes, inside_passes, inside_both_passes, stream_passes, source_passes, stage_passes}

-- ---- expressions

array_fails : {scope : Scope} {at : ℕ} {n : List ℕ} {f : TypeFault} → NoArray scope at n f → array_named at (meaning_of scope n) ≡ Err f
array_fails (fails.absent h) = rw h refl
array_fails (fails.word h) = rw h refl
array_fails (fails.int h) = rw h refl

mutual
  expression_fails : {scope : Scope} {e : Formula} {f : TypeFault} → Fails scope e f → expression_of scope e ≡ Err f
  expression_fails (fails.unknown_name h) = rw h refl
  expression_fails (fails.array_name h) = rw h refl
  expression_fails (fails.no_array h) = stops _ _ (array_fails h)
  expression_fails (fails.parentheses h) = expression_fails h
  expression_fails (fails.minus h) = stops _ _ (kind_fails h)
  expression_fails (fails.not h) = stops _ _ (kind_fails h)
  expression_fails (fails.ints is h) = rw is (stops _ _ (both_fail h))
  expression_fails (fails.one_kind is h) = rw is (stops _ _ (alike_fail h))
  expression_fails (fails.conjunction h) = stops _ _ (both_fail h)
  expression_fails (fails.disjunction h) = stops _ _ (both_fail h)
  expression_fails (fails.condition h) = stops _ _ (kind_fails h)
  expression_fails (fails.branches s h) = goes_on _ _ (kind_passes s) (stops _ _ (alike_fail h))

  kind_fails : {scope : Scope} {k : Kind} {e : Formula} {f : TypeFault} → FailsAs scope k e f → of_this_kind scope k e ≡ Err f
  kind_fails (fails.itself h) = stops _ _ (expression_fails h)
  kind_fails (fails.other_kind {j = j} {k = k} s h) = rw (expression_passes s, is_kind-other j k h) refl

  both_fail : {scope : Scope} {k : Kind} {a b : Formula} {f : TypeFault} → BothFail scope k a b f → both_of scope k a b ≡ Err f
  both_fail (fails.left h) = stops _ _ (kind_fails h)
  both_fail (fails.right s h) = goes_on _ _ (kind_passes s) (stops _ _ (kind_fails h))

  alike_fail : {scope : Scope} {a b : Formula} {f : TypeFault} → AlikeFail scope a b f → alike_of scope a b ≡ Err f
  alike_fail (fails.first h) = stops _ _ (expression_fails h)
  alike_fail (fails.second s h) = goes_on _ _ (expression_passes s) (stops _ _ (kind_fails h))

opening_fails : {scope : Scope} {e : Formula} {f : TypeFault} → OpeningFails scope e f → opening_of scope e ≡ Err f
opening_fails (fails.untyped h) = stops _ _ (expression_fails h)
opening_fails (fails.divided s d) = goes_on _ _ (expression_passes s) (rw d refl)

opening_kind_fails : {scope : Scope} {k : Kind} {e : Formula} {f : TypeFault} → OpeningFailsAs scope k e f → opening_kind scope k e ≡ Err f
opening_kind_fails (fails.untyped_as h) = stops _ _ (kind_fails h)
opening_kind_fails (fails.divided_as s d) = goes_on _ _ (kind_passes s) (rw d refl)

-- ---- rows

no_parts_fail : {R : Formula → Kind → Term → Type 0} {F : Formula → TypeFault → Type 0} {A : Type 0} {room : ℕ} {f : TypeFault} → PartsFail R F room [] f → A
no_parts_fail h = elim h [ ]

module _ (R : Formula → Kind → Term → Type 0) (F : Formula → TypeFault → Type 0) (part : Formula → Checked Typed)
    (good : (e : Formula) (k : Kind) (x : Term) → R e k x → part e ≡ Ok (typed_term k x)) (bad : (e : Formula) (f : TypeFault) → F e f → part e ≡ Err f) where
  parts_fail : {room : ℕ} {es : List Formula} {f : TypeFault} → PartsFail R F room es f → parts_of part room es ≡ Err f
  parts_fail fails.no_room = refl
  parts_fail (fails.here {e = e} {f = f} h) = stops _ _ (bad e f h)
  parts_fail (fails.later {e = e} {k = k} {x = x} s h) = goes_on _ _ (good e k x s) (stops _ _ (parts_fail h))

  some_parts_fail : (row : Row) (f : TypeFault) → RowOfFails R F row f → some_parts_of part row.at row.parts ≡ Err f
  some_parts_fail row _ (fails.no_parts is) = rw is refl
  some_parts_fail row f (fails.in_parts h) = by_parts row.parts h
    where
      by_parts : (es : List Formula) → PartsFail R F 8 es f → some_parts_of part row.at es ≡ Err f
      by_parts [] k = no_parts_fail k
      by_parts (e ∷ es) k = parts_fail k

row_fails : (scope : Scope) (row : Row) (f : TypeFault) → RowFails scope row f → row_of scope row ≡ Err f
row_fails scope row f h = some_parts_fail (Stands scope) (Fails scope) (expression_of scope) (λ e k x s. expression_passes s) (λ e d b. expression_fails b) row f h

seed_fails : (scope : Scope) (row : Row) (f : TypeFault) → SeedFails scope row f → seed_of scope row ≡ Err f
seed_fails scope row f h = some_parts_fail (Opens scope) (OpeningFails scope) (opening_of scope) (λ e k x o. opening_passes o) (λ e d b. opening_fails b) row f h

unlike_fails : {es : List Formula} {js ks : List Kind} {f : TypeFault} → FirstUnlike es js ks f → (whole : List Term) → alike_parts es js ks whole ≡ Err f
unlike_fails (fails.unlike {j = j} {k = k} h) whole = rw (is_kind-other j k h) refl
unlike_fails (fails.unlike_later {k = k} h) whole = rw (is_kind-same k) (unlike_fails h whole)

next_fails : {scope : Scope} {state : List Kind} {row : Row} {f : TypeFault} → NextFails scope state row f → next_of scope state row ≡ Err f
next_fails {scope = scope} {row = row} {f = f} (fails.no_row h) = stops _ _ (row_fails scope row f h)
next_fails {scope = scope} {state = state} {row = row} (fails.other_width {ks = ks} {xs = xs} r w) =
    goes_on _ _ (row_passes scope row ks xs r) (rw (is_wide-other (length ks) (length state) w) refl)
next_fails {scope = scope} {state = state} {row = row} (fails.other_kinds {ks = ks} {xs = xs} r w h) =
    goes_on _ _ (row_passes scope row ks xs r) (rw (is_wide-same (length ks) (length state) w) (unlike_fails h xs))

-- ---- patterns

pattern_fails : {before : List (List ℕ)} {p : Pattern} {ks : List Kind} {f : TypeFault} → PatternFails before p ks f → pattern_of before p ks ≡ Err f
pattern_fails {p = p} {ks = ks} (fails.narrow_or_wide w) = rw (is_wide-other (length p.names) (length ks) w) refl
pattern_fails {p = p} {ks = ks} (fails.twice w r) = rw (is_wide-same (length p.names) (length ks) w) (stops _ _ (names_fail r))

inside_fails : (scope : Scope) {p : Pattern} {ks : List Kind} {f : TypeFault} → PatternFails [] p ks f → inside_of scope p ks ≡ Err f
inside_fails scope h = stops _ _ (pattern_fails h)

inside_both_fails : (scope : Scope) {state : Pattern} {js : List Kind} {pat : Pattern} {ks : List Kind} {f : TypeFault} → PatternsFail state js pat ks f → inside_both_of scope state js pat ks ≡ Err f
inside_both_fails scope (fails.state_fails h) = stops _ _ (pattern_fails h)
inside_both_fails scope {state = state} {js = js} (fails.row_fails b h) = goes_on _ _ (pattern_passes [] state js b.width (differ_all state.names b.names)) (stops _ _ (pattern_fails h))

-- ---- streams

folding_fails : {scope : Scope} {seed : Row} {state pat : Pattern} {next : Row} {row : List Kind} {f : TypeFault} → FoldingFails scope seed state pat next row f → folding_of scope seed state pat next row ≡ Err f
folding_fails {scope = scope} {seed = seed} {f = f} (fails.in_seed h) = stops _ _ (seed_fails scope seed f h)
folding_fails {scope = scope} {seed = seed} (fails.in_patterns {ks = ks} {xs = xs} s h) = goes_on _ _ (seed_passes scope seed ks xs s) (stops _ _ (inside_both_fails scope h))
folding_fails {scope = scope} {seed = seed} {state = state} {pat = pat} {row = row} (fails.in_next {ks = ks} {xs = xs} s b h) =
    goes_on _ _ (seed_passes scope seed ks xs s) (goes_on _ _ (inside_both_passes scope state ks pat row b) (stops _ _ (next_fails h)))

turn_fails : {scope : Scope} {state : List Kind} {guard : Formula} {item next : Row} {f : TypeFault} → TurnFails scope state guard item next f → turn_of scope state guard item next ≡ Err f
turn_fails (fails.in_guard h) = stops _ _ (opening_kind_fails h)
turn_fails {scope = scope} {item = item} {f = f} (fails.in_item o h) = goes_on _ _ (opening_kind_passes o) (stops _ _ (row_fails scope item f h))
turn_fails {scope = scope} {item = item} (fails.in_next_state {ks = ks} {xs = xs} o r h) = goes_on _ _ (opening_kind_passes o) (goes_on _ _ (row_passes scope item ks xs r) (stops _ _ (next_fails h)))

test_fails : {scope : Scope} {p : Pattern} {e : Formula} {ks : List Kind} {f : TypeFault} → TestFails scope p e ks f → row_test scope p e ks ≡ Err f
test_fails {scope = scope} (fails.in_pattern h) = stops _ _ (inside_fails scope h)
test_fails {scope = scope} {p = p} {ks = ks} (fails.in_test b h) = goes_on _ _ (inside_passes scope p ks b) (kind_fails h)

mutual
  stream_fails : {scope : Scope} {s : Stream} {f : TypeFault} → StreamFails scope s f → stream_of scope s ≡ Err f
  stream_fails (fails.in_source h) = stops _ _ (source_fails h)
  stream_fails (fails.in_stages {at = at} s h) = goes_on _ _ (source_passes s at) (stages_fail h)

  source_fails : {scope : Scope} {at : ℕ} {s : Source} {f : TypeFault} → SourceFails scope at s f → source_of scope at s ≡ Err f
  source_fails (fails.array h) = stops _ _ (array_fails h)
  source_fails (fails.low_bound h) = stops _ _ (opening_kind_fails h)
  source_fails (fails.high_bound o h) = goes_on _ _ (opening_kind_passes o) (stops _ _ (opening_kind_fails h))
  source_fails (fails.unfold_seed {scope = scope} {seed = seed} {f = f} h) = stops _ _ (seed_fails scope seed f h)
  source_fails (fails.unfold_pattern {scope = scope} {seed = seed} {ks = ks} {xs = xs} s h) = goes_on _ _ (seed_passes scope seed ks xs s) (stops _ _ (inside_fails scope h))
  source_fails (fails.unfold_turn {scope = scope} {seed = seed} {pat = pat} {ks = ks} {xs = xs} s b h) =
      goes_on _ _ (seed_passes scope seed ks xs s) (goes_on _ _ (inside_passes scope pat ks b) (stops _ _ (turn_fails h)))
  source_fails (fails.left_arm h) = stops _ _ (stream_fails h)
  source_fails (fails.right_arm s h) = goes_on _ _ (stream_passes s) (stops _ _ (stream_fails h))
  source_fails (fails.wide_arms {js = js} {ks = ks} s t h) = goes_on _ _ (stream_passes s) (goes_on _ _ (stream_passes t) (rw (lt-leb (length (js ++ ks)) 8 h) refl))

  stages_fail : {scope : Scope} {ss : Stages} {ks : List Kind} {p : Pipe} {f : TypeFault} → StagesFail scope ss ks p f → stages_of scope ss (stream ks p) ≡ Err f
  stages_fail (fails.this_stage {p = p} h) = stops _ _ (stage_fails h p)
  stages_fail (fails.later_stage s h) = goes_on _ _ (stage_passes s) (stages_fail h)

  stage_fails : {scope : Scope} {s : Stage} {ks : List Kind} {f : TypeFault} → StageFails scope s ks f → (p : Pipe) → stage_of scope s (stream ks p) ≡ Err f
  stage_fails (fails.map_pattern {scope = scope} h) of = stops _ _ (inside_fails scope h)
  stage_fails (fails.map_body {scope = scope} {p = p} {body = body} {ks = ks} {f = f} b h) of = goes_on _ _ (inside_passes scope p ks b) (stops _ _ (row_fails (inside scope p ks) body f h))
  stage_fails (fails.filter h) of = stops _ _ (test_fails h)
  stage_fails (fails.take_while h) of = stops _ _ (test_fails h)
  stage_fails (fails.take h) of = stops _ _ (opening_kind_fails h)
  stage_fails (fails.drop h) of = stops _ _ (opening_kind_fails h)
  stage_fails (fails.scan h) of = stops _ _ (folding_fails h)
  stage_fails (fails.flat_map_pattern {scope = scope} h) of = stops _ _ (inside_fails scope h)
  stage_fails (fails.flat_map_stream {scope = scope} {p = p} {ks = ks} b h) of = goes_on _ _ (inside_passes scope p ks b) (stops _ _ (stream_fails h))

terminal_fails : {scope : Scope} {row : List Kind} {t : Terminal} {f : TypeFault} → TerminalFails scope row t f → terminal_of scope t row ≡ Err f
terminal_fails (fails.fold h) = stops _ _ (folding_fails h)

pub text_fails : {t : Text} {f : TypeFault} → FirstFault t f → check_of t ≡ Err f
text_fails (fails.input_twice r) = stops _ _ (names_fail r)
text_fails {t = t} (fails.in_stream d h) = let n = names_pass [] (declared_names t.inputs) (differ_all (declared_names t.inputs) d) in goes_on _ _ n.1 (stops _ _ (stream_fails h))
text_fails {t = t} (fails.in_terminal d s h) =
    let n = names_pass [] (declared_names t.inputs) (differ_all (declared_names t.inputs) d) in goes_on _ _ n.1 (goes_on _ _ (stream_passes s) (stops _ _ (terminal_fails h)))
