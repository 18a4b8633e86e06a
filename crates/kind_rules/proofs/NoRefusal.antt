-- No first fault is a refusal of memory.
use Rattle.std.proofs.Common.{ℕ, List}
use Rattle.list_denotation.specs.declared.kind.Kind.{Kind}
use Rattle.list_denotation.specs.Terms.{Term, Pipe}
use Rattle.pipe_tree.specs.Trees.{Formula, Label, Row, Pattern, Stream, Source, Stages, Stage, Text}
use Rattle.kind_rules.specs.declared.fault.TypeFault.{TypeFault}
use Rattle.kind_rules.specs.declared.fault.TypeFault.TheVariants as fault
use Rattle.kind_rules.specs.FirstFault as fails
use Rattle.kind_rules.specs.FirstFault.{NoArray, Fails, FailsAs, BothFail, AlikeFail, OpeningFails, OpeningFailsAs, PartsFail, RowOfFails, FirstUnlike, NextFails, Repeats, PatternFails, PatternsFail, FoldingFails, TurnFails, TestFails, StreamFails, SourceFails, StagesFail, StageFails, TerminalFails, FirstFault}
use Rattle.kind_rules.specs.Scopes.{Scope}

-- a fault that is no refusal of memory
abbrev IsReal : TypeFault → Type 0
IsReal fault.NoMemory = ⊥
IsReal (fault.Unknown at) = Unit {0}
IsReal (fault.Twice at) = Unit {0}
IsReal (fault.Mismatch at) = Unit {0}
IsReal (fault.WidthMismatch at) = Unit {0}
IsReal (fault.TooWide at) = Unit {0}
IsReal (fault.DivisionInOpening at) = Unit {0}
IsReal (fault.NotArray at) = Unit {0}

array_real : {scope : Scope} {at : ℕ} {n : List ℕ} {f : TypeFault} → NoArray scope at n f → IsReal f
array_real (fails.absent h) = tt
array_real (fails.word h) = tt
array_real (fails.int h) = tt

mutual
  expression_real : {scope : Scope} {e : Formula} {f : TypeFault} → Fails scope e f → IsReal f
  expression_real (fails.unknown_name h) = tt
  expression_real (fails.array_name h) = tt
  expression_real (fails.no_array h) = array_real h
  expression_real (fails.parentheses h) = expression_real h
  expression_real (fails.minus h) = kind_real h
  expression_real (fails.not h) = kind_real h
  expression_real (fails.ints is h) = both_real h
  expression_real (fails.one_kind is h) = alike_real h
  expression_real (fails.conjunction h) = both_real h
  expression_real (fails.disjunction h) = both_real h
  expression_real (fails.condition h) = kind_real h
  expression_real (fails.branches s h) = alike_real h

  kind_real : {scope : Scope} {k : Kind} {e : Formula} {f : TypeFault} → FailsAs scope k e f → IsReal f
  kind_real (fails.itself h) = expression_real h
  kind_real (fails.other_kind s h) = tt

  both_real : {scope : Scope} {k : Kind} {a b : Formula} {f : TypeFault} → BothFail scope k a b f → IsReal f
  both_real (fails.left h) = kind_real h
  both_real (fails.right s h) = kind_real h

  alike_real : {scope : Scope} {a b : Formula} {f : TypeFault} → AlikeFail scope a b f → IsReal f
  alike_real (fails.first h) = expression_real h
  alike_real (fails.second s h) = kind_real h

opening_real : {scope : Scope} {e : Formula} {f : TypeFault} → OpeningFails scope e f → IsReal f
opening_real (fails.untyped h) = expression_real h
opening_real (fails.divided s d) = tt

opening_kind_real : {scope : Scope} {k : Kind} {e : Formula} {f : TypeFault} → OpeningFailsAs scope k e f → IsReal f
opening_kind_real (fails.untyped_as h) = kind_real h
opening_kind_real (fails.divided_as s d) = tt

module _ (R : Formula → Kind → Term → Type 0) (F : Formula → TypeFault → Type 0) (real : (e : Formula) (f : TypeFault) → F e f → IsReal f) where
  parts_real : {room : ℕ} {es : List Formula} {f : TypeFault} → PartsFail R F room es f → IsReal f
  parts_real fails.no_room = tt
  parts_real (fails.here {e = e} {f = f} h) = real e f h
  parts_real (fails.later s h) = parts_real h

  row_of_real : {row : Row} {f : TypeFault} → RowOfFails R F row f → IsReal f
  row_of_real (fails.no_parts h) = tt
  row_of_real (fails.in_parts h) = parts_real h

row_real : {scope : Scope} {row : Row} {f : TypeFault} → fails.RowFails scope row f → IsReal f
row_real {scope = scope} h = row_of_real _ (Fails scope) (λ e f k. expression_real k) h

seed_real : {scope : Scope} {row : Row} {f : TypeFault} → fails.SeedFails scope row f → IsReal f
seed_real {scope = scope} h = row_of_real _ (OpeningFails scope) (λ e f k. opening_real k) h

unlike_real : {es : List Formula} {js ks : List Kind} {f : TypeFault} → FirstUnlike es js ks f → IsReal f
unlike_real (fails.unlike h) = tt
unlike_real (fails.unlike_later h) = unlike_real h

next_real : {scope : Scope} {state : List Kind} {row : Row} {f : TypeFault} → NextFails scope state row f → IsReal f
next_real (fails.no_row h) = row_real h
next_real (fails.other_width r w) = tt
next_real (fails.other_kinds r w h) = unlike_real h

repeats_real : {before : List (List ℕ)} {ns : List Label} {f : TypeFault} → Repeats before ns f → IsReal f
repeats_real (fails.repeated h) = tt
repeats_real (fails.repeated_later h r) = repeats_real r

pattern_real : {before : List (List ℕ)} {p : Pattern} {ks : List Kind} {f : TypeFault} → PatternFails before p ks f → IsReal f
pattern_real (fails.narrow_or_wide h) = tt
pattern_real (fails.twice w r) = repeats_real r

patterns_real : {state : Pattern} {js : List Kind} {pat : Pattern} {ks : List Kind} {f : TypeFault} → PatternsFail state js pat ks f → IsReal f
patterns_real (fails.state_fails h) = pattern_real h
patterns_real (fails.row_fails b h) = pattern_real h

folding_real : {scope : Scope} {seed : Row} {state pat : Pattern} {next : Row} {row : List Kind} {f : TypeFault} → FoldingFails scope seed state pat next row f → IsReal f
folding_real (fails.in_seed h) = seed_real h
folding_real (fails.in_patterns s h) = patterns_real h
folding_real (fails.in_next s b h) = next_real h

turn_real : {scope : Scope} {state : List Kind} {guard : Formula} {item next : Row} {f : TypeFault} → TurnFails scope state guard item next f → IsReal f
turn_real (fails.in_guard h) = opening_kind_real h
turn_real (fails.in_item o h) = row_real h
turn_real (fails.in_next_state o r h) = next_real h

test_real : {scope : Scope} {p : Pattern} {e : Formula} {ks : List Kind} {f : TypeFault} → TestFails scope p e ks f → IsReal f
test_real (fails.in_pattern h) = pattern_real h
test_real (fails.in_test b h) = kind_real h

mutual
  stream_real : {scope : Scope} {s : Stream} {f : TypeFault} → StreamFails scope s f → IsReal f
  stream_real (fails.in_source h) = source_real h
  stream_real (fails.in_stages s h) = stages_real h

  source_real : {scope : Scope} {at : ℕ} {s : Source} {f : TypeFault} → SourceFails scope at s f → IsReal f
  source_real (fails.array h) = array_real h
  source_real (fails.low_bound h) = opening_kind_real h
  source_real (fails.high_bound o h) = opening_kind_real h
  source_real (fails.unfold_seed h) = seed_real h
  source_real (fails.unfold_pattern s h) = pattern_real h
  source_real (fails.unfold_turn s b h) = turn_real h
  source_real (fails.left_arm h) = stream_real h
  source_real (fails.right_arm s h) = stream_real h
  source_real (fails.wide_arms s t h) = tt

  stages_real : {scope : Scope} {ss : Stages} {ks : List Kind} {p : Pipe} {f : TypeFault} → StagesFail scope ss ks p f → IsReal f
  stages_real (fails.this_stage h) = stage_real h
  stages_real (fails.later_stage s h) = stages_real h

  stage_real : {scope : Scope} {s : Stage} {ks : List Kind} {f : TypeFault} → StageFails scope s ks f → IsReal f
  stage_real (fails.map_pattern h) = pattern_real h
  stage_real (fails.map_body b h) = row_real h
  stage_real (fails.filter h) = test_real h
  stage_real (fails.take_while h) = test_real h
  stage_real (fails.take h) = opening_kind_real h
  stage_real (fails.drop h) = opening_kind_real h
  stage_real (fails.scan h) = folding_real h
  stage_real (fails.flat_map_pattern h) = pattern_real h
  stage_real (fails.flat_map_stream b h) = stream_real h

pub text_real : (t : Text) (f : TypeFault) → FirstFault t f → IsReal f
text_real t f (fails.input_twice r) = repeats_real r
text_real t f (fails.in_stream d h) = stream_real h
text_real t f (fails.in_terminal d s (fails.fold h)) = folding_real h

pub no_refusal : (t : Text) → FirstFault t fault.NoMemory → ⊥
no_refusal t h = text_real t fault.NoMemory h
