-- What stands for something passes its check with it.
use Rattle.std.proofs.Common.{◌≡◌, ℕ, zero, suc, ◌≤◌, List, [], ◌∷◌, ◌++◌, length, Ok, refl, sym, ap, arith, le-leb}
use Rattle.list_denotation.specs.declared.kind.Kind.{Kind}
use Rattle.list_denotation.specs.declared.input.InputKind.{InputKind}
use Rattle.list_denotation.specs.Terms.{Term, Pipe, Finish, Pipeline}
use Rattle.pipe_tree.specs.Trees.{Formula, Row, Pattern, Stream, Source, Stages, Stage, Terminal, Text}
use Rattle.kind_rules.specs.Checked.{Checked}
use Rattle.kind_rules.specs.Checking.{check_of}
use Rattle.kind_rules.specs.Expressions.{Typed, typed_term, expression_of, of_this_kind, opening_of, opening_kind}
use Rattle.kind_rules.specs.Inputs.{declared_names}
use Rattle.kind_rules.specs.PatternScopes.{inside, inside_both, inside_of, inside_both_of}
use Rattle.kind_rules.specs.Rows.{typed_row, parts_of, some_parts_of, row_of, seed_of, alike_parts, next_of}
use Rattle.kind_rules.specs.Scopes.{Scope, bind, names_of, pattern_of}
use Rattle.kind_rules.specs.StandsFor as stands
use Rattle.kind_rules.specs.StandsFor.{Stands, Opens, Each, RowOf, RowStands, SeedStands, Binds, BindsBoth, Folds, StreamStands, SourceStands, StagesStand, StageStands, TerminalStands, StandsFor}
use Rattle.kind_rules.specs.Streams.{stream, folding_of, stream_of, source_of, stages_of, stage_of, terminal_of}
use Rattle.kind_rules.proofs.Answered.{goes_on}
use Rattle.kind_rules.proofs.Divisions.{no_division}
use Rattle.kind_rules.proofs.KindTests.{is_kind-same, is_wide-same}
use Rattle.kind_rules.proofs.Names.{Differ, differ_all, differ_split, names_pass}

pub expression_passes : {scope : Scope} {e : Formula} {k : Kind} {x : Term} → Stands scope e k x → expression_of scope e ≡ Ok (typed_term k x)
expression_passes stands.number = refl
expression_passes stands.truth = refl
expression_passes (stands.bound_word h) = rw h refl
expression_passes (stands.int_input h) = rw h refl
expression_passes (stands.array_length h) = rw h refl
expression_passes (stands.parentheses s) = expression_passes s
expression_passes (stands.minus s) = rw (expression_passes s) refl
expression_passes (stands.not s) = rw (expression_passes s) refl
expression_passes (stands.ints h s t) = rw (h, expression_passes s, expression_passes t) refl
expression_passes (stands.one_kind {k = k} h s t) = rw (h, expression_passes s, expression_passes t, is_kind-same k) refl
expression_passes (stands.conjunction s t) = rw (expression_passes s, expression_passes t) refl
expression_passes (stands.disjunction s t) = rw (expression_passes s, expression_passes t) refl
expression_passes (stands.choice {k = k} c s t) = rw (expression_passes c, expression_passes s, expression_passes t, is_kind-same k) refl

pub kind_passes : {scope : Scope} {e : Formula} {k : Kind} {x : Term} → Stands scope e k x → of_this_kind scope k e ≡ Ok x
kind_passes {k = k} s = rw (expression_passes s, is_kind-same k) refl

pub opening_passes : {scope : Scope} {e : Formula} {k : Kind} {x : Term} → Opens scope e k x → opening_of scope e ≡ Ok (typed_term k x)
opening_passes {e = e} o = rw (expression_passes o.stands, no_division e o.undivided) refl

pub opening_kind_passes : {scope : Scope} {e : Formula} {k : Kind} {x : Term} → Opens scope e k x → opening_kind scope k e ≡ Ok x
opening_kind_passes {e = e} {k = k} o = rw (expression_passes o.stands, is_kind-same k, no_division e o.undivided) refl

-- ---- rows

module _ (R : Formula → Kind → Term → Type 0) (part : Formula → Checked Typed) (h : (e : Formula) (k : Kind) (x : Term) → R e k x → part e ≡ Ok (typed_term k x)) where
  parts_pass : (room : ℕ) {es : List Formula} {ks : List Kind} {xs : List Term} → Each R es ks xs → length es ≤ room → parts_of part room es ≡ Ok (typed_row ks xs)
  parts_pass zero stands.none few = refl
  parts_pass (suc room) stands.none few = refl
  parts_pass zero (stands.one_more s r) few = absurd (omega (arith, few))
  parts_pass (suc room) (stands.one_more {e = e} {k = k} {x = x} s r) few = rw (h e k x s, parts_pass room r (omega (arith, few))) refl

  some_parts_pass : (row : Row) (ks : List Kind) (xs : List Term) → RowOf R row ks xs → some_parts_of part row.at row.parts ≡ Ok (typed_row ks xs)
  some_parts_pass row ks xs r = by_parts row.parts r.some r.few r.parts
    where
      by_parts : (es : List Formula) → 1 ≤ length es → length es ≤ 8 → Each R es ks xs → some_parts_of part row.at es ≡ Ok (typed_row ks xs)
      by_parts [] some few parts = absurd (omega (arith, some))
      by_parts (e ∷ es) some few parts = parts_pass 8 parts few

pub row_passes : (scope : Scope) (row : Row) (ks : List Kind) (xs : List Term) → RowStands scope row ks xs → row_of scope row ≡ Ok (typed_row ks xs)
row_passes scope row ks xs r = some_parts_pass (Stands scope) (expression_of scope) (λ e k x s. expression_passes s) row ks xs r

pub seed_passes : (scope : Scope) (row : Row) (ks : List Kind) (xs : List Term) → SeedStands scope row ks xs → seed_of scope row ≡ Ok (typed_row ks xs)
seed_passes scope row ks xs r = some_parts_pass (Opens scope) (opening_of scope) (λ e k x o. opening_passes o) row ks xs r

alike_pass : (es : List Formula) (ks : List Kind) (whole : List Term) → alike_parts es ks ks whole ≡ Ok whole
alike_pass [] [] whole = refl
alike_pass [] (k ∷ ks) whole = refl
alike_pass (e ∷ es) [] whole = refl
alike_pass (e ∷ es) (k ∷ ks) whole = rw (is_kind-same k) (alike_pass es ks whole)

pub next_passes : (scope : Scope) (state : List Kind) (row : Row) (xs : List Term) → RowStands scope row state xs → next_of scope state row ≡ Ok xs
next_passes scope state row xs r = rw (row_passes scope row state xs r, is_wide-same (length state) (length state) refl) (alike_pass row.parts state xs)

-- ---- patterns

pub pattern_passes : (before : List (List ℕ)) (p : Pattern) (ks : List Kind) → length p.names ≡ length ks → Differ before p.names → pattern_of before p ks ≡ Ok (bind p.names ks)
pattern_passes before p ks w d = let n = names_pass before p.names d in rw (is_wide-same (length p.names) (length ks) w, n.1) refl

pub inside_passes : (scope : Scope) (p : Pattern) (ks : List Kind) → Binds p ks → inside_of scope p ks ≡ Ok (inside scope p ks)
inside_passes scope p ks b = goes_on _ _ (pattern_passes [] p ks b.width (differ_all p.names b.names)) refl

pub inside_both_passes : (scope : Scope) (state : Pattern) (js : List Kind) (pat : Pattern) (ks : List Kind) → BindsBoth state js pat ks → inside_both_of scope state js pat ks ≡ Ok (inside_both scope state js pat ks)
inside_both_passes scope state js pat ks b =
    let d = differ_split [] state.names pat.names (differ_all (state.names ++ pat.names) b.names) in
    goes_on _ _ (pattern_passes [] state js b.state_width d.0) (goes_on _ _ (pattern_passes (names_of state.names) pat ks b.row_width d.1) refl)

-- ---- streams

pub folding_passes : (scope : Scope) (seed : Row) (state pat : Pattern) (next : Row) (row ks : List Kind) (xs ys : List Term) → Folds scope seed state pat next row ks xs ys
    → folding_of scope seed state pat next row ≡ Ok (record { seed = typed_row ks xs; next = ys })
folding_passes scope seed state pat next row ks xs ys f =
    goes_on _ _ (seed_passes scope seed ks xs f.first_state)
    (goes_on _ _ (inside_both_passes scope state ks pat row f.binds)
    (goes_on _ _ (next_passes (inside_both scope state ks pat row) ks next ys f.next_state) refl))

mutual
  pub stream_passes : {scope : Scope} {s : Stream} {ks : List Kind} {p : Pipe} → StreamStands scope s ks p → stream_of scope s ≡ Ok (stream ks p)
  stream_passes (stands.from {at = at} s r) = goes_on _ _ (source_passes s at) (stages_pass r)

  pub source_passes : {scope : Scope} {s : Source} {ks : List Kind} {p : Pipe} → SourceStands scope s ks p → (at : ℕ) → source_of scope at s ≡ Ok (stream ks p)
  source_passes (stands.array h) at = rw h refl
  source_passes (stands.range s t) at = goes_on _ _ (opening_kind_passes s) (goes_on _ _ (opening_kind_passes t) refl)
  source_passes (stands.unfold_from {scope = scope} {seed = seed} {pat = pat} {guard = guard} {item = item} {next = next} {ks = ks} {js = js} {xs = xs} {ys = ys} {zs = zs} s b g i n) at =
      goes_on _ _ (seed_passes scope seed ks xs s)
      (goes_on _ _ (inside_passes scope pat ks b)
      (goes_on _ _ (goes_on _ _ (opening_kind_passes g)
      (goes_on _ _ (row_passes (inside scope pat ks) item js ys i)
      (goes_on _ _ (next_passes (inside scope pat ks) ks next zs n) refl))) refl))
  source_passes (stands.zip {js = js} {ks = ks} s t few) at =
      goes_on _ _ (stream_passes s) (goes_on _ _ (stream_passes t) (rw (le-leb (length (js ++ ks)) 8 few) refl))

  stages_pass : {scope : Scope} {ss : Stages} {js ks : List Kind} {p q : Pipe} → StagesStand scope ss js p ks q → stages_of scope ss (stream js p) ≡ Ok (stream ks q)
  stages_pass stands.no_stage = refl
  stages_pass (stands.one_stage s r) = goes_on _ _ (stage_passes s) (stages_pass r)

  pub stage_passes : {scope : Scope} {s : Stage} {js ks : List Kind} {p q : Pipe} → StageStands scope s js p ks q → stage_of scope s (stream js p) ≡ Ok (stream ks q)
  stage_passes (stands.map {scope = scope} {p = p} {body = body} {ks = ks} {js = js} {xs = xs} b r) =
      goes_on _ _ (inside_passes scope p ks b) (goes_on _ _ (row_passes (inside scope p ks) body js xs r) refl)
  stage_passes (stands.filter {scope = scope} {p = p} {ks = ks} b s) = goes_on _ _ (goes_on _ _ (inside_passes scope p ks b) (kind_passes s)) refl
  stage_passes (stands.take_while {scope = scope} {p = p} {ks = ks} b s) = goes_on _ _ (goes_on _ _ (inside_passes scope p ks b) (kind_passes s)) refl
  stage_passes (stands.take o) = goes_on _ _ (opening_kind_passes o) refl
  stage_passes (stands.drop o) = goes_on _ _ (opening_kind_passes o) refl
  stage_passes (stands.scan {scope = scope} {seed = seed} {state = state} {pat = pat} {next = next} {ks = ks} {js = js} {xs = xs} {ys = ys} f) =
      goes_on _ _ (folding_passes scope seed state pat next ks js xs ys f) refl
  stage_passes (stands.flat_map {scope = scope} {p = p} {ks = ks} b s) = goes_on _ _ (inside_passes scope p ks b) (goes_on _ _ (stream_passes s) refl)

pub terminal_passes : {scope : Scope} {t : Terminal} {row : List Kind} {f : Finish} → TerminalStands scope t row f → terminal_of scope t row ≡ Ok f
terminal_passes {scope = scope} (stands.fold {seed = seed} {state = state} {pat = pat} {next = next} {row = row} {ks = ks} {xs = xs} {ys = ys} f) =
    goes_on _ _ (folding_passes scope seed state pat next row ks xs ys f) refl
terminal_passes stands.print = refl

pub text_passes : (t : Text) (p : Pipeline) → StandsFor t p → check_of t ≡ Ok p
text_passes t p s =
    let n = names_pass [] (declared_names t.inputs) (differ_all (declared_names t.inputs) s.names) in
    goes_on _ _ n.1
    (goes_on _ _ (stream_passes s.stream_stands)
    (goes_on _ _ (terminal_passes s.terminal_stands) (ap (λ (is : List InputKind). Ok (record { inputs = is; stream = p.stream; terminal = p.terminal })) (sym s.inputs))))
