-- What an expression of a tree stands for: it has its kind, and is no larger and no deeper than in the tree.
use Rattle.std.proofs.Common.{◌≡◌, ℕ, ◌≤◌, List, [], ◌∷◌, ◌++◌, length, slice_get, Option, Some, true, false, ◌||◌, refl, subst, arith, length-append, le-leb}
use Rattle.std.proofs.lemmas.Bool.{and_from}
use Rattle.list_denotation.specs.declared.input.InputKind.{InputKind}
use Rattle.list_denotation.specs.declared.kind.Kind.{Kind}
use Rattle.list_denotation.specs.declared.kind.Kind.TheVariants as kind
use Rattle.list_denotation.specs.Counts.{term_nodes, term_depth, row_nodes, row_depth}
use Rattle.list_denotation.specs.Terms.{Term}
use Rattle.list_denotation.specs.Terms as term
use Rattle.list_denotation.specs.Typing as typing
use Rattle.list_denotation.specs.Typing.{kind_of, is_undivided, all_undivided, operation_kind, row_kinds, seed_kinds, same_kinds, opens}
use Rattle.pipe_tree.specs.Bounds.{node_offsets, depth_of, row_node_offsets}
use Rattle.pipe_tree.specs.Bounds as tree
use Rattle.pipe_tree.specs.Trees.{Formula, Row, Neg, Not, Bin, And, Or, If}
use Rattle.pipe_lexer.specs.declared.operator.BinOp.{BinOp as Sign}
use Rattle.pipe_lexer.specs.declared.operator.BinOp.TheVariants.{Div, Rem, Eq, Ne}
use Rattle.pipe_lexer.specs.declared.operator.InputKind.TheVariants as declared
use Rattle.kind_rules.specs.declared.meaning.Meaning.TheVariants as meaning
use Rattle.kind_rules.specs.declared.meaning.Meaning.{Meaning}
use Rattle.kind_rules.specs.Expressions.{has_division}
use Rattle.kind_rules.specs.Inputs.{input_kinds}
use Rattle.kind_rules.specs.Scopes.{Scope, meaning_of}
use Rattle.kind_rules.specs.Signs.{op_of, takes_ints, result_kind, is_division}
use Rattle.kind_rules.specs.StandsFor as stands
use Rattle.kind_rules.specs.StandsFor.{Stands, Opens, Each, RowOf, RowStands, SeedStands}
use Rattle.kind_rules.proofs.KindTests.{or_false}
use Rattle.kind_rules.proofs.Meanings.{kinds_in, HasKind, meaning_has}

-- the term has this kind, is within the tree's counts, and is without division where the tree is
pub record TermFits (inputs : List InputKind) (scope : List Kind) (e : Formula) (k : Kind) (t : Term) : Type 0 where
  pub kind : kind_of inputs scope t ≡ Some k
  pub nodes : term_nodes t ≤ length (node_offsets e)
  pub depth : term_depth t ≤ depth_of e
  pub undivided : has_division e ≡ false → is_undivided t ≡ true

undivided_op : (o : Sign) → is_division o ≡ false → typing.is_division (op_of o) ≡ false
undivided_op Div h = absurd cc
undivided_op Rem h = absurd cc
undivided_op _ h = refl

ints_kind : (o : Sign) → takes_ints o ≡ true → operation_kind (op_of o) (Some kind.Int) (Some kind.Int) ≡ Some (result_kind o)
ints_kind Eq h = absurd cc
ints_kind Ne h = absurd cc
ints_kind _ h = refl

alike_kind : (o : Sign) (k : Kind) → takes_ints o ≡ false → operation_kind (op_of o) (Some k) (Some k) ≡ Some (result_kind o)
alike_kind Eq kind.Int h = refl
alike_kind Eq kind.Bool h = refl
alike_kind Ne kind.Int h = refl
alike_kind Ne kind.Bool h = refl
alike_kind _ k h = absurd cc

pub one_kind : (k : Kind) → typing.is_kind k (Some k) ≡ true
one_kind kind.Int = refl
one_kind kind.Bool = refl

module _ (inputs : List InputKind) (scope : List Kind) where
  neg_fits : (at : ℕ) (a : Formula) (x : Term) → TermFits inputs scope a kind.Int x → TermFits inputs scope (Neg at a) kind.Int (term.Neg x)
  neg_fits at a x s = let n = s.nodes in let d = s.depth in record { kind = rw s.kind refl; nodes = omega arith; depth = omega arith; undivided = s.undivided }

  not_fits : (at : ℕ) (a : Formula) (x : Term) → TermFits inputs scope a kind.Bool x → TermFits inputs scope (Not at a) kind.Bool (term.Not x)
  not_fits at a x s = let n = s.nodes in let d = s.depth in record { kind = rw s.kind refl; nodes = omega arith; depth = omega arith; undivided = s.undivided }

  bin_fits : (at : ℕ) (o : Sign) (q : ℕ) (a b : Formula) (j k : Kind) (x y : Term) → TermFits inputs scope a j x → TermFits inputs scope b j y → operation_kind (op_of o) (Some j) (Some j) ≡ Some k
      → TermFits inputs scope (Bin at o q a b) k (term.Bin (op_of o) x y)
  bin_fits at o q a b j k x y sx sy h =
      record {
        kind = rw (sx.kind, sy.kind) h;
        nodes = omega (arith, sx.nodes, sy.nodes, length-append (node_offsets a) (q ∷ node_offsets b));
        depth = omega (arith, sx.depth, sy.depth);
        undivided =
            λ e.
            let l = or_false (has_division a) (is_division o || has_division b) e in
            let r = or_false (is_division o) (has_division b) l.1 in
            rw (undivided_op o r.0) (and_from (is_undivided x) (is_undivided y) (sx.undivided l.0) (sy.undivided r.1));
      }

  and_fits : (at q : ℕ) (a b : Formula) (x y : Term) → TermFits inputs scope a kind.Bool x → TermFits inputs scope b kind.Bool y → TermFits inputs scope (And at q a b) kind.Bool (term.And x y)
  and_fits at q a b x y sx sy =
      record {
        kind = rw (sx.kind, sy.kind) refl;
        nodes = omega (arith, sx.nodes, sy.nodes, length-append (node_offsets a) (q ∷ node_offsets b));
        depth = omega (arith, sx.depth, sy.depth);
        undivided = λ e. let l = or_false (has_division a) (has_division b) e in and_from (is_undivided x) (is_undivided y) (sx.undivided l.0) (sy.undivided l.1);
      }

  or_fits : (at q : ℕ) (a b : Formula) (x y : Term) → TermFits inputs scope a kind.Bool x → TermFits inputs scope b kind.Bool y → TermFits inputs scope (Or at q a b) kind.Bool (term.Or x y)
  or_fits at q a b x y sx sy =
      let s = and_fits at q a b x y sx sy in record { kind = rw (sx.kind, sy.kind) refl; nodes = s.nodes; depth = s.depth; undivided = s.undivided }

  if_fits : (at : ℕ) (c a b : Formula) (k : Kind) (z x y : Term) → TermFits inputs scope c kind.Bool z → TermFits inputs scope a k x → TermFits inputs scope b k y → TermFits inputs scope (If at c a b) k (term.If z x y)
  if_fits at c a b k z x y sz sx sy =
      record {
        kind = rw (sz.kind, sx.kind, sy.kind, one_kind k) refl;
        nodes = omega (arith, sz.nodes, sx.nodes, sy.nodes, length-append (node_offsets c ++ node_offsets a) (node_offsets b), length-append (node_offsets c) (node_offsets a));
        depth = omega (arith, sz.depth, sx.depth, sy.depth);
        undivided =
            λ e.
            let l = or_false (has_division c) (has_division a || has_division b) e in
            let r = or_false (has_division a) (has_division b) l.1 in
            and_from (is_undivided z) _ (sz.undivided l.0) (and_from (is_undivided x) (is_undivided y) (sx.undivided r.0) (sy.undivided r.1));
      }

-- a name has the kind of what it stands for
has_meaning : (scope : Scope) (n : List ℕ) (m : Meaning) → meaning_of scope n ≡ Some m → HasKind (input_kinds scope.inputs) (kinds_in scope) (Some m)
has_meaning scope n m h = subst (λ (o : Option Meaning). HasKind (input_kinds scope.inputs) (kinds_in scope) o) h (meaning_has scope n)

-- the position of an array among the inputs
pub array_fits : (scope : Scope) (n : List ℕ) (i : ℕ) → meaning_of scope n ≡ Some (meaning.Input i declared.Array) → typing.is_array (slice_get (input_kinds scope.inputs) i) ≡ true
array_fits scope n i h = rw (has_meaning scope n (meaning.Input i declared.Array) h) refl

pub expression_fits : {scope : Scope} {e : Formula} {k : Kind} {x : Term} → Stands scope e k x → TermFits (input_kinds scope.inputs) (kinds_in scope) e k x
expression_fits stands.number = record { kind = refl; nodes = omega arith; depth = omega arith; undivided = λ e. refl }
expression_fits stands.truth = record { kind = refl; nodes = omega arith; depth = omega arith; undivided = λ e. refl }
expression_fits {scope = scope} (stands.bound_word {i = i} {n = n} {k = k} h) =
    record { kind = has_meaning scope n (meaning.Bound i k) h; nodes = omega arith; depth = omega arith; undivided = λ e. refl }
expression_fits {scope = scope} (stands.int_input {i = i} {n = n} h) =
    record { kind = rw (has_meaning scope n (meaning.Input i declared.Int) h) refl; nodes = omega arith; depth = omega arith; undivided = λ e. refl }
expression_fits {scope = scope} (stands.array_length {i = i} {n = n} h) = record { kind = rw (array_fits scope n i h) refl; nodes = omega arith; depth = omega arith; undivided = λ e. refl }
expression_fits (stands.parentheses s) = let r = expression_fits s in record { kind = r.kind; nodes = omega (arith, r.nodes); depth = omega (arith, r.depth); undivided = r.undivided }
expression_fits {scope = scope} (stands.minus {at = at} {a = a} {x = x} s) = neg_fits (input_kinds scope.inputs) (kinds_in scope) at a x (expression_fits s)
expression_fits {scope = scope} (stands.not {at = at} {a = a} {x = x} s) = not_fits (input_kinds scope.inputs) (kinds_in scope) at a x (expression_fits s)
expression_fits {scope = scope} (stands.ints {at = at} {q = q} {o = o} {a = a} {b = b} {x = x} {y = y} is s t) =
    bin_fits (input_kinds scope.inputs) (kinds_in scope) at o q a b kind.Int (result_kind o) x y (expression_fits s) (expression_fits t) (ints_kind o is)
expression_fits {scope = scope} (stands.one_kind {at = at} {q = q} {o = o} {a = a} {b = b} {k = k} {x = x} {y = y} is s t) =
    bin_fits (input_kinds scope.inputs) (kinds_in scope) at o q a b k (result_kind o) x y (expression_fits s) (expression_fits t) (alike_kind o k is)
expression_fits {scope = scope} (stands.conjunction {at = at} {q = q} {a = a} {b = b} {x = x} {y = y} s t) = and_fits (input_kinds scope.inputs) (kinds_in scope) at q a b x y (expression_fits s) (expression_fits t)
expression_fits {scope = scope} (stands.disjunction {at = at} {q = q} {a = a} {b = b} {x = x} {y = y} s t) = or_fits (input_kinds scope.inputs) (kinds_in scope) at q a b x y (expression_fits s) (expression_fits t)
expression_fits {scope = scope} (stands.choice {at = at} {c = c} {a = a} {b = b} {k = k} {z = z} {x = x} {y = y} d s t) =
    if_fits (input_kinds scope.inputs) (kinds_in scope) at c a b k z x y (expression_fits d) (expression_fits s) (expression_fits t)

-- an opening expression
pub opening_fits : {scope : Scope} {e : Formula} {k : Kind} {x : Term} → Opens scope e k x → opens (input_kinds scope.inputs) (kinds_in scope) k x ≡ true
opening_fits {k = k} o = let s = expression_fits o.stands in rw (s.kind, s.undivided o.undivided, one_kind k) refl

-- ---- rows

pub record PartsFit (inputs : List InputKind) (scope : List Kind) (es : List Formula) (ks : List Kind) (xs : List Term) : Type 0 where
  pub width : length xs ≡ length es
  pub kinds : typing.kinds_of inputs scope xs ≡ Some ks
  pub nodes : row_nodes xs ≤ length (row_node_offsets es)
  pub depth : row_depth xs ≤ tree.row_depth es

parts_fit : {scope : Scope} {es : List Formula} {ks : List Kind} {xs : List Term} → Each (Stands scope) es ks xs → PartsFit (input_kinds scope.inputs) (kinds_in scope) es ks xs
parts_fit stands.none = record { width = refl; kinds = refl; nodes = omega arith; depth = omega arith }
parts_fit (stands.one_more s r) =
    let p = expression_fits s in
    let ps = parts_fit r in
    record { width = omega (arith, ps.width); kinds = rw (p.kind, ps.kinds) refl; nodes = omega (arith, p.nodes, ps.nodes, length-append {A = ℕ}); depth = omega (arith, p.depth, ps.depth) }

-- a whole row, of 1 to 8 parts
pub record RowFits (inputs : List InputKind) (scope : List Kind) (row : Row) (ks : List Kind) (xs : List Term) : Type 0 where
  pub kinds : row_kinds inputs scope xs ≡ Some ks
  pub nodes : row_nodes xs ≤ length (row_node_offsets row.parts)
  pub depth : row_depth xs ≤ tree.row_depth row.parts

pub row_fits : {scope : Scope} {row : Row} {ks : List Kind} {xs : List Term} → RowStands scope row ks xs → RowFits (input_kinds scope.inputs) (kinds_in scope) row ks xs
row_fits {xs = xs} r =
    let p = parts_fit r.parts in
    record { kinds = rw (le-leb 1 (length xs) (omega (arith, p.width, r.some)), le-leb (length xs) 8 (omega (arith, p.width, r.few))) p.kinds; nodes = p.nodes; depth = p.depth }

opened_parts : {scope : Scope} {es : List Formula} {ks : List Kind} {xs : List Term} → Each (Opens scope) es ks xs → Each (Stands scope) es ks xs × (all_undivided xs ≡ true)
opened_parts stands.none = (stands.none, refl)
opened_parts (stands.one_more o r) =
    let p = opened_parts r in
    (stands.one_more o.stands p.0, and_from _ _ ((expression_fits o.stands).undivided o.undivided) p.1)

-- a seed is a row in which no division stands
pub seed_fits : {scope : Scope} {row : Row} {ks : List Kind} {xs : List Term} → SeedStands scope row ks xs
    → RowFits (input_kinds scope.inputs) (kinds_in scope) row ks xs × (seed_kinds (input_kinds scope.inputs) (kinds_in scope) xs ≡ Some ks)
seed_fits r =
    let p = opened_parts r.parts in
    let row = row_fits (record { some = r.some; few = r.few; parts = p.0 }) in
    (row, rw p.1 row.kinds)

same_as_itself : (ks : List Kind) → same_kinds ks (Some ks) ≡ true
same_as_itself [] = refl
same_as_itself (k ∷ ks) = and_from _ _ (one_kind k) (same_as_itself ks)

-- a next state has the kinds of the state
pub next_fits : (inputs : List InputKind) (scope : List Kind) (row : Row) (ks : List Kind) (xs : List Term) → RowFits inputs scope row ks xs → same_kinds ks (row_kinds inputs scope xs) ≡ true
next_fits inputs scope row ks xs r = rw r.kinds (same_as_itself ks)
