-- The scopes inside patterns.
use Rattle.std.specs.Prelude.{List, [], ◌++◌, Ok}
use Rattle.list_denotation.specs.declared.kind.Kind.{Kind}
use Rattle.pipe_tree.specs.Trees.{Pattern}
use Rattle.kind_rules.specs.Checked.{Checked, after}
use Rattle.kind_rules.specs.Scopes.{Scope, bind, names_of, pattern_of, with_bound}

-- the scope with the words that a pattern binds over a row of these kinds
abbrev pub inside : Scope → Pattern → List Kind → Scope
inside scope p ks = with_bound scope (bind p.names ks)

-- the scope with the words of a state's pattern, and then of a pattern over a row
abbrev pub inside_both : Scope → Pattern → List Kind → Pattern → List Kind → Scope
inside_both scope state js pat ks = with_bound scope (bind state.names js ++ bind pat.names ks)

-- the same, unless a pattern has a fault
abbrev pub inside_of : Scope → Pattern → List Kind → Checked Scope
inside_of scope p ks = after (pattern_of [] p ks) (λ bound. Ok (with_bound scope bound))

abbrev pub inside_both_of : Scope → Pattern → List Kind → Pattern → List Kind → Checked Scope
inside_both_of scope state js pat ks =
    after (pattern_of [] state js) (λ outer. after (pattern_of (names_of state.names) pat ks) (λ inner. Ok (with_bound scope (outer ++ inner))))
