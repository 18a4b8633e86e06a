-- The program that a whole tree stands for, or the first fault where the text is gone through from left to right.
use Rattle.std.specs.Prelude.{◌≡◌, [], Ok}
use Rattle.list_denotation.specs.Terms.{Pipeline}
use Rattle.pipe_tree.specs.Trees.{Text}
use Rattle.kind_rules.specs.Checked.{Checked, after}
use Rattle.kind_rules.specs.Inputs.{declared_names, input_kinds, outermost}
use Rattle.kind_rules.specs.Scopes.{distinct_names}
use Rattle.kind_rules.specs.Streams.{stream_of, terminal_of}

abbrev pub check_of : Text → Checked Pipeline
check_of t =
    after (distinct_names [] (declared_names t.inputs)) (λ names.
    after (stream_of (outermost t) t.stream) (λ s.
    after (terminal_of (outermost t) t.terminal s.kinds) (λ f. Ok (record { inputs = input_kinds t.inputs; stream = s.pipe; terminal = f }))))

-- a tree has kinds, and stands for this pipeline
abbrev pub IsTyped : Text → Pipeline → Type 0
IsTyped t p = check_of t ≡ Ok p
