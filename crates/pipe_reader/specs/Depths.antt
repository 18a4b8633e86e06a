-- How deep an expression is at least, by the forms that are open: with the least operands where they are awaited.
use Rattle.std.specs.Prelude.{ℕ, ◌+◌, List, [], ◌∷◌, length, max}
use Rattle.pipe_tree.specs.Bounds.{depth_of}
use Rattle.pipe_reader.specs.Machine.{Final, Negates, Denies, Joins, Chooses, Frame, Last, Encloses, Tests, Branches, State, Need, Have, Calls, Spells, Closes}

-- the depth of a form with an operand of depth d
abbrev pub final_depth : Final → ℕ → ℕ
final_depth (Negates at) d = d + 1
final_depth (Denies at) d = d + 1
final_depth (Joins operator q a) d = max (depth_of a) d + 1
final_depth (Chooses at c a) d = max (depth_of c) (max (depth_of a) d) + 1

abbrev pub frame_depth : Frame → ℕ → ℕ
frame_depth (Last f) d = final_depth f d
frame_depth (Encloses at) d = d + 1
frame_depth (Tests at) d = max d (max 1 1) + 1
frame_depth (Branches at c) d = max (depth_of c) (max d 1) + 1

-- the least depth of an expression in which the open forms get an operand of depth d
abbrev pub least_depth : List Frame → ℕ → ℕ
least_depth [] d = d
least_depth (f ∷ s) d = least_depth s (frame_depth f d)

abbrev pub least_depth_of : State → ℕ
least_depth_of (Need s) = least_depth s 1
least_depth_of (Have s u) = least_depth s (depth_of u)
least_depth_of (Calls s at) = least_depth s 1
least_depth_of (Spells s at) = least_depth s 1
least_depth_of (Closes s at q n) = least_depth s 1

-- The same as it is tested at each token: the number of forms around the innermost, and that one's own
-- depth. What is deeper in the forms around it was tested when it was read.
abbrev pub tested_depth : State → ℕ
tested_depth (Need []) = 1
tested_depth (Need (f ∷ s)) = length s + frame_depth f 1
tested_depth (Have s u) = length s + depth_of u
tested_depth (Calls s at) = length s + 1
tested_depth (Spells s at) = length s + 1
tested_depth (Closes s at q n) = length s + 1
