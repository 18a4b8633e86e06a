-- Lists of rows, with how they end, and what each stage makes of one.
use Rattle.std.specs.Prelude.{ℕ, zero, suc, List, [], ◌∷◌, ◌++◌}
use Rattle.list_denotation.specs.Values.{Fault, Got, Is, Fails, choice}

-- all rows were given, the bound cut them off, or a fault ended them
pub data Ending : Type 0 where
  End Cut : Ending
  Broken : Fault → Ending

pub data Rows : Type 0 where
  Ends : Ending → Rows
  Row : List ℕ → Rows → Rows

-- the rows that go on from a value, and a fault where there is none
abbrev pub unless_broken : {A : Type 0} → Got A → (A → Rows) → Rows
unless_broken (Is x) go = go x
unless_broken (Fails f) go = Ends (Broken f)

-- ---- sources

-- the first n rows, which are cut off where there are more
abbrev pub firsts : ℕ → List (List ℕ) → Rows
firsts n [] = Ends End
firsts zero (r ∷ rs) = Ends Cut
firsts (suc n) (r ∷ rs) = Row r (firsts n rs)

-- each word as a row
abbrev pub single_rows : List ℕ → List (List ℕ)
single_rows [] = []
single_rows (x ∷ xs) = (x ∷ []) ∷ single_rows xs

-- the items of the states from one on, while the guard holds, and at most n of them
abbrev pub unfold_rows : (List ℕ → Got ℕ) → (List ℕ → Got (List ℕ)) → (List ℕ → Got (List ℕ)) → ℕ → List ℕ → Rows
unfold_rows guard item next zero state = unless_broken (guard state) (λ g. choice g (Ends End) (Ends Cut))
unfold_rows guard item next (suc n) state =
    unless_broken (guard state) (λ g. choice g (Ends End)
    (unless_broken (item state) (λ r. unless_broken (next state) (λ s. Row r (unfold_rows guard item next n s)))))

-- ---- stages

-- what a function makes of each row, up to its first fault
abbrev pub map_rows : (List ℕ → Got (List ℕ)) → Rows → Rows
map_rows f (Ends e) = Ends e
map_rows f (Row r rest) = unless_broken (f r) (λ s. Row s (map_rows f rest))

-- the rows of which a test is true, up to its first fault
abbrev pub filter_rows : (List ℕ → Got ℕ) → Rows → Rows
filter_rows f (Ends e) = Ends e
filter_rows f (Row r rest) = unless_broken (f r) (λ b. choice b (filter_rows f rest) (Row r (filter_rows f rest)))

-- the first k rows
abbrev pub take_rows : ℕ → Rows → Rows
take_rows zero rows = Ends End
take_rows (suc k) (Ends e) = Ends e
take_rows (suc k) (Row r rest) = Row r (take_rows k rest)

-- all but the first k rows
abbrev pub drop_rows : ℕ → Rows → Rows
drop_rows zero rows = rows
drop_rows (suc k) (Ends e) = Ends e
drop_rows (suc k) (Row r rest) = drop_rows k rest

-- the rows before the first of which a test is false
abbrev pub take_while_rows : (List ℕ → Got ℕ) → Rows → Rows
take_while_rows f (Ends e) = Ends e
take_while_rows f (Row r rest) = unless_broken (f r) (λ b. choice b (Ends End) (Row r (take_while_rows f rest)))

-- the state after each row
abbrev pub scan_rows : (List ℕ → List ℕ → Got (List ℕ)) → List ℕ → Rows → Rows
scan_rows f state (Ends e) = Ends e
scan_rows f state (Row r rest) = unless_broken (f state r) (λ s. Row s (scan_rows f s rest))

-- one list and then another, where the first comes to its end
abbrev pub followed_by : Rows → Rows → Rows
followed_by (Ends End) rest = rest
followed_by (Ends Cut) rest = Ends Cut
followed_by (Ends (Broken f)) rest = Ends (Broken f)
followed_by (Row r rows) rest = Row r (followed_by rows rest)

-- the inner lists of the rows, one after the other
abbrev pub join_rows : Rows → (List ℕ → Rows) → Rows
join_rows (Ends e) inner = Ends e
join_rows (Row r rest) inner = followed_by (inner r) (join_rows rest inner)

-- the rows of two lists side by side, up to the shorter length
abbrev pub zip_rows : Rows → Rows → Rows
zip_rows (Ends e) right = Ends e
zip_rows (Row r left) (Ends e) = Ends e
zip_rows (Row r left) (Row s right) = Row (r ++ s) (zip_rows left right)
