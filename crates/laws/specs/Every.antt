-- A test of numbers, as the bool that the code finds and as the fact that it means; lists of tests, and tables of numbers with theirs.
use Rattle.std.specs.Prelude.{◌≡◌, ◌&&◌, ◌||◌, ◌∷◌, ◌++◌}
use Rattle.laws.specs.Kit.{Bool, true, false, not, List, [], ℕ}
use Rattle.std.specs.Prelude.{◌≤◌, ◌<◌}
use Rattle.laws.specs.Kit.{leb, ltb, eqb}

pub data Test : Type 0 where
  at_most : ℕ → ℕ → Test
  below : ℕ → ℕ → Test
  same : ℕ → ℕ → Test
  is : Bool → Test
  -- the second, where the first holds
  where_so : Test → Test → Test

abbrev pub passes : Test → Bool
passes (at_most a b) = leb a b
passes (below a b) = ltb a b
passes (same a b) = eqb a b
passes (is b) = b
passes (where_so t u) = not (passes t) || passes u

abbrev pub Means : Test → Type 0
Means (at_most a b) = a ≤ b
Means (below a b) = a < b
Means (same a b) = a ≡ b
Means (is b) = b ≡ true
Means (where_so t u) = Means t → Means u

-- from the left, as the code's chain of `&` goes
unfoldable pub after : Bool → List Test → Bool
after b [] = b
after b (t ∷ ts) = after (b && passes t) ts

abbrev pub every : List Test → Bool
every ts = after true ts

unfoldable pub All : List Test → Type 0
All [] = Unit
All (t ∷ ts) = Means t × All ts

-- ---- a table of numbers

-- one number: what it is, the bytes of its type, and the tests that are its range
pub record Entry : Type 0 where
  pub value : ℕ
  pub bytes : ℕ
  pub range : List Test

abbrev pub entry : ℕ → ℕ → List Test → Entry
entry value bytes range = record { value = value; bytes = bytes; range = range }

-- a flag as a number
abbrev pub flag : Bool → ℕ
flag true = 1
flag false = 0

abbrev pub tests : List Entry → List Test
tests [] = []
tests (e ∷ es) = e.range ++ tests es

abbrev pub values : List Entry → List ℕ
values [] = []
values (e ∷ es) = e.value ∷ values es
