-- Text as bytes: a word is the codes of its letters, a number its decimal digits, with a minus sign where it is below 0.
use Rattle.std.specs.Prelude.{◌∷◌, ◌++◌, ◌+◌, ◌-◌, ◌*◌, ◌/◌, ◌%◌, ◌≤◌, ◌<◌}
use Rattle.laws.specs.Kit.{List, [], ℕ, zero, suc, ltb, ℤ, pos, negsuc}
use Prim.Native.Char.{code}
use Prim.Native.String.{String, [] as end, ◌∷◌ as ◌then◌}
use Rattle.laws.specs.Choose.{pick}
use Rattle.laws.specs.Fold.{fold}

-- the ASCII codes of a text
abbrev pub codes : String → List ℕ
codes end = []
codes (c then s) = code c ∷ codes s

-- the digits of x, given those of a tenth of it: these, where x has more than one digit, and then the last
abbrev pub digits_by : ℕ → List ℕ → List ℕ
digits_by x tenth = pick (ltb x 10) [] tenth ++ ((48 + x % 10) ∷ [])

-- the digits of a number that has at most so many
unfoldable pub digits_of : ℕ → ℕ → List ℕ
digits_of zero x = []
digits_of (suc most) x = digits_by x (digits_of most (x / 10))

-- a number of 64 bits has at most twenty
abbrev pub digits : ℕ → List ℕ
digits x = digits_of 20 x

abbrev pub signed : ℤ → List ℕ
signed (pos n) = digits n
signed (negsuc n) = codes "-" ++ digits (suc n)

-- ---- what the theorems say of digits

-- the number that a reader takes them for
abbrev pub value : List ℕ → ℕ
value ds = fold (λ x d. x * 10 + (d - 48)) 0 ds

-- each is one of `0` to `9`
abbrev pub Digits : List ℕ → Type 0
Digits [] = Unit
Digits (d ∷ ds) = (48 ≤ d) × (d ≤ 57) × Digits ds

-- the first is no `0`
abbrev pub Leads : List ℕ → Type 0
Leads [] = ⊥
Leads (d ∷ ds) = 48 < d
