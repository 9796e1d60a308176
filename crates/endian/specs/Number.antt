-- "All big-endian.": what number some bytes are, the highest first, and what bytes a number is, for any width.
use Rattle.std.specs.Prelude.{◌∷◌, ◌+◌, ◌*◌, ◌/◌, ◌%◌, ◌^◌, ◌<◌, ◌≤◌}
use Rattle.laws.specs.Kit.{List, [], ℕ, zero, suc, length, take, drop}

-- F2: the highest byte stands first
unfoldable pub number_of : List ℕ → ℕ
number_of [] = 0
number_of (b ∷ bs) = b * 256 ^ length bs + number_of bs

-- the number that the k bytes from a place on are
abbrev pub number_at : ℕ → List ℕ → ℕ → ℕ
number_at k s at = number_of (take k (drop at s))

-- F2: the k bytes of a number
unfoldable pub bytes_of : ℕ → ℕ → List ℕ
bytes_of zero x = []
bytes_of (suc k) x = x / 256 ^ k ∷ bytes_of k (x % 256 ^ k)

-- each is a byte
abbrev pub Bytes : List ℕ → Type 0
Bytes [] = Unit
Bytes (b ∷ bs) = (b < 256) × Bytes bs

-- k bytes from a place on lie within a list
pub record Room (k : ℕ) (s : List ℕ) (at : ℕ) : Type 0 where
  pub inside : at + k ≤ length s
