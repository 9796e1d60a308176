-- Numbers in either byte order: the highest byte stands first, or the lowest.
use Rattle.std.specs.Prelude.{◌+◌, ◌*◌, ◌^◌}
use Rattle.laws.specs.Kit.{List, reverse, ℕ, take, drop}
use Rattle.endian.specs.declared.Order.{Order}
use Rattle.endian.specs.declared.Order.TheVariants.{Big, Little}
use Rattle.endian.specs.Number.{number_of, bytes_of}

-- X11: bytes in an order, turned to stand the highest first; and such bytes turned to that order
abbrev pub turned : Order → List ℕ → List ℕ
turned Big l = l
turned Little l = reverse l

-- the number that the k bytes from a place on are
abbrev pub number_by : Order → ℕ → List ℕ → ℕ → ℕ
number_by o k s at = number_of (turned o (take k (drop at s)))

-- the k bytes of a number
abbrev pub bytes_by : Order → ℕ → ℕ → List ℕ
bytes_by o k x = turned o (bytes_of k x)

-- the number of two halves of k bytes each, as they stand
abbrev pub joined : Order → ℕ → ℕ → ℕ → ℕ
joined Big k first second = first * 256 ^ k + second
joined Little k first second = second * 256 ^ k + first
