-- A layout is a list of widths: fields of so many bytes each, one after the other, in one byte order.
use Rattle.std.specs.Prelude.{◌∷◌, ◌++◌, ◌+◌, ◌^◌, ◌<◌}
use Rattle.laws.specs.Kit.{List, [], ℕ, take, drop}
use Rattle.endian.specs.declared.Order.{Order}
use Rattle.endian.specs.Number.{number_of}
use Rattle.endian.specs.Order.{turned, number_by, bytes_by}

-- the bytes of some fields, by their widths
unfoldable pub field_bytes : Order → List ℕ → List ℕ → List ℕ
field_bytes o [] vs = []
field_bytes o (w ∷ ws) [] = []
field_bytes o (w ∷ ws) (v ∷ vs) = bytes_by o w v ++ field_bytes o ws vs

-- the fields at the front of some bytes
unfoldable pub fields : Order → List ℕ → List ℕ → List ℕ
fields o [] l = []
fields o (w ∷ ws) l = number_of (turned o (take w l)) ∷ fields o ws (drop w l)

abbrev pub total : List ℕ → ℕ
total [] = 0
total (w ∷ ws) = w + total ws

-- each field fits its width
abbrev pub Fit : List ℕ → List ℕ → Type 0
Fit [] [] = Unit
Fit [] (v ∷ vs) = ⊥
Fit (w ∷ ws) [] = ⊥
Fit (w ∷ ws) (v ∷ vs) = (v < 256 ^ w) × Fit ws vs

-- the fields from a place on, each by its own place
abbrev pub fields_at : Order → List ℕ → List ℕ → ℕ → List ℕ
fields_at o [] l at = []
fields_at o (w ∷ ws) l at = number_by o w l at ∷ fields_at o ws l (at + w)
