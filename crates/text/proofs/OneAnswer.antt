-- The contract of a line that is put, a record of two equations and a bound, admits one end and one content of the lent bytes.
use Rattle.std.specs.Prelude.{◌≡◌}
use Rattle.laws.specs.Kit.{List, ℕ}
use Rattle.laws.proofs.Lay.{put_unique}
use Rattle.text.specs.Lines.{Line}

pub line_unique : (line : List ℕ) (at : ℕ) (before : List ℕ) (a b : ℕ) (p q : List ℕ) → Line line at before a p → Line line at before b q
    → (a ≡ b) × (p ≡ q)
line_unique line at before a b p q x y = put_unique x.put y.put
