-- What never falls from one place to the next.
use Rattle.std.specs.Prelude.{◌≤◌, ◌<◌}
use Rattle.laws.specs.Kit.{ℕ, suc}

-- f 0 ≤ f 1 ≤ .. ≤ f (m - 1)
abbrev pub Climbs : (ℕ → ℕ) → ℕ → Type 0
Climbs f m = (i : ℕ) → suc i < m → f i ≤ f (suc i)
