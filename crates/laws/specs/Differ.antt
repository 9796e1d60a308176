-- Differences of naturals as integers: `Differ z a b` says that z is a - b.
use Rattle.std.specs.Prelude.{◌≡◌, ◌+◌}
use Rattle.laws.specs.Kit.{ℕ, suc, ℤ}
use Rattle.laws.specs.Kit.{pos, negsuc}

abbrev pub Differ : ℤ → ℕ → ℕ → Type 0
Differ (pos n) a b = n + b ≡ a
Differ (negsuc n) a b = suc n + a ≡ b

-- every z is above z - beneath z, one of which is 0
abbrev pub above : ℤ → ℕ
above (pos n) = n
above (negsuc n) = 0

abbrev pub beneath : ℤ → ℕ
beneath (pos n) = 0
beneath (negsuc n) = suc n
