-- What never falls from one place to the next never falls from one place to any later. By the later place.
use Rattle.std.specs.Prelude.{◌≡◌, ◌⊎◌, ◌≤◌, ◌<◌}
use Rattle.laws.specs.Kit.{ap, inl, inr, ℕ, zero, suc, arith, le-suc_iff}
use Rattle.laws.specs.Climb.{Climbs}

pub climbs_le : (f : ℕ → ℕ) (m : ℕ) → Climbs f m → (i j : ℕ) → i ≤ j → j < m → f i ≤ f j
climbs_le f m up i zero h k = let z : i ≡ 0 = omega arith in omega (arith, ap f z)
climbs_le f m up i (suc j) h k = go (climbs_le f m up i j) (le-suc_iff.0 h)
  where
    go : (i ≤ j → j < m → f i ≤ f j) → (i ≤ j) ⊎ (i ≡ suc j) → f i ≤ f (suc j)
    go before (inl l) = omega (arith, before l (omega arith), up j k)
    go before (inr e) = omega (arith, ap f e)
