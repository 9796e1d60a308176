-- The greatest of f 0 .. f (m - 1), and 0 where m is 0: as a predicate that one number meets, and by recursion on m.
use Rattle.std.specs.Prelude.{◌≡◌, ◌≤◌, ◌<◌}
use Rattle.laws.specs.Kit.{ℕ, zero, suc, max}

pub record Greatest (f : ℕ → ℕ) (m p : ℕ) : Type 0 where
  pub bound : (i : ℕ) → i < m → f i ≤ p
  pub met : 0 < m → (i : ℕ) × (i < m) × (f i ≡ p)
  pub none : m ≡ 0 → p ≡ 0

unfoldable pub most : (ℕ → ℕ) → ℕ → ℕ
most f zero = 0
most f (suc m) = max (most f m) (f m)
