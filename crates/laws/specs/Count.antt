-- How many of 0 .. m - 1 pass a test, and tests which pass exactly up to a place, or between two.
use Rattle.std.specs.Prelude.{◌≡◌, ◌&&◌, ◌+◌, ◌≤◌, ◌<◌}
use Rattle.laws.specs.Kit.{Bool, true, ℕ, zero, suc}
use Rattle.laws.specs.Kit.{ltb}
use Rattle.laws.specs.Choose.{pick}

unfoldable pub count : (ℕ → Bool) → ℕ → ℕ
count p zero = 0
count p (suc m) = count p m + pick (p m) 1 0

-- one before m passes; and m passes, not as the first
abbrev pub begun : (ℕ → Bool) → ℕ → Bool
begun p m = ltb 0 (count p m)

abbrev pub again : (ℕ → Bool) → ℕ → Bool
again p m = p m && begun p m

-- of the numbers below m, those that pass are those from a up to, not including, b
pub record Between (p : ℕ → Bool) (m a b : ℕ) : Type 0 where
  pub inside : (i : ℕ) → i < m → p i ≡ true → (a ≤ i) × (i < b)
  pub passes : (i : ℕ) → i < m → a ≤ i → i < b → p i ≡ true

-- of the numbers below m, those that pass are those below c
pub record UpTo (p : ℕ → Bool) (m c : ℕ) : Type 0 where
  pub inside : (i : ℕ) → i < m → p i ≡ true → i < c
  pub passes : (i : ℕ) → i < m → i < c → p i ≡ true

-- a test that, once it fails, goes on failing passes exactly below its count
pub record Falls (p : ℕ → Bool) (m : ℕ) : Type 0 where
  pub down : (i j : ℕ) → i ≤ j → j < m → p j ≡ true → p i ≡ true
