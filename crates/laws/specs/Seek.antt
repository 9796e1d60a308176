-- The lowest of 0 .. m - 1 that passes a test, and m where none does: as a predicate that one number meets, and by recursion on m. And the
-- same with 0 where none does, for who knows by something else whether one does.
use Rattle.std.specs.Prelude.{◌≡◌, ◌≤◌, ◌<◌}
use Rattle.laws.specs.Kit.{Bool, true, false, ℕ, zero, suc, ltb}
use Rattle.laws.specs.Choose.{pick}

pub record Lowest (p : ℕ → Bool) (m j : ℕ) : Type 0 where
  pub within : j ≤ m
  pub before : (i : ℕ) → i < j → p i ≡ false
  pub here : j < m → p j ≡ true

unfoldable pub seek : (ℕ → Bool) → ℕ → ℕ
seek p zero = 0
seek p (suc m) = pick (ltb (seek p m) m) (seek p m) (pick (p m) m (suc m))

abbrev pub hit : (ℕ → Bool) → ℕ → ℕ
hit p m = pick (ltb (seek p m) m) (seek p m) 0
