-- Choosing by a test, and what holds of every number below a bound.
use Rattle.std.specs.Prelude.{◌<◌}
use Rattle.laws.specs.Kit.{Bool, true, false, List, ℕ, eqb, get_or}

-- the first of two where the test holds, the second where it does not
abbrev pub pick {ℓ} : {A : Type ℓ} → Bool → A → A → A
pick true a b = a
pick false a b = b

-- the first of two numbers that is not 0: the second only where the first is 0
abbrev pub or_else : ℕ → ℕ → ℕ
or_else a b = pick (eqb a 0) b a

-- each number of a list is below a bound, as those of a slice are below what their type holds
abbrev pub AllBelow : ℕ → List ℕ → Type 0
AllBelow bound l = (i : ℕ) → get_or l i 0 < bound
