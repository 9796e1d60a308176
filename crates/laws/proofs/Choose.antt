-- What choosing by a test means for a fact, and how a fact of every number below a bound grows by one.
use Rattle.std.specs.Prelude.{◌≡◌, ◌⊎◌, ◌≤◌, ◌<◌}
use Rattle.laws.specs.Kit.{refl, subst, inl, inr, Bool, true, false, ℕ, suc, arith, le-suc_iff}
use Rattle.laws.specs.Kit.{eqb, eqb-true, eqb-false, eq-eqb, ne_eqb}
use Rattle.laws.specs.Choose.{pick, or_else}

pub false_true : false ≡ true → ⊥
false_true e = let z : ◌≡◌ {A = ℕ} 0 1 = cc in omega arith

-- to show a fact of what was picked, show it of each, knowing how the test came out
pub pick_either : {A : Type 0} (P : A → Type 0) (t : Bool) {a b : A} → (t ≡ true → P a) → (t ≡ false → P b) → P (pick t a b)
pick_either P true f g = f refl
pick_either P false f g = g refl

-- two numbers of which the first goes before: none where both are none, the first where it is one
pub neither : (a b : ℕ) → or_else a b ≡ 0 → (a ≡ 0) × (b ≡ 0)
neither a b = pick_either (λ n. n ≡ 0 → (a ≡ 0) × (b ≡ 0)) (eqb a 0) (λ e f. (eqb-true a 0 e, f)) (λ e f. absurd (eqb-false a 0 e f))

pub second : (a b : ℕ) → a ≡ 0 → or_else a b ≡ b
second a b e = rw (eq-eqb a 0 e)

pub before : (a b : ℕ) → 0 < a → or_else a b ≡ a
before a b h = rw (ne_eqb a 0 (λ e. omega arith))

-- what holds of each number below m, and of m, holds of each below m + 1
pub up_to : (P : ℕ → Type 0) (m : ℕ) → ((i : ℕ) → i < m → P i) → P m → (i : ℕ) → i < suc m → P i
up_to P m below here i h = go (le-suc_iff.0 h)
  where
    go : (suc i ≤ m) ⊎ (suc i ≡ suc m) → P i
    go (inl l) = below i l
    go (inr e) = let same : m ≡ i = omega arith in subst P same here
