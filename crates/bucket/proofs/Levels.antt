-- The level after packet b bounds every run that ends there and is met
-- by the run it names, and later starts have strictly less. Over any D.
use Rattle.std.specs.Prelude.{◌≡◌, ◌⊎◌, ◌+◌, ◌-◌, ◌≤◌, ◌<◌}
use Rattle.laws.specs.Kit.{refl, ap, inl, inr, Bool, true, false, ℕ, zero, suc, arith, le-suc_iff, leb}
use Rattle.laws.specs.Kit.{leb→le, nleb→lt}
use Rattle.laws.specs.Choose.{pick}
use Rattle.laws.specs.Climb.{Climbs}
use Rattle.bucket.specs.Step.{level_at, start_at}

-- "Unused instants are not saved up": however many drains came before it, a packet finds its own place in the bucket
pub level_one : (D : ℕ → ℕ) (i : ℕ) → level_at D i ≤ D (suc i) - D i → level_at D (suc i) ≡ 1
unfolding level_at
level_one D i h = omega arith

pub level_positive : (D : ℕ → ℕ) (i : ℕ) → 1 ≤ level_at D i
unfolding level_at
level_positive D zero = omega arith
level_positive D (suc i) = omega arith

-- the packets of a run that ends at b are at most the level and the drains after its first arrival
pub level_bound : (D : ℕ → ℕ) (m : ℕ) → Climbs D m → (a b : ℕ) → a ≤ b → b < m → b + 1 + D a ≤ level_at D b + D b + a
unfolding level_at
level_bound D m mono a zero h k = let z : a ≡ 0 = omega arith in omega (arith, ap D z)
level_bound D m mono a (suc b) h k = go (level_bound D m mono a b) (le-suc_iff.0 h)
  where
    go : (a ≤ b → b < m → b + 1 + D a ≤ level_at D b + D b + a) → (a ≤ b) ⊎ (a ≡ suc b) → suc b + 1 + D a ≤ level_at D (suc b) + D (suc b) + a
    go ih (inl l) = let f = ih l (omega arith) in omega (arith, mono b k)
    go ih (inr e) = omega (arith, ap D e)

-- the run s .. b that a level l names: its excess is l, and a run that starts later has less
pub record Named (D : ℕ → ℕ) (b s l : ℕ) : Type 0 where
  pub within : s ≤ b
  pub exact : b + 1 + D s ≡ l + D b + s
  pub later : (a : ℕ) → s < a → a ≤ b → b + 1 + D a < l + D b + a

pub level_named : (D : ℕ → ℕ) (m : ℕ) → Climbs D m → (b : ℕ) → b < m → Named D b (start_at D b) (level_at D b)
unfolding start_at
level_named D m mono zero k = record { within = omega arith; exact = omega arith; later = λ a h g. omega arith }
level_named D m mono (suc b) k = go (leb (level_at D b) (D (suc b) - D b)) refl (level_named D m mono b (omega arith))
  where
    Next : Bool → Type 0
    Next t = Named D (suc b) (pick t (suc b) (start_at D b)) (level_at D b - (D (suc b) - D b) + 1)

    go : (t : Bool) → leb (level_at D b) (D (suc b) - D b) ≡ t → Named D b (start_at D b) (level_at D b) → Next t
    go true e ih =
        let drained : level_at D b ≤ D (suc b) - D b = leb→le _ _ (rw e tt) in
        record { within = omega arith; exact = omega (arith, mono b k); later = λ a h g. omega arith }
    go false e ih =
        let kept : D (suc b) - D b < level_at D b = nleb→lt _ _ (rw e tt) in
        record { within = omega arith; exact = omega (arith, mono b k); later = λ a h g. last kept a h (le-suc_iff.0 g) }
      where
        last : D (suc b) - D b < level_at D b → (a : ℕ) → start_at D b < a → (a ≤ b) ⊎ (a ≡ suc b)
            → suc b + 1 + D a < level_at D b - (D (suc b) - D b) + 1 + D (suc b) + a
        last kept a h (inl l) = omega (arith, ih.later a h l, mono b k)
        last kept a h (inr q) = omega (arith, ap D q)

-- the level rises by one at most, so that the first level above c is c + 1
pub level_rises : (D : ℕ → ℕ) (c e : ℕ) → ((b : ℕ) → b < e → level_at D b ≤ c) → level_at D e ≤ c + 1
unfolding level_at
level_rises D c zero low = omega arith
level_rises D c (suc e) low = omega (arith, low e (omega arith))
