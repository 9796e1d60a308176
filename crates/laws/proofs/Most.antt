-- The greatest by recursion meets the predicate, and one number only does. By the numbers below which it is the greatest.
use Rattle.std.specs.Prelude.{◌≡◌, ◌≤◌, ◌<◌}
use Rattle.laws.specs.Kit.{refl, ℕ, zero, suc, max, arith, not-suc-le-zero, dec_le}
use Rattle.laws.proofs.Choose.{up_to}
use Rattle.laws.specs.Most.{Greatest, most}

pub greatest_unique : (f : ℕ → ℕ) (m p q : ℕ) → Greatest f m p → Greatest f m q → p ≡ q
greatest_unique f zero p q x y = omega (arith, x.none refl, y.none refl)
greatest_unique f (suc m) p q x y =
    let v = x.met (omega arith) in
    let w = y.met (omega arith) in
    omega (arith, x.bound w.0 w.1, y.bound v.0 v.1, v.2, w.2)

most_bound : (f : ℕ → ℕ) (m i : ℕ) → i < m → f i ≤ most f m
unfolding most
most_bound f zero i h = absurd (not-suc-le-zero h)
most_bound f (suc m) i h = up_to (λ k. f k ≤ max (most f m) (f m)) m (λ k l. omega (arith, most_bound f m k l)) (omega arith) i h

most_met : (f : ℕ → ℕ) (m : ℕ) → 0 < m → (i : ℕ) × (i < m) × (f i ≡ most f m)
unfolding most
most_met f zero h = absurd (not-suc-le-zero h)
most_met f (suc zero) h = (0, h, omega arith)
most_met f (suc (suc m)) h = go (most_met f (suc m) (omega arith)) (dec_le (most f (suc m)) (f (suc m)))
  where
    go : (i : ℕ) × (i < suc m) × (f i ≡ most f (suc m)) → Dec (most f (suc m) ≤ f (suc m)) → (i : ℕ) × (i < suc (suc m))
        × (f i ≡ max (most f (suc m)) (f (suc m)))
    go ih (yes l) = (suc m, omega arith, omega arith)
    go ih (no g) = (ih.0, omega (arith, ih.1), omega (arith, ih.2))

pub most_is : (f : ℕ → ℕ) (m : ℕ) → Greatest f m (most f m)
unfolding most
most_is f m = record { bound = most_bound f m; met = most_met f m; none = λ e. rw e refl }

-- two functions that agree below m have one greatest there
pub most_same : (f g : ℕ → ℕ) (m : ℕ) → ((i : ℕ) → i < m → f i ≡ g i) → most f m ≡ most g m
unfolding most
most_same f g zero h = refl
most_same f g (suc m) h = rw (most_same f g m (λ i l. h i (omega arith)), h m (omega arith))
