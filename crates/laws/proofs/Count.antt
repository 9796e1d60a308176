-- A test which passes exactly up to a place, or between two, passes that often. By the numbers below which it is counted.
use Rattle.std.specs.Prelude.{◌≡◌, ◌+◌, ◌-◌, ◌≤◌, ◌<◌}
use Rattle.laws.specs.Kit.{refl, sym, ◌∙◌, Bool, true, false, ℕ, zero, suc, min, arith}
use Rattle.std.specs.Prelude.{◌⊎◌}
use Rattle.laws.specs.Kit.{inl, inr, le-suc_iff, not-suc-le-zero, dec_le}
use Rattle.laws.specs.Choose.{pick}
use Rattle.laws.proofs.Choose.{false_true, up_to}
use Rattle.laws.specs.Count.{count, Between, UpTo, Falls}

pub count_le : (p : ℕ → Bool) (m : ℕ) → count p m ≤ m
unfolding count
count_le p zero = omega arith
count_le p (suc m) = go (p m) (count_le p m)
  where
    go : (t : Bool) → count p m ≤ m → count p m + pick t 1 0 ≤ suc m
    go true ih = omega arith
    go false ih = omega arith

-- one below m that passes is counted
pub count_some : (p : ℕ → Bool) (i m : ℕ) → i < m → p i ≡ true → 0 < count p m
unfolding count
count_some p i zero h e = absurd (not-suc-le-zero h)
count_some p i (suc m) h e = go (count_some p i m) (le-suc_iff.0 h)
  where
    go : (i < m → p i ≡ true → 0 < count p m) → (suc i ≤ m) ⊎ (suc i ≡ suc m) → 0 < count p m + pick (p m) 1 0
    go ih (inl l) = omega (arith, ih l e)
    go ih (inr w) = let same : m ≡ i = omega arith in rw (same, e) (omega arith)

pub count_between : (p : ℕ → Bool) (m a b : ℕ) → Between p m a b → count p m ≡ min m b - min m a
unfolding count
count_between p zero a b k = omega arith
count_between p (suc m) a b k = go (p m) refl (count_between p m a b fewer)
  where
    fewer : Between p m a b
    fewer = record { inside = λ i h. k.inside i (omega arith); passes = λ i h. k.passes i (omega arith) }

    go : (t : Bool) → p m ≡ t → count p m ≡ min m b - min m a → count p m + pick t 1 0 ≡ min (suc m) b - min (suc m) a
    go true e ih = omega (arith, k.inside m (omega arith) e)
    go false e ih = out (dec_le a m) (dec_le b m)
      where
        out : Dec (a ≤ m) → Dec (b ≤ m) → count p m + 0 ≡ min (suc m) b - min (suc m) a
        out (yes l) (yes g) = omega arith
        out (yes l) (no g) = absurd (false_true (sym e ∙ k.passes m (omega arith) l (omega arith)))
        out (no l) g = omega arith

pub count_up_to : (p : ℕ → Bool) (m c : ℕ) → UpTo p m c → count p m ≡ min m c
count_up_to p m c k =
    let e = count_between p m 0 c (record { inside = λ i h q. (omega arith, k.inside i h q); passes = λ i h l. k.passes i h }) in
    omega arith

pub falls_up_to : (p : ℕ → Bool) (m : ℕ) → Falls p m → UpTo p m (count p m)
unfolding count
falls_up_to p zero f = record { inside = λ i h. absurd (not-suc-le-zero h); passes = λ i h. absurd (not-suc-le-zero h) }
falls_up_to p (suc m) f = go (p m) refl (falls_up_to p m (record { down = λ i j h g. f.down i j h (omega arith) }))
  where
    all : p m ≡ true → count p m ≡ m
    all e =
        let c = count_up_to p m m (record { inside = λ i l q. l; passes = λ i l q. f.down i m (omega arith) (omega arith) e }) in
        omega arith

    go : (t : Bool) → p m ≡ t → UpTo p m (count p m) → UpTo p (suc m) (count p m + pick t 1 0)
    go true e ih = record { inside = λ i h q. omega (arith, all e); passes = λ i h q. f.down i m (omega arith) (omega arith) e }
    go false e ih = record {
      inside = λ i h q. up_to (λ k. p k ≡ true → k < count p m + 0) m (λ k l r. omega (arith, ih.inside k l r))
          (λ r. absurd (false_true (sym e ∙ r))) i h q;
      passes = λ i h q. ih.passes i (omega (arith, count_le p m)) (omega arith);
    }

-- two tests that agree below m pass as often there
pub count_same : (p q : ℕ → Bool) (m : ℕ) → ((i : ℕ) → i < m → p i ≡ q i) → count p m ≡ count q m
unfolding count
count_same p q zero h = refl
count_same p q (suc m) h = rw (count_same p q m (λ i l. h i (omega arith)), h m (omega arith))
