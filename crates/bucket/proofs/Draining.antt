-- Instant by instant: the packets up to i are the drains that found one, up to its arrival, and the
-- level. Between two arrivals the drains see the same packets, so they take one each until none is left.
use Rattle.std.specs.Prelude.{◌≡◌, ◌⊎◌, ◌+◌, ◌-◌, ◌*◌, ◌/◌, ◌≤◌, ◌<◌}
use Rattle.laws.specs.Kit.{refl, ap, ◌∙◌, inl, inr, Bool, true, false, ℕ, zero, suc, min, arith}
use Rattle.laws.specs.Kit.{le-suc_iff, sub_self, zero-mul, zero-div, div-lt_iff_lt-mul, le-div_iff_mul-le, ltb, ltb-true, ltb-false}
use Rattle.laws.specs.Kit.{lt-ltb, le-ltb}
use Rattle.laws.specs.Climb.{Climbs}
use Rattle.laws.proofs.Climb.{climbs_le}
use Rattle.laws.specs.Choose.{pick}
use Rattle.laws.specs.Count.{count}
use Rattle.laws.proofs.Count.{count_up_to, count_same}
use Rattle.bucket.specs.Paper.{History, elapsed, drains, comes_before, arrived_before, found, level}
use Rattle.bucket.specs.Step.{level_at}

-- x/y is below k exactly when x is below k·y
below_quotient : (x y k : ℕ) → 0 < y → ltb x (k * y) ≡ ltb (x / y) k
below_quotient x y k p = go (ltb (x / y) k) refl
  where
    go : (t : Bool) → ltb (x / y) k ≡ t → ltb x (k * y) ≡ t
    go true e = lt-ltb x (k * y) ((div-lt_iff_lt-mul p).0 (ltb-true (x / y) k e))
    go false e = le-ltb x (k * y) ((le-div_iff_mul-le p).0 (ltb-false (x / y) k e))

module _ (h : History) (p : 0 < h.frame) (mono : Climbs (drains h) h.packets) where
  D : ℕ → ℕ
  D = drains h

  -- the drain instants after packet i's arrival and up to the next see the packets up to i
  sees : (i k : ℕ) → suc i < h.packets → drains h i < k → k ≤ drains h (suc i) → arrived_before h k ≡ suc i
  sees i k l after up_to_lem =
      let q : 0 < 10 * h.frame = omega arith in
      let seen : count (λ j. ltb (drains h j) k) h.packets ≡ min h.packets (suc i) =
      count_up_to (λ j. ltb (drains h j) k) h.packets (suc i) (record {
        inside = λ j g t.
            let early : ¬ (suc i ≤ j) = λ w. omega
            (arith, ltb-true (drains h j) k t, climbs_le (drains h) h.packets mono (suc i) j w g) in omega arith;
        passes = λ j g w. lt-ltb (drains h j) k (omega (arith, climbs_le (drains h) h.packets mono j i (omega arith) (omega arith)));
      }) in
      count_same (comes_before h k) (λ j. ltb (drains h j) k) h.packets
      (λ j g. below_quotient (elapsed h j * (11 * h.per_frame)) (10 * h.frame) k q)
      ∙ seen ∙ omega arith

  -- while c packets have arrived in all, each drain finds one until c are gone
  found_while : (c k : ℕ) → found h k ≤ c → (K : ℕ) → k ≤ K → ((i : ℕ) → k < i → i ≤ K → arrived_before h i ≡ c) → found h K
      ≡ min c (found h k + (K - k))
  unfolding found
  found_while c k s zero l e = let z : k ≡ 0 = omega arith in omega (arith, ap (found h) z)
  found_while c k s (suc K) l e = go (λ q. found_while c k s K q (λ i x y. e i x (omega arith))) (le-suc_iff.0 l)
    where
      step : (t : Bool) → ltb (found h K) (arrived_before h (suc K)) ≡ t → k ≤ K → found h K ≡ min c (found h k + (K - k))
          → found h K + pick t 1 0 ≡ min c (found h k + (suc K - k))
      step true q g ih = omega (arith, ltb-true, e (suc K) (omega arith) (omega arith))
      step false q g ih = omega (arith, ltb-false, e (suc K) (omega arith) (omega arith))

      go : (k ≤ K → found h K ≡ min c (found h k + (K - k))) → (k ≤ K) ⊎ (k ≡ suc K) → found h (suc K) ≡ min c (found h k + (suc K - k))
      go ih (inl q) = step (ltb (found h K) (arrived_before h (suc K))) refl q (ih q)
      go ih (inr z) = omega (arith, ap (found h) z)

  none_at_first : drains h 0 ≡ 0
  none_at_first = rw (sub_self, zero-mul, zero-div)

  -- B6: the packets so far are the drains that found one, and the level
  pub conserved : (i : ℕ) → i < h.packets → suc i ≡ found h (drains h i) + level_at (drains h) i
  unfolding level_at found
  conserved zero l = omega (arith, ap (found h) none_at_first)
  conserved (suc i) l =
      let ih = conserved i (omega arith) in
      let run = found_while (suc i) (drains h i) (omega arith) (drains h (suc i)) (mono i l) (λ k x y. sees i k l x y) in
      omega (arith, mono i l)

  -- so the step's level is document 01's
  pub level_is : (i : ℕ) → i < h.packets → level_at (drains h) i ≡ level h i
  level_is i l = omega (arith, conserved i l)
