-- The code's step goes from the bucket that the whole history declares at a place to the one at the next. A level that is no new peak is
-- not judged by the step, and would not change the answer (Runs).
use Rattle.std.specs.Prelude.{◌≡◌}
use Rattle.laws.specs.Kit.{refl, sym, Bool, true, false, ℕ, zero, suc, zero-sub, leb-zero, ltb, ltb-false}
use Rattle.laws.specs.Choose.{pick}
use Rattle.laws.specs.Most.{most}
use Rattle.bucket.specs.Step.{judged, level_at, start_at, network_at, step_of, bucket_at, drains_since}
use Rattle.bucket.proofs.Runs.{judged_at_peaks}

judged_on : (D : ℕ → ℕ) (limit m : ℕ) (t : Bool) → ltb (most (level_at D) m) (level_at D m) ≡ t
    → pick t (judged (network_at D limit m) (ltb limit (level_at D m)) (start_at D m) m) (network_at D limit m) ≡ network_at D limit (suc m)
unfolding network_at
judged_on D limit m true e = refl
judged_on D limit m false e = sym (judged_at_peaks D limit m (ltb-false (most (level_at D) m) (level_at D m) e))

pub step_by_place : (D : ℕ → ℕ) (limit i : ℕ) → step_of (bucket_at D limit i) i (drains_since D i) limit ≡ bucket_at D limit (suc i)
unfolding step_of bucket_at
step_by_place D limit zero = rw (zero-sub, leb-zero)
step_by_place D limit (suc i) = λ j. record {
  level = level_at D (suc i);
  start = start_at D (suc i);
  peak = most (level_at D) (suc (suc i));
  network = judged_on D limit (suc i) (ltb (most (level_at D) (suc i)) (level_at D (suc i))) refl j;
}
