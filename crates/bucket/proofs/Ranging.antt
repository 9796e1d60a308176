-- A bucket passes its tests exactly where it is in range, fact by fact; the empty one is, and a packet keeps it so.
use Rattle.std.specs.Prelude.{◌≡◌, ◌+◌, ◌-◌, ◌≤◌}
use Rattle.laws.specs.Kit.{Bool, true, false, ℕ, arith, leb, ltb}
use Rattle.laws.specs.Choose.{pick}
use Rattle.laws.proofs.Choose.{pick_either}
use Rattle.laws.specs.Every.{every, All}
use Rattle.laws.proofs.Every.{facts, of_facts, ◌and◌}
use Rattle.bucket.specs.declared.Bucket.{Bucket}
use Rattle.bucket.specs.declared.Network.{Network}
use Rattle.bucket.specs.declared.Network.TheVariants.{Pass, Burst}
use Rattle.bucket.specs.Paper.{network_first, network_last}
use Rattle.bucket.specs.Step.{empty_of, judged, step_of}
use Rattle.bucket.specs.Range.{ranges, Ranged}

module _ (b : Bucket) (packets : ℕ) where
  pub ranged_of : every (ranges b packets) ≡ true → Ranged b packets
  ranged_of e =
      let t = facts (ranges b packets) e in
      record { level = t 0; start = t 1; peak = t 2; run_first = t 3; run_last = t 4 }

  pub of_ranged : Ranged b packets → every (ranges b packets) ≡ true
  unfolding All
  of_ranged x = of_facts (ranges b packets) (x.level and x.start and x.peak and x.run_first and x.run_last and tt)

pub ranged_empty : Ranged empty_of 0
ranged_empty = record { level = omega arith; start = omega arith; peak = omega arith; run_first = omega arith; run_last = omega arith }

-- what is named is named before, or is the run that fails now
judged_first : (v : Network) (above : Bool) (first last m : ℕ) → network_first v ≤ m → first ≤ m
    → network_first (judged v above first last) ≤ m
judged_first Pass true first last m h k = k
judged_first Pass false first last m h k = h
judged_first (Burst r) above first last m h k = h

judged_last : (v : Network) (above : Bool) (first last m : ℕ) → network_last v ≤ m → last ≤ m → network_last (judged v above first last) ≤ m
judged_last Pass true first last m h k = k
judged_last Pass false first last m h k = h
judged_last (Burst r) above first last m h k = h

pub ranged_step : (b : Bucket) (packets drains limit : ℕ) → Ranged b packets → Ranged (step_of b packets drains limit) (packets + 1)
unfolding step_of
ranged_step b packets drains limit x = record {
  level = omega (arith, x.level);
  start = started;
  peak = omega (arith, x.level, x.peak);
  run_first = pick_either (λ v. network_first v ≤ packets + 1) (ltb b.peak (b.level - drains + 1))
      (λ e. judged_first b.network _ _ packets (packets + 1) (omega (arith, x.run_first)) started) (λ e. omega (arith, x.run_first));
  run_last = pick_either (λ v. network_last v ≤ packets + 1) (ltb b.peak (b.level - drains + 1))
      (λ e. judged_last b.network _ _ packets (packets + 1) (omega (arith, x.run_last)) (omega arith)) (λ e. omega (arith, x.run_last));
}
  where
    started : pick (leb b.level drains) packets b.start ≤ packets + 1
    started = pick_either (λ k. k ≤ packets + 1) (leb b.level drains) (λ z. omega arith) (λ z. omega (arith, x.start))
