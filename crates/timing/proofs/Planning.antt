-- The rules of accepted stream numbers keep to what the frames and the bucket demand, for every rate and every profile at once: by the table's
-- greatest and least length, and because a period has half of a frame at least.
use Rattle.std.specs.Prelude.{◌≡◌, ◌+◌, ◌*◌, ◌≤◌, ◌<◌}
use Rattle.laws.specs.Kit.{refl, ℕ, zero, suc, arith, mul-le-mul, mul-le-mul_left, mul-le-mul_right}
use Rattle.laws.specs.Kit.{eqb, eqb-suc-zero}
use Rattle.laws.specs.Choose.{pick}
use Rattle.limits.specs.Paper.{second, active_ratio, read_num, read_den, periods, per_period}
use Rattle.limits.specs.Accepted.{Accepted}
use Rattle.limits.proofs.Accepting.{accepted}
use Rattle.limits.proofs.Editions.{in_fine}
use Rattle.limits.proofs.Rates.{frame_most, frame_least}
use Rattle.limits.proofs.Periods.{period_most, period_least, period_whole, packets_whole}
use Rattle.limits.proofs.Facts.{tro_below, tro_most}
use Rattle.grain.specs.Paper.{grains}
use Rattle.frame.specs.Range.{Planned}
use Rattle.timing.specs.declared.StreamNumbers.{StreamNumbers}
use Rattle.timing.specs.Step.{set_up_of, frame_of, rules_of}

-- the spacing of the reads, gapped or linear
num_some : (schedule F : ℕ) → 0 < F → 0 < read_num schedule F
unfolding active_ratio
num_some zero F p = omega arith
num_some (suc schedule) F p = omega arith

num_most : (schedule F : ℕ) → read_num schedule F ≤ 24 * F
unfolding active_ratio
num_most zero F = omega arith
num_most (suc schedule) F = omega arith

den_most : (schedule n : ℕ) → n ≤ 20000 → read_den schedule n ≤ 500000
unfolding active_ratio
den_most zero n h = omega arith
den_most (suc schedule) n h = omega arith

-- P20: "over 25·n grains for gapped and over n for linear"
pub den_by_schedule : (x : StreamNumbers) → (rules_of x).plan.reads.den ≡ pick (eqb x.parameters.schedule 0) 25 1 * x.parameters.n
unfolding rules_of active_ratio
den_by_schedule x = go x.parameters.schedule
  where
    go : (schedule : ℕ) → read_den schedule x.parameters.n ≡ pick (eqb schedule 0) 25 1 * x.parameters.n
    go zero = refl
    go (suc schedule) = rw (eqb-suc-zero schedule)

-- two reads lie no more than a frame apart
num_spread : (schedule F n : ℕ) → 0 < n → read_num schedule F ≤ F * read_den schedule n
unfolding active_ratio
num_spread zero F n p = omega (arith, mul-le-mul_left F (let l : 25 ≤ 25 * n = omega arith in l))
num_spread (suc schedule) F n p = omega (arith, mul-le-mul_left F (let l : 1 ≤ 1 * n = omega arith in l))

module _ (x : StreamNumbers) (e : set_up_of x ≡ 0) where
  -- each of its seven parameters is in its place
  pub fine : Accepted x.profile x.parameters
  fine = accepted x.profile x.parameters (in_fine x.profile x.parameters x.edition e).0

  pub frame_long : second ≤ 60 * frame_of x
  frame_long = frame_least fine.rate_known

  -- P24: the periods of a frame are all of it, its grains and its packets
  pub period_all : periods x.profile * (rules_of x).plan.period ≡ frame_of x
  unfolding rules_of
  period_all = period_whole x.profile fine.rate_known

  pub packets_all : periods x.profile * (rules_of x).plan.packets ≡ x.parameters.n
  unfolding rules_of
  packets_all = packets_whole x.profile x.parameters.n fine.n_whole

  -- so a period has half of a frame at least
  frame_halves : frame_of x ≤ 2 * per_period x.profile (frame_of x)
  unfolding rules_of
  frame_halves = period_least x.profile (frame_of x) period_all

  packets_halves : x.parameters.n ≤ 2 * per_period x.profile x.parameters.n
  unfolding rules_of
  packets_halves = period_least x.profile x.parameters.n packets_all

  -- two reads lie no more than two periods apart
  spread : let den = read_den x.parameters.schedule x.parameters.n in
      read_num x.parameters.schedule (frame_of x) ≤ 2 * per_period x.profile (frame_of x) * den
  spread =
      let den = read_den x.parameters.schedule x.parameters.n in
      omega (arith, num_spread x.parameters.schedule (frame_of x) x.parameters.n fine.n_fits.0, mul-le-mul_right den frame_halves)

  pub planned : Planned (rules_of x).plan
  unfolding rules_of
  planned = record {
    long = omega (arith, frame_long, frame_halves);
    short = omega (arith, frame_most x.parameters.rate, period_most x.profile (frame_of x));
    some = omega (arith, fine.n_fits.0, packets_halves);
    few = omega (arith, fine.n_fits.1, period_most x.profile x.parameters.n);
    early = tro_below fine;
    apart = num_some x.parameters.schedule (frame_of x) (omega (arith, frame_long));
    near = omega (arith, num_most x.parameters.schedule (frame_of x), frame_halves);
    divided = den_most x.parameters.schedule x.parameters.n fine.n_fits.1;
    spread = spread;
  }

  -- P23: the longest TRO and half a period, twice, and the longest spacing of the reads
  pub tro_longest : 2 * (rules_of x).plan.tro + (rules_of x).plan.period ≤ 3378357000
  unfolding rules_of
  tro_longest = tro_most fine

  pub reads_near : (rules_of x).plan.reads.num ≤ 27027000000
  unfolding rules_of
  reads_near = omega (arith, num_most x.parameters.schedule (frame_of x), frame_most x.parameters.rate)

  -- the drain instants of 600 s, and what is left before them: the products fit
  pub reach_fits : (ns rest : ℕ) → ns ≤ 600000000000 → rest < (rules_of x).drains.num
      → rest + grains ns * (rules_of x).drains.den < 18446744073709551616
  unfolding rules_of
  reach_fits ns rest h l =
      let long : grains ns ≤ 16200000000000 = omega arith in
      let many : (rules_of x).drains.den ≤ 220000 = omega (arith, fine.n_fits.1, period_most x.profile x.parameters.n) in
      omega (arith, mul-le-mul long many, frame_most x.parameters.rate)

  pub spacing_some : 0 < (rules_of x).drains.num
  unfolding rules_of
  spacing_some = omega (arith, frame_long)
