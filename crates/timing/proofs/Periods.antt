-- A first packet lies less than half a period from the start of its period, so of a field less than a quarter of a frame. By the rounding, for
-- one period and for two a frame.
use Rattle.std.specs.Prelude.{◌≡◌, ◌+◌, ◌*◌, ◌≤◌, ◌<◌, ◌*ℤ◌, ◌≤ℤ◌, ◌<ℤ◌}
use Rattle.laws.specs.Kit.{ℕ, arith, pos, neg_ℤ}
use Rattle.laws.proofs.Differ.{differ_sub, differ_times, differ_le, differ_lt, differ_neg}
use Rattle.grain.specs.Paper.{frame_time, first_packet_time}
use Rattle.grain.proofs.Rounding.{nearest_is}
use Rattle.limits.specs.declared.Profile.{Profile}
use Rattle.limits.specs.declared.Profile.TheVariants.{Video, Compressed, Interlaced}
use Rattle.limits.specs.Paper.{periods}

-- g is a time in grains, and so many periods are F
module _ (g period F : ℕ) (long : 0 < period) where
  abbrev start : ℕ
  start = frame_time g period

  low : (q : Profile) → periods q * period ≡ F → 0 + 2 * periods q * start ≤ 2 * periods q * g + F
  low Video e = omega (arith, (nearest_is g period long).low)
  low Compressed e = omega (arith, (nearest_is g period long).low)
  low Interlaced e = omega (arith, (nearest_is g period long).low)

  high : (q : Profile) → periods q * period ≡ F → 2 * periods q * g + 0 < F + 2 * periods q * start
  high Video e = omega (arith, (nearest_is g period long).high)
  high Compressed e = omega (arith, (nearest_is g period long).high)
  high Interlaced e = omega (arith, (nearest_is g period long).high)

  -- P8, P24: "FPT is at least −F/4 and below F/4", of a field; of a frame F/2
  pub fpt_within : (q : Profile) → periods q * period ≡ F
      → (neg_ℤ (pos F) ≤ℤ (pos (2 * periods q) *ℤ first_packet_time g period)) × ((pos (2 * periods q) *ℤ first_packet_time g period) <ℤ pos F)
  fpt_within q e =
      let k = 2 * periods q in
      let fpt = first_packet_time g period in
      let times = differ_times k fpt g start (differ_sub g start) in (
        differ_le (neg_ℤ (pos F)) (pos k *ℤ fpt) 0 F (k * g) (k * start) (differ_neg F) times (low q e),
        differ_lt (pos k *ℤ fpt) (pos F) (k * g) (k * start) F 0 times (omega arith) (high q e),
      )
