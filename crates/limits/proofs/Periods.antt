-- A frame of a known rate, and the packets of one that set-up takes, are those of its periods with nothing left over; so a period has half of
-- its frame at least. By what a frame length is, and by what set-up asks of n.
use Rattle.std.specs.Prelude.{◌≡◌, ◌*◌, ◌/◌, ◌%◌, ◌≤◌, ◌<◌}
use Rattle.laws.specs.Kit.{◌∙◌, ℕ, arith, mul_comm, one-mul, div-one, div-le_of_le-mul, mul-le-mul_right}
use Rattle.limits.specs.declared.Profile.{Profile}
use Rattle.limits.specs.declared.Profile.TheVariants.{Video, Compressed, Interlaced}
use Rattle.limits.specs.Accepted.{KnownRate}
use Rattle.limits.specs.Paper.{frame_length, periods, per_period}
use Rattle.limits.proofs.Laws.{exact}
use Rattle.limits.proofs.Rates.{frame_quarters}

pub periods_some : (profile : Profile) → 0 < periods profile
periods_some Video = omega arith
periods_some Compressed = omega arith
periods_some Interlaced = omega arith

pub periods_few : (profile : Profile) → periods profile ≤ 2
periods_few Video = omega arith
periods_few Compressed = omega arith
periods_few Interlaced = omega arith

-- a period has no more than its frame
pub period_most : (profile : Profile) (all : ℕ) → per_period profile all ≤ all
period_most profile all = div-le_of_le-mul (periods profile) (omega (arith, mul-le-mul_right all (periods_some profile)))

-- a frame that is one period is all of it
one_whole : (all : ℕ) → 1 * (all / 1) ≡ all
one_whole all = one-mul (all / 1) ∙ div-one all

-- P24, G3: half a frame is whole grains
pub period_whole : (profile : Profile) {code : ℕ} → KnownRate code → periods profile * per_period profile (frame_length code) ≡ frame_length code
period_whole Video known = one_whole _
period_whole Compressed known = one_whole _
period_whole Interlaced known = omega (arith, frame_quarters known)

-- P24: half of an even n is whole packets
pub packets_whole : (profile : Profile) (n : ℕ) → n % periods profile ≡ 0 → periods profile * per_period profile n ≡ n
packets_whole profile n e = mul_comm (periods profile) (per_period profile n) ∙ exact n (periods profile) e

-- and where nothing is left over, a period has half of its frame at least
pub period_least : (profile : Profile) (all : ℕ) → periods profile * per_period profile all ≡ all → all ≤ 2 * per_period profile all
period_least profile all e = omega (arith, e, mul-le-mul_right (per_period profile all) (periods_few profile))
