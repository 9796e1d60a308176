-- What holds of the ratio, the default TRO and any TRO that set-up takes: laws for any frame length, and a computed test of the table
-- where document 01 speaks of its rates.
use Rattle.std.specs.Prelude.{◌≡◌, ◌⊎◌, ◌+◌, ◌*◌, ◌-◌, ◌/◌, ◌%◌, ◌≤◌, ◌<◌}
use Rattle.laws.specs.Kit.{refl, inl, inr, Bool, true, false, ℕ, arith}
use Rattle.laws.specs.Kit.{mul-one, div-lt_iff_lt-mul, div-mul-le_self, le-div_iff_mul-le, eqb-true, eqb-false, leb, eqb}
use Rattle.laws.specs.Choose.{pick}
use Rattle.laws.proofs.Choose.{pick_either, false_true}
use Rattle.laws.specs.Every.{Test, at_most, is, after}
use Rattle.limits.specs.Fraction.{Fraction, whole, ◌÷◌, Same, int}
use Rattle.limits.specs.Paper.{microsecond, length_at, frame_length, active_ratio, all_ones, default_tro, tro_grains}
use Rattle.limits.specs.Paper.{read_spacing, read_num, read_den}
use Rattle.limits.specs.Paper.{periods, per_period, has_default}
use Rattle.limits.specs.declared.Parameters.{Parameters}
use Rattle.limits.specs.declared.Profile.{Profile}
use Rattle.limits.specs.declared.Profile.TheVariants.{Video, Compressed, Interlaced}
use Rattle.limits.specs.Accepted.{Accepted}
use Rattle.limits.proofs.Laws.{exact}
use Rattle.limits.proofs.Periods.{period_most, period_whole}
use Rattle.limits.proofs.Rates.{any_code, frame_most, frame_least}

-- S1: "R = 24/25, from 1080/1125"
pub gapped_ratio : Same (active_ratio 0) (whole 1080 ÷ whole 1125)
unfolding active_ratio
gapped_ratio = refl

-- P14: the spacing that the code keeps in two numbers is R·F/n
pub spacing : (schedule F n : ℕ) → Same (record { num = read_num schedule F; den = read_den schedule n }) (read_spacing schedule F n)
spacing schedule F n = rw (mul-one (active_ratio schedule).den, mul-one ((active_ratio schedule).num * F))

-- "Both are whole grains at all eight rates."

abbrev pub is_whole : Fraction → Bool
is_whole x = eqb (x.num % x.den) 0

-- of a whole fraction INT loses nothing, whatever the frame length in it
pub int_exact : (x : Fraction) → is_whole x ≡ true → int x * x.den ≡ x.num
unfolding int
int_exact x e = exact x.num x.den (eqb-true (x.num % x.den) 0 e)

-- the test of an entry of the table, at a height
abbrev pub whole_at : ℕ → Fraction → Test
whole_at height rate = is (is_whole (default_tro (length_at rate) height))

-- S7: the default of any code at any height is whole
pub default_whole : (rate height : ℕ) → is_whole (default_tro (frame_length rate) height) ≡ true
unfolding default_tro frame_length after
default_whole rate height =
    pick_either
    (λ (x : Fraction). is_whole x ≡ true)
    (leb 1080 height)
    (λ e. any_code (whole_at 1080) refl rate)
    (λ e. any_code (whole_at 1079) refl rate)

-- a default lies below its frame, whatever the frame length
pub default_below : (F height : ℕ) → 0 < F → int (default_tro F height) < F
unfolding default_tro int
default_below F height h =
    pick_either
    (λ (x : Fraction). int x < F)
    (leb 1080 height)
    (λ e. (div-lt_iff_lt-mul (omega arith)).1 (omega arith))
    (λ e. (div-lt_iff_lt-mul (omega arith)).1 (omega arith))

-- S6, S13: so any TRO that set-up takes lies below one period: one that is given by what set-up asks, and where there is a default the period is
-- the frame
pub tro_below : {profile : Profile} {p : Parameters} → Accepted profile p
    → tro_grains (frame_length p.rate) p.height p.tro < per_period profile (frame_length p.rate)
unfolding tro_grains
tro_below {profile} {p} a = go profile (period_whole profile a.rate_known) (eqb p.tro all_ones) refl a.tro_fits_period
  where
    F : ℕ
    F = frame_length p.rate

    go : (q : Profile) → periods q * per_period q F ≡ F → (t : Bool) → eqb p.tro all_ones ≡ t
        → ((has_default q ≡ true) × (p.tro ≡ all_ones)) ⊎ (periods q * (microsecond * p.tro) < F)
        → pick t (int (default_tro F p.height)) (microsecond * p.tro) < per_period q F
    go Video w true e f = omega (arith, default_below F p.height (omega (arith, frame_least a.rate_known)), w)
    go Compressed w true e f = omega (arith, default_below F p.height (omega (arith, frame_least a.rate_known)), w)
    go Interlaced w true e (inl f) = absurd (false_true f.0)
    go Interlaced w true e (inr f) = absurd (omega (arith, f, eqb-true p.tro all_ones e, frame_most p.rate))
    go q w false e (inl f) = absurd (eqb-false p.tro all_ones e f.1)
    go Video w false e (inr f) = omega (arith, f, w)
    go Compressed w false e (inr f) = omega (arith, f, w)
    go Interlaced w false e (inr f) = omega (arith, f, w)

-- S6, S7: a default is less than half of its frame, whatever the frame length
default_half : (F height : ℕ) → 2 * int (default_tro F height) ≤ F
unfolding default_tro int
default_half F height =
    pick_either
    (λ (x : Fraction). 2 * int x ≤ F)
    (leb 1080 height)
    (λ e. omega (arith, div-mul-le_self (43 * F * 1) (1 * 1 * 1125)))
    (λ e. omega (arith, div-mul-le_self (28 * F * 1) (1 * 1 * 750)))

-- twice the longest whole microseconds below a frame, and the frame: 41,708 at 24000/1001 frames a second. By one computed test of the
-- table
longest_tro : (rate : ℕ) → 2 * microsecond * ((frame_length rate - 1) / microsecond) + frame_length rate ≤ 3378357000
unfolding frame_length after
longest_tro = any_code (λ rate. at_most (2 * microsecond * ((length_at rate - 1) / microsecond) + length_at rate) 3378357000) refl

-- P23: so of any TRO that set-up takes: it lies below the frame too
pub tro_most : {profile : Profile} {p : Parameters} → Accepted profile p
    → 2 * tro_grains (frame_length p.rate) p.height p.tro + per_period profile (frame_length p.rate) ≤ 3378357000
unfolding tro_grains
tro_most {profile} {p} a = go (eqb p.tro all_ones) refl (tro_below a)
  where
    F : ℕ
    F = frame_length p.rate

    period : ℕ
    period = per_period profile F

    go : (t : Bool) → eqb p.tro all_ones ≡ t → pick t (int (default_tro F p.height)) (microsecond * p.tro) < period
        → 2 * pick t (int (default_tro F p.height)) (microsecond * p.tro) + period ≤ 3378357000
    go true e f = omega (arith, default_half F p.height, frame_most p.rate, period_most profile F)
    go false e f =
        let whole : p.tro ≤ (F - 1) / microsecond =
        (le-div_iff_mul-le {k = microsecond} {x = p.tro} {y = F - 1} (omega arith)).1 (omega (arith, f, period_most profile F)) in
        omega (arith, longest_tro p.rate, whole, period_most profile F)
