-- The limits that the formulas of Paper give are the exact ones of Exact, for any frame length, and one number only is. By what INT is.
use Rattle.std.specs.Prelude.{◌≡◌, ◌↔◌, ◌*◌, ◌≤◌, ◌<◌}
use Rattle.laws.specs.Kit.{le-div_iff_mul-le, refl, sym, ◌∙◌, Bool, true, false, ℕ, zero, suc, arith, mul-one, eqb, eqb-true}
use Rattle.laws.specs.Kit.{eqb-false}
use Rattle.laws.specs.Choose.{pick}
use Rattle.laws.proofs.Choose.{false_true}
use Rattle.limits.specs.Fraction.{Fraction, int}
use Rattle.limits.specs.declared.Class.{Class}
use Rattle.limits.specs.declared.Class.TheVariants.{Narrow, NarrowLinear, Wide, Unknown}
use Rattle.limits.specs.Paper.{microsecond, frame_length, active_ratio, all_ones, default_tro, tro_grains, c_max, vrx_full}
use Rattle.limits.specs.Paper.{class_fits}
use Rattle.limits.proofs.Facts.{int_exact, default_whole}
use Rattle.limits.specs.Exact.{IntIs, CMaxIs, VrxFullIs, TroIs}

-- INT is the largest whole number: of all k, those up to INT and no others are not greater than the fraction
pub int_largest : (x : Fraction) (k : ℕ) → 0 < x.den → (k ≤ int x) ↔ (k * x.den ≤ x.num)
unfolding int
int_largest x k h = le-div_iff_mul-le h

int_is : (x : Fraction) → 0 < x.den → IntIs x (int x)
int_is x h = record { divides = h; largest = λ k. int_largest x k h }

pub int_unique : (x : Fraction) (m p : ℕ) → IntIs x m → IntIs x p → m ≡ p
int_unique x m p a b =
    omega (arith, (b.largest m).1 ((a.largest m).0 (omega arith)), (a.largest p).1 ((b.largest p).0 (omega arith)))

-- ---- the definitions are these

module _ (F n : ℕ) (long : 0 < F) where
  pub c_max_is : (class : Class) (schedule : ℕ) → class_fits class schedule ≡ true → CMaxIs class schedule F n (c_max class schedule F n)
  unfolding c_max active_ratio
  c_max_is Narrow zero e = (_, int_is _ (omega arith), refl)
  c_max_is Narrow (suc schedule) e = (_, int_is _ (omega arith), refl)
  c_max_is NarrowLinear schedule e = (_, int_is _ (omega arith), refl)
  c_max_is Wide schedule e = (_, int_is _ (omega arith), refl)
  c_max_is Unknown schedule e = absurd (false_true e)

  pub vrx_full_is : (class : Class) (schedule maxudp : ℕ) → class_fits class schedule ≡ true → 0 < maxudp
      → VrxFullIs class maxudp F n (vrx_full class maxudp F n)
  unfolding vrx_full
  vrx_full_is Narrow schedule maxudp e h = (_, _, int_is _ (omega arith), int_is _ (omega arith), refl)
  vrx_full_is NarrowLinear schedule maxudp e h = (_, _, int_is _ (omega arith), int_is _ (omega arith), refl)
  vrx_full_is Wide schedule maxudp e h = (_, _, int_is _ (omega arith), int_is _ (omega arith), refl)
  vrx_full_is Unknown schedule maxudp e h = absurd (false_true e)

pub tro_is : (rate height tro : ℕ) → TroIs (frame_length rate) height tro (tro_grains (frame_length rate) height tro)
unfolding tro_grains
tro_is rate height tro = go (eqb tro all_ones) refl
  where
    x : Fraction
    x = default_tro (frame_length rate) height

    go : (t : Bool) → eqb tro all_ones ≡ t → TroIs (frame_length rate) height tro (pick t (int x) (microsecond * tro))
    go true e = record {
      given = λ n. absurd (n (eqb-true tro all_ones e));
      default = λ d. int_exact x (default_whole rate height) ∙ sym (mul-one x.num);
    }
    go false e = record { given = λ n. refl; default = λ d. absurd (eqb-false tro all_ones e d) }
