-- The limits as exact fractions, with no division: each is what document 01 says of its fraction, and one number
-- only is so. That the formulas of Paper give these is proofs/Exactness.antt.
use Rattle.std.specs.Prelude.{◌≡◌, ◌↔◌, ◌*◌, ◌≤◌, ◌<◌}
use Rattle.laws.specs.Kit.{ℕ, max}
use Rattle.limits.specs.Fraction.{Fraction, whole, ◌·◌, ◌÷◌, Same}
use Rattle.limits.specs.declared.Class.{Class}
use Rattle.limits.specs.declared.Class.TheVariants.{Narrow, NarrowLinear, Wide, Unknown}
use Rattle.limits.specs.Paper.{microsecond, seconds, active_ratio, all_ones, default_tro}

-- S8: "INT as in document 001": the largest whole number not greater than the fraction
pub record IntIs (x : Fraction) (m : ℕ) : Type 0 where
  pub divides : 0 < x.den
  pub largest : (k : ℕ) → (k ≤ m) ↔ (k * x.den ≤ x.num)

-- S9: "C_MAX: narrow MAX(4, INT(n/(43200·R·T))); narrow linear MAX(4, INT(n/(43200·T))); wide MAX(16, INT(n/(21600·T)))."
abbrev pub CMaxIs : Class → ℕ → ℕ → ℕ → ℕ → Type 0
CMaxIs Narrow schedule F n c = (m : ℕ) × IntIs (whole n ÷ (whole 43200 · active_ratio schedule · seconds F)) m × (c ≡ max 4 m)
CMaxIs NarrowLinear schedule F n c = (m : ℕ) × IntIs (whole n ÷ (whole 43200 · seconds F)) m × (c ≡ max 4 m)
CMaxIs Wide schedule F n c = (m : ℕ) × IntIs (whole n ÷ (whole 21600 · seconds F)) m × (c ≡ max 16 m)
CMaxIs Unknown schedule F n c = ⊥

-- S10: "VRX_FULL: narrow and narrow linear MAX(INT(12000/MAXUDP), INT(n/(27000·T))); wide MAX(INT(1080000/MAXUDP), INT(n/(300·T)))."
abbrev pub FullIs : ℕ → ℕ → ℕ → ℕ → ℕ → ℕ → Type 0
FullIs bytes k maxudp F n full =
    (a : ℕ) × (b : ℕ) × IntIs (whole bytes ÷ whole maxudp) a × IntIs (whole n ÷ (whole k · seconds F)) b × (full ≡ max a b)

abbrev pub VrxFullIs : Class → ℕ → ℕ → ℕ → ℕ → Type 0
VrxFullIs Narrow maxudp F n full = FullIs 12000 27000 maxudp F n full
VrxFullIs NarrowLinear maxudp F n full = FullIs 12000 27000 maxudp F n full
VrxFullIs Wide maxudp F n full = FullIs 1080000 300 maxudp F n full
VrxFullIs Unknown maxudp F n full = ⊥

-- S6, S7: "TRO: given in whole microseconds, [..] or default: 43F/1125 for height 1080 and up, else 28F/750."
pub record TroIs (F height tro g : ℕ) : Type 0 where
  pub given : (tro ≡ all_ones → ⊥) → g ≡ microsecond * tro
  pub default : tro ≡ all_ones → Same (whole g) (default_tro F height)
