-- Exact fractions of whole numbers, so that a formula can stand as document 01 writes it; nothing is rounded and nothing reduced.
use Rattle.std.specs.Prelude.{◌≡◌, ◌*◌, ◌/◌}
use Rattle.laws.specs.Kit.{ℕ}

pub record Fraction : Type 0 where
  pub num : ℕ
  pub den : ℕ

infix 75 ◌over◌
infixl 7 ◌·◌
infixl 7 ◌÷◌
abbrev pub ◌over◌ : ℕ → ℕ → Fraction
a over b = record { num = a; den = b }

abbrev pub whole : ℕ → Fraction
whole a = a over 1

abbrev pub ◌·◌ : Fraction → Fraction → Fraction
x · y = record { num = x.num * y.num; den = x.den * y.den }

abbrev pub ◌÷◌ : Fraction → Fraction → Fraction
x ÷ y = record { num = x.num * y.den; den = x.den * y.num }

-- two ways to write one number, cross-multiplied
abbrev pub Same : Fraction → Fraction → Type 0
Same x y = x.num * y.den ≡ y.num * x.den

-- S8: INT, document 001: the largest whole number not greater than the fraction (int_largest, proofs/Exactness.antt)
unfoldable pub int : Fraction → ℕ
int x = x.num / x.den
