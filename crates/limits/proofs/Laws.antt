-- What the code is proved by: codes past the end of a table, a division that leaves nothing over, and the one law behind every limit, that
-- dividing by one number after another is dividing by their product, and that a common factor of both sides of a fraction falls out.
use Rattle.std.specs.Prelude.{◌≡◌, ◌∷◌, ◌*◌, ◌/◌, ◌%◌, ◌≤◌, ◌<◌}
use Rattle.laws.specs.Kit.{sym, ap, ◌∙◌, ℕ, zero, suc, arith}
use Rattle.laws.specs.Kit.{mul-one, one-mul, mul_comm, mul_assoc, mul_left_comm, mul-le-mul, div-div-eq-div-mul, mul-div-mul_left}
use Rattle.laws.specs.Kit.{div-add-mod', div-le_of_le-mul, get_or-eq_default}
use Rattle.limits.specs.Fraction.{whole, ◌·◌, ◌÷◌, int}
use Rattle.limits.specs.Paper.{second, rates, no_rate, rate_of, length_at, frame_length, active_ratio, seconds, classes, class_of}
use Rattle.limits.specs.Steps.{Divides}
use Rattle.limits.specs.declared.Class.TheVariants.{Unknown}

pub past_rates : (rate : ℕ) → 9 ≤ rate → 0 ≡ frame_length rate
unfolding rate_of frame_length
past_rates rate h = sym (ap length_at (get_or-eq_default (no_rate ∷ rates) no_rate h))

pub past_classes : (class schedule : ℕ) → 4 ≤ class → Unknown ≡ class_of class schedule
unfolding class_of
past_classes class schedule h = sym (get_or-eq_default (classes schedule) Unknown h)

pub num_small : (schedule : ℕ) → (active_ratio schedule).num ≤ 24
unfolding active_ratio
num_small zero = omega arith
num_small (suc schedule) = omega arith

pub den_small : (schedule : ℕ) → (active_ratio schedule).den ≤ 25
unfolding active_ratio
den_small zero = omega arith
den_small (suc schedule) = omega arith

-- a product is at most that of the most that one side may be
pub few_times : (k m x : ℕ) → k ≤ m → k * x ≤ m * x
few_times k m x h = mul-le-mul h (omega arith)

module _ (n a b k p F : ℕ) where
  -- both sides of the fraction hold k; without it they are what the code divides
  top : n * (1 * b * (1 * (k * p))) ≡ k * (n * p * b)
  top =
      ap (λ (x : ℕ). n * x) (rw (one-mul b, one-mul (k * p), mul_left_comm b k p, mul_comm b p))
      ∙ mul_left_comm n k (p * b)
      ∙ ap (λ (x : ℕ). k * x) (sym (mul_assoc n p b))

  bottom : 1 * (k * a * (F * 1)) ≡ k * (a * F)
  bottom = rw (one-mul, mul-one, mul_assoc)

  pub one_by_one : 0 < k → n * p * b / a / F ≡ n * (1 * b * (1 * (k * p))) / (1 * (k * a * (F * 1)))
  one_by_one h =
      div-div-eq-div-mul (n * p * b) a F ∙ sym (rw (top, bottom) (mul-div-mul_left (n * p * b) (a * F) h))

-- INT(n/(k·R·T)) for any frame length and either schedule
pub limit : (n k schedule F : ℕ) → Divides k
    → n * (second / k) * (active_ratio schedule).den / (active_ratio schedule).num / F
    ≡ int (whole n ÷ (whole k · active_ratio schedule · seconds F))
unfolding int
limit n k schedule F d =
    one_by_one n (active_ratio schedule).num (active_ratio schedule).den k (second / k) F (omega (arith, d.least))
    ∙ rw d.whole

-- R = 1 says nothing
pub linear_limit : (n k F : ℕ) → int (whole n ÷ (whole k · active_ratio 1 · seconds F)) ≡ int (whole n ÷ (whole k · seconds F))
unfolding active_ratio
linear_limit n k F = rw (mul-one k)

-- a quotient of two numbers, and a share of a third, as fractions
pub ratio : (a b : ℕ) → a / b ≡ int (whole a ÷ whole b)
unfolding int
ratio a b = rw (mul-one a, one-mul b)

pub share : (a F b : ℕ) → a * F / b ≡ int (whole a · whole F ÷ whole b)
unfolding int
share a F b = rw (mul-one (a * F), one-mul b)

-- a division that leaves nothing over loses nothing
pub exact : (a b : ℕ) → a % b ≡ 0 → a / b * b ≡ a
exact a b e = omega (arith, div-add-mod' a b)

-- products that stay within 64 bits: n is below 2^32, a k-th of a second at most 90,000,000 grains, R's denominator at most 25
module _ (n k schedule : ℕ) (h : n < 4294967296) (d : Divides k) where
  part_small : second / k ≤ 90000000
  part_small = div-le_of_le-mul k (omega (arith, d.least))

  pub product_small : n * (second / k) ≤ 4294967295 * 90000000
  product_small = let top : n ≤ 4294967295 = omega arith in mul-le-mul top part_small

  pub all_small : n * (second / k) * (active_ratio schedule).den ≤ 4294967295 * 90000000 * 25
  all_small = mul-le-mul product_small (den_small schedule)
