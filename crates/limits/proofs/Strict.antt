-- What class 0 comes to: the class that the schedule's own number names, which set-up takes on that schedule; and that on a linear schedule
-- no limit tells narrow from narrow linear. By looking the codes up.
use Rattle.std.specs.Prelude.{◌≡◌, ◌≤◌}
use Rattle.laws.specs.Kit.{refl, ap, true, ℕ, zero, suc, arith, max}
use Rattle.limits.specs.declared.Class.TheVariants.{Narrow, NarrowLinear}
use Rattle.limits.specs.Paper.{strict_on, class_of, c_max, vrx_full, class_fits}
use Rattle.limits.proofs.Laws.{linear_limit}

-- S2: 1 is the strict class's number on schedule 0, and 2 on schedule 1
pub strict_number : (schedule : ℕ) → schedule ≤ 1 → class_of 0 schedule ≡ class_of (suc schedule) schedule
unfolding class_of strict_on
strict_number zero h = refl
strict_number (suc zero) h = refl
strict_number (suc (suc schedule)) h = absurd (omega arith)

-- S2, N2: so 3 never refuses class 0
pub strict_fits : (schedule : ℕ) → schedule ≤ 1 → class_fits (class_of 0 schedule) schedule ≡ true
unfolding class_of strict_on
strict_fits zero h = refl
strict_fits (suc zero) h = refl
strict_fits (suc (suc schedule)) h = absurd (omega arith)

-- S9, S10: R is 1 on a linear schedule, so that the formulas of narrow are those of narrow linear
pub linear_alike : (F n : ℕ) → c_max Narrow 1 F n ≡ c_max NarrowLinear 1 F n
unfolding c_max
linear_alike F n = ap (max 4) (linear_limit n 43200 F)

pub buffers_alike : (maxudp F n : ℕ) → vrx_full Narrow maxudp F n ≡ vrx_full NarrowLinear maxudp F n
unfolding vrx_full
buffers_alike maxudp F n = refl
