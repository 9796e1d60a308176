-- The products of the widest stream's reads fit 64 bits: 600 s, n = 20,000, any period up to 2^31 grains, reads 24F/(25n) or F/n
-- apart, F being one period or two.
use Rattle.std.specs.Prelude.{◌+◌, ◌*◌, ◌≤◌, ◌<◌}
use Rattle.laws.specs.Kit.{ℕ, arith, mul-le-mul}

-- what goes by up to a packet is at most one history, or two frames
pub reads_fit : (count gone den num : ℕ) → count ≤ 20000 → gone ≤ 16204294967296 → den ≤ 500000 → num ≤ 103079215104
    → count + gone * den + 2 * num < 18446744073709551616
reads_fit count gone den num c h k l = omega (arith, mul-le-mul h k)
