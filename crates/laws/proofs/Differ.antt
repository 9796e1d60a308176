-- Each fact about a difference of naturals is one of sums of naturals. By the signs of the integers.
use Rattle.std.specs.Prelude.{◌≡◌, ◌+◌, ◌*◌, ◌-◌, ◌≤◌, ◌<◌}
use Rattle.laws.specs.Kit.{refl, ap, Bool, true, false, cond, ℕ, zero, suc, arith, ltb, le→leb, leb→le}
use Rattle.std.specs.Prelude.{◌+ℤ◌, ◌*ℤ◌, ◌-ℤ◌, ◌≤ℤ◌, ◌<ℤ◌}
use Rattle.laws.specs.Kit.{mul-add, ℤ, pos, negsuc, nat_abs, neg_ℤ, sub_ℕ, ltb-true, ltb-false}
use Rattle.laws.specs.Differ.{Differ, above, beneath}

pub differ_sub : (a b : ℕ) → Differ (sub_ℕ a b) a b
differ_sub a b = go (ltb a b) refl
  where
    go : (t : Bool) → ltb a b ≡ t → Differ (cond t (negsuc (b - suc a)) (pos (a - b))) a b
    go true e = omega (arith, ltb-true a b e)
    go false e = omega (arith, ltb-false a b e)

-- a - b is c - d where a + d is c + b
pub differ_same : (z w : ℤ) (a b c d : ℕ) → Differ z a b → Differ w c d → a + d ≡ c + b → z ≡ w
differ_same (pos n) (pos m) a b c d p q e = ap pos (omega arith)
differ_same (pos n) (negsuc m) a b c d p q e = absurd (omega arith)
differ_same (negsuc n) (pos m) a b c d p q e = absurd (omega arith)
differ_same (negsuc n) (negsuc m) a b c d p q e = ap negsuc (omega arith)

pub sub_same : (a b c d : ℕ) → a + d ≡ c + b → sub_ℕ a b ≡ sub_ℕ c d
sub_same a b c d e = differ_same (sub_ℕ a b) (sub_ℕ c d) a b c d (differ_sub a b) (differ_sub c d) e

pub differ_le : (z w : ℤ) (a b c d : ℕ) → Differ z a b → Differ w c d → a + d ≤ c + b → z ≤ℤ w
differ_le (pos n) (pos m) a b c d p q e = record { le = le→leb n m (omega arith) }
differ_le (pos n) (negsuc m) a b c d p q e = absurd (omega arith)
differ_le (negsuc n) (pos m) a b c d p q e = record { le = tt }
differ_le (negsuc n) (negsuc m) a b c d p q e = record { le = le→leb m n (omega arith) }

pub differ_lt : (z w : ℤ) (a b c d : ℕ) → Differ z a b → Differ w c d → a + d < c + b → z <ℤ w
differ_lt (pos n) (pos m) a b c d p q e = record { lt = le→leb (suc n) m (omega arith) }
differ_lt (pos n) (negsuc m) a b c d p q e = absurd (omega arith)
differ_lt (negsuc n) (pos m) a b c d p q e = record { lt = tt }
differ_lt (negsuc n) (negsuc m) a b c d p q e = record { lt = le→leb (suc m) n (omega arith) }

-- and back: an order of differences is an order of cross sums
pub le_differ : (z w : ℤ) (a b c d : ℕ) → Differ z a b → Differ w c d → z ≤ℤ w → a + d ≤ c + b
le_differ (pos n) (pos m) a b c d p q e = omega (arith, leb→le n m e.le)
le_differ (pos n) (negsuc m) a b c d p q e = absurd e.le
le_differ (negsuc n) (pos m) a b c d p q e = omega arith
le_differ (negsuc n) (negsuc m) a b c d p q e = omega (arith, leb→le m n e.le)

pub lt_differ : (z w : ℤ) (a b c d : ℕ) → Differ z a b → Differ w c d → z <ℤ w → a + d < c + b
lt_differ (pos n) (pos m) a b c d p q e = omega (arith, leb→le (suc n) m e.lt)
lt_differ (pos n) (negsuc m) a b c d p q e = absurd e.lt
lt_differ (negsuc n) (pos m) a b c d p q e = omega arith
lt_differ (negsuc n) (negsuc m) a b c d p q e = omega (arith, leb→le (suc m) n e.lt)

pub both_ways : (z w : ℤ) → z ≤ℤ w → w ≤ℤ z → z ≡ w
both_ways (pos n) (pos m) h k = ap pos (omega (arith, leb→le n m h.le, leb→le m n k.le))
both_ways (pos n) (negsuc m) h k = absurd h.le
both_ways (negsuc n) (pos m) h k = absurd k.le
both_ways (negsuc n) (negsuc m) h k = ap negsuc (omega (arith, leb→le m n h.le, leb→le n m k.le))

-- b - a is a - b with its sign turned
turned : (z : ℤ) (a b : ℕ) → Differ z a b → Differ (neg_ℤ z) b a
turned (pos zero) a b p = omega arith
turned (pos (suc n)) a b p = omega arith
turned (negsuc n) a b p = omega arith

pub differ_neg : (n : ℕ) → Differ (neg_ℤ (pos n)) 0 n
differ_neg n = turned (pos n) n 0 (omega arith)

pub differ_own : (z : ℤ) → Differ z (above z) (beneath z)
differ_own (pos n) = omega arith
differ_own (negsuc n) = omega arith

-- one integer is the difference of every pair that has the same cross sum
pub through : (x y a b : ℕ) → x + b ≡ a + y → (v : ℤ) → Differ v x y → Differ v a b
through x y a b e (pos k) r = omega arith
through x y a b e (negsuc k) r = omega arith

-- (a - b) + (c - d) is (a + c) - (b + d)
pub differ_plus : (z w : ℤ) (a b c d : ℕ) → Differ z a b → Differ w c d → Differ (z +ℤ w) (a + c) (b + d)
differ_plus (pos n) (pos m) a b c d p q = omega arith
differ_plus (pos n) (negsuc m) a b c d p q = through n (suc m) (a + c) (b + d) (omega arith) (sub_ℕ n (suc m)) (differ_sub n (suc m))
differ_plus (negsuc n) (pos m) a b c d p q = through m (suc n) (a + c) (b + d) (omega arith) (sub_ℕ m (suc n)) (differ_sub m (suc n))
differ_plus (negsuc n) (negsuc m) a b c d p q = omega arith

-- (a - b) - (c - d) is (a + d) - (c + b)
pub differ_minus : (z w : ℤ) (a b c d : ℕ) → Differ z a b → Differ w c d → Differ (z -ℤ w) (a + d) (c + b)
differ_minus z w a b c d p q =
    through (a + d) (b + c) (a + d) (c + b) (omega arith) (z -ℤ w) (differ_plus z (neg_ℤ w) a b d c p (turned w c d q))

-- k times a - b is k·a - k·b
pub differ_times : (k : ℕ) (z : ℤ) (a b : ℕ) → Differ z a b → Differ (pos k *ℤ z) (k * a) (k * b)
differ_times k (pos n) a b p = omega (arith, mul-add k n b, ap (λ (m : ℕ). k * m) p)
differ_times k (negsuc n) a b p =
    through 0 (k * suc n) (k * a) (k * b) (omega (arith, mul-add k (suc n) a, ap (λ (m : ℕ). k * m) p)) (neg_ℤ (pos (k * suc n)))
    (differ_neg (k * suc n))

-- how large a - b is, sign apart: where each is at most so much, or at least so much, above the other
pub size_most : (z : ℤ) (a b most : ℕ) → Differ z a b → 2 * b ≤ 2 * a + most → 2 * a ≤ 2 * b + most → 2 * nat_abs z ≤ most
size_most (pos n) a b most d h k = omega arith
size_most (negsuc n) a b most d h k = omega arith

pub above_size : (z : ℤ) (a b least : ℕ) → Differ z a b → 2 * b + least ≤ 2 * a → least ≤ 2 * nat_abs z
above_size (pos n) a b least d h = omega arith
above_size (negsuc n) a b least d h = omega arith

pub below_size : (z : ℤ) (a b least : ℕ) → Differ z a b → 2 * a + least < 2 * b → least < 2 * nat_abs z
below_size (pos n) a b least d h = omega arith
below_size (negsuc n) a b least d h = omega arith
