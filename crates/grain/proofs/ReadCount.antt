-- Reads before a time are the first ones; counted one by one, they are the closed form: read j is before x exactly when j·num is below
-- the reach (x − base)·den.
use Rattle.std.specs.Prelude.{◌+◌, ◌*◌, ◌-◌, ◌≤◌, ◌<◌, ◌≡◌}
use Rattle.laws.specs.Kit.{ℕ, suc, min, sym, ap, ◌∙◌, arith, le-div_iff_mul-le, mul-le-mul_right}
use Rattle.laws.specs.Kit.{add-sub_of_le, add-mul, suc-mul, zero-mul, sub-eq-zero_of_le, dec_le, ltb-true, lt-ltb}
use Rattle.laws.specs.Count.{UpTo}
use Rattle.laws.proofs.Count.{count_up_to, falls_up_to}
use Rattle.grain.specs.Paper.{read_before, reads_before}
use Rattle.grain.specs.Carry.{endless_read}

-- whatever their spacing
pub reads_first : (n base num den x : ℕ) → UpTo (read_before base num den x) n (reads_before n base num den x)
reads_first n base num den x = falls_up_to (read_before base num den x) n (record {
  down = λ i j l k q. lt-ltb (base * den + i * num) (x * den)
      (omega (arith, ltb-true (base * den + j * num) (x * den) q, mul-le-mul_right num l));
})

module _ (n base num den : ℕ) (p : 0 < num) (x : ℕ) where
  reach : ℕ
  reach = (x - base) * den

  from_base : base ≤ x → x * den ≡ base * den + (x - base) * den
  from_base l = ap (λ (z : ℕ). z * den) (sym (add-sub_of_le l)) ∙ add-mul base (x - base) den

  no_reach : x ≤ base → (x - base) * den ≡ 0
  no_reach l = ap (λ (z : ℕ). z * den) (sub-eq-zero_of_le {n = x} {m = base} l) ∙ zero-mul den

  -- the closed form: the whole spacings in the reach, a begun one counted
  abbrev closed : ℕ
  closed = endless_read base num den x

  pub before_below : (j : ℕ) → base * den + j * num < x * den → j < closed
  before_below j h = (le-div_iff_mul-le p).1 (go (dec_le base x))
    where
      go : Dec (base ≤ x) → suc j * num ≤ (x - base) * den + (num - 1)
      go (yes l) = omega (arith, from_base l, suc-mul j num)
      go (no g) = let l : x ≤ base = omega arith in absurd (omega (arith, mul-le-mul_right den l))

  pub below_before : (j : ℕ) → j < closed → base * den + j * num < x * den
  below_before j h = go (dec_le base x) ((le-div_iff_mul-le p).0 h)
    where
      go : Dec (base ≤ x) → suc j * num ≤ (x - base) * den + (num - 1) → base * den + j * num < x * den
      go (yes l) q = omega (arith, from_base l, suc-mul j num)
      go (no g) q = absurd (omega (arith, no_reach (omega arith), suc-mul j num))

  pub reads_closed : reads_before n base num den x ≡ min n closed
  reads_closed = count_up_to (read_before base num den x) n closed (record {
    inside = λ j h q. before_below j (ltb-true (base * den + j * num) (x * den) q);
    passes = λ j h q. lt-ltb (base * den + j * num) (x * den) (below_before j q);
  })

  -- none where the time is not after the first read
  pub reads_none : x ≤ base → reads_before n base num den x ≡ 0
  reads_none l =
      let z : ¬ (0 < closed) = λ q. omega (arith, below_before 0 q, mul-le-mul_right den l) in
      omega (arith, reads_closed)
