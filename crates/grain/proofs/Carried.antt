-- A quotient and what is left, where the multiples around x are known or taken off one by one; and from them the reads that come by in a
-- time, and the wait after it.
use Rattle.std.specs.Prelude.{◌≡◌, ◌+◌, ◌*◌, ◌-◌, ◌/◌, ◌%◌, ◌≤◌, ◌<◌, None, Some}
use Rattle.laws.specs.Kit.{refl, sym, ap, ◌∙◌, subst, Bool, true, false, ℕ, min, arith, dec_le, dec_lt}
use Rattle.laws.specs.Kit.{div-eq_of_lt-le, div-add-mod', div-mul-le_self, lt-div-mul-add, suc-mul, add-mul, mul-le-mul_left}
use Rattle.laws.specs.Kit.{leb, leb-true, leb-false, lt-ltb, le-ltb}
use Rattle.laws.specs.Choose.{pick}
use Rattle.grain.specs.declared.Division.{Division}
use Rattle.grain.specs.declared.Kept.{Kept}
use Rattle.grain.specs.declared.Reads.{Reads}
use Rattle.grain.specs.Carry.{taken_of, divided_of, passed_by, carried_on, known_of, reads_onward}

module _ (x num k : ℕ) where
  pub quotient_is : k * num ≤ x → x < k * num + num → x / num ≡ k
  quotient_is h l = div-eq_of_lt-le {k = k} num h (omega (arith, suc-mul k num))

  pub divided_is : (r : ℕ) → x ≡ k * num + r → r < num → ◌≡◌ {A = Division} (record { whole = k; rest = r }) (divided_of x num)
  divided_is r e l =
      let q = quotient_is (omega arith) (omega arith) in
      let m : x % num ≡ r = omega (arith, div-add-mod' x num, ap (λ (z : ℕ). z * num) q) in
      λ j. record { whole = (sym q) j; rest = (sym m) j }

-- k reads come by: so many spacings begin after the wait
module _ (count wait n num gone k : ℕ) (p : 0 < num) where
  passed_is : k * num < gone - wait + num → gone - wait ≤ k * num → passed_by wait num gone ≡ k
  passed_is h l = quotient_is _ num k (omega arith) (omega arith)

  pub reads_are : (c w : ℕ) → k * num < gone - wait + num → gone - wait ≤ k * num → c ≡ min n (count + k) → w + gone ≡ wait + k * num
      → ◌≡◌ {A = Kept} (record { count = c; wait = w }) (carried_on count wait n num gone)
  reads_are c w h l e f =
      let q = passed_is h l in
      let d : c ≡ min n (count + passed_by wait num gone) = e ∙ ap (λ (z : ℕ). min n (count + z)) (sym q) in
      let g : w ≡ wait + passed_by wait num gone * num - gone = omega (arith, ap (λ (z : ℕ). z * num) q) in
      λ j. record { count = d j; wait = g j }

-- what is kept, and the next of n reads
module _ (count wait n num gone : ℕ) {k : Kept} (e : k ≡ carried_on count wait n num gone) where
  -- one is left
  pub reads_left : k.count < n
      → ◌≡◌ {A = Reads} (record { count = k.count; next = Some k.wait; wait = k.wait }) (reads_onward count wait n num gone)
  reads_left l = rw (lt-ltb k.count n l) at (ap (known_of n) e)

  -- or none is
  pub reads_over : n ≤ k.count
      → ◌≡◌ {A = Reads} (record { count = k.count; next = None; wait = k.wait }) (reads_onward count wait n num gone)
  reads_over l = rw (le-ltb k.count n l) at (ap (known_of n) e)

-- ---- num's taken off one by one

-- x less so many num's, no more than so many, and fewer only where no more are in it
pub record Off (most x num whole rest : ℕ) : Type 0 where
  pub sum : x ≡ whole * num + rest
  pub few : whole ≤ most
  pub all : whole < most → rest < num

pub taken_off : {x num : ℕ} {d : Division} → d ≡ taken_of x num → Off 1 x num d.whole d.rest
unfolding taken_of
taken_off {x} {num} e = subst (λ (d : Division). Off 1 x num d.whole d.rest) (sym e) (go (leb num x) refl)
  where
    go : (t : Bool) → leb num x ≡ t → Off 1 x num (pick t 1 0) (pick t (x - num) x)
    go true e = record { sum = omega (arith, leb-true num x e); few = omega arith; all = λ h. omega arith }
    go false e = record { sum = omega arith; few = omega arith; all = λ h. leb-false num x e }

-- and more of them
off_on : {a b x num w r v s : ℕ} → Off a x num w r → Off b r num v s → Off (a + b) x num (w + v) s
off_on {a} {b} {x} {num} {w} {r} {v} {s} p q = record {
  sum = omega (arith, p.sum, q.sum, add-mul w v num);
  few = omega (arith, p.few, q.few);
  all = λ h. go h (dec_lt v b);
}
  where
    go : w + v < a + b → Dec (v < b) → s < num
    go h (yes l) = q.all l
    go h (no g) = omega (arith, q.sum, p.all (omega (arith, h, q.few)))

pub twice_off : {x num : ℕ} {d e : Division} → d ≡ taken_of x num → e ≡ taken_of d.rest num → Off 2 x num (d.whole + e.whole) e.rest
twice_off f g = off_on (taken_off f) (taken_off g)

-- of the time to the second read after the next so many spacings are left, and the other reads came by
pub reads_near : (count wait n num gone m w c : ℕ) → 0 < num → gone ≤ wait + 2 * num → Off 2 (wait + 2 * num - gone) num m w
    → c ≡ min n (count + (2 - m)) → ◌≡◌ {A = Kept} (record { count = c; wait = w }) (carried_on count wait n num gone)
reads_near count wait n num gone m w c p l o e =
    let both : m + (2 - m) ≡ 2 = omega (arith, o.few) in
    let halves : m * num + (2 - m) * num ≡ 2 * num = sym (add-mul m (2 - m) num) ∙ ap (λ (z : ℕ). z * num) both in
    let meets : w + gone ≡ wait + (2 - m) * num = omega (arith, o.sum, halves) in
    reads_are count wait n num gone (2 - m) p c w (begun meets (dec_lt m 2)) (omega (arith, meets)) e meets
  where
    begun : w + gone ≡ wait + (2 - m) * num → Dec (m < 2) → (2 - m) * num < gone - wait + num
    begun f (yes h) = omega (arith, f, o.all h)
    begun f (no g) =
        let none : 2 - m ≡ 0 = omega arith in
        omega (arith, ap (λ (z : ℕ). z * num) none)

-- the quotient rounded up lies where it is wanted
module _ (over num : ℕ) (p : 0 < num) where
  pub up_low : over ≤ (over + (num - 1)) / num * num
  up_low = omega (arith, lt-div-mul-add {a = over + (num - 1)} {b = num} p)

  pub up_high : (over + (num - 1)) / num * num < over + num
  up_high = omega (arith, div-mul-le_self (over + (num - 1)) num)

  -- and is no more than its multiple
  pub up_small : (over + (num - 1)) / num < over + num
  up_small = omega (arith, up_high, mul-le-mul_left ((over + (num - 1)) / num) p)

-- where no read comes by the wait is shorter; else it is below a spacing
pub wait_small : (wait num gone most : ℕ) → 0 < num → wait ≤ most → num ≤ most → wait + passed_by wait num gone * num - gone ≤ most
wait_small wait num gone most p w n = go (dec_le gone wait)
  where
    go : Dec (gone ≤ wait) → wait + passed_by wait num gone * num - gone ≤ most
    go (yes l) = omega (arith, ap (λ (k : ℕ). k * num) (passed_is 0 wait 0 num gone 0 p (omega arith) (omega arith)))
    go (no g) = omega (arith, up_high (gone - wait) num p)
