-- What is carried is what the whole time gives, after one step more: instants and what is left, reads and the wait. By the one quotient
-- that lies between two multiples, and the one read that is the first not before a time.
use Rattle.std.specs.Prelude.{◌≡◌, ◌+◌, ◌*◌, ◌-◌, ◌/◌, ◌%◌, ◌≤◌, ◌<◌}
use Rattle.laws.specs.Kit.{refl, sym, ap, ◌∙◌, ℕ, zero, suc, min, arith, div-add-mod', div-mul-le_self}
use Rattle.laws.specs.Kit.{lt-div-mul-add, add-mul, suc-mul, zero-mul, zero-add, mul-le-mul_right}
use Rattle.grain.specs.Paper.{instants, reads_before}
use Rattle.grain.specs.Carry.{since_instant, EndlessNext, endless_read, wait_at, reads_at, passed_by, next_after, reads_onward}
use Rattle.grain.proofs.ReadCount.{before_below, below_before, reads_closed, reads_none}
use Rattle.grain.proofs.Upcoming.{next_after_lem}
use Rattle.grain.proofs.Carried.{quotient_is, up_low, up_high}

-- ---- instants: e, then m more

module _ (e m num den : ℕ) (p : 0 < num) where
  abbrev left : ℕ
  left = since_instant e num den + m * den

  more : (e + m) * den ≡ instants e num den * num + left
  more = omega (arith, add-mul e m den, div-add-mod' (e * den) num)

  -- E1: those up to then are those up to e and those of the time since the last of them
  pub instants_on : instants (e + m) num den ≡ instants e num den + left / num
  instants_on =
      quotient_is ((e + m) * den) num (instants e num den + left / num)
      (omega (arith, more, add-mul (instants e num den) (left / num) num, div-mul-le_self left num))
      (omega (arith, more, add-mul (instants e num den) (left / num) num, lt-div-mul-add {a = left} {b = num} p))

  pub since_on : since_instant (e + m) num den ≡ left % num
  since_on =
      omega (
        arith,
        more,
        div-add-mod' ((e + m) * den) num,
        div-add-mod' left num,
        ap (λ (q : ℕ). q * num) instants_on,
        add-mul (instants e num den) (left / num) num,
      )

-- ---- reads

module _ (base num den : ℕ) (p : 0 < num) where
  -- the next read of a time is the one that the closed form gives
  pub next_is : (x : ℕ) → EndlessNext base num den x (endless_read base num den x) (wait_at base num den x)
  next_is x =
      let no : ¬ (base * den + endless_read base num den x * num < x * den) = λ h.
      omega (arith, before_below 0 base num den p x (endless_read base num den x) h) in
      record { before = below_before 0 base num den p x; due = omega arith }

  -- one read only is the next, and it is one time away
  pub next_unique : (x j w k v : ℕ) → EndlessNext base num den x j w → EndlessNext base num den x k v → (j ≡ k) × (w ≡ v)
  next_unique x j w k v a b =
      let not_less : ¬ (j < k) = λ h. omega (arith, a.due, b.before j h) in
      let not_more : ¬ (k < j) = λ h. omega (arith, b.due, a.before k h) in
      let same : j ≡ k = omega arith in
      (same, omega (arith, a.due, b.due, ap (λ (z : ℕ). z * num) same))

  -- x, then m more
  module _ (x m : ℕ) where
    abbrev k : ℕ
    k = passed_by (wait_at base num den x) num (m * den)

    low : m * den - wait_at base num den x ≤ k * num
    low = up_low (m * den - wait_at base num den x) num p

    high : k * num < m * den - wait_at base num den x + num
    high = up_high (m * den - wait_at base num den x) num p

    -- read j of those that came by: a spacing before the next at least
    came_by : (j i : ℕ) → j < endless_read base num den x + i → k ≡ i → base * den + j * num < (x + m) * den
    came_by j zero l e = omega (arith, add-mul x m den, (next_is x).before j (omega arith))
    came_by j (suc i) l e =
        omega (
          arith,
          add-mul x m den,
          (next_is x).due,
          high,
          ap (λ (z : ℕ). z * num) e,
          suc-mul i num,
          add-mul (endless_read base num den x) i num,
          mul-le-mul_right num (let g : j ≤ endless_read base num den x + i = omega arith in g),
        )

    stepped : EndlessNext base num den (x + m) (endless_read base num den x + k) (wait_at base num den x + k * num - m * den)
    stepped = record {
      before = λ j l. came_by j k l refl;
      due = omega (arith, add-mul x m den, add-mul (endless_read base num den x) k num, (next_is x).due, low);
    }

    pub next_on : endless_read base num den (x + m) ≡ endless_read base num den x + k
    next_on = (next_unique (x + m) _ _ _ _ (next_is (x + m)) stepped).0

    pub wait_on : wait_at base num den (x + m) ≡ wait_at base num den x + k * num - m * den
    wait_on = (next_unique (x + m) _ _ _ _ (next_is (x + m)) stepped).1

    -- P16: the frame's reads before x + m, of n
    pub reads_on : (n : ℕ) → reads_before n base num den (x + m) ≡ min n (reads_before n base num den x + k)
    reads_on n = omega (arith, reads_closed n base num den p (x + m), reads_closed n base num den p x, next_on)

    -- P16, P20, P21: and all that is known of them then
    pub known_on : (n : ℕ) → reads_onward (reads_before n base num den x) (wait_at base num den x) n num (m * den) ≡ reads_at n base num den (x + m)
    known_on n = λ j. record {
      count = sym (reads_on n) j;
      next = (ap (next_after n _) (sym wait_on) ∙ ap (λ (z : ℕ). next_after n z (wait_at base num den (x + m))) (sym (reads_on n))
          ∙ next_after_lem n base num den (x + m) p) j;
      wait = sym wait_on j;
    }

  -- a time that is not after the first read has no read before it
  pub none_yet : (x : ℕ) → x ≤ base → (endless_read base num den x ≡ 0) × (wait_at base num den x ≡ base * den - x * den)
  none_yet x l =
      let z : ¬ (0 < endless_read base num den x) = λ q. omega (arith, (next_is x).before 0 q, mul-le-mul_right den l) in
      let none : endless_read base num den x ≡ 0 = omega arith in
      (none, omega (arith, ap (λ (q : ℕ). q * num) none))

  -- P16, P20, P21: from time 0, where no read is over and read 0 is its own time away
  pub known_from_start : (n x : ℕ) → reads_onward 0 (base * den) n num (x * den) ≡ reads_at n base num den x
  known_from_start n x =
      let none = reads_none n base num den p 0 (omega arith) in
      let wait : wait_at base num den 0 ≡ base * den = omega (arith, (none_yet 0 (omega arith)).1, zero-mul den) in
      rw (none, wait, zero-add x) at (known_on 0 x n)
