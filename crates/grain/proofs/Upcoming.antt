-- The next read, by place: one answer is so, whatever the spacing, the denominator and the number of the reads, and it is the read whose
-- number is the count of those before. By the reads before a time being the first ones.
use Rattle.std.specs.Prelude.{◌≡◌, ◌↔◌, ◌+◌, ◌*◌, ◌-◌, ◌≤◌, ◌<◌, None, Some}
use Rattle.laws.specs.Kit.{refl, sym, ap, subst, ◌∙◌, Bool, true, false, ℕ, zero, suc, arith}
use Rattle.laws.specs.Kit.{mul-le-mul_right, ltb, ltb-true, ltb-false, suc-mul}
use Rattle.laws.specs.Choose.{pick}
use Rattle.laws.proofs.Choose.{false_true}
use Rattle.grain.specs.Paper.{NextRead}
use Rattle.grain.specs.Paper.{read_before, reads_before, IsNext, NextIs, next_read}
use Rattle.grain.specs.Carry.{endless_read, wait_at, next_after}
use Rattle.grain.proofs.ReadCount.{reads_first, reads_closed}

module _ (n base num den x : ℕ) where
  abbrev c : ℕ
  c = reads_before n base num den x

  -- read j, and the time x, both times den
  abbrev due : ℕ → ℕ
  due j = base * den + j * num

  here_not : c < n → read_before base num den x c ≡ false
  here_not l = go (read_before base num den x c) refl
    where
      go : (t : Bool) → read_before base num den x c ≡ t → t ≡ false
      go true e = absurd (omega (arith, (reads_first n base num den x).inside c l e))
      go false e = refl

  -- P22: where j reads are before x and one is left, read j is the next
  pub counted_next : c < n → IsNext n base num den x c (due c - x * den)
  counted_next l = record {
    one = l;
    earlier = λ k h. (reads_first n base num den x).passes k (omega arith) h;
    here = here_not l;
    distance = omega (arith, ltb-false (due c) (x * den) (here_not l));
  }

  pub next_counted : (j w : ℕ) → IsNext n base num den x j w → c ≡ j
  next_counted j w p =
      let not_less : ¬ (c < j) = λ h. absurd (false_true (sym (here_not (omega (arith, p.one))) ∙ p.earlier c h)) in
      let not_more : ¬ (j < c) = λ h. absurd (false_true (sym p.here ∙ (reads_first n base num den x).passes j p.one h)) in
      omega arith

  -- so the two are of one rule
  pub next_is_counted : (j : ℕ) → j < n → (c ≡ j) ↔ ((w : ℕ) × IsNext n base num den x j w)
  next_is_counted j l = (
    λ e. subst (λ (k : ℕ). (w : ℕ) × IsNext n base num den x k w) e (due c - x * den, counted_next (omega arith)),
    λ p. next_counted j p.0 p.1,
  )

  -- P20, P21: what is worked out is so
  pub next_is_read : NextIs n base num den x (next_read n base num den x)
  next_is_read = go (ltb c n) refl
    where
      go : (t : Bool) → ltb c n ≡ t → NextIs n base num den x (pick t (Some (due c - x * den)) None)
      go true e = (c, counted_next (ltb-true c n e))
      go false e = λ j l. (reads_first n base num den x).passes j l (omega (arith, ltb-false c n e))

  -- P20, P21: and nothing else is
  pub next_read_unique : (a b : NextRead) → NextIs n base num den x a → NextIs n base num den x b → a ≡ b
  next_read_unique (Some v) (Some w) (j, p) (k, q) =
      let same : j ≡ k = sym (next_counted j v p) ∙ next_counted k w q in
      let far : v ≡ w = omega (arith, p.distance, q.distance, ap (λ (z : ℕ). z * num) same) in
      ap Some far
  next_read_unique (Some v) None (j, p) q = absurd (false_true (sym p.here ∙ q j p.one))
  next_read_unique None (Some w) p (k, q) = absurd (false_true (sym q.here ∙ p k q.one))
  next_read_unique None None p q = refl

  module _ (j w : ℕ) (p : IsNext n base num den x j w) where
    -- P23: from read 0 on it is less than a spacing away
    pub next_below : 0 < num → base ≤ x → w < num
    next_below some l = go j p.distance p.earlier
      where
        go : (i : ℕ) → x * den + w ≡ due i → ((k : ℕ) → k < i → read_before base num den x k ≡ true) → w < num
        go zero e before = omega (arith, mul-le-mul_right den l)
        go (suc i) e before = omega (arith, ltb-true (due i) (x * den) (before i (omega arith)), suc-mul i num)

    -- before it, it is read 0
    pub next_first : x ≤ base → x * den + w ≡ base * den
    next_first l =
        let none : ¬ (0 < j) = λ h. omega (arith, ltb-true (due 0) (x * den) (p.earlier 0 h), mul-le-mul_right den l) in
        let first : j ≡ 0 = omega arith in
        omega (arith, p.distance, ap (λ (z : ℕ). z * num) first)

  -- P20: "A read at the arrival's own instant is the next read, at 0."
  pub own_instant : (j : ℕ) → j < n → x * den ≡ due j → NextIs n base num den x (Some 0)
  own_instant j l e =
      let not_more : ¬ (j < c) = λ h. omega (arith, ltb-true (due j) (x * den) ((reads_first n base num den x).passes j l h)) in
      let p = counted_next (omega arith) in (
        c,
        record {
          one = p.one;
          earlier = p.earlier;
          here = p.here;
          distance = omega (arith, p.distance, mul-le-mul_right num (let h : c ≤ j = omega arith in h));
        },
      )

  -- the wait that is carried is the distance, where one is left
  pub next_after_lem : 0 < num → next_after n c (wait_at base num den x) ≡ next_read n base num den x
  next_after_lem some = go (ltb c n) refl
    where
      go : (t : Bool) → ltb c n ≡ t → pick t (Some (wait_at base num den x)) None ≡ pick t (Some (due c - x * den)) None
      go true e =
          let same : endless_read base num den x ≡ c = omega (arith, ltb-true c n e, reads_closed n base num den some x) in
          ap (λ (z : ℕ). Some (base * den + z * num - x * den)) same
      go false e = refl
