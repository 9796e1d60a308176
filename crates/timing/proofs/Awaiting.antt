-- How long it is until the next read, and its refusals in their order: by the two numbers that are asked first.
use Rattle.std.specs.Prelude.{◌≡◌, ◌↔◌, ◌+◌, ◌-◌, ◌*◌, ◌≤◌, ◌<◌, None, Some, Ok, Err}
use Rattle.laws.specs.Kit.{refl, sym, ap, subst, ◌∙◌, Bool, true, false, ℕ, arith, eqb, ltb, eq-eqb, ne_eqb}
use Rattle.laws.specs.Kit.{ltb-true, ltb-false, lt-ltb, le-ltb, eqb-true, eqb-false, dec_le, mul-le-mul, not-suc-le-zero}
use Rattle.laws.specs.Choose.{pick}
use Rattle.grain.specs.Paper.{NextRead}
use Rattle.grain.specs.Paper.{grains, nearest}
use Rattle.grain.proofs.Upcoming.{next_is_read, next_read_unique}
use Rattle.limits.specs.Paper.{rate_of, frame_length, active_ratio, class_of, tro_grains, packets_fit, tro_fits, first_no, set_up_refusal}
use Rattle.limits.specs.Paper.{edition_refusal, set_up_in, is_profile, given}
use Rattle.limits.proofs.Profiles.{profile_known, profile_22}
use Rattle.packet.specs.Step.{nothing, next_of as past_of, refusal_of}
use Rattle.frame.specs.Paper.{read_zero, next_read_of}
use Rattle.frame.specs.Range.{NextAsks}
use Rattle.frame.proofs.NextReads.{within_spacing, before_first}
use Rattle.timing.specs.declared.StreamNumbers.{StreamNumbers}
use Rattle.timing.specs.declared.Stated.{Stated}
use Rattle.timing.specs.declared.Rules.{Rules}
use Rattle.timing.specs.Answers.{Awaited, awaited_in}
use Rattle.timing.specs.Step.{of_parameters, set_up_of, stated_of, rules_of}
use Rattle.timing.specs.Answers.{apart_number, next_number, awaited, next_of, stated_next, awaited_number}
use Rattle.timing.proofs.Planning.{planned, reads_near, tro_longest, den_by_schedule}

-- the two numbers of a wait
abbrev wait_in : Awaited → ℕ
wait_in (Ok (Some w)) = w.num
wait_in (Ok None) = 0
wait_in (Err n) = 0

abbrev over_in : Awaited → ℕ
over_in (Ok (Some w)) = w.den
over_in (Ok None) = 0
over_in (Err n) = 0

module _ (first t : ℕ) where
  -- the packet scan's own numbers, after one packet
  pub apart_is : refusal_of (past_of nothing first) t 0 ≡ apart_number first t
  unfolding refusal_of
  apart_is = refl

  -- 12 is given exactly where the packet comes before the first
  apart_12 : (apart_number first t ≡ 12) ↔ (t < first)
  apart_12 = (go (ltb t first) refl (ltb 600000000000 (t - first)), λ l. rw (lt-ltb t first l))
    where
      go : (a : Bool) → ltb t first ≡ a → (b : Bool) → ◌≡◌ {A = ℕ} (pick a 12 (pick b 13 0)) 12 → t < first
      go true f b z = ltb-true t first f
      go false f true z = absurd (omega (arith, z))
      go false f false z = absurd (omega (arith, z))

  -- and 13 exactly where it comes more than 600 s after it
  apart_13 : (apart_number first t ≡ 13) ↔ (first + 600000000000 < t)
  apart_13 = (
    go (ltb t first) (ltb 600000000000 (t - first)) refl,
    λ l. rw (le-ltb t first (omega arith), lt-ltb 600000000000 (t - first) (omega arith)),
  )
    where
      go : (a b : Bool) → ltb 600000000000 (t - first) ≡ b → ◌≡◌ {A = ℕ} (pick a 12 (pick b 13 0)) 13 → first + 600000000000 < t
      go true b f z = absurd (omega (arith, z))
      go false true f z = omega (arith, ltb-true 600000000000 (t - first) f)
      go false false f z = absurd (omega (arith, z))

  -- where neither is given, the packet is in time
  pub apart_none : apart_number first t ≡ 0 → NextAsks first t
  apart_none e = go (ltb t first) refl (ltb 600000000000 (t - first)) refl e
    where
      go : (a : Bool) → ltb t first ≡ a → (b : Bool) → ltb 600000000000 (t - first) ≡ b → ◌≡◌ {A = ℕ} (pick a 12 (pick b 13 0)) 0
          → NextAsks first t
      go true f b g z = absurd (omega (arith, z))
      go false f true g z = absurd (omega (arith, z))
      go false f false g z = record {
        order = ltb-false t first f;
        near = omega (arith, ltb-false t first f, ltb-false 600000000000 (t - first) g);
      }

  module _ (x : StreamNumbers) where
    abbrev told : Awaited
    told = awaited (next_read_of (rules_of x).plan first t) (rules_of x).plan.reads.den

    pub refused_first : {n : ℕ} → n ≡ set_up_of x → (n ≡ 0 → ⊥) → Err n ≡ next_of x first t
    unfolding next_of next_read_of
    refused_first {n} e some = rw (sym e, ne_eqb n 0 some, ne_eqb n 0 some)

    pub refused_apart : {n : ℕ} → set_up_of x ≡ 0 → n ≡ apart_number first t → (n ≡ 0 → ⊥) → Err n ≡ next_of x first t
    unfolding next_of next_read_of
    refused_apart {n} e f some = rw (eq-eqb (set_up_of x) 0 e, sym f, ne_eqb n 0 some)

    pub is_told : set_up_of x ≡ 0 → apart_number first t ≡ 0 → next_of x first t ≡ told
    unfolding next_of next_read_of
    is_told e f = rw (eq-eqb (set_up_of x) 0 e, eq-eqb (apart_number first t) 0 f)

    -- as the code comes to it: the rules, the frame's answer, and which of the two it is
    pub as_told : {r : Rules} {a b : NextRead} → set_up_of x ≡ 0 → apart_number first t ≡ 0 → r ≡ rules_of x → a ≡ next_read_of r.plan first t
        → a ≡ b → awaited b r.plan.reads.den ≡ next_of x first t
    as_told {r} e f rules answer which =
        ap (λ (n : NextRead). awaited n r.plan.reads.den) (sym which ∙ answer)
        ∙ ap (λ (q : Rules). awaited (next_read_of q.plan first t) q.plan.reads.den) rules
        ∙ sym (is_told e f)

    -- N14: the number that the answer stands for is that of the table
    pub awaited_numbered : awaited_number (next_of x first t) ≡ next_number x first t
    unfolding next_of next_read_of
    awaited_numbered = go (next_read_of (rules_of x).plan first t) (eqb (next_number x first t) 0) refl
      where
        go : (a : NextRead) (z : Bool) → eqb (next_number x first t) 0 ≡ z
            → awaited_number (pick z (awaited a (rules_of x).plan.reads.den) (Err (next_number x first t))) ≡ next_number x first t
        go (Some w) true e = sym (eqb-true (next_number x first t) 0 e)
        go None true e = sym (eqb-true (next_number x first t) 0 e)
        go a false e = refl

    -- so where set-up refuses nothing it is 12, or 13, exactly where the arrivals say so
    apart_numbered : set_up_of x ≡ 0 → apart_number first t ≡ awaited_number (next_of x first t)
    apart_numbered e = sym (awaited_numbered ∙ rw (eq-eqb (set_up_of x) 0 e))

    pub numbered_12 : set_up_of x ≡ 0 → (awaited_number (next_of x first t) ≡ 12) ↔ (t < first)
    numbered_12 e = subst (λ (n : ℕ). (n ≡ 12) ↔ (t < first)) (apart_numbered e) apart_12

    pub numbered_13 : set_up_of x ≡ 0 → (awaited_number (next_of x first t) ≡ 13) ↔ (first + 600000000000 < t)
    numbered_13 e = subst (λ (n : ℕ). (n ≡ 13) ↔ (first + 600000000000 < t)) (apart_numbered e) apart_13

    -- and no refusal has number 0
    pub refused_some : {n : ℕ} → next_of x first t ≡ Err n → n ≡ 0 → ⊥
    unfolding next_of next_read_of
    refused_some {n} = go (next_read_of (rules_of x).plan first t) (eqb (next_number x first t) 0) refl
      where
        go : (a : NextRead) (z : Bool) → eqb (next_number x first t) 0 ≡ z
            → pick z (awaited a (rules_of x).plan.reads.den) (Err (next_number x first t)) ≡ Err n → n ≡ 0 → ⊥
        go (Some w) true e f g = let z : ◌≡◌ {A = ℕ} 0 1 = cc in omega arith
        go None true e f g = let z : ◌≡◌ {A = ℕ} 0 1 = cc in omega arith
        go a false e f g = let same : next_number x first t ≡ n = cc in eqb-false (next_number x first t) 0 e (same ∙ g)

    -- an answer that is no refusal is the frame's
    module _ (w den : ℕ) (e : next_of x first t ≡ awaited_in w den) where
      none_refused : next_number x first t ≡ 0
      none_refused = sym awaited_numbered ∙ ap awaited_number e

      pub set_up_fine : set_up_of x ≡ 0
      set_up_fine = go (eqb (set_up_of x) 0) refl none_refused
        where
          go : (z : Bool) → eqb (set_up_of x) 0 ≡ z → pick z (apart_number first t) (set_up_of x) ≡ 0 → set_up_of x ≡ 0
          go true f n = eqb-true (set_up_of x) 0 f
          go false f n = n

      apart_fine : apart_number first t ≡ 0
      apart_fine = rw (eq-eqb (set_up_of x) 0 set_up_fine) at none_refused

      by_answer : (a : NextRead) → awaited a (rules_of x).plan.reads.den ≡ awaited_in w den
          → (a ≡ Some w) × (den ≡ (rules_of x).plan.reads.den)
      by_answer (Some v) f = (ap Some (ap wait_in f), sym (ap over_in f))
      by_answer None f = let z : ◌≡◌ {A = ℕ} 0 1 = cc in absurd (omega arith)

      pub answer_is : (next_read_of (rules_of x).plan first t ≡ Some w) × (den ≡ (rules_of x).plan.reads.den)
      answer_is = by_answer (next_read_of (rules_of x).plan first t) (sym (is_told set_up_fine apart_fine) ∙ e)

      -- P23: from read 0 on the numerator is below that of a spacing
      pub below_spacing : read_zero (rules_of x).plan first ≤ grains t → w < (rules_of x).plan.reads.num
      below_spacing l = within_spacing (rules_of x).plan first t w answer_is.0 (planned x set_up_fine).apart l

      -- P23: and before it at most this, which 63 bits hold
      pub numerator_most : w ≤ 844589250000000
      numerator_most = go (dec_le (read_zero (rules_of x).plan first) (grains t))
        where
          go : Dec (read_zero (rules_of x).plan first ≤ grains t) → w ≤ 844589250000000
          go (yes l) = omega (arith, below_spacing l, reads_near x set_up_fine)
          go (no g) =
              let long : 0 < (rules_of x).plan.period = omega (arith, (planned x set_up_fine).long) in
              let early = before_first (rules_of x).plan first t w answer_is.0 long (apart_none apart_fine).order (omega arith) in
              let most = mul-le-mul (tro_longest x set_up_fine) (planned x set_up_fine).divided in
              omega (arith, early, most)

      -- P20: "over 25·n grains for gapped and over n for linear"
      pub denominator_is : den ≡ pick (eqb x.parameters.schedule 0) 25 1 * x.parameters.n
      denominator_is = answer_is.1 ∙ den_by_schedule x

-- a first packet half a frame early, at 24000/1001 frames a second
abbrev widest : StreamNumbers
widest = of_parameters (given 1 0 3 1080 20000 1460 41708)

widest_next : next_read_of (rules_of widest).plan 62562500 62562500 ≡ Some 844589250000000
unfolding next_read_of rules_of frame_length rate_of tro_grains active_ratio nearest
widest_next =
    let at = grains 62562500 in
    let base = read_zero (rules_of widest).plan 62562500 in
    let plan = (rules_of widest).plan in
    next_read_unique 20000 base plan.reads.num plan.reads.den at (next_read_of plan 62562500 62562500) (Some 844589250000000)
    (next_is_read 20000 base plan.reads.num plan.reads.den at)
    (0, record { one = omega arith; earlier = λ k h. absurd (not-suc-le-zero h); here = refl; distance = refl })

-- P23: so the greatest numerator is reached
pub most_reached : next_of widest 62562500 62562500 ≡ awaited_in 844589250000000 500000
unfolding set_up_in set_up_refusal first_no edition_refusal frame_length rate_of packets_fit tro_fits class_of rules_of active_ratio
most_reached =
    is_told 62562500 62562500 widest refl refl ∙ ap (λ (a : NextRead). awaited a (rules_of widest).plan.reads.den) widest_next

-- ---- of what is stated

module _ (s : Stated) (first t : ℕ) where
  -- S12: where its kind chooses a profile, it is answered as the stream numbers are
  pub stated_next_lem : is_profile s.kind ≡ true → stated_next s first t ≡ next_of (stated_of s) first t
  unfolding stated_next
  stated_next_lem k = rw (profile_known s.kind k)

  -- N1, N14: 22 exactly where it chooses none: nothing else of the table is 22
  pub stated_next_22 : is_profile s.kind ≡ false → stated_next s first t ≡ Err 22
  unfolding stated_next
  stated_next_22 k = rw ((profile_22 s.kind).1 k)

  -- no refusal has number 0
  pub stated_some : {n : ℕ} → stated_next s first t ≡ Err n → n ≡ 0 → ⊥
  stated_some {n} e = go (is_profile s.kind) refl
    where
      go : (k : Bool) → is_profile s.kind ≡ k → n ≡ 0 → ⊥
      go true k z = refused_some first t (stated_of s) (sym (stated_next_lem k) ∙ e) z
      go false k z = let number : 22 ≡ n = ap awaited_number (sym (stated_next_22 k) ∙ e) in omega arith
