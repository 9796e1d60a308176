-- What the open frame keeps, packet by packet, is what its packets say: one step goes from what k
-- packets say to what k + 1 say. And its times, taken from the first packet on, are those of document 01.
use Rattle.std.specs.Prelude.{◌≡◌, ◌&&◌, ◌+◌, ◌-◌, ◌*◌, ◌≤◌, ◌<◌, None, Some}
use Rattle.laws.specs.Kit.{refl, sym, ap, ◌∙◌, Bool, true, false, not, ℕ, zero, suc, arith, add-mul}
use Rattle.laws.specs.Kit.{dec_lt, ltb, eqb, eqb-suc-zero, ltb-true, ltb-false, lt-ltb, le-ltb, eq-eqb, eqb-true, eqb-false}
use native.Mathlib.Numerals.{add-one}
use Rattle.laws.specs.Choose.{pick}
use Rattle.laws.specs.Most.{most}
use Rattle.laws.specs.Seek.{seek, hit}
use Rattle.laws.proofs.Choose.{false_true}
use Rattle.laws.proofs.Count.{count_same}
use Rattle.laws.proofs.Most.{most_is}
use Rattle.laws.proofs.Seek.{seek_is, hit_next, hit_on}
use Rattle.grain.specs.Paper.{grains, frame_time, phase, read_before, reads_before, next_read}
use Rattle.grain.specs.Carry.{reads_at, reads_onward}
use Rattle.grain.specs.declared.Reads.{Reads}
use Rattle.grain.proofs.Rounding.{phase_from}
use Rattle.grain.proofs.Onward.{known_on, known_from_start}
use Rattle.frame.specs.declared.Plan.{Plan}
use Rattle.frame.specs.declared.Frame.{Frame}
use Rattle.frame.specs.Step.{first_read_of, opened_of, counted_of, ticked_of, push_of}
use Rattle.frame.specs.ByPlace.{time_from, reads_from, wait_from, differing, late_from, kept_of}

-- the first place with a lack is the first late one: no lack so far, and none was late
module _ (reads : ℕ → ℕ) (k : ℕ) where
  abbrev lacks : ℕ → ℕ
  lacks j = reads j - j

  abbrev late : ℕ → Bool
  late j = ltb j (reads j)

  none_late : eqb (most lacks k) 0 ≡ true → k ≤ seek late k
  none_late e =
      let no : ¬ (seek late k < k) = λ l.
      let after_read = ltb-true (seek late k) (reads (seek late k)) ((seek_is late k).here l) in
      omega (arith, eqb-true (most lacks k) 0 e, (most_is lacks k).bound (seek late k) l, after_read) in
      omega arith

  some_late : eqb (most lacks k) 0 ≡ false → seek late k < k
  some_late e = go (dec_lt 0 k)
    where
      go : Dec (0 < k) → seek late k < k
      go (no g) = absurd (eqb-false (most lacks k) 0 e ((most_is lacks k).none (omega arith)))
      go (yes l) =
          let w = (most_is lacks k).met l in
          let lack : ¬ (most lacks k ≡ 0) = eqb-false (most lacks k) 0 e in
          let no : ¬ (k ≤ seek late k) = λ m. false_true
          (sym ((seek_is late k).before w.0 (omega (arith, w.1))) ∙ lt-ltb w.0 (reads w.0) (omega (arith, w.2))) in
          omega arith

module _ (plan : Plan) (time stamp : ℕ → ℕ) where
  -- with the frame's times set, and what k packets left
  abbrev timed : ℕ → ℕ → ℕ → Frame
  timed k reads wait = record {
    held = k;
    first = time 0;
    stamp = stamp 0;
    phase = phase (grains (time 0)) plan.period;
    differs = hit (differing plan time stamp) k;
    reads = reads;
    wait = wait;
    top = most (λ j. suc j - reads_from plan time stamp j) k;
    deficit = most (λ j. reads_from plan time stamp j - j) k;
    late = hit (late_from plan time stamp) k;
  }

  abbrev told : ℕ → Reads
  told k = reads_at plan.packets (first_read_of plan) plan.reads.num plan.reads.den (time_from plan time stamp k)

  differs_on : (k : ℕ) → hit (differing plan time stamp) (suc k)
      ≡ pick (differing plan time stamp k && eqb (hit (differing plan time stamp) k) 0) k (hit (differing plan time stamp) k)
  differs_on k = hit_on (differing plan time stamp) k (ap not (eq-eqb (stamp 0) (stamp 0) refl))

  -- ---- where the buffer is judged

  module _ (b : plan.buffered ≡ true) where
    -- packet k counted, with the reads before it and the wait that the paper has
    counted_on : (k reads wait : ℕ) → counted_of (timed k reads wait) (stamp k) (told k) ≡ kept_of plan time stamp (suc k)
    unfolding kept_of counted_of
    counted_on k reads wait =
        rw (add-one, b) (λ j. record {
          held = suc k;
          first = time 0;
          stamp = stamp 0;
          phase = phase (grains (time 0)) plan.period;
          differs = sym (differs_on k) j;
          reads = reads_from plan time stamp k;
          wait = wait_from plan time stamp k;
          top = most (λ j. suc j - reads_from plan time stamp j) (suc k);
          deficit = most (λ j. reads_from plan time stamp j - j) (suc k);
          late = sym (hit_next (late_from plan time stamp) k (eqb (most (λ j. reads_from plan time stamp j - j) k) 0)
              (none_late (reads_from plan time stamp) k) (some_late (reads_from plan time stamp) k)) j;
        })

    module _ (apart : 0 < plan.reads.num) where
      -- from one period before the frame's start on
      first_reads : reads_onward 0 (first_read_of plan * plan.reads.den) plan.packets plan.reads.num
          (phase (grains (time 0)) plan.period * plan.reads.den) ≡ told 0
      first_reads =
          let start : time_from plan time stamp 0 ≡ phase (grains (time 0)) plan.period = omega arith in
          rw start (known_from_start (first_read_of plan) plan.reads.num plan.reads.den apart plan.packets
          (phase (grains (time 0)) plan.period))

      judged_first : (gone : ℕ) → push_of plan (kept_of plan time stamp 0) gone (time 0) (stamp 0) ≡ kept_of plan time stamp 1
      unfolding kept_of opened_of
      judged_first gone =
          rw b
          (ap (counted_of (timed 0 0 (first_read_of plan * plan.reads.den)) (stamp 0)) first_reads
          ∙ counted_on 0 0 (first_read_of plan * plan.reads.den)
          ∙ rw b)

      module _ (k : ℕ) (lead : time 0 ≤ time k) (order : time k ≤ time (suc k)) where
        judged_next : (gone : ℕ) → gone ≡ grains (time (suc k) - time k)
            → push_of plan (kept_of plan time stamp (suc k)) gone (time (suc k)) (stamp (suc k)) ≡ kept_of plan time stamp (suc (suc k))
        unfolding kept_of opened_of
        judged_next gone e =
            let later : time_from plan time stamp (suc k) ≡ time_from plan time stamp k + gone = omega arith in
            let reads : reads_onward (reads_from plan time stamp k) (wait_from plan time stamp k) plan.packets plan.reads.num
            (gone * plan.reads.den) ≡ told (suc k) =
            rw later (known_on (first_read_of plan) plan.reads.num plan.reads.den apart (time_from plan time stamp k) gone
            plan.packets) in
            rw (eqb-suc-zero k, b)
            (ap (counted_of (timed (suc k) (reads_from plan time stamp k) (wait_from plan time stamp k)) (stamp (suc k))) reads
            ∙ counted_on (suc k) (reads_from plan time stamp k) (wait_from plan time stamp k)
            ∙ rw b)

  -- ---- where it is not: nothing of reads is kept, whatever goes by

  module _ (b : plan.buffered ≡ false) where
    -- packets and the place that differs, and nothing else
    abbrev noted : ℕ → ℕ → Frame
    noted k differs = record {
      held = suc k;
      first = time 0;
      stamp = stamp 0;
      phase = phase (grains (time 0)) plan.period;
      differs = differs;
      reads = 0;
      wait = 0;
      top = 0;
      deficit = 0;
      late = 0;
    }

    unjudged_next : (k gone : ℕ) → push_of plan (kept_of plan time stamp k) gone (time k) (stamp k) ≡ kept_of plan time stamp (suc k)
    unfolding kept_of opened_of ticked_of
    unjudged_next zero gone = rw b (ap (noted 0) (sym (differs_on 0)))
    unjudged_next (suc k) gone = rw (eqb-suc-zero k, b, add-one) (ap (noted (suc k)) (sym (differs_on (suc k))))

  -- ---- both

  module _ (apart : 0 < plan.reads.num) where
    -- the first packet, whatever went by before it
    pub kept_first : (gone : ℕ) → push_of plan (kept_of plan time stamp 0) gone (time 0) (stamp 0) ≡ kept_of plan time stamp 1
    kept_first gone = go plan.buffered refl
      where
        go : (t : Bool) → plan.buffered ≡ t → push_of plan (kept_of plan time stamp 0) gone (time 0) (stamp 0) ≡ kept_of plan time stamp 1
        go true b = judged_first b apart gone
        go false b = unjudged_next b 0 gone

    -- and each later one, by what goes by since the packet before it
    module _ (k : ℕ) (lead : time 0 ≤ time k) (order : time k ≤ time (suc k)) where
      pub kept_next : (gone : ℕ) → gone ≡ grains (time (suc k) - time k)
          → push_of plan (kept_of plan time stamp (suc k)) gone (time (suc k)) (stamp (suc k)) ≡ kept_of plan time stamp (suc (suc k))
      kept_next gone e = go plan.buffered refl
        where
          go : (t : Bool) → plan.buffered ≡ t
              → push_of plan (kept_of plan time stamp (suc k)) gone (time (suc k)) (stamp (suc k)) ≡ kept_of plan time stamp (suc (suc k))
          go true b = judged_next b apart k lead order gone e
          go false b = unjudged_next b (suc k) gone

-- a read is before a time exactly when it is with both as much later
shift : (base num den x s j : ℕ) → read_before (base + s) num den (x + s) j ≡ read_before base num den x j
shift base num den x s j = go (read_before base num den x j) refl
  where
    go : (t : Bool) → read_before base num den x j ≡ t → read_before (base + s) num den (x + s) j ≡ t
    go true e = lt-ltb ((base + s) * den + j * num) ((x + s) * den)
        (omega (arith, ltb-true (base * den + j * num) (x * den) e, add-mul base s den, add-mul x s den))
    go false e = le-ltb ((base + s) * den + j * num) ((x + s) * den)
        (omega (arith, ltb-false (base * den + j * num) (x * den) e, add-mul base s den, add-mul x s den))

-- two ways to count from: the reads before are as many where base and time lie as far apart
pub reads_shift : (n base num den x base' x' s s' : ℕ) → base + s ≡ base' + s' → x + s ≡ x' + s'
    → reads_before n base num den x ≡ reads_before n base' num den x'
reads_shift n base num den x base' x' s s' e f =
    count_same (read_before base num den x) (read_before base' num den x') n
    (λ j h. sym (shift base num den x s j) ∙ rw (e, f) (shift base' num den x' s' j))

-- and the next read is as far
pub next_shift : (n base num den x base' x' s s' : ℕ) → base + s ≡ base' + s' → x + s ≡ x' + s'
    → next_read n base num den x ≡ next_read n base' num den x'
next_shift n base num den x base' x' s s' e f =
    let same = reads_shift n base num den x base' x' s s' e f in
    let bases : base * den + s * den ≡ base' * den + s' * den =
    sym (add-mul base s den) ∙ ap (λ (z : ℕ). z * den) e ∙ add-mul base' s' den in
    let times : x * den + s * den ≡ x' * den + s' * den = sym (add-mul x s den) ∙ ap (λ (z : ℕ). z * den) f ∙ add-mul x' s' den in
    let far : (k : ℕ) → base * den + k * num - x * den ≡ base' * den + k * num - x' * den = λ k. omega (arith, bases, times) in
    ap (λ (c : ℕ). pick (ltb c n) (Some (base * den + c * num - x * den)) None) same
    ∙ ap (λ (w : ℕ). pick (ltb (reads_before n base' num den x') n) (Some w) None) (far (reads_before n base' num den x'))

-- so the code's reads, from one period before the frame's start on, are document 01's
pub reads_are : (plan : Plan) (time stamp : ℕ → ℕ) (j : ℕ) → 0 < plan.period → time 0 ≤ time j
    → reads_from plan time stamp j ≡ reads_before plan.packets (frame_time (grains (time 0)) plan.period + plan.tro) plan.reads.num
    plan.reads.den (grains (time j))
reads_are plan time stamp j p l =
    reads_shift plan.packets (plan.tro + plan.period) plan.reads.num plan.reads.den
    (grains (time j - time 0) + phase (grains (time 0)) plan.period)
    (frame_time (grains (time 0)) plan.period + plan.tro) (grains (time j)) (frame_time (grains (time 0)) plan.period) plan.period
    (omega arith) (omega (arith, phase_from (grains (time 0)) plan.period p))
