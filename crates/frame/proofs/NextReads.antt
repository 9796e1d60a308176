-- The next read of a packet, by its own arrival and that of its frame's first: asked of a frame that opens, it is the paper's; and what the
-- open frame keeps answers it too. By the one law of what is known of the reads (grain's Onward), times counted from elsewhere.
use Rattle.std.specs.Prelude.{◌≡◌, ◌+◌, ◌-◌, ◌*◌, ◌≤◌, ◌<◌, Some}
use Rattle.laws.specs.Kit.{ap, subst, ◌∙◌, ℕ, suc, arith, add-zero, add-mul, mul_assoc}
use Rattle.laws.specs.Kit.{Bool, true, false, mul-le-mul_right}
use Rattle.laws.specs.Choose.{pick}
use Rattle.laws.specs.Climb.{Climbs}
use Rattle.laws.proofs.Climb.{climbs_le}
use Rattle.grain.specs.Paper.{NextRead}
use Rattle.grain.specs.declared.Reads.{Reads}
use Rattle.grain.specs.Paper.{grains, frame_time, phase, NextIs, next_read}
use Rattle.grain.specs.Carry.{ReadsAsks, next_after, reads_onward}
use Rattle.grain.proofs.Rounding.{nearest_is, phase_from, phase_small}
use Rattle.grain.proofs.Extremes.{reads_fit}
use Rattle.grain.proofs.Upcoming.{next_is_read, next_read_unique, next_below, next_first, next_after_lem}
use Rattle.grain.proofs.Onward.{known_from_start}
use Rattle.frame.specs.declared.Plan.{Plan}
use Rattle.frame.specs.declared.Frame.{Frame}
use Rattle.frame.specs.Paper.{History, begun_at, since, held_at, NextReadIs, read_zero, next_read_of}
use Rattle.frame.specs.Step.{empty_of, first_read_of, opened_of}
use Rattle.frame.specs.ByPlace.{time_from, reads_from, wait_from, kept_of, frame_from, frames_at}
use Rattle.frame.specs.Range.{Planned, NextAsks}
use Rattle.frame.proofs.Opening.{first_read_fits, bound_fits}
use Rattle.frame.proofs.Keeping.{next_shift}
use Rattle.frame.proofs.Stretches.{since_is, one_more}
use Rattle.frame.proofs.Stepping.{still_open}

module _ (plan : Plan) (first t : ℕ) where
  -- what goes by since one period before the frame's start
  abbrev gone : ℕ
  gone = phase (grains first) plan.period + grains (t - first)

  -- the paper's, with all times from there on
  pub next_from : 0 < plan.period → first ≤ t
      → next_read plan.packets (first_read_of plan) plan.reads.num plan.reads.den gone ≡ next_read_of plan first t
  unfolding next_read_of
  next_from p l =
      next_shift plan.packets (first_read_of plan) plan.reads.num plan.reads.den gone (read_zero plan first) (grains t)
      (frame_time (grains first) plan.period) plan.period (omega arith) (omega (arith, phase_from (grains first) plan.period p))

  module _ (p : Planned plan) (a : NextAsks first t) where
    gone_fits : gone ≤ 16204294967296
    gone_fits = omega (arith, a.near, p.short, phase_small (grains first) plan.period (omega (arith, p.long)))

    asked_fits : ReadsAsks 0 (first_read_of plan * plan.reads.den) plan.packets plan.reads.num (gone * plan.reads.den)
    asked_fits = record {
      apart = p.apart;
      among = omega arith;
      goes = reads_fit 0 gone plan.reads.den plan.reads.num (omega arith) gone_fits p.divided (omega (arith, p.near, p.short));
      waits = omega (arith, first_read_fits plan p, bound_fits plan p, p.near, p.short);
    }

    asked_next : (reads_onward 0 (first_read_of plan * plan.reads.den) plan.packets plan.reads.num (gone * plan.reads.den)).next
        ≡ next_read_of plan first t
    asked_next =
        ap (λ (r : Reads). r.next)
        (known_from_start (first_read_of plan) plan.reads.num plan.reads.den p.apart plan.packets gone)
        ∙ next_from (omega (arith, p.long)) a.order

    -- and of a frame that is so opened
    module _ {e f : Frame} (empty : e ≡ empty_of) (opened : f ≡ opened_of plan e first 0) where
      abbrev by : ℕ
      by = (f.phase + grains (t - first)) * plan.reads.den

      so : f ≡ opened_of plan empty_of first 0
      so = opened ∙ ap (λ (x : Frame). opened_of plan x first 0) empty

      pub opened_gone : f.phase + grains (t - first) ≤ 16204294967296
      unfolding opened_of
      opened_gone = rw so gone_fits

      pub opened_fits : ReadsAsks f.reads f.wait plan.packets plan.reads.num by
      unfolding opened_of
      opened_fits = rw so asked_fits

      pub opened_next : (reads_onward f.reads f.wait plan.packets plan.reads.num by).next ≡ next_read_of plan first t
      unfolding opened_of
      opened_next = rw so asked_next

module _ (plan : Plan) (h : History) (s j : ℕ) where
  -- P20, P21: so it is the next read of packet j of a frame that begins at packet s of a history
  pub next_by_place : NextReadIs plan h s j (next_read_of plan (h.time s) (h.time (s + j)))
  unfolding next_read_of
  next_by_place =
      rw (add-zero s)
      (next_is_read plan.packets (read_zero plan (h.time s)) plan.reads.num plan.reads.den (grains (h.time (s + j))))

  -- and nothing else is
  pub next_one : (next : NextRead) → NextReadIs plan h s j next → next ≡ next_read_of plan (h.time s) (h.time (s + j))
  next_one next is =
      next_read_unique plan.packets (read_zero plan (h.time (s + 0))) plan.reads.num plan.reads.den (grains (h.time (s + j)))
      next (next_read_of plan (h.time s) (h.time (s + j))) is next_by_place

-- how far it can be
module _ (plan : Plan) (first t w : ℕ) (e : next_read_of plan first t ≡ Some w) where
  is_next : NextIs plan.packets (read_zero plan first) plan.reads.num plan.reads.den (grains t) (Some w)
  unfolding next_read_of
  is_next =
      subst (λ (a : NextRead). NextIs plan.packets (read_zero plan first) plan.reads.num plan.reads.den (grains t) a) e
      (next_is_read plan.packets (read_zero plan first) plan.reads.num plan.reads.den (grains t))

  -- P23: from read 0 on less than a spacing
  pub within_spacing : 0 < plan.reads.num → read_zero plan first ≤ grains t → w < plan.reads.num
  within_spacing apart l =
      next_below plan.packets (read_zero plan first) plan.reads.num plan.reads.den (grains t) is_next.0 w is_next.1 apart l

  -- P23: and before it no further than TRO and half a period
  pub before_first : 0 < plan.period → first ≤ t → grains t ≤ read_zero plan first
      → 2 * w ≤ (2 * plan.tro + plan.period) * plan.reads.den
  before_first period order l =
      let den = plan.reads.den in
      let far = next_first plan.packets (read_zero plan first) plan.reads.num den (grains t) is_next.0 w is_next.1 l in
      let start : 2 * read_zero plan first ≤ 2 * grains t + (2 * plan.tro + plan.period) =
      omega (arith, order, (nearest_is (grains first) plan.period period).low) in
      let times = mul-le-mul_right den start in
      omega (
        arith,
        far,
        times,
        add-mul (2 * grains t) (2 * plan.tro + plan.period) den,
        mul_assoc 2 (read_zero plan first) den,
        mul_assoc 2 (grains t) den,
      )

-- P22: and the open frame keeps it, where the buffer is judged: the count of the reads before its last packet, packet k, and the wait
pub kept_answers : (plan : Plan) (time stamp : ℕ → ℕ) (k : ℕ) → plan.buffered ≡ true → 0 < plan.reads.num → 0 < plan.period → time 0 ≤ time k
    → next_after plan.packets (kept_of plan time stamp (suc k)).reads (kept_of plan time stamp (suc k)).wait
    ≡ next_read_of plan (time 0) (time k)
unfolding kept_of
kept_answers plan time stamp k buffered apart period order =
    let same : time_from plan time stamp k ≡ gone plan (time 0) (time k) = omega arith in
    ap (λ (t : Bool). next_after plan.packets (pick t (reads_from plan time stamp k) 0) (pick t (wait_from plan time stamp k) 0)) buffered
    ∙ next_after_lem plan.packets (first_read_of plan) plan.reads.num plan.reads.den (time_from plan time stamp k) apart
    ∙ ap (next_read plan.packets (first_read_of plan) plan.reads.num plan.reads.den) same
    ∙ next_from plan (time 0) (time k) period order

-- so what is kept of the open frame after packet i, which is in a frame and closes none, tells the next read of packet i
pub open_answers : (plan : Plan) (h : History) → plan.buffered ≡ true → 0 < plan.reads.num → 0 < plan.period → Climbs h.time h.packets
    → (i : ℕ) → i < h.packets → h.marked i ≡ false → begun_at h i ≡ true
    → next_after plan.packets (frames_at plan h (suc i)).current.reads (frames_at plan h (suc i)).current.wait
    ≡ next_read_of plan (h.time (since h i)) (h.time i)
open_answers plan h buffered apart period order i inside unmarked begun =
    let s = since h i in
    let k = i - s in
    let within = (since_is h i).within in
    let last : s + k ≡ i = omega arith in
    let held : held_at h i ≡ suc k = one_more h i in
    let open_frame = still_open plan h apart order i inside unmarked begun ∙ ap (frame_from plan h s) held in
    let lead = climbs_le h.time h.packets order (s + 0) (s + k) (omega arith) (omega arith) in
    ap (λ (f : Frame). next_after plan.packets f.reads f.wait) open_frame
    ∙ kept_answers plan (λ j. h.time (s + j)) (λ j. h.stamp (s + j)) k buffered apart period lead
    ∙ ap (λ (j : ℕ). next_read_of plan (h.time j) (h.time (s + k))) (add-zero s)
    ∙ ap (λ (j : ℕ). next_read_of plan (h.time s) (h.time j)) last
