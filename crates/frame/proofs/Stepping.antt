-- The code's step, packet by packet, goes through the states that the
-- whole history declares by place, and writes the rows that it declares.
use Rattle.std.specs.Prelude.{◌≡◌, ◌&&◌, ◌∷◌, ◌+◌, ◌-◌, ◌<◌}
use Rattle.laws.specs.Kit.{refl, sym, ap, ◌∙◌, Bool, true, false, [], ℕ, zero, suc, pred, arith, sub_self}
use Rattle.laws.specs.Kit.{add-zero}
use Rattle.laws.specs.Choose.{pick}
use Rattle.laws.specs.Climb.{Climbs}
use Rattle.laws.proofs.Climb.{climbs_le}
use Rattle.laws.specs.Count.{count}
use Rattle.grain.specs.Paper.{grains}
use Rattle.frame.specs.declared.Plan.{Plan}
use Rattle.frame.specs.declared.Frames.{Frames}
use Rattle.frame.specs.declared.Buffer.{Buffer}
use Rattle.frame.specs.declared.Buffer.TheVariants.{None, Pass, Under, Over, Broken}
use Rattle.frame.specs.Paper.{History, begun_at, number_at, since, held_at}
use Rattle.frame.specs.Step.{empty_of, push_of, began_of, row_of, answer_of, joined, no_frames, arrive_of, close_of, step_of, rows_of}
use Rattle.frame.specs.ByPlace.{gone_at, kept_of, open_at, closed_at, marked_time, buffer_at, frames_at, rows_at}
use Rattle.frame.proofs.Stretches.{since_is, one_more, begun_next}
use Rattle.frame.proofs.Keeping.{kept_first, kept_next}

pub joined_none : (b : Buffer) → joined b None ≡ b
unfolding joined
joined_none None = refl
joined_none Pass = refl
joined_none (Under p) = refl
joined_none (Over p) = refl
joined_none (Broken b) = refl

module _ (plan : Plan) (h : History) (apart : 0 < plan.reads.num) (ordered : Climbs h.time h.packets) (i : ℕ)
    (inside : i < h.packets) where
  -- where the frame of packet i began, and its packets
  abbrev s : ℕ
  s = since h i

  abbrev time : ℕ → ℕ
  time j = h.time (s + j)

  abbrev stamp : ℕ → ℕ
  stamp j = h.stamp (s + j)

  -- packet k of the frame is packet i
  at_place : (k : ℕ) → i - s ≡ k → push_of plan (kept_of plan time stamp k) (gone_at h i) (time k) (stamp k) ≡ kept_of plan time stamp (suc k)
      → push_of plan (kept_of plan time stamp k) (gone_at h i) (h.time i) (h.stamp i) ≡ closed_at plan h i
  at_place k e next =
      let here : i ≡ s + k = omega (arith, (since_is h i).within) in
      let held : suc k ≡ held_at h i = omega (arith, one_more h i) in
      ap (λ (x : ℕ). push_of plan (kept_of plan time stamp k) (gone_at h i) (h.time x) (h.stamp x)) here ∙ next ∙ ap (kept_of plan time stamp) held

  -- the frame with packet i pushed: its first, or the next after one
  pushed : push_of plan (open_at plan h i) (gone_at h i) (h.time i) (h.stamp i) ≡ closed_at plan h i
  pushed = go (i - s) refl
    where
      go : (k : ℕ) → i - s ≡ k → push_of plan (kept_of plan time stamp k) (gone_at h i) (h.time i) (h.stamp i) ≡ closed_at plan h i
      go zero e = at_place 0 e (kept_first plan time stamp apart (gone_at h i))
      go (suc k) e =
          let here : i ≡ s + suc k = omega (arith, (since_is h i).within) in
          let before : pred i ≡ s + k = omega (arith, (since_is h i).within) in
          let order = climbs_le h.time h.packets ordered in
          at_place (suc k) e
          (kept_next plan time stamp apart k (order (s + 0) (s + k) (omega arith) (omega arith))
          (order (s + k) (s + suc k) (omega arith) (omega arith)) (gone_at h i)
          (ap (λ (x : ℕ). grains (h.time x - h.time (pred i))) here ∙ ap (λ (x : ℕ). grains (h.time (s + suc k) - h.time x)) before))

  -- a marker empties, any other packet stays in
  open_next : (m : Bool) → h.marked i ≡ m → open_at plan h (suc i) ≡ pick m empty_of (closed_at plan h i)
  unfolding since kept_of
  open_next true e = rw (e, sub_self (suc i))
  open_next false e = rw e

  current_next : (m b : Bool) → h.marked i ≡ m → begun_at h i ≡ b
      → pick (begun_at h (suc i)) (open_at plan h (suc i)) empty_of ≡ pick m empty_of (pick b (closed_at plan h i) empty_of)
  current_next true b e f = rw (begun_next h i, e, open_next true e)
  current_next false b e f = rw (begun_next h i, e, open_next false e, f)

  buffer_next : (m b : Bool) → joined (buffer_at plan h i) (pick (m && b) (answer_of plan (number_at h i) (closed_at plan h i)) None)
      ≡ pick (m && b) (joined (buffer_at plan h i) (answer_of plan (number_at h i) (closed_at plan h i))) (buffer_at plan h i)
  buffer_next true true = refl
  buffer_next true false = joined_none (buffer_at plan h i)
  buffer_next false b = joined_none (buffer_at plan h i)

  abbrev Next : Bool → Bool → Frames
  Next m b = record {
    begun = pick m true b;
    closed = number_at h i + pick (m && b) 1 0;
    marked = pick m (h.time i) (marked_time plan h i);
    current = pick m empty_of (pick b (closed_at plan h i) empty_of);
    buffer = pick (m && b) (joined (buffer_at plan h i) (answer_of plan (number_at h i) (closed_at plan h i))) (buffer_at plan h i);
  }

  module _ (m b : Bool) (e : h.marked i ≡ m) (f : begun_at h i ≡ b) where
    begun_at_next : begun_at h (suc i) ≡ pick m true b
    begun_at_next = rw (begun_next h i, e, f)

    closed_next : number_at h (suc i) ≡ number_at h i + pick (m && b) 1 0
    unfolding count
    closed_next = ap (λ (t : Bool). number_at h i + pick (t && begun_at h i) 1 0) e ∙ ap (λ (t : Bool). number_at h i + pick (m && t) 1 0) f

    marked_next : marked_time plan h (suc i) ≡ pick m (h.time i) (marked_time plan h i)
    unfolding marked_time
    marked_next = ap (λ (t : Bool). pick t (h.time i) (marked_time plan h i)) e

    answers_next : buffer_at plan h (suc i)
        ≡ pick (m && b) (joined (buffer_at plan h i) (answer_of plan (number_at h i) (closed_at plan h i))) (buffer_at plan h i)
    unfolding buffer_at
    answers_next =
        ap (λ (t : Bool). joined (buffer_at plan h i) (pick (t && begun_at h i) (answer_of plan (number_at h i) (closed_at plan h i)) None)) e
        ∙ ap (λ (t : Bool). joined (buffer_at plan h i) (pick (m && t) (answer_of plan (number_at h i) (closed_at plan h i)) None)) f
        ∙ buffer_next m b

    declared_next : frames_at plan h (suc i) ≡ Next m b
    unfolding frames_at
    declared_next = λ j. record {
      begun = begun_at_next j;
      closed = closed_next j;
      marked = marked_next j;
      current = current_next m b e f j;
      buffer = answers_next j;
    }

  -- the open frame, with a packet that closes nothing
  pub still_open : h.marked i ≡ false → begun_at h i ≡ true → (frames_at plan h (suc i)).current ≡ closed_at plan h i
  still_open e f = ap (λ (s : Frames). s.current) (declared_next false true e f)

  -- the code's step from the declared state, by cases on the marker and the lead-in
  step_next : (m b : Bool) → begun_at h i ≡ b → step_of plan (frames_at plan h i) (gone_at h i) (h.time i) (h.stamp i) m ≡ Next m b
  unfolding step_of frames_at arrive_of close_of
  step_next true true f = rw (f, pushed)
  step_next true false f = rw f
  step_next false true f = rw (f, pushed, add-zero)
  step_next false false f = rw (f, add-zero)

  pub frames_step : step_of plan (frames_at plan h i) (gone_at h i) (h.time i) (h.stamp i) (h.marked i) ≡ frames_at plan h (suc i)
  frames_step = step_next (h.marked i) (begun_at h i) refl ∙ sym (declared_next (h.marked i) (begun_at h i) refl refl)

  -- V10: of the packets up to i the frame holds the last, so the others come before its first
  began_is : began_of (closed_at plan h i) (i + 1) ≡ since h i
  unfolding kept_of
  began_is =
      let held : (closed_at plan h i).held ≡ suc (i - since h i) = rw (one_more h i) in
      omega (arith, held, (since_is h i).within)

  rows_next : (m b : Bool) → begun_at h i ≡ b
      → rows_of plan (frames_at plan h i) (i + 1) (gone_at h i) (h.time i) (h.stamp i) m
      ≡ pick (m && b) (row_of plan (number_at h i) (marked_time plan h i) (since h i) (closed_at plan h i) ∷ []) []
  unfolding rows_of frames_at arrive_of
  rows_next true true f = rw (f, pushed, began_is)
  rows_next true false f = rw f
  rows_next false b f = refl

  pub rows_step : rows_of plan (frames_at plan h i) (i + 1) (gone_at h i) (h.time i) (h.stamp i) (h.marked i) ≡ rows_at plan h i
  rows_step = rows_next (h.marked i) (begun_at h i) refl

-- before the first packet
pub frames_first : (plan : Plan) (h : History) → frames_at plan h 0 ≡ no_frames
unfolding frames_at count
frames_first plan h = refl
