-- What the steps keep, by place: of the open frame after k packets, and of all the frames before packet i of the history.
use Rattle.std.specs.Prelude.{◌∷◌, ◌+◌, ◌-◌}
use Rattle.laws.specs.Kit.{Bool, not, List, [], ℕ, zero, suc, pred, ltb, eqb}
use Rattle.laws.specs.Choose.{pick}
use Rattle.laws.specs.Most.{most}
use Rattle.laws.specs.Seek.{seek, hit}
use Rattle.grain.specs.Paper.{grains, phase, reads_before}
use Rattle.grain.specs.Carry.{wait_at}
use Rattle.frame.specs.declared.Plan.{Plan}
use Rattle.frame.specs.declared.Frame.{Frame}
use Rattle.frame.specs.declared.Frames.{Frames}
use Rattle.frame.specs.declared.Row.{Row}
use Rattle.frame.specs.declared.Buffer.{Buffer}
use Rattle.frame.specs.declared.Buffer.TheVariants.{None}
use Rattle.frame.specs.Paper.{History, begun_at, closes_at, number_at, since, held_at}
use Rattle.frame.specs.Step.{empty_of, first_read_of, row_of, answer_of, joined}

-- a frame's packets: packet j of it arrives at time j
module _ (plan : Plan) (time stamp : ℕ → ℕ) where
  -- from one period before the frame's start to packet j, in grains
  abbrev pub time_from : ℕ → ℕ
  time_from j = grains (time j - time 0) + phase (grains (time 0)) plan.period

  abbrev pub reads_from : ℕ → ℕ
  reads_from j = reads_before plan.packets (first_read_of plan) plan.reads.num plan.reads.den (time_from j)

  -- from packet j to the next read, had the reads no end, times den
  abbrev pub wait_from : ℕ → ℕ
  wait_from j = wait_at (first_read_of plan) plan.reads.num plan.reads.den (time_from j)

  -- packet j has another timestamp than packet 0; it comes after its read
  abbrev pub differing : ℕ → Bool
  differing j = not (eqb (stamp j) (stamp 0))

  abbrev pub late_from : ℕ → Bool
  late_from j = ltb j (reads_from j)

  -- V13: what is kept of reads, where the buffer is judged; nothing elsewhere
  abbrev pub judged : ℕ → ℕ
  judged x = pick plan.buffered x 0

  -- what is kept of the first k of them
  unfoldable pub kept_of : ℕ → Frame
  unfolding most seek
  kept_of zero = empty_of
  kept_of (suc k) = record {
    held = suc k;
    first = time 0;
    stamp = stamp 0;
    phase = phase (grains (time 0)) plan.period;
    differs = hit differing (suc k);
    reads = judged (reads_from k);
    wait = judged (wait_from k);
    top = judged (most (λ j. suc j - reads_from j) (suc k));
    deficit = judged (most (λ j. reads_from j - j) (suc k));
    late = judged (hit late_from (suc k));
  }

-- from the packet before packet i of a history to packet i, in grains; 0 for the first
abbrev pub gone_at : History → ℕ → ℕ
gone_at h i = grains (h.time i - h.time (pred i))

module _ (plan : Plan) (h : History) where
  -- what is kept of the frame that begins at packet s after k packets of it
  abbrev pub frame_from : ℕ → ℕ → Frame
  frame_from s k = kept_of plan (λ j. h.time (s + j)) (λ j. h.stamp (s + j)) k

  -- of the frame that packet i is in: before it, and with it
  abbrev pub open_at : ℕ → Frame
  open_at i = frame_from (since h i) (i - since h i)

  abbrev pub closed_at : ℕ → Frame
  closed_at i = frame_from (since h i) (held_at h i)

  -- the arrival of the last marker packet before packet i; 0 where there is none
  unfoldable pub marked_time : ℕ → ℕ
  marked_time zero = 0
  marked_time (suc i) = pick (h.marked i) (h.time i) (marked_time i)

  abbrev pub answer_at : ℕ → Buffer
  answer_at i = pick (closes_at h i) (answer_of plan (number_at h i) (closed_at i)) None

  unfoldable pub buffer_at : ℕ → Buffer
  unfolding joined
  buffer_at zero = None
  buffer_at (suc i) = joined (buffer_at i) (answer_at i)

  -- all that is kept before packet i
  unfoldable pub frames_at : ℕ → Frames
  unfolding buffer_at marked_time
  frames_at i = record {
    begun = begun_at h i;
    closed = number_at h i;
    marked = marked_time i;
    current = pick (begun_at h i) (open_at i) empty_of;
    buffer = buffer_at i;
  }

  -- the rows that packet i writes
  abbrev pub rows_at : ℕ → List Row
  rows_at i = pick (closes_at h i) (row_of plan (number_at h i) (marked_time i) (since h i) (closed_at i) ∷ []) []
