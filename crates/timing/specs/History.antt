-- The declared state: what the measurement is before packet i of a history, in the words of the crates below, over the whole list by place;
-- and an accepted history, with the state that feeding it reaches.
use Rattle.std.specs.Prelude.{◌≡◌, ◌++◌, ◌*◌, Ok}
use Rattle.laws.specs.Kit.{List, [], ℕ, zero, suc, length}
use Rattle.grain.specs.Paper.{grains}
use Rattle.grain.specs.Carry.{since_instant}
use Rattle.packet.specs.declared.Packet.{Packet}
use Rattle.packet.specs.Paper.{marked, at, past_at, declared}
use Rattle.bucket.specs.Paper as BP
use Rattle.bucket.specs.Step as B
use Rattle.frame.specs.declared.Plan.{Plan}
use Rattle.frame.specs.declared.Row.{Row}
use Rattle.frame.specs.Paper as FP
use Rattle.frame.specs.ByPlace as F
use Rattle.timing.specs.declared.StreamNumbers.{StreamNumbers}
use Rattle.timing.specs.declared.State.{State}
use Rattle.timing.specs.Step.{set_up_of, frame_of, rules_of, fresh_of, state_after, rows_after}

module _ (x : StreamNumbers) (l : List Packet) where
  -- the history as the bucket sees it, in grains, and as the frames see it, in nanoseconds
  abbrev pub bucket_history : BP.History
  bucket_history = record { frame = frame_of x; per_frame = x.parameters.n; packets = length l; arrival = λ i. grains (at l i).time }

  abbrev pub frame_history : FP.History
  frame_history = record { packets = length l; time = λ i. (at l i).time; stamp = λ i. (at l i).stamp; marked = λ i. marked (at l i) }

  -- B1: from the last drain instant to the last arrival before packet i, times 11n
  abbrev pub rest_at : ℕ → ℕ
  rest_at zero = 0
  rest_at (suc i) = since_instant (BP.elapsed bucket_history i) (10 * frame_of x) (11 * x.parameters.n)

  unfoldable pub state_at : ℕ → State
  state_at i = record {
    numbers = x;
    past = past_at l i;
    rest = rest_at i;
    bucket = B.bucket_at (BP.drains bucket_history) (rules_of x).limit i;
    frames = F.frames_at (rules_of x).plan frame_history i;
  }

  -- the rows of the frames that the first m packets close, in order
  unfoldable pub rows_to : ℕ → List Row
  rows_to zero = []
  rows_to (suc i) = rows_to i ++ F.rows_at (rules_of x).plan frame_history i

-- An accepted history: set-up accepts the stream numbers, and by the table no packet of the list is refused.
pub record AcceptedHistory : Type 0 where
  pub stream : StreamNumbers
  pub set_up : set_up_of stream ≡ 0
  pub packets : List Packet
  pub closed : ℕ
  pub fine : declared packets ≡ Ok closed

module _ (h : AcceptedHistory) where
  -- the state that feeding it from set-up gives, and the rows
  abbrev pub reached : State
  reached = state_after (rules_of h.stream) (fresh_of h.stream) h.packets

  abbrev pub rows_of_all : List Row
  rows_of_all = rows_after (rules_of h.stream) (fresh_of h.stream) h.packets

  -- its plan, and its packets as the frames and as the bucket see them
  abbrev pub plan : Plan
  plan = (rules_of h.stream).plan

  abbrev pub frames : FP.History
  frames = frame_history h.stream h.packets

  abbrev pub arrivals : BP.History
  arrivals = bucket_history h.stream h.packets

  -- how many packets it has
  abbrev pub size : ℕ
  size = length h.packets

  -- the highest excess that its class allows
  abbrev pub limit : ℕ
  limit = (rules_of h.stream).limit
