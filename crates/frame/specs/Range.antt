-- What a plan and an open frame must keep to, so that nothing overflows. Each
-- is met by every stream that set-up accepts and every accepted history.
use Rattle.std.specs.Prelude.{◌≡◌, ◌∷◌, ◌+◌, ◌*◌, ◌≤◌, ◌<◌}
use Rattle.laws.specs.Kit.{Bool, true, not, List, [], ℕ, eqb}
use Rattle.laws.specs.Choose.{pick}
use Rattle.grain.specs.Paper.{nanosecond}
use Rattle.laws.specs.Every.{Test, at_most, below, is, where_so, Entry, entry, flag, tests}
use Rattle.frame.specs.declared.Plan.{Plan}
use Rattle.frame.specs.declared.Frame.{Frame}
use Rattle.frame.specs.declared.Frames.{Frames}
use Rattle.frame.specs.declared.Buffer.{Buffer}
use Rattle.frame.specs.declared.Most.{Most}
use Rattle.frame.specs.Paper.{buffer_number, buffer_frame, buffer_place, broken_fails}
use Rattle.frame.specs.Step.{began_of}

pub record Planned (plan : Plan) : Type 0 where
  pub long : nanosecond ≤ plan.period
  pub short : plan.period ≤ 2147483648
  pub some : 0 < plan.packets
  pub few : plan.packets ≤ 20000
  pub early : plan.tro < plan.period
  pub apart : 0 < plan.reads.num
  -- at most 24F, and a period may be half a frame
  pub near : plan.reads.num ≤ 48 * plan.period
  pub divided : plan.reads.den ≤ 500000
  -- two reads lie two periods apart at most
  pub spread : plan.reads.num ≤ 2 * plan.period * plan.reads.den

-- before a packet that comes so many grains after the one before: 600 s at most
pub record PushAsks (plan : Plan) (f : Frame) (gone : ℕ) : Type 0 where
  pub few : f.held < 1000000000
  pub near : gone ≤ 16200000000000
  pub phased : f.phase ≤ 2 * plan.period
  pub read : f.reads ≤ plan.packets
  pub waits : f.wait ≤ 2 * plan.period * plan.reads.den

-- before the next read of a packet is asked for: the frame's first comes no later, and 600 s before at most
pub record NextAsks (first t : ℕ) : Type 0 where
  pub order : first ≤ t
  pub near : t ≤ first + 600000000000

-- before a row is made: the frame's first packet comes after the marker before it, at most 600 s
pub record RowAsks (plan : Plan) (number marked began : ℕ) (f : Frame) : Type 0 where
  pub few : f.held ≤ 1000000000
  pub counted : number ≤ 1000000000
  pub placed : began ≤ 1000000000
  pub phased : f.phase ≤ 2 * plan.period
  pub order : marked ≤ f.first
  pub near : f.first ≤ marked + 600000000000
  pub top : f.top ≤ 1000000000
  pub low : f.deficit ≤ 20000
  pub differs : f.differs ≤ 1000000000

-- before the last of so many packets closes the open frame: it holds no more than these
pub record FramesRowAsks (plan : Plan) (s : Frames) (packets : ℕ) : Type 0 where
  pub held : s.current.held ≤ packets
  pub row : RowAsks plan s.closed s.marked (began_of s.current packets) s.current

-- the answer is 4, a frame that is not whole
abbrev pub is_broken : Buffer → Bool
is_broken b = eqb (buffer_number b) 4

-- V13: the most that a number of the reads may be, or that of the answer: nothing of reads is kept where the buffer is not judged, and no answer
-- but none
abbrev pub kept_most : Bool → ℕ → ℕ
kept_most judged most = pick judged most 0

-- of each of them, in an open frame of so many packets
abbrev pub most_of : Plan → ℕ → Most
most_of plan held = record {
  reads = kept_most plan.buffered plan.packets;
  wait = kept_most plan.buffered (2 * plan.period * plan.reads.den);
  held = kept_most plan.buffered held;
  number = kept_most plan.buffered 4;
}

-- The range of each number that is kept of the frames, as docs/STATE.md gives it, by the plan and by what
-- came before, the first and the last arrival and how many packets: one table, and what it means.
module _ (plan : Plan) (s : Frames) (first last packets : ℕ) where
  -- N4: every number that is kept of the frames
  abbrev pub table : List Entry
  table =
      entry s.closed 8 (at_most s.closed packets ∷ [])
      ∷ entry (flag s.begun) 1 (where_so (is s.begun) (below 0 packets) ∷ [])
      ∷ entry s.marked 8
      (where_so (is s.begun) (at_most first s.marked) ∷ where_so (is s.begun) (at_most s.marked last) ∷ [])
      ∷ entry s.current.held 8 (at_most s.current.held packets ∷ [])
      ∷ entry s.current.first 8
      (where_so (below 0 s.current.held) (at_most s.marked s.current.first)
      ∷ where_so (below 0 s.current.held) (at_most s.current.first last)
      ∷ [])
      ∷ entry s.current.stamp 4 []
      ∷ entry s.current.phase 8 (at_most s.current.phase (2 * plan.period) ∷ [])
      ∷ entry s.current.reads 8 (at_most s.current.reads (most_of plan s.current.held).reads ∷ [])
      ∷ entry s.current.wait 8 (at_most s.current.wait (most_of plan s.current.held).wait ∷ [])
      ∷ entry s.current.differs 8 (at_most s.current.differs s.current.held ∷ [])
      ∷ entry s.current.top 8 (at_most s.current.top (most_of plan s.current.held).held ∷ [])
      ∷ entry s.current.late 8 (at_most s.current.late (most_of plan s.current.held).held ∷ [])
      ∷ entry s.current.deficit 8 (at_most s.current.deficit (most_of plan s.current.held).reads ∷ [])
      ∷ entry (buffer_number s.buffer) 1
      (at_most (buffer_number s.buffer) (most_of plan s.current.held).number
      ∷ where_so (is (is_broken s.buffer)) (is (broken_fails plan.edition))
      ∷ [])
      ∷ entry (buffer_frame s.buffer) 8 (at_most (buffer_frame s.buffer) packets ∷ [])
      ∷ entry (buffer_place s.buffer) 8
      (where_so (is (not (is_broken s.buffer))) (at_most (buffer_place s.buffer) packets)
      ∷ where_so (is (is_broken s.buffer)) (below 0 (buffer_place s.buffer))
      ∷ where_so (is (is_broken s.buffer)) (at_most (buffer_place s.buffer) 3)
      ∷ [])
      ∷ []

  abbrev pub ranges : List Test
  ranges = tests table

-- an answer names a frame and a place in it, or the kind of a frame that failed by being broken, where such a frame does; it is none where
-- the buffer is not judged
pub record Answered (plan : Plan) (b : Buffer) (most : ℕ) : Type 0 where
  pub number : buffer_number b ≤ kept_most plan.buffered 4
  pub fails : is_broken b ≡ true → broken_fails plan.edition ≡ true
  pub frame : buffer_frame b ≤ most
  pub place : not (is_broken b) ≡ true → buffer_place b ≤ most
  pub kind_from : is_broken b ≡ true → 0 < buffer_place b
  pub kind_to : is_broken b ≡ true → buffer_place b ≤ 3

-- both ways: kept_of and of_kept in proofs/Ranges.antt
pub record Kept (plan : Plan) (s : Frames) (first last packets : ℕ) : Type 0 where
  pub begun : s.begun ≡ true → 0 < packets
  pub closed : s.closed ≤ packets
  pub marked_from : s.begun ≡ true → first ≤ s.marked
  pub marked_to : s.begun ≡ true → s.marked ≤ last
  pub held : s.current.held ≤ packets
  pub first_from : 0 < s.current.held → s.marked ≤ s.current.first
  pub first_to : 0 < s.current.held → s.current.first ≤ last
  pub phased : s.current.phase ≤ 2 * plan.period
  pub read : s.current.reads ≤ kept_most plan.buffered plan.packets
  pub waits : s.current.wait ≤ kept_most plan.buffered (2 * plan.period * plan.reads.den)
  pub differs : s.current.differs ≤ s.current.held
  pub top : s.current.top ≤ kept_most plan.buffered s.current.held
  pub deficit : s.current.deficit ≤ kept_most plan.buffered plan.packets
  pub late : s.current.late ≤ kept_most plan.buffered s.current.held
  pub answered : Answered plan s.buffer packets
