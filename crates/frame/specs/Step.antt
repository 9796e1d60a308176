-- The frames step by step, as the code goes: the open frame by one packet more, its row and its answer, and what a marker closes.
use Rattle.std.specs.Prelude.{◌&&◌, ◌∷◌, ◌+◌, ◌*◌, ◌-◌}
use Rattle.laws.specs.Kit.{Bool, true, false, not, List, [], ℕ, max, ltb, eqb, ℤ, pos, sub_ℕ}
use Rattle.std.specs.Prelude.{◌-ℤ◌}
use Rattle.laws.specs.Choose.{pick}
use Rattle.grain.specs.Paper.{grains, phase, latency}
use Rattle.grain.specs.Carry.{reads_onward}
use Rattle.grain.specs.declared.Reads.{Reads}
use Rattle.frame.specs.declared.Plan.{Plan}
use Rattle.frame.specs.declared.Frame.{Frame}
use Rattle.frame.specs.declared.Frames.{Frames}
use Rattle.frame.specs.declared.Row.{Row}
use Rattle.frame.specs.declared.Buffer.{Buffer}
use Rattle.frame.specs.declared.Buffer.TheVariants.{None, Pass, Under, Over, Broken}
use Rattle.frame.specs.Paper.{has_failed, is_none, broken_fails}

-- ---- the open frame

-- P5: nothing of the frame before stays
abbrev pub empty_of : Frame
empty_of = record { held = 0; first = 0; stamp = 0; phase = 0; differs = 0; reads = 0; wait = 0; top = 0; deficit = 0; late = 0 }

-- P14: read 0, with all times from one period before the frame's start on
abbrev pub first_read_of : Plan → ℕ
first_read_of plan = plan.tro + plan.period

-- the first packet sets the frame's times; the wait for read 0 begins one period before the frame's start
unfoldable pub opened_of : Plan → Frame → ℕ → ℕ → Frame
opened_of plan f t stamp = record {
  held = f.held;
  first = pick (eqb f.held 0) t f.first;
  stamp = pick (eqb f.held 0) stamp f.stamp;
  phase = pick (eqb f.held 0) (phase (grains t) plan.period) f.phase;
  differs = f.differs;
  reads = f.reads;
  wait = pick (eqb f.held 0) (first_read_of plan * plan.reads.den) f.wait;
  top = f.top;
  deficit = f.deficit;
  late = f.late;
}

-- the first place with another timestamp than place 0: kept from the first hit on, and 0 until then, since place 0 never differs
abbrev pub differs_of : Frame → ℕ → ℕ
differs_of f stamp = pick (not (eqb stamp f.stamp) && eqb f.differs 0) f.held f.differs

-- one packet more, with the frame's reads before it and the wait for the next. The first late packet is the first with a lack.
unfoldable pub counted_of : Frame → ℕ → Reads → Frame
counted_of f stamp reads = record {
  held = f.held + 1;
  first = f.first;
  stamp = f.stamp;
  phase = f.phase;
  differs = differs_of f stamp;
  reads = reads.count;
  wait = reads.wait;
  top = max f.top (f.held + 1 - reads.count);
  deficit = max f.deficit (reads.count - f.held);
  late = pick (ltb f.held reads.count && eqb f.deficit 0) f.held f.late;
}

-- V13: one packet more, where the buffer is not judged: nothing of reads is kept
unfoldable pub ticked_of : Frame → ℕ → Frame
ticked_of f stamp = record {
  held = f.held + 1;
  first = f.first;
  stamp = f.stamp;
  phase = f.phase;
  differs = differs_of f stamp;
  reads = 0;
  wait = 0;
  top = 0;
  deficit = 0;
  late = 0;
}

-- the time that goes by up to a packet, in grains: since the packet before it, which the step is told; for the first of a frame since one
-- period before the frame's start
abbrev pub gone_of : Frame → ℕ → ℕ
gone_of f gone = pick (eqb f.held 0) f.phase gone

-- the frame's reads before it, and the wait
abbrev pub reads_of : Plan → Frame → ℕ → Reads
reads_of plan f gone = reads_onward f.reads f.wait plan.packets plan.reads.num (gone_of f gone * plan.reads.den)

abbrev pub push_of : Plan → Frame → ℕ → ℕ → ℕ → Frame
push_of plan f gone t stamp =
    pick plan.buffered (counted_of (opened_of plan f t stamp) stamp (reads_of plan (opened_of plan f t stamp) gone))
    (ticked_of (opened_of plan f t stamp) stamp)

-- ---- its kind, row and answer

-- P6: "Kinds, tried in this order: 1 short (fewer than n), 2 long (more than
-- n), 3 stamp (some timestamp differs from the first packet's), 0 whole."
unfoldable pub kind_of : Frame → ℕ → ℕ
kind_of f n = pick (ltb f.held n) 1 (pick (ltb n f.held) 2 (pick (eqb f.differs 0) 0 3))

-- V2: "detail (count for 1 and 2, place in the frame, from 0, of the first differing timestamp for 3, else 0)"
abbrev pub detail_of : Frame → ℕ → ℕ
detail_of f kind = pick (eqb kind 3) f.differs (pick (eqb kind 0) 0 f.held)

unfoldable pub whole_row : Plan → ℕ → ℕ → ℕ → Frame → Row
whole_row plan number marked began f = record {
  number = pos number;
  kind = pos 0;
  detail = pos 0;
  fpt = sub_ℕ f.phase plan.period;
  offset = sub_ℕ f.phase plan.period -ℤ latency (grains f.first) f.stamp;
  latency = latency (grains f.first) f.stamp;
  margin = sub_ℕ (plan.tro + plan.period) f.phase;
  gap = pos (grains (f.first - marked));
  peak = pos f.top;
  least = sub_ℕ 0 f.deficit;
  began = pos began;
}

abbrev pub broken_row : ℕ → ℕ → ℕ → ℕ → Row
broken_row number kind detail began = record {
  number = pos number;
  kind = pos kind;
  detail = pos detail;
  fpt = pos 0;
  offset = pos 0;
  latency = pos 0;
  margin = pos 0;
  gap = pos 0;
  peak = pos 0;
  least = pos 0;
  began = pos began;
}

-- V3, V10: "For kinds 1 to 3 the last seven are 0", of ten, so numbers 4 to 10; the eleventh is "filled for broken frames too"
unfoldable pub row_of : Plan → ℕ → ℕ → ℕ → Frame → Row
unfolding kind_of whole_row
row_of plan number marked began f =
    pick (eqb (kind_of f plan.packets) 0) (whole_row plan number marked began f)
    (broken_row number (kind_of f plan.packets) (detail_of f (kind_of f plan.packets)) began)

-- V1, V10: "A closed frame writes ten numbers: frame number from 0; kind; detail [..]; FPT; RTP_OFFSET; VL; margin; GAP; VRX peak; VRX
-- least." "Each row gets an eleventh number, the place in the history of the frame's first packet"
abbrev pub numbers_of : Row → List ℤ
numbers_of r =
    r.number
    ∷ r.kind
    ∷ r.detail
    ∷ r.fpt
    ∷ r.offset
    ∷ r.latency
    ∷ r.margin
    ∷ r.gap
    ∷ r.peak
    ∷ r.least
    ∷ r.began
    ∷ []

-- how many they are, for every row: `row_width_lem` in proofs/FrameKinds.antt
abbrev pub row_width : ℕ
row_width = 11

-- V12, E3: a broken frame answers that it is broken, where such a frame fails; else it is not judged
abbrev pub broken_answer : ℕ → ℕ → ℕ → Buffer
broken_answer edition number kind = pick (broken_fails edition) (Broken (record { frame = number; kind = kind })) None

-- V7, V8, V12: "under (least below 0) [..]; over (VRX peak above VRX_FULL) [..]; in one frame under goes first."
unfoldable pub judged_of : Plan → ℕ → Frame → Buffer
unfolding kind_of
judged_of plan number f =
    pick (eqb (kind_of f plan.packets) 0)
    (pick (ltb 0 f.deficit) (Under (record { frame = number; place = f.late }))
    (pick (ltb plan.full f.top) (Over (record { frame = number; place = f.top })) Pass))
    (broken_answer plan.edition number (kind_of f plan.packets))

-- V13: "Its buffer answer is always none": a frame answers nothing where the buffer is not judged
unfoldable pub answer_of : Plan → ℕ → Frame → Buffer
unfolding judged_of
answer_of plan number f = pick plan.buffered (judged_of plan number f) None

-- V8: "The first failing frame decides": the answer so far, and then the next frame's
unfoldable pub joined : Buffer → Buffer → Buffer
joined sofar next = pick (has_failed sofar) sofar (pick (is_none next) sofar next)

-- ---- all that is kept of the frames

abbrev pub no_frames : Frames
no_frames = record { begun = false; closed = 0; marked = 0; current = empty_of; buffer = None }

-- P4: in the lead-in a packet is in no frame
unfoldable pub arrive_of : Plan → Frames → ℕ → ℕ → ℕ → Frames
arrive_of plan s gone t stamp = record {
  begun = s.begun;
  closed = s.closed;
  marked = s.marked;
  current = pick s.begun (push_of plan s.current gone t stamp) s.current;
  buffer = s.buffer;
}

-- P5: a marker packet, which has arrived, ends the lead-in or closes the frame
unfoldable pub close_of : Plan → Frames → ℕ → Frames
unfolding answer_of joined
close_of plan s t = record {
  begun = true;
  closed = s.closed + pick s.begun 1 0;
  marked = t;
  current = empty_of;
  buffer = pick s.begun (joined s.buffer (answer_of plan s.closed s.current)) s.buffer;
}

unfoldable pub step_of : Plan → Frames → ℕ → ℕ → ℕ → Bool → Frames
unfolding arrive_of close_of
step_of plan s gone t stamp marker = pick marker (close_of plan (arrive_of plan s gone t stamp) t) (arrive_of plan s gone t stamp)

-- V10: where the open frame began, which holds the last of so many packets since set-up
abbrev pub began_of : Frame → ℕ → ℕ
began_of f packets = packets - f.held

-- the row of the open frame, which the last of so many packets closes
abbrev pub closed_row : Plan → Frames → ℕ → Row
closed_row plan s packets = row_of plan s.closed s.marked (began_of s.current packets) s.current

-- the row that a packet writes, with which so many have come: none, or that of the frame it closes
unfoldable pub rows_of : Plan → Frames → ℕ → ℕ → ℕ → ℕ → Bool → List Row
unfolding arrive_of row_of
rows_of plan s packets gone t stamp marker = pick (marker && s.begun) (closed_row plan (arrive_of plan s gone t stamp) packets ∷ []) []
