-- Document 01's "Packets and frames" and "A row, and the verdict", over the whole history by place, for any plan.
use Rattle.std.specs.Prelude.{◌≡◌, ◌+◌, ◌-◌, ◌*◌, ◌≤◌, ◌<◌}
use Rattle.laws.specs.Kit.{Bool, true, false, not, ℕ, zero, suc, pred, ltb, leb, eqb, ℤ, pos, sub_ℕ}
use Rattle.std.specs.Prelude.{◌-ℤ◌, ◌≤ℤ◌, ◌<ℤ◌}
use Rattle.laws.specs.Choose.{pick}
use Rattle.laws.specs.Count.{count, begun, again}
use Rattle.laws.specs.Seek.{seek, Lowest}
use Rattle.grain.specs.Paper.{NextRead}
use Rattle.grain.specs.Paper.{grains, frame_time, first_packet_time, LatencyIs, rtp_offset, reads_before, NextIs, next_read}
use Rattle.frame.specs.declared.Plan.{Plan}
use Rattle.frame.specs.declared.Row.{Row}
use Rattle.frame.specs.declared.Place.{Place}
use Rattle.frame.specs.declared.BrokenFrame.{BrokenFrame}
use Rattle.frame.specs.declared.Buffer.{Buffer}
use Rattle.frame.specs.declared.Buffer.TheVariants.{None, Pass, Under, Over, Broken}

-- A history as the frames see it: packet i arrives at time i, in nanoseconds.
pub record History : Type 0 where
  pub packets : ℕ
  pub time : ℕ → ℕ
  pub stamp : ℕ → ℕ
  pub marked : ℕ → Bool

-- ---- many answers, and the one of them that counts

-- under, over or broken
abbrev pub has_failed : Buffer → Bool
has_failed None = false
has_failed Pass = false
has_failed (Under p) = true
has_failed (Over p) = true
has_failed (Broken b) = true

-- nothing was judged
abbrev pub is_none : Buffer → Bool
is_none None = true
is_none Pass = false
is_none (Under p) = false
is_none (Over p) = false
is_none (Broken b) = false

-- S11, V12: "a stream with any broken frame fails its buffer": whether a broken frame fails is asked of the edition, and in 2 it does
abbrev pub broken_fails : ℕ → Bool
broken_fails edition = eqb edition 2

-- place i fails, where A i b says that b is its own answer
abbrev pub Fails : (ℕ → Buffer → Type 0) → ℕ → Type 0
Fails A i = (b : Buffer) × A i b × (has_failed b ≡ true)

-- V8: "The first failing frame decides, broken or not": the answer of the first m places is that of the first that fails; else pass, where one passes;
-- else none, where each is none
pub data FirstDecides (A : ℕ → Buffer → Type 0) (m : ℕ) (b : Buffer) : Type 0 where
  failed : (i : ℕ) → i < m → A i b → has_failed b ≡ true → ((k : ℕ) → k < i → ¬ Fails A k) → FirstDecides A m b
  passed : (i : ℕ) → i < m → A i Pass → ((k : ℕ) → k < m → ¬ Fails A k) → b ≡ Pass → FirstDecides A m b
  unjudged : ((k : ℕ) → k < m → A k None) → b ≡ None → FirstDecides A m b

-- ---- which packets are a frame

module _ (h : History) where
  -- P4, E4: "Packets up to and including the first marker are the lead-in: [..] in no frame.": it is over before packet i
  abbrev pub begun_at : ℕ → Bool
  begun_at = begun h.marked

  -- P5: "After that each marker closes a frame."
  abbrev pub closes_at : ℕ → Bool
  closes_at = again h.marked

  -- V1: "frame number from 0": how many frames are closed before packet i
  abbrev pub number_at : ℕ → ℕ
  number_at i = count closes_at i

  -- the place after the last marker before packet i, where the frame that it is in began; 0 where there is none
  unfoldable pub since : ℕ → ℕ
  since zero = 0
  since (suc i) = pick (h.marked i) (suc i) (since i)

  -- which is to say: no marker from there up to packet i, and a marker just before. One place is so: proofs/Stretches.antt
  pub record Began (i s : ℕ) : Type 0 where
    pub within : s ≤ i
    pub clear : (k : ℕ) → s ≤ k → k < i → h.marked k ≡ false
    pub after : 0 < s → h.marked (pred s) ≡ true

  -- the packets of the frame that packet i is in, it included
  abbrev pub held_at : ℕ → ℕ
  held_at i = suc i - since i

  -- P4, P5: packet k is in the frame that packet i closes: it is not in the lead-in, and packet i is the first marker from it on
  pub record InFrame (i k : ℕ) : Type 0 where
    pub begun : begun_at k ≡ true
    pub closes : h.marked i ≡ true
    pub up_to : k ≤ i
    pub clear : (m : ℕ) → k ≤ m → m < i → h.marked m ≡ false

module _ (plan : Plan) (h : History) where
  -- ---- its kind

  -- the place in the frame, from 0, of the first timestamp that differs from the first packet's; the number of its packets where none does
  abbrev pub differs_at : ℕ → ℕ
  differs_at i = seek (λ j. not (eqb (h.stamp (since h i + j)) (h.stamp (since h i)))) (held_at h i)

  -- P6: "Kinds, tried in this order: 1 short (fewer than n), 2 long (more than
  -- n), 3 stamp (some timestamp differs from the first packet's), 0 whole."
  abbrev pub kind_at : ℕ → ℕ
  kind_at i = pick (ltb (held_at h i) plan.packets) 1
      (pick (ltb plan.packets (held_at h i)) 2 (pick (ltb (differs_at i) (held_at h i)) 3 0))

  -- V2: "detail (count for 1 and 2, place in the frame, from 0, of the first differing timestamp for 3, else 0)"
  abbrev pub detail_at : ℕ → ℕ
  detail_at i = pick (eqb (kind_at i) 3) (differs_at i) (pick (eqb (kind_at i) 0) 0 (held_at h i))

  -- ---- what is measured of a whole frame that begins at packet s

  module _ (s : ℕ) where
    -- the arrival of its packet j, in grains
    abbrev pub arrival : ℕ → ℕ
    arrival j = grains (h.time (s + j))

    -- P14: "T_CF + TRO", where read 0 is
    abbrev pub first_read : ℕ
    first_read = frame_time (arrival 0) plan.period + plan.tro

    -- P16: "the frame's reads strictly before its arrival", of packet j
    abbrev pub reads_to : ℕ → ℕ
    reads_to j = reads_before plan.packets first_read plan.reads.num plan.reads.den (arrival j)

    -- P16: "Level just after packet j: j + 1 less the frame's reads strictly before its arrival."
    abbrev pub level_of : ℕ → ℤ
    level_of j = sub_ℕ (suc j) (reads_to j)

    -- P20, P21: "the time to the next read [..], or [..] that no read is left", of packet j; the frame may be broken
    abbrev pub NextReadIs : ℕ → NextRead → Type 0
    NextReadIs j next = NextIs plan.packets first_read plan.reads.num plan.reads.den (arrival j) next

    -- P17: "The frame's peak is the greatest of these."
    pub record PeakIs (z : ℤ) : Type 0 where
      pub bound : (j : ℕ) → j < plan.packets → level_of j ≤ℤ z
      pub met : (j : ℕ) × (j < plan.packets) × (z ≡ level_of j)

    -- P15: "At one instant arrivals come before reads.": the frame's packets arrived by read j
    abbrev pub arrived_by : ℕ → ℕ
    arrived_by j = count (λ i. leb (arrival i * plan.reads.den) (first_read * plan.reads.den + j * plan.reads.num)) plan.packets

    -- P18: "Least is the smallest, over all n reads, of the frame's packets arrived by that read less reads done, that one included."
    pub record LeastIs (z : ℤ) : Type 0 where
      pub bound : (j : ℕ) → j < plan.packets → z ≤ℤ sub_ℕ (arrived_by j) (suc j)
      pub met : (j : ℕ) × (j < plan.packets) × (z ≡ sub_ℕ (arrived_by j) (suc j))

    -- D3e, V7: "after its read time": packet j comes after read j
    abbrev pub late : ℕ → Bool
    late j = ltb (first_read * plan.reads.den + j * plan.reads.num) (arrival j * plan.reads.den)

    -- D3e: "one of its packets comes after its read time"
    abbrev pub SomeLate : Type 0
    SomeLate = (j : ℕ) × (j < plan.packets) × (late j ≡ true)

    -- P19: "The buffer runs dry where least is below 0."
    abbrev pub Dry : Type 0
    Dry = (z : ℤ) × LeastIs z × (z <ℤ pos 0)

    -- V7: "over (VRX peak above VRX_FULL)"
    abbrev pub Overfull : Type 0
    Overfull = (z : ℤ) × PeakIs z × (pos plan.full <ℤ z)

    -- P8, P9, P10, P11, P12, P13: "FPT = 27t − T_CF", "RTP_OFFSET = encoded − T_CF. Latency VL = 27t − encoded. Margin = TRO −
    -- FPT. GAP = first arrival of this frame less arrival of the marker packet before it". VL and RTP_OFFSET are of one encoded time,
    -- "the one nearest to the arrival".
    pub record Times (r : Row) : Type 0 where
      pub fpt : r.fpt ≡ first_packet_time (arrival 0) plan.period
      pub latency : LatencyIs (arrival 0) (h.stamp s) r.latency
      pub offset : r.offset ≡ rtp_offset (arrival 0) (h.stamp s) latency.wraps plan.period
      pub margin : r.margin ≡ pos plan.tro -ℤ first_packet_time (arrival 0) plan.period
      pub gap : r.gap ≡ sub_ℕ (arrival 0) (grains (h.time (pred s)))

    -- V1: "VRX peak; VRX least"
    pub record Levels (r : Row) : Type 0 where
      pub peak : PeakIs r.peak
      pub least : LeastIs r.least

    -- V13: "rows with peak and least 0 for whole frames" (document 02, vii)
    pub record NoLevels (r : Row) : Type 0 where
      pub peak : r.peak ≡ pos 0
      pub least : r.least ≡ pos 0

    -- V1, V13: peak and least of a whole frame, by whether the buffer is judged
    pub record Measured (r : Row) : Type 0 where
      pub judged : plan.buffered ≡ true → Levels r
      pub unjudged : plan.buffered ≡ false → NoLevels r

  -- ---- the row

  -- V3: "For kinds 1 to 3 the last seven are 0.": of the ten numbers that document 01 speaks of, so the fourth to the tenth. The eleventh
  -- is filled for every kind (V10).
  pub record Zeros (r : Row) : Type 0 where
    pub fpt : r.fpt ≡ pos 0
    pub offset : r.offset ≡ pos 0
    pub latency : r.latency ≡ pos 0
    pub margin : r.margin ≡ pos 0
    pub gap : r.gap ≡ pos 0
    pub peak : r.peak ≡ pos 0
    pub least : r.least ≡ pos 0

  -- V1, V10: "A closed frame writes ten numbers": those of the frame that packet i closes. "Each row gets an eleventh number, the place in
  -- the history of the frame's first packet, filled for broken frames too."
  pub record RowIs (i : ℕ) (r : Row) : Type 0 where
    pub number : r.number ≡ pos (number_at h i)
    pub kind : r.kind ≡ pos (kind_at i)
    pub detail : r.detail ≡ pos (detail_at i)
    pub began : r.began ≡ pos (since h i)
    pub times : kind_at i ≡ 0 → Times (since h i) r
    pub levels : kind_at i ≡ 0 → Measured (since h i) r
    pub broken : (kind_at i ≡ 0 → ⊥) → Zeros r

  -- V10: packet i closes a frame, and the eleventh number of the frame's row is `place`
  pub record RowBegan (i place : ℕ) : Type 0 where
    pub closing : closes_at h i ≡ true
    pub row : Row
    pub is : RowIs i row
    pub told : row.began ≡ pos place

  -- ---- the buffer answer

  -- packet i closes a whole frame
  pub record Whole (i : ℕ) : Type 0 where
    pub closing : closes_at h i ≡ true
    pub whole : kind_at i ≡ 0

  -- V12, E3: packet i closes a frame that is judged: a whole one; and a broken one where such a frame fails, which the edition decides
  pub record Judged (i : ℕ) : Type 0 where
    pub closing : closes_at h i ≡ true
    pub judged : ¬ (kind_at i ≡ 0) → broken_fails plan.edition ≡ true

  -- V7: "pass": it neither runs dry nor overfull
  pub record PassIs (i : ℕ) : Type 0 where
    pub whole : Whole i
    pub not_dry : ¬ Dry (since h i)
    pub not_over : ¬ Overfull (since h i)

  -- V7: "under (least below 0) with frame and the lowest j whose packet arrives after read j"
  pub record UnderIs (i : ℕ) (p : Place) : Type 0 where
    pub whole : Whole i
    pub frame : p.frame ≡ number_at h i
    pub dry : Dry (since h i)
    pub place : Lowest (late (since h i)) plan.packets p.place

  -- V7, V8: "over (VRX peak above VRX_FULL) with frame and peak"; "in one frame under goes first"
  pub record OverIs (i : ℕ) (p : Place) : Type 0 where
    pub whole : Whole i
    pub frame : p.frame ≡ number_at h i
    pub not_dry : ¬ Dry (since h i)
    pub peak : PeakIs (since h i) (pos p.place)
    pub over : plan.full < p.place

  -- V12: "the buffer answer gains a case that names frame and kind": a frame that is not whole, where such a frame fails
  pub record BrokenIs (i : ℕ) (b : BrokenFrame) : Type 0 where
    pub closing : closes_at h i ≡ true
    pub broken : ¬ (kind_at i ≡ 0)
    pub fails : broken_fails plan.edition ≡ true
    pub frame : b.frame ≡ number_at h i
    pub kind : b.kind ≡ kind_at i

  -- E3: what packet i answers by itself: that of the frame it closes, none where that is not judged. One answer is so:
  -- answer_unique in proofs/BufferOfFrames.antt
  abbrev pub AnswerIs : ℕ → Buffer → Type 0
  AnswerIs i None = ¬ Judged i
  AnswerIs i Pass = PassIs i
  AnswerIs i (Under p) = UnderIs i p
  AnswerIs i (Over p) = OverIs i p
  AnswerIs i (Broken b) = BrokenIs i b

  -- V7, V8, V12: "Buffer: none (no whole frame yet); pass; under [..]; over [..]. The first failing frame decides", in every edition; what
  -- each edition comes to: specs/Editions.antt
  abbrev pub DecidedIs : Buffer → Type 0
  DecidedIs b = FirstDecides AnswerIs h.packets b

  -- V7, V13: that is the buffer answer where the buffer is judged; elsewhere "Its buffer answer is always none, in test plan edition 2 as well."
  pub record BufferIs (b : Buffer) : Type 0 where
    pub judged : plan.buffered ≡ true → DecidedIs b
    pub unjudged : plan.buffered ≡ false → b ≡ None

-- P14: "T_CF + TRO", where read 0 is of a frame whose first packet arrives at `first`, in nanoseconds
abbrev pub read_zero : Plan → ℕ → ℕ
read_zero plan first = frame_time (grains first) plan.period + plan.tro

-- P20, P21, P22: the next read of a packet of that frame that arrives at t
unfoldable pub next_read_of : Plan → ℕ → ℕ → NextRead
next_read_of plan first t = next_read plan.packets (read_zero plan first) plan.reads.num plan.reads.den (grains t)

-- C2: Document 01's numbers for each case of the answer: "buffer 0 none, 1 pass, 2 under or 3 over, frame, packet or peak; 0 where there is
-- none"; "reports a broken frame as 4 with frame and kind" (document 02, vi).
abbrev pub buffer_number : Buffer → ℕ
buffer_number None = 0
buffer_number Pass = 1
buffer_number (Under p) = 2
buffer_number (Over p) = 3
buffer_number (Broken b) = 4

abbrev pub buffer_frame : Buffer → ℕ
buffer_frame None = 0
buffer_frame Pass = 0
buffer_frame (Under p) = p.frame
buffer_frame (Over p) = p.frame
buffer_frame (Broken b) = b.frame

abbrev pub buffer_place : Buffer → ℕ
buffer_place None = 0
buffer_place Pass = 0
buffer_place (Under p) = p.place
buffer_place (Over p) = p.place
buffer_place (Broken b) = b.kind
