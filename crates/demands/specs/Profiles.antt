-- What a profile decides, and what not. Two questions are asked of it (limits' Paper): whether the buffer is judged (`has_buffer`), which the plan
-- carries, `Measured` of frame's Paper asks for peak and least, and `BufferIs` for the answer; and how many periods a frame has (`periods`), by
-- which the plan's period and packets are F and n, or F/2 and n/2. Every promise in Measurement is over the profile, but for those that say that
-- the stream has a buffer: of an interlaced stream read fields for frames. Here it is said what these plans are, what becomes of a stream that
-- has no buffer, that nothing else depends on the profile, and how a profile is told by the kind of a parameter record.
use Rattle.std.specs.Prelude.{◌≡◌, ◌↔◌, ◌*◌, ◌%◌, ◌<◌, ◌*ℤ◌, ◌≤ℤ◌, ◌<ℤ◌, None}
use Rattle.laws.specs.Kit.{sym, Bool, true, false, List, map, ℕ, arith, pos, neg_ℤ}
use Rattle.limits.specs.declared.Parameters.{Parameters}
use Rattle.limits.specs.declared.Profile.{Profile}
use Rattle.limits.specs.declared.Profile.TheVariants.{Video, Compressed, Interlaced}
use Rattle.limits.specs.Paper.{microsecond, frame_length, all_ones, has_buffer, periods, profile_kind, is_profile, profile_of, set_up_refusal}
use Rattle.limits.proofs.Profiles as limits
use Rattle.limits.proofs.Accepting as set_up
use Rattle.packet.specs.declared.Packet.{Packet}
use Rattle.frame.specs.declared.Row.{Row}
use Rattle.frame.specs.declared.Buffer.TheVariants.{None}
use Rattle.frame.specs.Paper.{kind_at, RowIs}
use Rattle.timing.specs.declared.Stated.{Stated}
use Rattle.timing.specs.Step.{stream_with, set_up_of, stated_of, stated_refusal, frame_of, rules_of}
use Rattle.timing.specs.Profiles.{compressed, beside_levels}
use Rattle.timing.specs.History.{AcceptedHistory, reached, plan, frames}
use Rattle.timing.proofs.Stating as timing
use Rattle.timing.proofs.Profiles as beside
use Rattle.timing.proofs.Accepting as proved
use Rattle.record.specs.Paper.{version_known, body_length, kind_of, is_parameters, kind_length, Heading, format_refusal}
use Rattle.record.specs.Step.{Whole}
use Rattle.record.specs.Write.{written_of, written_refused}
use Rattle.record.proofs.Writing.{heading_22, answers_set_up}
use Rattle.record.proofs.KindsRefused as of_file
use Rattle.report.specs.Paper.{state_of, rows_of}

-- ---- a profile by its kind

-- S12, S13: "a parameter record of kind 3, laid out as kind 1, chooses it", and one "of kind 4" the other: 1 is the kind of video, 3 that of
-- compressed and 4 that of interlaced, and no other kind chooses one
pub kinds_of_profiles : (kind : ℕ) → (is_profile kind ≡ true) ↔ ((p : Profile) × (kind ≡ profile_kind p) × (profile_of kind ≡ p))
kinds_of_profiles = limits.by_kind

-- S12, N1: 22, "unknown kind", comes before 1 to 8, and is given exactly for a kind that chooses none; a profile has no other refusal
pub profile_refused : (t : Stated) → (stated_refusal t ≡ 22) ↔ (is_profile t.kind ≡ false)
profile_refused = timing.stated_22

-- S12, N2: where it chooses one, set-up alone refuses
pub profile_accepted : (t : Stated) → is_profile t.kind ≡ true → stated_refusal t ≡ set_up_of (stated_of t)
profile_accepted = timing.stated_known

-- S12: "Stream numbers are as in the base.": of a compressed stream they are refused as of video, the edition too
pub refused_by_no_profile : (e : ℕ) (p : Parameters) → set_up_of (stream_with Compressed e p) ≡ set_up_of (stream_with Video e p)
refused_by_no_profile = timing.same_refusal

-- S13: "5 also for odd n here, 7 also for a default TRO or one of F/2 and above.": what set-up takes as interlaced it takes as video, and then n is
-- even, TRO is given, and twice a TRO is less than a frame, in grains
pub interlaced_takes : (p : Parameters) → (set_up_refusal Interlaced p ≡ 0)
    ↔ ((set_up_refusal Video p ≡ 0) × (p.n % 2 ≡ 0) × ¬ (p.tro ≡ all_ones) × (2 * (microsecond * p.tro) < frame_length p.rate))
interlaced_takes = set_up.interlaced_takes

-- ---- the plan of a profile

-- P24: "field periods start at multiples of F/2, the field has n/2 packets": the periods of a frame are all of its grains and all of its packets,
-- with nothing left over: one period of F and n, or two of F/2 and n/2
pub periods_whole : (h : AcceptedHistory) → (periods h.stream.profile * (plan h).period ≡ frame_of h.stream)
    × (periods h.stream.profile * (plan h).packets ≡ h.stream.parameters.n)
periods_whole = proved.periods_whole

-- P8, P24: "FPT is at least −F/4 and below F/4", of a whole field; of a whole frame F/2: the period's start is the nearest
pub fpt_within : (h : AcceptedHistory) (i : ℕ) (r : Row) → kind_at (plan h) (frames h) i ≡ 0 → RowIs (plan h) (frames h) i r
    → let k = 2 * periods h.stream.profile in
    let F = frame_of h.stream in
    (neg_ℤ (pos F) ≤ℤ (pos k *ℤ r.fpt)) × ((pos k *ℤ r.fpt) <ℤ pos F)
fpt_within = proved.fpt_of_row

-- S12, S13: "The limits C_MAX and VRX_FULL use n and the whole frame, as does the drain spacing.": they are those of the same numbers as video, and so
-- are TRO and the spacing of the reads
pub limits_by_no_profile : (profile : Profile) (e : ℕ) (p : Parameters) → let q = rules_of (stream_with profile e p) in
    let v = rules_of (stream_with Video e p) in
    (q.limit ≡ v.limit) × (q.drains ≡ v.drains) × (q.plan.full ≡ v.plan.full) × (q.plan.tro ≡ v.plan.tro)
    × (q.plan.reads ≡ v.plan.reads)
limits_by_no_profile = timing.same_limits

-- S12, S13, V6, B5: so the bucket of a list of packets, with the peak and the network answer, is the same, whatever the profile
pub bucket_by_no_profile : (profile : Profile) (e : ℕ) (p : Parameters) (l : List Packet)
    → (state_of (stream_with profile e p) l).bucket ≡ (state_of (stream_with Video e p) l).bucket
bucket_by_no_profile = beside.buckets_alike

-- ---- an accepted history whose stream has no buffer

module _ (h : AcceptedHistory) (none : has_buffer h.stream.profile ≡ false) where
  -- V13: "Its buffer answer is always none, in test plan edition 2 as well.": whatever its frames are, and by either edition
  pub always_none : (reached h).frames.buffer ≡ None
  always_none = proved.none_reached h none

  -- V13: "rows with peak and least 0 for whole frames": of the frame that packet i closes
  pub peak_and_least : (i : ℕ) (r : Row) → kind_at (plan h) (frames h) i ≡ 0 → RowIs (plan h) (frames h) i r
      → (r.peak ≡ pos 0) × (r.least ≡ pos 0)
  peak_and_least = proved.no_levels h none

-- ---- a compressed stream and the same as video

module _ (e : ℕ) (p : Parameters) (l : List Packet) where
  -- V13: "runs the bucket and the frame times": the rows of a compressed stream are those of the same stream as video, with peak and least 0
  pub rows_of_compressed : rows_of (stream_with Compressed e p) l ≡ map beside_levels (rows_of (stream_with Video e p) l)
  rows_of_compressed = sym (beside.rows_beside_lem e p l)

  -- V13: and its state is that one's, but for the profile, what is kept of reads and the buffer answer
  pub state_of_compressed : state_of (stream_with Compressed e p) l ≡ compressed (state_of (stream_with Video e p) l)
  state_of_compressed = sym (beside.states_beside e p l)

-- ---- the record file

-- F3, F4, F14: the kinds that 22 knows, with their lengths: 1, 3 and 4 have 16 bytes, 2 has 14. Any other has 0, which no record has
pub kinds_known : (kind_length 1 ≡ 16) × (kind_length 2 ≡ 14) × (kind_length 3 ≡ 16) × (kind_length 4 ≡ 16)
    × ((kind : ℕ) → (kind ≡ 1 → ⊥) → (kind ≡ 2 → ⊥) → (kind ≡ 3 → ⊥) → (kind ≡ 4 → ⊥) → kind_length kind ≡ 0)
kinds_known = of_file.lengths

-- "22 and 23 read with that kind too" (document 02, vii), and "22 and 23 read with it" (ix): of a record that is all there
module _ (l : List ℕ) (w : Whole (body_length l) (kind_of l) l) where
  -- N1, F14: 22 where its length is not its kind's, wherever it stands
  pub kind_22 : (first : Bool) → (body_length l ≡ kind_length (kind_of l) → ⊥) → format_refusal first l ≡ 22
  kind_22 = of_file.wrong_length l w

  -- N1, F14: else 23 where it is the first and a packet
  pub packet_first_23 : body_length l ≡ kind_length (kind_of l) → is_parameters (kind_of l) ≡ false → format_refusal true l ≡ 23
  packet_first_23 = of_file.none_first l w

  -- N1, F14: and where it is not the first and holds parameters, of any of the three kinds, whatever kind came first
  pub again_23 : body_length l ≡ kind_length (kind_of l) → is_parameters (kind_of l) ≡ true → format_refusal false l ≡ 23
  again_23 = of_file.again l w

-- F14, F9: the writer's 22 is for a kind that holds no parameters, after 20 and before all else: no number, packet or lent byte is asked for
pub writer_kind_refused : (s : Heading) (ts ss ms : List ℕ) (room : ℕ) → version_known s.version ≡ true → is_parameters s.kind ≡ false
    → written_of s ts ss ms room ≡ written_refused 22 0
writer_kind_refused s ts ss ms room v k =
    sym (answers_set_up s ts ss ms room 22 (sym (heading_22 s.version s.kind s.parameters v k)) (omega arith))
