-- A compressed stream is measured as video is, beside the buffer: its state is the video's without what is kept of reads and the buffer answer,
-- and its rows are the video's with peak and least 0; and whatever the profile, the bucket is the video's. Packet by packet: a step leads from
-- one pair of states to the next.
use Rattle.std.specs.Prelude.{◌≡◌, ◌&&◌, ◌∷◌}
use Rattle.laws.specs.Kit.{refl, ap, ◌∙◌, Bool, true, false, List, [], map, map-append, ℕ, eqb}
use Rattle.laws.specs.Choose.{pick}
use Rattle.laws.specs.Fold.{fold}
use Rattle.limits.specs.declared.Parameters.{Parameters}
use Rattle.limits.specs.declared.Profile.{Profile}
use Rattle.limits.specs.declared.Profile.TheVariants.{Video, Compressed}
use Rattle.packet.specs.declared.Packet.{Packet}
use Rattle.packet.specs.Paper.{marked}
use Rattle.packet.specs.Step.{next_of}
use Rattle.frame.specs.declared.Frame.{Frame}
use Rattle.frame.specs.declared.Row.{Row}
use Rattle.frame.specs.declared.Buffer.{Buffer}
use Rattle.frame.specs.declared.Buffer.TheVariants.{None}
use Rattle.frame.specs.Step as F
use Rattle.timing.specs.declared.Rules.{Rules}
use Rattle.timing.specs.declared.State.{State}
use Rattle.timing.specs.Step.{stream_with, rules_of, fresh_of, with_other, gone_of, arrive_of, mark_of, step_of, rows_of, state_after, rows_after}
use Rattle.timing.specs.Profiles.{beside_reads, compressed, beside_levels}

module _ (edition : ℕ) (p : Parameters) where
  -- the rules of both
  abbrev video : Rules
  video = rules_of (stream_with Video edition p)

  abbrev other : Rules
  other = rules_of (stream_with Compressed edition p)

  -- the open frame with one packet more, where the lead-in is over or not
  abbrev pushed : Rules → Bool → State → Packet → Frame
  pushed rules b s q = pick b (F.push_of rules.plan s.frames.current (gone_of s q.time) q.time q.stamp) s.frames.current

  push_alike : (b : Bool) (s : State) (q : Packet) → beside_reads (pushed video b s q) ≡ pushed other b (compressed s) q
  unfolding rules_of F.opened_of F.counted_of F.ticked_of
  push_alike true s q = refl
  push_alike false s q = refl

  -- a state with another open frame, and with another answer
  abbrev with_open : State → Frame → State
  with_open s f = with_other s.numbers f s.frames.buffer s

  abbrev with_answer : State → Buffer → State
  with_answer s b = with_other s.numbers s.frames.current b s

  arrive_alike : (s : State) (q : Packet)
      → compressed (arrive_of video s q.time q.stamp) ≡ arrive_of other (compressed s) q.time q.stamp
  unfolding arrive_of rules_of F.arrive_of
  arrive_alike s q = ap (with_open (arrive_of other (compressed s) q.time q.stamp)) (push_alike s.frames.begun s q)

  -- no frame answers anything
  still_none : (b : Bool) (n : ℕ) (f : Frame) → None ≡ pick b (F.joined None (F.answer_of other.plan n f)) None
  unfolding rules_of F.answer_of F.joined
  still_none true n f = refl
  still_none false n f = refl

  mark_alike : (s : State) (t : ℕ) → compressed (mark_of video s t) ≡ mark_of other (compressed s) t
  unfolding mark_of rules_of F.close_of
  mark_alike s t =
      ap (with_answer (mark_of other (compressed s) t)) (still_none s.frames.begun s.frames.closed (beside_reads s.frames.current))

  step_alike : (s : State) (q : Packet) → compressed (step_of video s q) ≡ step_of other (compressed s) q
  unfolding step_of
  step_alike s q = go (marked q)
    where
      go : (m : Bool)
          → compressed (pick m (mark_of video (arrive_of video s q.time q.stamp) q.time) (arrive_of video s q.time q.stamp))
          ≡ pick m (mark_of other (arrive_of other (compressed s) q.time q.stamp) q.time) (arrive_of other (compressed s) q.time q.stamp)
      go true = mark_alike (arrive_of video s q.time q.stamp) q.time ∙ ap (λ (t : State). mark_of other t q.time) (arrive_alike s q)
      go false = arrive_alike s q

  after_alike : (l : List Packet) (s : State) → compressed (state_after video s l) ≡ state_after other (compressed s) l
  unfolding fold
  after_alike [] s = refl
  after_alike (q ∷ l) s = after_alike l (step_of video s q) ∙ ap (λ (t : State). state_after other t l) (step_alike s q)

  -- ---- the rows

  abbrev row : Rules → State → Frame → ℕ → Row
  row rules s f packets = F.row_of rules.plan s.frames.closed s.frames.marked (F.began_of f packets) f

  abbrev kind : Frame → ℕ
  kind f = F.kind_of f video.plan.packets

  -- of a frame and the same without what is kept of reads
  row_alike : (s : State) (f : Frame) (packets : ℕ) → beside_levels (row video s f packets) ≡ row other (compressed s) (beside_reads f) packets
  unfolding rules_of F.row_of F.whole_row F.kind_of
  row_alike s f packets = go (eqb (kind f) 0)
    where
      go : (t : Bool)
          → beside_levels (pick t (F.whole_row video.plan s.frames.closed s.frames.marked (F.began_of f packets) f)
          (F.broken_row s.frames.closed (kind f) (F.detail_of f (kind f)) (F.began_of f packets)))
          ≡ pick t (F.whole_row other.plan s.frames.closed s.frames.marked (F.began_of f packets) (beside_reads f))
          (F.broken_row s.frames.closed (kind f) (F.detail_of f (kind f)) (F.began_of f packets))
      go true = refl
      go false = refl

  rows_alike : (s : State) (q : Packet) → map beside_levels (rows_of video s q) ≡ rows_of other (compressed s) q
  unfolding F.rows_of F.arrive_of
  rows_alike s q = go (marked q && s.frames.begun)
    where
      packets : ℕ
      packets = (next_of s.past q.time).packets

      go : (t : Bool)
          → map beside_levels (pick t (row video s (pushed video s.frames.begun s q) packets ∷ []) [])
          ≡ pick t (row other (compressed s) (pushed other s.frames.begun (compressed s) q) packets ∷ []) []
      go true =
          ap (λ (r : Row). r ∷ [])
          (row_alike s (pushed video s.frames.begun s q) packets
          ∙ ap (λ (f : Frame). row other (compressed s) f packets) (push_alike s.frames.begun s q))
      go false = refl

  all_rows_alike : (l : List Packet) (s : State) → map beside_levels (rows_after video s l) ≡ rows_after other (compressed s) l
  unfolding rows_after
  all_rows_alike [] s = refl
  all_rows_alike (q ∷ l) s =
      map-append beside_levels (rows_of video s q) (rows_after video (step_of video s q) l)
      ∙ rw (rows_alike s q, all_rows_alike l (step_of video s q), step_alike s q)

module _ (edition : ℕ) (p : Parameters) (l : List Packet) where
  -- V13: from set-up on, the state of a compressed stream is the video's without what is kept of reads and the buffer answer
  pub states_beside : compressed (state_after (rules_of (stream_with Video edition p)) (fresh_of (stream_with Video edition p)) l)
      ≡ state_after (rules_of (stream_with Compressed edition p)) (fresh_of (stream_with Compressed edition p)) l
  states_beside = after_alike edition p l (fresh_of (stream_with Video edition p))

  -- V13: and its rows are the video's with peak and least 0
  pub rows_beside_lem : map beside_levels (rows_after (rules_of (stream_with Video edition p)) (fresh_of (stream_with Video edition p)) l)
      ≡ rows_after (rules_of (stream_with Compressed edition p)) (fresh_of (stream_with Compressed edition p)) l
  rows_beside_lem = all_rows_alike edition p l (fresh_of (stream_with Video edition p))

-- ---- the bucket

-- two states with one bucket, whatever their frames
record OneBucket (s t : State) : Type 0 where
  past : s.past ≡ t.past
  rest : s.rest ≡ t.rest
  bucket : s.bucket ≡ t.bucket

module _ (profile : Profile) (edition : ℕ) (p : Parameters) where
  abbrev any : Rules
  any = rules_of (stream_with profile edition p)

  abbrev as_video : Rules
  as_video = rules_of (stream_with Video edition p)

  bucket_arrives : (s t : State) (q : Packet) → OneBucket s t
      → OneBucket (arrive_of any s q.time q.stamp) (arrive_of as_video t q.time q.stamp)
  unfolding arrive_of rules_of
  bucket_arrives s t q o = record { past = rw o.past; rest = rw (o.past, o.rest); bucket = rw (o.past, o.rest, o.bucket) }

  bucket_steps : (s t : State) (q : Packet) → OneBucket s t → OneBucket (step_of any s q) (step_of as_video t q)
  unfolding step_of mark_of
  bucket_steps s t q o = go (marked q) (bucket_arrives s t q o)
    where
      go : (m : Bool) → OneBucket (arrive_of any s q.time q.stamp) (arrive_of as_video t q.time q.stamp)
          → OneBucket (pick m (mark_of any (arrive_of any s q.time q.stamp) q.time) (arrive_of any s q.time q.stamp))
          (pick m (mark_of as_video (arrive_of as_video t q.time q.stamp) q.time) (arrive_of as_video t q.time q.stamp))
      go true a = record { past = a.past; rest = a.rest; bucket = a.bucket }
      go false a = a

  bucket_after : (l : List Packet) (s t : State) → OneBucket s t → OneBucket (state_after any s l) (state_after as_video t l)
  unfolding fold
  bucket_after [] s t o = o
  bucket_after (q ∷ l) s t o = bucket_after l (step_of any s q) (step_of as_video t q) (bucket_steps s t q o)

  -- S12, S13: the bucket of a list of packets is that of the same stream as video
  pub buckets_alike : (l : List Packet)
      → (state_after any (fresh_of (stream_with profile edition p)) l).bucket ≡ (state_after as_video (fresh_of (stream_with Video edition p)) l).bucket
  buckets_alike l =
      (bucket_after l (fresh_of (stream_with profile edition p)) (fresh_of (stream_with Video edition p)) (record { past = refl; rest = refl; bucket = refl })
      ).bucket
