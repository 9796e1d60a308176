-- What an edition of the test plan decides, and what not. `BufferIs` of frame's Paper is one definition over the edition, and so is every
-- promise about it in Measurement; here it is said what each edition makes of it (frame's Editions), that rows and the network answer have no
-- edition in them, and what 8 is given for.
use Rattle.std.specs.Prelude.{◌≡◌, ◌↔◌, ◌<◌}
use Rattle.laws.specs.Kit.{ap, true, List, ℕ, take, drop}
use Rattle.limits.specs.declared.Parameters.{Parameters}
use Rattle.limits.specs.declared.Profile.{Profile}
use Rattle.limits.specs.Paper.{set_up_refusal, has_buffer}
use Rattle.limits.specs.Accepted.{KnownEdition}
use Rattle.limits.proofs.Editions as limits
use Rattle.packet.specs.declared.Packet.{Packet}
use Rattle.frame.specs.declared.Buffer.{Buffer}
use Rattle.frame.specs.declared.Buffer.TheVariants.{None, Pass, Broken}
use Rattle.frame.specs.declared.BrokenFrame.{BrokenFrame}
use Rattle.frame.specs.Paper.{BrokenIs, AnswerIs, BufferIs, Fails}
use Rattle.frame.specs.Editions.{FirstBufferIs, FrameFails, NoneClosed, AllFit}
use Rattle.timing.specs.Step.{stream_with, set_up_of}
use Rattle.timing.specs.Editions.{beside_buffer}
use Rattle.timing.specs.History.{AcceptedHistory, reached, plan, frames, size}
use Rattle.timing.proofs.Editions as timing
use Rattle.timing.proofs.Accepting as proved
use Rattle.record.specs.Paper.{Heading, Packets, read, reading_of, refused, file_of, file_in}
use Rattle.record.specs.Write.{written_of, written_number}
use Rattle.record.proofs.Editions as of_file
use Rattle.report.specs.Paper.{stream_of, state_of, rows_of, report_of}
use Rattle.report.proofs.Answering as report

-- ---- set-up

-- S11, N2: "Refusals: 8 for an edition other than 1 or 2, after 7.": exactly where none of 1 to 7 is given
pub edition_refused : (profile : Profile) (p : Parameters) (edition : ℕ)
    → (set_up_of (stream_with profile edition p) ≡ 8) ↔ ((set_up_refusal profile p ≡ 0) × (KnownEdition edition → ⊥))
edition_refused = limits.refused_8

-- S11, N2: where one of them is, the edition is not asked
pub edition_after : (profile : Profile) (p : Parameters) (edition : ℕ) → 0 < set_up_refusal profile p
    → set_up_of (stream_with profile edition p) ≡ set_up_refusal profile p
edition_after = limits.in_first

-- S11: and editions 1 and 2 are refused for nothing that set-up did not refuse before
pub edition_accepted : (profile : Profile) (p : Parameters) (edition : ℕ) → KnownEdition edition
    → set_up_of (stream_with profile edition p) ≡ set_up_refusal profile p
edition_accepted = limits.in_known

-- ---- the buffer answer of an accepted history whose stream has a buffer

module _ (h : AcceptedHistory) (buffered : has_buffer h.stream.profile ≡ true) where
  -- V8, V12: a frame fails exactly where it is broken, if its edition has such a frame fail, or is whole and runs dry or is overfull
  pub frame_fails : (i : ℕ) → i < size h → Fails (AnswerIs (plan h) (frames h)) i ↔ FrameFails (plan h) (frames h) i
  frame_fails = proved.fails_are h buffered

  -- V12: "Earlier reports must come out as they did, under edition 1": what the buffer answer of a history is, it was
  pub edition_one : h.stream.edition ≡ 1 → (b : Buffer) → BufferIs (plan h) (frames h) b ↔ FirstBufferIs (plan h) (frames h) b
  edition_one = proved.first_edition h buffered

  -- V12: so is the answer that is reached, and it is never the new case
  pub edition_one_reached : h.stream.edition ≡ 1
      → FirstBufferIs (plan h) (frames h) (reached h).frames.buffer × ((b : BrokenFrame) → (reached h).frames.buffer ≡ Broken b → ⊥)
  edition_one_reached e = (proved.first_reached h buffered e, proved.never_broken h e)

  -- V12: "Under edition 2 [..] none means no frame closed."
  pub edition_two_none : h.stream.edition ≡ 2 → ((reached h).frames.buffer ≡ None) ↔ NoneClosed (plan h) (frames h)
  edition_two_none = proved.second_none h buffered

  -- V12: pass, that every closed frame is whole and fits
  pub edition_two_pass : h.stream.edition ≡ 2 → ((reached h).frames.buffer ≡ Pass) ↔ AllFit (plan h) (frames h)
  edition_two_pass = proved.second_pass h buffered

  -- V12: "a case that names frame and kind; the first failing frame decides, broken or not": of the frame that packet i closes, where no frame
  -- before it fails
  pub edition_two_broken : (b : BrokenFrame) → ((reached h).frames.buffer ≡ Broken b)
      ↔ ((i : ℕ) × (i < size h) × BrokenIs (plan h) (frames h) i b × ((k : ℕ) → k < i → Fails (AnswerIs (plan h) (frames h)) k → ⊥))
  edition_two_broken = proved.broken_reached h buffered

-- ---- what no edition changes

module _ (profile : Profile) (p : Parameters) (e f : ℕ) (l : List Packet) where
  -- V12, V1: the rows of a list of packets are the same in every edition
  pub rows_by_no_edition : rows_of (stream_with profile e p) l ≡ rows_of (stream_with profile f p) l
  rows_by_no_edition = timing.rows_alike profile p e f l

  -- V12: and so is all that the state holds but for the edition and the buffer answer
  pub state_by_no_edition : beside_buffer (state_of (stream_with profile e p) l) ≡ beside_buffer (state_of (stream_with profile f p) l)
  state_by_no_edition = timing.states_alike profile p e f l

  -- V12, V6: so the network answer is the same
  pub network_by_no_edition : (state_of (stream_with profile e p) l).bucket.network ≡ (state_of (stream_with profile f p) l).bucket.network
  network_by_no_edition = ap (λ s. s.bucket.network) state_by_no_edition

-- V12, C2: of a file's report by two editions the first six numbers are the same, and so are all from the tenth on: the three of the buffer
-- answer may differ
pub report_by_no_edition : (e f : ℕ) (w : Heading) (ps : List Packet)
    → (take 6 (report_of (stream_of e w) ps) ≡ take 6 (report_of (stream_of f w) ps))
    × (drop 9 (report_of (stream_of e w) ps) ≡ drop 9 (report_of (stream_of f w) ps))
report_by_no_edition = report.reports_alike

-- ---- a file with an edition beside it

-- F13: an edition that there is changes nothing of what a file reads as
pub edition_beside : (edition : ℕ) (s : List ℕ) → KnownEdition edition → file_in edition s ≡ file_of s
edition_beside = of_file.known_edition

-- F13, N1: an edition that there is not is 8 at the parameter record, at offset 1, exactly where the heading is read, whatever comes behind it: a
-- file whose parameters are refused, or that has none, gives another number
pub edition_of_file : (edition : ℕ) (s : List ℕ) (offset : ℕ)
    → (file_in edition s ≡ refused 8 offset)
    ↔ ((KnownEdition edition → ⊥) × (offset ≡ 1) × (h : Heading) × (r : Packets) × (reading_of s ≡ read h r))
edition_of_file = of_file.exactly_8

-- F13: "`vtiming` and the writer mean edition 1": 8 is never given, of a file by itself
pub never_8 : (s : List ℕ) (offset : ℕ) → file_of s ≡ refused 8 offset → ⊥
never_8 = of_file.never_read

-- F13: and of what is written
pub never_8_written : (h : Heading) (ts ss ms : List ℕ) (room : ℕ) → written_number (written_of h ts ss ms room) ≡ 8 → ⊥
never_8_written = of_file.never_written
