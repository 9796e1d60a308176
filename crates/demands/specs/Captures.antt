-- What is done with a network capture. First a frame and its headers (`handed_of`, headers' Step), then a capture call (`capture_of`, intake's
-- Paper; what a capture holds is `records_of` and `packets_of` there), its reader in pieces, the C function (`capture_answer` and
-- `capture_filled`, film's Paper), and any run of the program for captures, of which `output_of` of reel's Paper says what it prints.
use Rattle.std.specs.Prelude.{◌≡◌, ◌+◌, ◌≤◌, ◌<◌, Err, Ok, None}
use Rattle.laws.specs.Kit.{refl, ◌∙◌, Bool, true, false, List, [], ℕ, min, ℤ, length, get_or, ne_eqb}
use Rattle.endian.specs.Number.{Bytes}
use Rattle.limits.specs.Accepted.{KnownEdition}
use Rattle.refusal.specs.Told.{Numbered}
use Rattle.packet.specs.Step.{nothing, scan_of}
use Rattle.headers.specs.Paper.{HandedOn, on_at}
use Rattle.headers.specs.Step.{handed_of}
use Rattle.headers.proofs.Exactly as exactly
use Rattle.headers.proofs.Agreeing.{handed_agree}
use Rattle.capture.specs.declared.Format.{Format}
use Rattle.capture.specs.declared.Setting.{Setting}
use Rattle.capture.specs.declared.Cursor.{Cursor}
use Rattle.capture.specs.Paper.{capture, unknown, header_of, done, stopped, records_in, later_all, asked}
use Rattle.capture.specs.Step.{next_of}
use Rattle.capture.specs.Swap.{word_at, swap_file}
use Rattle.capture.specs.Pieces.{Keeps}
use Rattle.capture.proofs.Counting.{all_counted}
use Rattle.capture.proofs.InPieces as pieces
use Rattle.capture.proofs.Offsets as offsets
use Rattle.timing.specs.declared.Stated.{Stated}
use Rattle.timing.specs.declared.State.{State}
use Rattle.timing.specs.Step.{stated_of, first_stated, stated_refusal, rules_of, fresh_of}
use Rattle.timing.specs.Range.{in_range}
use Rattle.timing.specs.Feed.{feed_all}
use Rattle.intake.specs.Paper.{records_of, packets_of, skipped_of, refused_by, capture_of, fed_as, taken_as, not_taken}
use Rattle.intake.proofs.Feeding as call
use Rattle.intake.proofs.Swapped as swapped
use Rattle.report.specs.Paper.{answer}
use Rattle.film.specs.Paper.{capture_checked, capture_answer, capture_filled, capture_room}
use Rattle.film.proofs.Leaving as film
use Rattle.film.proofs.Editions as film_editions
use Rattle.text.specs.Lines.{line_room}
use Rattle.reel.specs.declared.Asked.{Asked}
use Rattle.reel.specs.Paper.{output_of, printed_by}
use Rattle.reel.proofs.Wholly as wholly
use Rattle.words.specs.declared.Numbers.{Numbers}
use Rattle.words.specs.Paper.{as_given, asked_of}
use Rattle.words.proofs.AsGiven as words
use Rattle.window.specs.declared.BrokenOff.TheVariants.{Unread}
use Rattle.window.specs.Run.{Front, WholeOutput, End, RunEnds}
use Rattle.window.proofs.Running as running
use Rattle.spool.specs.Step.{machine}
use Rattle.spool.proofs.Stages.{size, keeps}

-- ---- a frame: its bytes b, n of them captured

-- R4, R5, R6: "A frame is handed on exactly when all of these hold, all within its captured bytes", with the timestamp and marker of RTP
pub handed_on : (b : List ℕ) (n port ip udp rtp end : ℕ) → HandedOn b n port ip udp rtp end → handed_of b n port ≡ on_at b rtp
handed_on b n port ip udp rtp end c = exactly.handed_so c

-- R4, R7: and where they hold at no places "every other frame is skipped"
pub skipped_else : (b : List ℕ) (n port : ℕ) → ((ip udp rtp end : ℕ) → HandedOn b n port ip udp rtp end → ⊥) → handed_of b n port ≡ None
skipped_else = exactly.skipped_so

-- R14: only the first 162 bytes of a frame can matter: two with as many captured bytes that agree on these are handed on alike
pub first_162 : (b c : List ℕ) (n port : ℕ) → min n 162 ≤ length b → min n 162 ≤ length c
    → ((i : ℕ) → i < min n 162 → get_or b i 0 ≡ get_or c i 0) → handed_of b n port ≡ handed_of c n port
first_162 b c n port h k same = handed_agree port (record { left = h; right = k; same = same })

-- ---- a capture call, of any bytes

-- R7: "Skipped plus handed on is the number of records read."
pub records_counted : (port offset : ℕ) (b : List ℕ)
    → length (packets_of port offset b) + skipped_of port offset b ≡ length (records_of port offset b).found
records_counted port offset b = all_counted (records_of port offset b).found

module _ (s : State) (rows : List ℤ) (port offset : ℕ) (b : List ℕ) where
  -- R8, R9: "Order: 9;", whatever else is wrong
  pub capture_9 : in_range s ≡ false → capture_of s rows port offset b ≡ refused_by s rows 9 0
  capture_9 = call.capture_9 s rows port offset b

  -- R8, R9: "33 (offset above 99), also of an empty capture;"
  pub capture_33 : in_range s ≡ true → 99 < offset → capture_of s rows port offset b ≡ refused_by s rows 33 0
  capture_33 = call.capture_33 s rows port offset b

  -- R8, R9: "30 [..]": "fewer than 24 bytes, unknown magic or link type"
  pub capture_30 : in_range s ≡ true → offset ≤ 99 → header_of b ≡ unknown → capture_of s rows port offset b ≡ refused_by s rows 30 0
  capture_30 = call.capture_30 s rows port offset b

  -- R11: "refused, with number and place, state and rows as they were"
  pub refused_stays : (t : State) (number place : ℕ) → (capture_of s rows port offset b).answer ≡ not_taken number place t
      → (t ≡ s) × ((capture_of s rows port offset b).rows ≡ rows)
  refused_stays t number place = call.refused_stays s t rows port offset number place b

  -- of a capture whose header is known
  module _ (f : Format) (known : header_of b ≡ capture f) where
    -- R19: "A capture call is `feed` of the packets that it hands on (same rows, same state, same number and place for 9, 12 to 14
    -- and 15)", where all its records can be read
    pub capture_feeds : offset ≤ 99 → (records_of port offset b).ending ≡ done
        → capture_of s rows port offset b ≡ fed_as (feed_all s rows (packets_of port offset b)) (packets_of port offset b) (skipped_of port offset b)
    capture_feeds h = call.capture_feeds s rows port offset b h known

    -- R8, R9: "12 to 14 of the packet handed on": the first that the scan refuses, at its place, whatever comes behind it
    pub packet_refused : in_range s ≡ true → offset ≤ 99 → (r : Numbered)
        → scan_of s.past s.frames.begun 0 (packets_of port offset b) ≡ Err r
        → capture_of s rows port offset b ≡ refused_by s rows r.number r.place
    packet_refused e h r = call.capture_refused s rows port offset b e h known

    -- R8, R9: "31 [..], 32 [..]": where it refuses none, the record at which the capture stops, at its own place
    pub record_refused : in_range s ≡ true → offset ≤ 99 → (closed number : ℕ)
        → scan_of s.past s.frames.begun 0 (packets_of port offset b) ≡ Ok closed
        → (records_of port offset b).ending ≡ stopped number
        → capture_of s rows port offset b ≡ refused_by s rows number (length (records_of port offset b).found)
    record_refused e h closed number = call.capture_stopped s rows port offset b e h known

    -- R10: "A capture of exactly 24 bytes, or of skipped frames only, is accepted and changes nothing."
    pub nothing_handed : in_range s ≡ true → offset ≤ 99 → (records_of port offset b).ending ≡ done → packets_of port offset b ≡ []
        → capture_of s rows port offset b ≡ record { answer = taken_as s 0 (skipped_of port offset b); rows = rows }
    nothing_handed e h = call.nothing_handed s rows port offset b e h known

    -- R12: "a capture and the same capture in the other order have the same answer"
    pub other_order : Bytes (word_at 0 b) → capture_of s rows port offset (swap_file f b) ≡ capture_of s rows port offset b
    other_order k = swapped.capture_swapped s rows port offset f b k known

-- R13: "arrivals with offset k are those with 0 plus k seconds", and all else is the same
pub offset_adds : (f : Format) (port k : ℕ) (l : List ℕ) → records_in (asked f port k) l ≡ later_all k (records_in (asked f port 0) l)
offset_adds = offsets.offset_adds

-- R14: however a capture is cut, what the reader says of a window is what the whole gives, whatever bytes follow
pub window_keeps : (p : Setting) (c : Cursor) (w v : List ℕ) (last : Bool) → (last ≡ true → v ≡ []) → Keeps p c w v (next_of p c w last)
window_keeps p c w v last end = pieces.next_keeps p w v last end c

-- ---- the C function

-- R15, R16, S12: "1 to 7, then the order above", with 22 before 1 and 8 after 7: a stream that is refused so is refused first, at place 0, whatever
-- the capture and the room
pub set_up_first : (x : Stated) (port offset : ℕ) (b : List ℕ) (room : ℕ) → (stated_refusal x ≡ 0 → ⊥)
    → capture_answer x port offset b room ≡ answer (stated_refusal x) 0
unfolding capture_answer capture_checked
set_up_first x port offset b room n = rw (ne_eqb (stated_refusal x) 0 n)

-- R15: "Refused, nothing is written."
pub refused_fills_nothing : (x : Stated) (port offset : ℕ) (b out : List ℕ)
    → ((capture_answer x port offset b (length out)).number ≡ 0 → ⊥) → capture_filled x port offset b out ≡ out
refused_fills_nothing = film.refused_fills_nothing

-- X13: the room that is told of a capture, with no edition, is the room of each
pub capture_room_lem : (x : Stated) → KnownEdition x.edition → (port offset : ℕ) (b : List ℕ)
    → capture_room x port offset b ≡ capture_room (first_stated x.kind x.parameters) port offset b
capture_room_lem = film_editions.room_alike

-- ---- the program

-- R18: "The program takes its numbers as they are given.": also those that are too large for their places
pub output_as_given : (x : Numbers) (file : List ℕ) → output_of (asked_of x) file ≡ output_of (as_given x) file
output_as_given = words.output_as_given

-- R17, R19: "Lines as `vtiming` prints them": of the same packets and records as a capture call. The rows of those packets, all or those before
-- the refused one, and the last line: the verdict of the state behind them, or the refusal of the scan or of the record that stops it
pub capture_printed : (a : Asked) (file : List ℕ) (f : Format) → stated_refusal a.stated ≡ 0 → a.offset ≤ 99 → header_of file ≡ capture f
    → output_of a file
    ≡ printed_by (scan_of nothing false 0 (packets_of a.port a.offset file)) (rules_of (stated_of a.stated)) (fresh_of (stated_of a.stated))
    (records_of a.port a.offset file)
capture_printed a file f e h k = wholly.output_wholly a file e h k ∙ rw k refl

module _ (what : Asked) where
  -- R17, X10: whatever the reads brought, what was handed over is a front of the output of the capture
  pub captures_front : {room : ℕ} {last : Bool} {file text : List ℕ} {end : End} → RunEnds (machine what) room last file text end
      → Front (machine what) last file text
  captures_front = running.ran_front (machine what) line_room size (keeps what)

  -- R17, X10: and all of it where the last line is out
  pub captures_whole : {room : ℕ} {last : Bool} {file text : List ℕ} → RunEnds (machine what) room last file text (Ok tt)
      → WholeOutput (machine what) last file text
  captures_whole = running.ran_whole (machine what) line_room size (keeps what)

  -- R17, X10: and where the capture had ended no read has failed
  pub captures_ended : {room : ℕ} {last : Bool} {file text : List ℕ} {end : End} → RunEnds (machine what) room last file text end
      → last ≡ true → end ≡ Err Unread → ⊥
  captures_ended = running.ran_ended
