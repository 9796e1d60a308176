-- The capture file, in the request's words: its header, its records, and what becomes of each. A list of bytes is read from its front: `l`
-- is the rest of a file from one record on. This page is what a reader must believe of captures.
use Rattle.std.specs.Prelude.{◌||◌, ◌∷◌, ◌+◌, ◌-◌, ◌*◌, Some, None, Result, Ok, Err}
use Rattle.laws.specs.Kit.{Bool, true, false, List, [], ℕ, zero, suc, ltb, leb, eqb, length, take, drop}
use Rattle.laws.specs.Choose.{pick}
use Rattle.endian.specs.declared.Order.{Order}
use Rattle.endian.specs.declared.Order.TheVariants.{Big, Little}
use Rattle.endian.specs.Order.{number_by}
use Rattle.headers.specs.Paper.{Handed}
use Rattle.headers.specs.Step.{handed_of}
use Rattle.packet.specs.declared.Packet.{Packet}
use Rattle.packet.specs.declared.Past.{Past}
use Rattle.packet.specs.Step.{number_of, tallied}
use Rattle.capture.specs.declared.Format.{Format}
use Rattle.capture.specs.declared.Setting.{Setting}
use Rattle.capture.specs.declared.Seen.{Seen}
use Rattle.refusal.specs.Told.{Numbered}

-- ---- the header

-- R1: "a 24-byte header, then records of 16 bytes [..] and the captured bytes"
abbrev pub header_bytes : ℕ
header_bytes = 24

abbrev pub record_bytes : ℕ
record_bytes = 16

-- R2: "Magic a1b2c3d4 (microseconds) and a1b23c4d (nanoseconds)"
abbrev pub microseconds : ℕ
microseconds = 2712847316

abbrev pub nanoseconds : ℕ
nanoseconds = 2712812621

-- what a header says: how the file writes its numbers, or that it is none
pub data Header : Type 0 where
  capture : Format → Header
  unknown : Header

abbrev pub format : Order → Bool → Format
format order nano = record { order = order; nano = nano }

-- R2: "the link type's 32-bit word is 1, Ethernet"
unfoldable pub linked_by : Order → Bool → List ℕ → Header
linked_by order nano s = pick (eqb (number_by order 4 s 20) 1) (capture (format order nano)) unknown

-- R2: the magic, "each in both byte orders"
unfoldable pub magic_by : Order → List ℕ → Header → Header
magic_by order s other =
    pick (eqb (number_by order 4 s 0) microseconds) (linked_by order false s)
    (pick (eqb (number_by order 4 s 0) nanoseconds) (linked_by order true s) other)

-- R2, R8: what 30 is not: "fewer than 24 bytes, unknown magic or link type"
unfoldable pub header_of : List ℕ → Header
header_of s = pick (ltb (length s) header_bytes) unknown (magic_by Big s (magic_by Little s unknown))

-- ---- a record

-- R1, R3: "seconds, sub-second, captured length, original length"; "Version, zone, sigfigs, snap length and original length are not read."
abbrev pub seconds_at : Format → List ℕ → ℕ
seconds_at f l = number_by f.order 4 l 0

abbrev pub sub_at : Format → List ℕ → ℕ
sub_at f l = number_by f.order 4 l 4

abbrev pub captured_at : Format → List ℕ → ℕ
captured_at f l = number_by f.order 4 l 8

-- the captured bytes of the frame in front
abbrev pub frame_at : Format → List ℕ → List ℕ
frame_at f l = take (captured_at f l) (drop record_bytes l)

-- how many sub-seconds a second has, and how many nanoseconds a sub-second
unfoldable pub second_of : Format → ℕ
second_of f = pick f.nano 1000000000 1000000

unfoldable pub unit_of : Format → ℕ
unit_of f = pick f.nano 1 1000

-- R6: "A packet's arrival is (seconds + offset)·10^9 + sub-second nanoseconds"
abbrev pub arrival_of : Setting → ℕ → ℕ → ℕ
arrival_of p seconds sub = (seconds + p.offset) * 1000000000 + sub * unit_of p.format

-- R8: "31 (cut short: the file ends inside its 16 bytes or its captured bytes)", "tested as 'fewer bytes left than captured'"
abbrev pub cut_short : Format → List ℕ → Bool
cut_short f l = ltb (length l) record_bytes || ltb (length l - record_bytes) (captured_at f l)

-- R8: "32 (sub-second field of a second or more, on EVERY record, skipped ones too)"
abbrev pub late : Format → List ℕ → Bool
late f l = leb (second_of f) (sub_at f l)

-- R4, R7: what becomes of a record: a packet is handed on, or "every other frame is skipped and counted"
pub data Found : Type 0 where
  packet : Packet → Found
  skipped : Found

abbrev pub found_by : ℕ → Handed → Found
found_by t (Some r) = packet (record { time = t; stamp = r.stamp; marker = r.marker })
found_by t None = skipped

abbrev pub found_at : Setting → List ℕ → Found
found_at p l =
    found_by (arrival_of p (seconds_at p.format l) (sub_at p.format l))
    (handed_of (frame_at p.format l) (length (frame_at p.format l)) p.port)

-- ---- the records of a capture

-- all was read, or a record was refused, by 31 or 32
pub data Ending : Type 0 where
  done : Ending
  stopped : ℕ → Ending

-- the records up to there
pub record Records : Type 0 where
  pub found : List Found
  pub ending : Ending

abbrev pub none : Ending → Records
none e = record { found = []; ending = e }

abbrev pub more : Found → Records → Records
more x r = record { found = x ∷ r.found; ending = r.ending }

-- R1, R8: by at most so many records: each takes bytes, so that there are no more records than bytes
unfoldable pub records_by : ℕ → Setting → List ℕ → Records
records_by zero p l = none done
records_by (suc k) p l =
    pick (eqb (length l) 0) (none done)
    (pick (cut_short p.format l) (none (stopped 31))
    (pick (late p.format l) (none (stopped 32))
    (more (found_at p l) (records_by k p (drop (record_bytes + captured_at p.format l) l)))))

-- the records of the rest of a file
abbrev pub records_in : Setting → List ℕ → Records
records_in p l = records_by (length l) p l

-- the packets handed on, in order, and how many records were skipped
unfoldable pub handed_on : List Found → List Packet
handed_on [] = []
handed_on (packet p ∷ xs) = p ∷ handed_on xs
handed_on (skipped ∷ xs) = handed_on xs

unfoldable pub skipped_in : List Found → ℕ
skipped_in [] = 0
skipped_in (packet p ∷ xs) = skipped_in xs
skipped_in (skipped ∷ xs) = suc (skipped_in xs)

-- R13: a record that comes so many seconds later, and all of them
abbrev pub later : ℕ → Found → Found
later k (packet p) = packet (record { time = p.time + k * 1000000000; stamp = p.stamp; marker = p.marker })
later k skipped = skipped

unfoldable pub all_later : ℕ → List Found → List Found
all_later k [] = []
all_later k (x ∷ xs) = later k x ∷ all_later k xs

abbrev pub later_all : ℕ → Records → Records
later_all k r = record { found = all_later k r.found; ending = r.ending }

-- what is asked of a capture of a format
abbrev pub asked : Format → ℕ → ℕ → Setting
asked f port offset = record { format = f; port = port; offset = offset }

-- ---- what is refused of them

-- before the first record of a call: what came before its packets, and whether a marker did
abbrev pub seen_from : Past → Bool → Seen
seen_from past begun = record { tally = record { past = past; begun = begun; closed = 0 }; records = 0; skipped = 0 }

-- a record more: a packet is counted in the tally, and another frame as skipped
abbrev pub with_packet : Seen → Packet → Seen
with_packet y p = record { tally = tallied y.tally p; records = y.records + 1; skipped = y.skipped }

abbrev pub with_skipped : Seen → Seen
with_skipped y = record { tally = y.tally; records = y.records + 1; skipped = y.skipped + 1 }

-- R8: a whole capture: what was seen of it, or the number and the place of its first refusal
abbrev pub Checked : Type 0
Checked = Result Seen Numbered

abbrev pub checked_refused : ℕ → ℕ → Checked
checked_refused number place = Err (record { number = number; place = place })

-- R8, R9: "then record by record 31 [..], 32 [..], 12 to 14 of the packet handed on"; "31 and 32 the capture record from 0 [..], 12 to 14
-- the packet's place in the history"
unfoldable pub check_all : Seen → List Found → Ending → Checked
check_all y [] done = Ok y
check_all y [] (stopped number) = checked_refused number y.records
check_all y (packet p ∷ xs) e =
    pick (eqb (number_of y.tally.past p) 0) (check_all (with_packet y p) xs e)
    (checked_refused (number_of y.tally.past p) y.tally.past.packets)
check_all y (skipped ∷ xs) e = check_all (with_skipped y) xs e

abbrev pub check_records : Seen → Records → Checked
check_records y r = check_all y r.found r.ending

abbrev pub check_headed : Header → ℕ → ℕ → Seen → List ℕ → Checked
check_headed (capture f) port offset y s = check_records y (records_in (record { format = f; port = port; offset = offset }) (drop header_bytes s))
check_headed unknown port offset y s = checked_refused 30 0

-- R8, R9: "33 (offset above 99), also of an empty capture; 30 [..]; then record by record"
unfoldable pub checked_of : ℕ → ℕ → Seen → List ℕ → Checked
checked_of port offset y s = pick (leb offset 99) (check_headed (header_of s) port offset y s) (checked_refused 33 0)
