-- A capture piece by piece: what stands in front of a window, and a reader that passes over a record's bytes before it tells what became
-- of it; what the contracts cite.
use Rattle.std.specs.Prelude.{◌≡◌, ◌+◌, ◌-◌, ◌≤◌, ◌<◌, Result, Err, Ok, Option, Some, None}
use Rattle.laws.specs.Kit.{Bool, true, List, ℕ, zero, suc, ltb, leb, eqb, min, length, drop}
use Rattle.laws.specs.Choose.{pick}
use Rattle.headers.specs.Paper.{Handed}
use Rattle.headers.specs.Step.{matter, handed_of}
use Rattle.packet.specs.declared.Packet as Packets
use Rattle.packet.specs.Paper.{Scanned}
use Rattle.packet.specs.Step.{number_of, tally_of}
use Rattle.capture.specs.declared.Format.{Format}
use Rattle.capture.specs.declared.Setting.{Setting}
use Rattle.capture.specs.declared.Told.{Told}
use Rattle.capture.specs.declared.Told.TheVariants.{Packet, Skipped, Late}
use Rattle.capture.specs.declared.Front.{Front}
use Rattle.capture.specs.declared.Front.TheVariants as front
use Rattle.capture.specs.declared.Cursor.{Cursor}
use Rattle.capture.specs.declared.Next.{Next}
use Rattle.capture.specs.declared.Next.TheVariants as next
use Rattle.capture.specs.declared.Ahead.{Ahead}
use Rattle.capture.specs.declared.Ahead.TheVariants as ahead
use Rattle.capture.specs.declared.RefusedAhead.{RefusedAhead}
use Rattle.capture.specs.declared.HandedOn.{HandedOn}
use Rattle.refusal.specs.Refusal.{number}
use Rattle.refusal.specs.Told.{Numbered}
use Rattle.capture.specs.declared.Seen.{Seen}
use Rattle.capture.specs.Paper.{Checked, checked_refused}
use Rattle.capture.specs.Paper.{header_bytes, record_bytes, Header, capture, unknown, header_of, seconds_at, sub_at, captured_at}
use Rattle.capture.specs.Paper.{arrival_of, late, Found, packet, skipped, Ending, done, stopped, Records, none, more, records_in}
use Rattle.capture.specs.Paper.{handed_on, skipped_in, with_packet, with_skipped}

-- ---- the header

-- R2, R8: the capture's format, or that more bytes are wanted; or 30
abbrev pub Opened : Type 0
Opened = Result (Option Format) ℕ

abbrev pub opened_as : Format → Opened
opened_as f = Ok (Some f)

-- the format that a header tells
abbrev pub format_in : Header → Option Format
format_in (capture f) = Some f
format_in unknown = None

abbrev pub opened_by : Option Format → Opened
opened_by (Some f) = opened_as f
opened_by None = Err 30

-- R14: of a window on the file's first bytes; `last`: no more will come
unfoldable pub opened_of : List ℕ → Bool → Opened
opened_of w last = pick (ltb (length w) header_bytes) (pick last (Err 30) (Ok None)) (opened_by (format_in (header_of w)))

-- ---- a record

abbrev pub found_told : ℕ → Handed → Told
found_told t (Some r) = Packet (record { time = t; stamp = r.stamp; marker = r.marker })
found_told t None = Skipped

-- R8, R14: what a record says, of a window that shows all of it that can matter
unfoldable pub told_of : Setting → List ℕ → Told
told_of p w =
    pick (late p.format w) Late
    (found_told (arrival_of p (seconds_at p.format w) (sub_at p.format w))
    (handed_of (drop record_bytes w) (captured_at p.format w) p.port))

-- R8, R14: what stands in front, or 31
abbrev pub FrontRead : Type 0
FrontRead = Result Front ℕ

abbrev pub front_record : Told → ℕ → FrontRead
front_record told size = Ok (front.Record told size)

abbrev pub front_end : FrontRead
front_end = Ok front.End

abbrev pub front_more : FrontRead
front_more = Ok front.More

abbrev pub front_cut : FrontRead
front_cut = Err 31

abbrev pub record_of : Setting → List ℕ → Front
record_of p w = front.Record (told_of p w) (record_bytes + captured_at p.format w)

-- R8, R14: what stands in front of a window
unfoldable pub front_of : Setting → List ℕ → Bool → FrontRead
front_of p w last =
    pick (eqb (length w) 0) (pick last front_end front_more)
    (pick (ltb (length w) record_bytes) (pick last front_cut front_more)
    (pick (leb (captured_at p.format w) (length w - record_bytes)) (Ok (record_of p w))
    (pick last front_cut
    (pick (leb matter (length w - record_bytes)) (Ok (record_of p w)) front_more))))

-- ---- the reader

-- what is said of a window; or 31, or 32
abbrev pub NextRead : Type 0
NextRead = Result Next ℕ

abbrev pub next_packet : Packets.Packet → ℕ → NextRead
next_packet p used = Ok (next.Packet p used)

abbrev pub next_skipped : ℕ → NextRead
next_skipped used = Ok (next.Skipped used)

abbrev pub next_more : Cursor → ℕ → NextRead
next_more c used = Ok (next.More c used)

abbrev pub next_end : NextRead
next_end = Ok next.End

abbrev pub between : Cursor
between = record { left = 0; told = Skipped }

-- R14: "31 comes before 32 and the packet's refusals, so in pieces a record's answer counts only once its captured bytes have passed"
abbrev pub settled_by : Told → ℕ → NextRead
settled_by (Packet p) used = next_packet p used
settled_by Skipped used = next_skipped used
settled_by Late used = Err 32

unfoldable pub passed_of : Cursor → List ℕ → Bool → NextRead
passed_of c w last =
    pick (ltb (length w) c.left)
    (pick last (Err 31) (next_more (record { left = c.left - length w; told = c.told }) (length w)))
    (settled_by c.told c.left)

abbrev pub begun_by : List ℕ → Bool → FrontRead → NextRead
begun_by w last (Ok (front.Record told size)) = passed_of (record { left = size; told = told }) w last
begun_by w last (Ok front.End) = next_end
begun_by w last (Ok front.More) = next_more between 0
begun_by w last (Err number) = Err number

unfoldable pub next_of : Setting → Cursor → List ℕ → Bool → NextRead
next_of p c w last = pick (eqb c.left 0) (begun_by w last (front_of p w last)) (passed_of c w last)

-- what the rest of a file holds: from a record that was told on, and from a cursor
abbrev pub tell_by : Told → Records → Records
tell_by (Packet p) r = more (packet p) r
tell_by Skipped r = more skipped r
tell_by Late r = none (stopped 32)

unfoldable pub rest_from : Setting → Cursor → List ℕ → Records
rest_from p c l =
    pick (eqb c.left 0) (records_in p l)
    (pick (ltb (length l) c.left) (none (stopped 31)) (tell_by c.told (records_in p (drop c.left l))))

-- ---- a window, with its skipped records passed over

-- R14: a refusal that lies ahead: its number, and how many records were skipped before it
pub record NumberedAhead : Type 0 where
  pub number : ℕ
  pub skipped : ℕ

-- what lies ahead; or 31, or 32
abbrev pub AheadRead : Type 0
AheadRead = Result Ahead NumberedAhead

abbrev pub ahead_packet : Packets.Packet → ℕ → ℕ → AheadRead
ahead_packet p skips used = Ok (ahead.Packet p skips used)

abbrev pub ahead_wait : Cursor → ℕ → ℕ → AheadRead
ahead_wait c skips used = Ok (ahead.Wait c skips used)

abbrev pub ahead_end : ℕ → AheadRead
ahead_end skips = Ok (ahead.End skips)

abbrev pub ahead_refused : ℕ → ℕ → AheadRead
ahead_refused number skips = Err (record { number = number; skipped = skips })

-- the answer of the code, told so
abbrev pub ahead_told : Result Ahead RefusedAhead → AheadRead
ahead_told (Ok a) = Ok a
ahead_told (Err r) = ahead_refused (number r.refusal) r.skipped

-- what was said behind so many bytes and skipped records
unfoldable pub behind_by : ℕ → ℕ → Next → Ahead
behind_by used skips (next.Packet p n) = ahead.Packet p skips (used + n)
behind_by used skips (next.Skipped n) = ahead.End skips
behind_by used skips (next.More c n) = ahead.Wait c skips (used + n)
behind_by used skips next.End = ahead.End skips

-- by at most so many records
abbrev pub ahead_next : (ℕ → AheadRead) → ℕ → ℕ → NextRead → AheadRead
ahead_next on used skips (Ok (next.Packet p n)) = Ok (behind_by used skips (next.Packet p n))
ahead_next on used skips (Ok (next.Skipped n)) = on n
ahead_next on used skips (Ok (next.More c n)) = Ok (behind_by used skips (next.More c n))
ahead_next on used skips (Ok next.End) = Ok (behind_by used skips next.End)
ahead_next on used skips (Err number) = ahead_refused number skips

unfoldable pub ahead_by : ℕ → Setting → Cursor → List ℕ → Bool → ℕ → ℕ → AheadRead
ahead_by zero p c w last used skips = ahead_end skips
ahead_by (suc k) p c w last used skips =
    ahead_next (λ n. ahead_by k p between (drop n w) last (used + n) (skips + 1)) used skips (next_of p c w last)

unfoldable pub ahead_of : Setting → Cursor → List ℕ → Bool → AheadRead
ahead_of p c w last = ahead_by (suc (length w)) p c w last 0 0

-- so many skipped records, and then others
unfoldable pub skipping : ℕ → Records → Records
skipping zero r = r
skipping (suc k) r = more skipped (skipping k r)

-- what is used lies within 64 bits
abbrev pub UsedFits : Next → ℕ → Type 0
UsedFits (next.Packet p n) used = used + n < 18446744073709551616
UsedFits (next.Skipped n) used = Unit
UsedFits (next.More c n) used = used + n < 18446744073709551616
UsedFits next.End used = Unit

-- ---- a capture, by its packets handed on

-- what was seen of some records, where none of their packets is refused
unfoldable pub seen_all : Seen → List Found → Seen
seen_all y xs = record {
  tally = tally_of y.tally (handed_on xs);
  records = y.records + length xs;
  skipped = y.skipped + skipped_in xs;
}

-- R8: a packet that the scan refuses comes before the record at which the file stops
abbrev pub checked_by : Scanned → Seen → Ending → Checked
checked_by (Err r) y e = Err r
checked_by (Ok closed) y done = Ok y
checked_by (Ok closed) y (stopped number) = checked_refused number y.records

-- ---- packet by packet

-- the packets handed on in the rest of a file
abbrev pub handed_in : Setting → List ℕ → List Packets.Packet
handed_in p l = handed_on (records_in p l).found

-- the first of them, and where the record behind it stands; or there is none
abbrev pub Sought : Type 0
Sought = Option HandedOn

abbrev pub sought_at : Packets.Packet → ℕ → Sought
sought_at q at = Some (record { packet = q; next = at })

-- by at most so many records
abbrev pub sought_by : (ℕ → List ℕ → Sought) → ℕ → List ℕ → Told → ℕ → Sought
sought_by on at l (Packet q) size = sought_at q (at + size)
sought_by on at l Skipped size = on (at + size) (drop size l)
sought_by on at l Late size = None

abbrev pub seek_front : (ℕ → List ℕ → Sought) → ℕ → List ℕ → FrontRead → Sought
seek_front on at l (Ok (front.Record told size)) = sought_by on at l told size
seek_front on at l (Ok front.End) = None
seek_front on at l (Ok front.More) = None
seek_front on at l (Err r) = None

unfoldable pub seek_by : ℕ → Setting → ℕ → List ℕ → Sought
seek_by zero p at l = None
seek_by (suc k) p at l = seek_front (seek_by k p) at l (front_of p l true)

unfoldable pub sought_of : Setting → ℕ → List ℕ → Sought
sought_of p at s = seek_by (length (drop at s)) p at (drop at s)

-- ---- what the parts of the code ask and give

-- a window shows all that a record's answer hangs on
pub record Enough (f : Format) (w : List ℕ) (captured : ℕ) : Type 0 where
  pub sixteen : record_bytes ≤ length w
  pub read : captured ≡ captured_at f w
  pub small : captured < 4294967296
  pub shown : record_bytes + min captured matter ≤ length w

-- a record that is not skipped ends the search
unfoldable pub found_of : Told → ℕ → Sought
found_of (Packet q) at = sought_at q at
found_of Skipped at = None
found_of Late at = None

-- the number by which a record is refused, 0 where it is not
unfoldable pub refusal_of : Seen → Told → ℕ
refusal_of y (Packet p) = number_of y.tally.past p
refusal_of y Skipped = 0
refusal_of y Late = 32

-- R9: and its place then: its packet's in the history, or its own
unfoldable pub refused_at : Seen → Told → ℕ
refused_at y (Packet p) = y.tally.past.packets
refused_at y Skipped = y.records
refused_at y Late = y.records

-- R8, R9: whether a record is accepted; else by what it is refused, and where
unfoldable pub admitted_of : Seen → Told → Result Unit Numbered
admitted_of y told =
    pick (eqb (refusal_of y told) 0) (Ok tt) (Err (record { number = refusal_of y told; place = refused_at y told }))

-- with one record more
unfoldable pub seen_of : Seen → Told → Seen
seen_of y (Packet p) = with_packet y p
seen_of y Skipped = with_skipped y
seen_of y Late = y

-- another record may be counted
pub record Room (y : Seen) : Type 0 where
  pub few : y.records < 18446744073709551615
  pub no_more : y.skipped ≤ y.records
  pub closed : y.tally.closed ≤ y.tally.past.packets
