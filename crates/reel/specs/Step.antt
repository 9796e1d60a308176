-- A capture in pieces, step by step: what its start answers, and what a call takes of a window and writes; what the contracts cite.
use Rattle.std.specs.Prelude.{◌≡◌, ◌++◌, ◌+◌, ◌-◌, ◌≤◌, ◌<◌, Result, Err, Ok, Option, Some, None}
use Rattle.laws.specs.Kit.{Bool, true, false, List, [], ℕ, zero, suc, ltb, leb, eqb, length, drop, sets}
use Rattle.laws.specs.Choose.{pick}
use Rattle.packet.specs.declared.Packet as packet
use Rattle.packet.specs.Step.{number_of}
use Rattle.text.specs.Lines.{refusal_line, line_room}
use Rattle.capture.specs.declared.Cursor.{Cursor}
use Rattle.capture.specs.Step.{Opened, ahead_end, ahead_wait}
use Rattle.capture.specs.Step.{AheadRead}
use Rattle.capture.specs.declared.Ahead.TheVariants.{Packet, Wait, End}
use Rattle.capture.specs.Step.{opened_of, between, ahead_of, rest_from}
use Rattle.timing.specs.declared.Rules.{Rules}
use Rattle.timing.specs.declared.State.{State}
use Rattle.timing.specs.Answers.{SetUp}
use Rattle.timing.specs.Step.{rules_of, step_of, rows_of}
use Rattle.timing.specs.Range.{in_range, Sound}
use Rattle.timing.specs.Answers.{stated_up}
use Rattle.printer.specs.Paper.{row_lines}
use Rattle.reel.specs.declared.Asked.{Asked}
use Rattle.reel.specs.declared.Reel.{Reel}
use Rattle.reel.specs.declared.TakeAnswer.{TakeAnswer}
use Rattle.reel.specs.Paper.{counted, captured_line, lines_of}

-- ---- the start of a capture

-- R16: more bytes are wanted, or the reel behind the header, or the number of the refusal
abbrev pub Threaded : Type 0
Threaded = Result (Option Reel) ℕ

abbrev pub threaded_ready : Reel → Threaded
threaded_ready reel = Ok (Some reel)

abbrev pub threaded_more : Threaded
threaded_more = Ok None

abbrev pub threaded_refused : ℕ → Threaded
threaded_refused number = Err number

abbrev pub open_by : Asked → State → Opened → Threaded
open_by a s (Ok None) = threaded_more
open_by a s (Err number) = threaded_refused number
open_by a s (Ok (Some f)) = threaded_ready (record {
  setting = record { format = f; port = a.port; offset = a.offset };
  cursor = between;
  state = s;
  records = 0;
  skipped = 0;
})

unfoldable pub ready_of : Asked → State → List ℕ → Bool → Threaded
ready_of a s w last = open_by a s (opened_of w last)

abbrev pub set_up_by : Asked → List ℕ → Bool → SetUp → Threaded
set_up_by a w last (Ok s) = pick (leb a.offset 99) (ready_of a s w last) (threaded_refused 33)
set_up_by a w last (Err number) = threaded_refused number

unfoldable pub begin_of : Asked → List ℕ → Bool → Threaded
begin_of a w last = set_up_by a w last (stated_up a.stated)

-- ---- a piece

-- what a call does: the reel after it, the bytes that it used, the text that it wrote, and whether the last line is in it
pub record TakeOutcome : Type 0 where
  pub reel : Reel
  pub used : ℕ
  pub text : List ℕ
  pub ended : Bool

-- so many skipped records were passed over
abbrev pub passed_by : Reel → Cursor → ℕ → Reel
passed_by reel c skips = record {
  setting = reel.setting;
  cursor = c;
  state = reel.state;
  records = counted (reel.records + skips);
  skipped = counted (reel.skipped + skips);
}

-- the line of what lies ahead, where that is no packet
unfoldable pub line_ahead : Reel → AheadRead → List ℕ
line_ahead reel (Ok (Packet p m n)) = []
line_ahead reel (Ok (Wait d m n)) = []
line_ahead reel (Ok (End m)) = captured_line reel.state (counted (reel.records + m)) (counted (reel.skipped + m))
line_ahead reel (Err r) = refusal_line r.number (counted (reel.records + r.skipped))

abbrev pub stays : Reel → TakeOutcome
stays reel = record { reel = reel; used = 0; text = []; ended = false }

abbrev pub ends : Reel → List ℕ → TakeOutcome
ends reel line = record { reel = reel; used = 0; text = line; ended = true }

abbrev pub stops_at : AheadRead → Reel → TakeOutcome
stops_at (Ok (Packet p m n)) reel = stays reel
stops_at (Ok (Wait d m n)) reel = record { reel = passed_by reel d m; used = n; text = []; ended = false }
stops_at (Ok (End m)) reel = ends reel (line_ahead reel (ahead_end m))
stops_at (Err r) reel = ends reel (line_ahead reel (Err r))

-- some bytes used and lines written, and then the rest
abbrev pub and_then : ℕ → List ℕ → TakeOutcome → TakeOutcome
and_then bytes lines k = record { reel = k.reel; used = bytes + k.used; text = lines ++ k.text; ended = k.ended }

-- the reel after a packet
abbrev pub at_packet : Rules → Reel → packet.Packet → ℕ → Reel
at_packet rules reel p skips = record {
  setting = reel.setting;
  cursor = between;
  state = step_of rules reel.state p;
  records = counted (counted (reel.records + skips) + 1);
  skipped = counted (reel.skipped + skips);
}

abbrev pub lines_at : Rules → Reel → packet.Packet → List ℕ
lines_at rules reel p = row_lines (rows_of rules reel.state p)

abbrev pub refused_line : Reel → packet.Packet → List ℕ
refused_line reel p = refusal_line (number_of reel.state.past p) reel.state.past.packets

-- a packet that is refused ends the call; `on` is what follows one that is not
abbrev pub packet_by : Rules → Reel → ℕ → (Reel → ℕ → ℕ → TakeOutcome) → packet.Packet → ℕ → ℕ → TakeOutcome
packet_by rules reel room on p m n =
    pick (eqb (number_of reel.state.past p) 0)
    (and_then n (lines_at rules reel p) (on (at_packet rules reel p m) n (room - length (lines_at rules reel p))))
    (ends reel (refused_line reel p))

abbrev pub ahead_by : Rules → Reel → ℕ → (Reel → ℕ → ℕ → TakeOutcome) → AheadRead → TakeOutcome
ahead_by rules reel room on (Ok (Packet p m n)) = packet_by rules reel room on p m n
ahead_by rules reel room on (Ok (Wait d m n)) = stops_at (ahead_wait d m n) reel
ahead_by rules reel room on (Ok (End m)) = stops_at (ahead_end m) reel
ahead_by rules reel room on (Err r) = stops_at (Err r) reel

-- packet by packet, by at most so many: while there is room for a line, until more is wanted or the last line is written
unfoldable pub roll_by : ℕ → Rules → Reel → List ℕ → Bool → ℕ → TakeOutcome
roll_by zero rules reel w last room = stays reel
roll_by (suc k) rules reel w last room =
    pick (ltb room line_room) (stays reel)
    (ahead_by rules reel room (λ next n left. roll_by k rules next (drop n w) last left) (ahead_of reel.setting reel.cursor w last))

-- a packet takes bytes, so that this many turns are enough
abbrev pub roll_of : Rules → Reel → List ℕ → Bool → ℕ → TakeOutcome
roll_of rules reel w last room = roll_by (suc (length w)) rules reel w last room

-- a call: no room for a line; 9 for a state that is not in range; else packet by packet
unfoldable pub take_of : Reel → List ℕ → Bool → ℕ → TakeOutcome
take_of reel w last room =
    pick (ltb room line_room) (stays reel)
    (pick (in_range reel.state) (roll_of (rules_of reel.state.numbers) reel w last room) (ends reel (refusal_line 9 0)))

-- what is used lies within 64 bits
abbrev pub AheadFits : AheadRead → ℕ → Type 0
AheadFits (Ok (Packet p m n)) used = Unit
AheadFits (Ok (Wait d m n)) used = used + n < 18446744073709551616
AheadFits (Ok (End m)) used = Unit
AheadFits (Err r) used = Unit

-- an answer does this, with so many bytes used and written before
pub record TakeGives (k : TakeOutcome) (used written : ℕ) (before : List ℕ) (r : TakeAnswer) (after : List ℕ) : Type 0 where
  pub reel_is : r.reel ≡ k.reel
  pub used_is : r.used ≡ used + k.used
  pub written_is : r.written ≡ written + length k.text
  pub ended_is : r.ended ≡ k.ended
  pub bytes : after ≡ sets before written k.text
  pub fits : r.written ≤ length before

-- what is still to be printed of the rest of a capture
abbrev pub rest_of : Rules → Reel → List ℕ → List ℕ
rest_of rules reel l = lines_of rules reel.state reel.records reel.skipped (rest_from reel.setting reel.cursor l)

abbrev pub rest_by : Reel → List ℕ → List ℕ
rest_by reel l = rest_of (rules_of reel.state.numbers) reel l

-- a reel that a capture can lead to: a state in range, and counts of 64 bits
pub record Stands (reel : Reel) : Type 0 where
  pub sound : Sound reel.state
  pub records : reel.records < 18446744073709551616
  pub skipped : reel.skipped < 18446744073709551616
