-- A file in pieces, step by step: what its start answers, and what a call takes of a window and writes; what the contracts cite.
use Rattle.std.specs.Prelude.{◌≡◌, ◌++◌, ◌+◌, ◌-◌, ◌/◌, ◌≤◌, Option, Err, Ok, Some, None, Result}
use Rattle.laws.specs.Kit.{Bool, false, not, List, [], ℕ, zero, suc, ltb, eqb, length, drop, sets}
use Rattle.laws.specs.Choose.{pick}
use Rattle.packet.specs.declared.Packet as packet
use Rattle.packet.specs.Step.{number_of}
use Rattle.text.specs.Lines.{refusal_line, line_room}
use Rattle.refusal.specs.Told.{Numbered}
use Rattle.record.specs.declared.Cursor.{Cursor}
use Rattle.record.specs.declared.FileNumbers.{FileNumbers}
use Rattle.record.specs.Step.{HeadRead, next_refused, next_end, next_more, NextRead, head_piece, next_piece}
use Rattle.record.specs.declared.Next.TheVariants.{Packet, End, More}
use Rattle.record.specs.Paper.{packet_bytes, head_bytes, heading}
use Rattle.record.specs.Walk.{numbers_of}
use Rattle.record.specs.Pieces.{wants_more}
use Rattle.timing.specs.declared.Rules.{Rules}
use Rattle.timing.specs.declared.State.{State}
use Rattle.timing.specs.Answers.{SetUp, set_up_as}
use Rattle.timing.specs.Step.{of_profile, rules_of, step_of, rows_of}
use Rattle.timing.specs.Range.{in_range}
use Rattle.timing.specs.Feed.{MakeAsks}
use Rattle.printer.specs.declared.Walk.{Walk}
use Rattle.printer.specs.declared.TakeAnswer.{TakeAnswer}
use Rattle.printer.specs.Paper.{row_lines, sum_line}

-- ---- the start of a file

-- F6: the start of a file as it is told: more bytes are wanted; the walk behind its head; or the number and the offset of its refusal
abbrev pub Opened : Type 0
Opened = Result (Option Walk) Numbered

abbrev pub opened_more : Opened
opened_more = Ok None

abbrev pub opened_ready : Walk → Opened
opened_ready walk = Ok (Some walk)

abbrev pub opened_refused : ℕ → ℕ → Opened
opened_refused number offset = Err (record { number = number; place = offset })

abbrev pub ready_by : SetUp → Cursor → Opened
ready_by (Ok s) c = opened_ready (record { at = c; state = s })
ready_by (Err number) c = opened_refused number 1

unfoldable pub ready_of : FileNumbers → Cursor → Opened
ready_of x c = ready_by (set_up_as (of_profile x.profile x.parameters)) c

abbrev pub head_by : HeadRead → Opened
head_by (Ok (Some r)) = ready_of (numbers_of (heading r.version r.kind r.parameters)) r.next
head_by (Ok None) = opened_more
head_by (Err r) = opened_refused r.number r.place

unfoldable pub begin_of : List ℕ → Bool → Opened
begin_of w last = head_by (head_piece w last)

-- document 01's number, 0 where nothing is refused, and its offset
abbrev pub opened_number : Opened → ℕ
opened_number (Ok None) = 0
opened_number (Err r) = r.number
opened_number (Ok (Some walk)) = 0

abbrev pub opened_offset : Opened → ℕ
opened_offset (Ok None) = 0
opened_offset (Err r) = r.place
opened_offset (Ok (Some walk)) = 0

-- a walk begins after the version byte and the parameters, of a window that has them
abbrev pub Headed : Opened → ℕ → Type 0
Headed (Ok None) bytes = Unit
Headed (Err r) bytes = Unit
Headed (Ok (Some walk)) bytes = head_bytes ≤ bytes

-- ---- a piece

-- what a call does: the walk after it, the bytes that it used, the text that it wrote, and whether the last line is in it
pub record TakeOutcome : Type 0 where
  pub walk : Walk
  pub used : ℕ
  pub text : List ℕ
  pub ended : Bool

-- the last line where this stands: none where more is wanted
unfoldable pub line_of : NextRead → State → List ℕ
line_of (Ok (Packet p c)) s = sum_line s
line_of (Ok End) s = sum_line s
line_of (Ok More) s = []
line_of (Err r) s = refusal_line r.number r.offset

abbrev pub stays : Walk → TakeOutcome
stays walk = record { walk = walk; used = 0; text = []; ended = false }

abbrev pub stops_at : NextRead → Walk → TakeOutcome
stops_at item walk = record { walk = walk; used = 0; text = line_of item walk.state; ended = not (wants_more item) }

-- some bytes used and lines written, and then the rest
abbrev pub and_then : ℕ → List ℕ → TakeOutcome → TakeOutcome
and_then bytes lines k = record { walk = k.walk; used = bytes + k.used; text = lines ++ k.text; ended = k.ended }

-- the walk after a packet
abbrev pub stepped : Rules → Walk → packet.Packet → Cursor → Walk
stepped rules walk p c = record { at = c; state = step_of rules walk.state p }

-- the lines of the row that a packet closes
abbrev pub lines_at : Rules → Walk → packet.Packet → List ℕ
lines_at rules walk p = row_lines (rows_of rules walk.state p)

-- a packet that is refused ends the walk before it is counted; `on` is what follows one that is not
abbrev pub packet_by : Rules → Walk → ℕ → (Walk → ℕ → TakeOutcome) → packet.Packet → Cursor → TakeOutcome
packet_by rules walk room on p c =
    pick (eqb (number_of walk.state.past p) 0)
    (and_then packet_bytes (lines_at rules walk p) (on (stepped rules walk p c) (room - length (lines_at rules walk p))))
    (stops_at (next_refused (number_of walk.state.past p) walk.at.at packet_bytes) walk)

abbrev pub item_by : Rules → Walk → ℕ → (Walk → ℕ → TakeOutcome) → NextRead → TakeOutcome
item_by rules walk room on (Ok (Packet p c)) = packet_by rules walk room on p c
item_by rules walk room on (Ok End) = stops_at next_end walk
item_by rules walk room on (Ok More) = stops_at next_more walk
item_by rules walk room on (Err r) = stops_at (next_refused r.number r.offset r.size) walk

-- record by record, by at most so many: while there is room for a line, until more is wanted or the last line is written
unfoldable pub walk_by : ℕ → Rules → Walk → List ℕ → Bool → ℕ → TakeOutcome
walk_by zero rules walk w last room = stays walk
walk_by (suc k) rules walk w last room =
    pick (ltb room line_room) (stays walk)
    (item_by rules walk room (λ next left. walk_by k rules next (drop packet_bytes w) last left) (next_piece walk.at.at w last))

-- a packet takes bytes, so that this many turns are enough
abbrev pub walk_of : Rules → Walk → List ℕ → Bool → ℕ → TakeOutcome
walk_of rules walk w last room = walk_by (suc (length w / packet_bytes)) rules walk w last room

-- a call: no room for a line; 9 for a state that is not in range; else record by record
unfoldable pub take_of : Walk → List ℕ → Bool → ℕ → TakeOutcome
take_of walk w last room =
    pick (ltb room line_room) (stays walk)
    (pick (in_range walk.state) (walk_of (rules_of walk.state.numbers) walk w last room) (stops_at (next_refused 9 0 0) walk))

-- ---- what the parts of the code ask and give

-- before the line of a row is put, where a marker closes one
pub record CloseAsks (rules : Rules) (s : State) (at room : ℕ) : Type 0 where
  pub makes : MakeAsks rules s
  pub fits : at + line_room ≤ room

-- an answer does this, with so many bytes used and written before
pub record TakeGives (k : TakeOutcome) (used written : ℕ) (before : List ℕ) (r : TakeAnswer) (after : List ℕ) : Type 0 where
  pub walk_is : r.walk ≡ k.walk
  pub used_is : r.used ≡ used + k.used
  pub written_is : r.written ≡ written + length k.text
  pub ended_is : r.ended ≡ k.ended
  pub bytes : after ≡ sets before written k.text
  pub fits : r.written ≤ length before
