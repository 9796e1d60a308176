-- A capture call: the request's answer, on what the reader (crate capture) and the measurement (crate timing) say. This page is what a
-- reader must believe of it.
use Rattle.std.specs.Prelude.{◌≡◌, ◌*◌, Result, Ok, Err}
use Rattle.laws.specs.Kit.{List, ℕ, leb, ℤ, length, drop, sets}
use Rattle.laws.specs.Choose.{pick}
use Rattle.packet.specs.declared.Packet.{Packet}
use Rattle.capture.specs.Paper.{Checked}
use Rattle.capture.specs.Paper.{header_bytes, Header, capture, unknown, header_of, Records, none, done, records_in, handed_on, skipped_in}
use Rattle.capture.specs.Paper.{seen_from, checked_of}
use Rattle.frame.specs.Step.{row_width}
use Rattle.timing.specs.declared.State.{State}
use Rattle.timing.specs.Step.{rules_of, state_after, rows_after, numbers}
use Rattle.timing.specs.Range.{in_range}
use Rattle.timing.specs.declared.RefusedCall.{RefusedCall}
use Rattle.timing.specs.Feed.{NumberedCall, Fed}
use Rattle.timing.specs.Feed as F
use Rattle.refusal.specs.Refusal.{number}
use Rattle.intake.specs.declared.AcceptedCall.{AcceptedCall}

-- the records of a whole capture; those of none that is known are none
abbrev pub records_by : Header → ℕ → ℕ → List ℕ → Records
records_by (capture f) port offset b = records_in (record { format = f; port = port; offset = offset }) (drop header_bytes b)
records_by unknown port offset b = none done

abbrev pub records_of : ℕ → ℕ → List ℕ → Records
records_of port offset b = records_by (header_of b) port offset b

-- R7: "the packets handed on and the records skipped"
abbrev pub packets_of : ℕ → ℕ → List ℕ → List Packet
packets_of port offset b = handed_on (records_of port offset b).found

abbrev pub skipped_of : ℕ → ℕ → List ℕ → ℕ
skipped_of port offset b = skipped_in (records_of port offset b).found

-- R8: how a capture call is answered: "accepted, with the new state, the packets handed on and the records skipped", or "refused, with
-- number and place, state and rows as they were"
abbrev pub Taken : Type 0
Taken = Result AcceptedCall NumberedCall

abbrev pub taken_as : State → ℕ → ℕ → Taken
taken_as s handed skips = Ok (record { state = s; packets = handed; skipped = skips })

abbrev pub not_taken : ℕ → ℕ → State → Taken
not_taken number place s = Err (record { number = number; place = place; state = s })

-- the answer of the code, told so
abbrev pub taken_told : Result AcceptedCall RefusedCall → Taken
taken_told (Ok a) = Ok a
taken_told (Err r) = not_taken (number r.refusal) r.place r.state

-- the answer, and what the lent rows hold
pub record Outcome : Type 0 where
  pub answer : Taken
  pub rows : List ℤ

module _ (s : State) (rows : List ℤ) where
  -- R8, R11: "refused, with number and place, state and rows as they were"
  abbrev pub refused_by : ℕ → ℕ → Outcome
  refused_by number place = record { answer = not_taken number place s; rows = rows }

  -- R8: "accepted, with the new state, the packets handed on and the records skipped"
  abbrev pub accepted_as : List Packet → ℕ → Outcome
  accepted_as l skips = record {
    answer = taken_as (state_after (rules_of s.numbers) s l) (length l) skips;
    rows = sets rows 0 (numbers (rows_after (rules_of s.numbers) s l));
  }

  -- R8, R9: "15 last", at "the call's first packet's place"
  abbrev pub room_for : ℕ → List Packet → ℕ → Outcome
  room_for closed l skips = pick (leb (closed * row_width) (length rows)) (accepted_as l skips) (refused_by 15 s.past.packets)

  abbrev pub by_check : Checked → List Packet → ℕ → Outcome
  by_check (Ok seen) l skips = room_for seen.tally.closed l skips
  by_check (Err r) l skips = refused_by r.number r.place

  -- R8, R9: "Order: 9; 33 [..]; 30 [..]; then record by record 31 [..], 32 [..], 12 to 14 of the packet handed on; 15 last."
  unfoldable pub capture_of : ℕ → ℕ → List ℕ → Outcome
  capture_of port offset b =
      pick (in_range s)
      (by_check (checked_of port offset (seen_from s.past s.frames.begun) b) (packets_of port offset b) (skipped_of port offset b))
      (refused_by 9 0)

-- the outcome of a call with the packets handed on, as a capture call's: it tells their number, and how many records were skipped
abbrev pub fed_answer : Fed → ℕ → ℕ → Taken
fed_answer (Ok t) handed skips = taken_as t handed skips
fed_answer (Err r) handed skips = Err r

abbrev pub fed_as : F.Outcome → List Packet → ℕ → Outcome
fed_as o l skips = record { answer = fed_answer o.answer (length l) skips; rows = o.rows }

-- an answer and a list of rows are an outcome's
pub record TakeGives (o : Outcome) (answer : Taken) (rows : List ℤ) : Type 0 where
  pub answer_is : answer ≡ o.answer
  pub rows_are : rows ≡ o.rows
