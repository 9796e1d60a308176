-- Feeding a call's packets: what each part of the code asks and gives, and the whole call, refusals included.
use Rattle.std.specs.Prelude.{◌≡◌, ◌∷◌, ◌++◌, ◌+◌, ◌*◌, ◌≤◌, ◌<◌, Result, Err, Ok}
use Rattle.laws.specs.Kit.{true, List, [], ℕ, eqb, leb, ℤ, length, sets}
use Rattle.laws.specs.Choose.{pick}
use Rattle.packet.specs.declared.Past.{Past}
use Rattle.packet.specs.Paper.{Scanned}
use Rattle.refusal.specs.Refusal.{number}
use Rattle.refusal.specs.Told.{Numbered}
use Rattle.packet.specs.declared.Packet.{Packet}
use Rattle.packet.specs.Paper.{packets}
use Rattle.packet.specs.Step.{since_of, next_of, number_of, scan_of, scanned_of, scanned_number, scanned_place, scanned_closed}
use Rattle.frame.specs.declared.Row.{Row}
use Rattle.frame.specs.Step as F
use Rattle.frame.specs.Step.{row_width}
use Rattle.frame.specs.Range.{Planned, PushAsks, FramesRowAsks}
use Rattle.timing.specs.declared.RefusedCall.{RefusedCall}
use Rattle.timing.specs.declared.Rules.{Rules}
use Rattle.timing.specs.declared.State.{State}
use Rattle.timing.specs.Step.{rules_of, gone_of, left_of, state_after, rows_after, numbers}
use Rattle.timing.specs.Range.{in_range, Sound}

-- ---- what the parts ask and give

-- before a packet that arrives at t
pub record ArriveAsks (rules : Rules) (s : State) (t : ℕ) : Type 0 where
  pub few : s.past.packets < 1000000000
  pub order : s.past.last ≤ t
  pub apart : 0 < rules.drains.num
  pub since : since_of s.past t ≤ 600000000000
  pub reach : left_of rules s t < 18446744073709551616
  pub level : s.bucket.level ≤ s.past.packets
  pub planned : Planned rules.plan
  pub push : s.frames.begun ≡ true → PushAsks rules.plan s.frames.current (gone_of s t)

-- V10: the row of the open frame, which the last packet closes; packets are counted since set-up
abbrev pub closed_row : Rules → State → Row
closed_row rules s = F.closed_row rules.plan s.frames s.past.packets

-- the row that a marker closes, if the lead-in is over
abbrev pub closing : Rules → State → List Row
closing rules s = pick s.frames.begun (closed_row rules s ∷ []) []

-- before that row is made
pub record MakeAsks (rules : Rules) (s : State) : Type 0 where
  pub planned : Planned rules.plan
  pub made : s.frames.begun ≡ true → FramesRowAsks rules.plan s.frames s.past.packets

-- ---- a list of packets that is accepted

-- each packet, against what came before it, is refused by none of 11 to 14
unfoldable pub Passes : Past → List Packet → Type 0
Passes past [] = Unit
Passes past (p ∷ ps) = (number_of past p ≡ 0) × Passes (next_of past p.time) ps

-- the rules are the stream's, and the state is in range: so it stays, packet by packet
pub record Going (rules : Rules) (s : State) : Type 0 where
  pub rules_are : rules ≡ rules_of s.numbers
  pub sound : Sound s

-- Rows are written as numbers, as bytes or as lines: `w` says how.
module _ {A : Type 0} (w : List Row → List A) where
  -- before the row that a marker closes is written at `at`, where so much has room
  pub record LayAsks (rules : Rules) (s : State) (at room : ℕ) : Type 0 where
    pub makes : MakeAsks rules s
    pub fits : at + length (w (closing rules s)) ≤ room

  -- what a run through a list needs: packets that pass, and room for the rows from `at` on
  pub record RunAsks (rules : Rules) (s : State) (l : List Packet) (at room : ℕ) : Type 0 where
    pub going : Going rules s
    pub passes : Passes s.past l
    pub fits : at + length (w (rows_after rules s l)) ≤ room

  -- and what it gives
  pub record RunGives (rules : Rules) (s : State) (l : List Packet) (at : ℕ) (before : List A) (state : State) (after : List A) : Type 0 where
    pub state_is : state ≡ state_after rules s l
    pub rows_are : after ≡ sets before at (w (rows_after rules s l))

-- ---- the whole call

-- N11, P2: a call that is refused: the number and the place, and the state as it was
pub record NumberedCall : Type 0 where
  pub number : ℕ
  pub place : ℕ
  pub state : State

-- P2: the state after the call, or how it is refused
abbrev pub Fed : Type 0
Fed = Result State NumberedCall

abbrev pub not_fed : ℕ → ℕ → State → Fed
not_fed number place s = Err (record { number = number; place = place; state = s })

-- the answer of the code, told so
abbrev pub fed_told : Result State RefusedCall → Fed
fed_told (Ok s) = Ok s
fed_told (Err r) = not_fed (number r.refusal) r.place r.state

-- P2: the answer, and what the lent rows hold
pub record Outcome : Type 0 where
  pub answer : Fed
  pub rows : List ℤ

module _ (s : State) (rows : List ℤ) where
  -- N11, D1d: "A refused call accepts none of its packets, returns the number and the packet's place in the history [..], state and rows
  -- unchanged."
  abbrev pub refused_by : ℕ → ℕ → Outcome
  refused_by number place = record { answer = not_fed number place s; rows = rows }

  abbrev pub accepted_as : List Packet → Outcome
  accepted_as l = record {
    answer = Ok (state_after (rules_of s.numbers) s l);
    rows = sets rows 0 (numbers (rows_after (rules_of s.numbers) s l));
  }

  -- N1, N8, N12: "15 is given below eleven numbers per frame" closed in this call, with "the call's first packet's" place
  abbrev pub room_for : ℕ → List Packet → Outcome
  room_for closed l = pick (leb (closed * row_width) (length rows)) (accepted_as l) (refused_by 15 s.past.packets)

  abbrev pub by_scan : Scanned → List Packet → Outcome
  by_scan (Ok closed) l = room_for closed l
  by_scan (Err r) l = refused_by r.number r.place

  -- P3, D1c: the answer to packets lent in slices of one length
  unfoldable pub feed_all : List Packet → Outcome
  feed_all l = pick (in_range s) (by_scan (scan_of s.past s.frames.begun 0 l) l) (refused_by 9 0)

  -- N10, D1c: "Order: 9, 10, then packet by packet 11 to 14, then 15."
  unfoldable pub feed_of : List ℕ → List ℕ → List ℕ → Outcome
  feed_of ts ss ms =
      pick (in_range s) (by_scan (scanned_of s.past s.frames.begun ts ss ms) (packets ts ss ms)) (refused_by 9 0)

-- ---- the refusals of a call, in their order

-- one refusal; number 0 means that there is none
abbrev refusal : ℕ → ℕ → Numbered
refusal number place = record { number = number; place = place }

-- the first that is one
abbrev pub first_of : List Numbered → Numbered
first_of [] = refusal 0 0
first_of (r ∷ more) = pick (eqb r.number 0) (first_of more) r

-- N4: "9": the state is out of its ranges
abbrev pub range_number : State → ℕ
range_number s = pick (in_range s) 0 9

module _ (s : State) (rows : List ℤ) (ts ss ms : List ℕ) where
  abbrev scanned : Scanned
  scanned = scanned_of s.past s.frames.begun ts ss ms

  -- N8: "15 is given below eleven numbers per frame" closed in this call
  abbrev pub room_number : ℕ
  room_number = pick (leb (scanned_closed scanned * row_width) (length rows)) 0 15

  -- N10, N12: "Order: 9, 10, then packet by packet 11 to 14, then 15."; "the packet's place in the history (0 for 1 to 10 and 24, the
  -- call's first packet's for 15)"
  abbrev pub refusals : List Numbered
  refusals = refusal (range_number s) 0 ∷ refusal (scanned_number scanned) (scanned_place scanned) ∷ refusal room_number s.past.packets ∷ []

-- what an answer says of a refusal
abbrev pub fed_refusal : Fed → Numbered
fed_refusal (Ok s) = refusal 0 0
fed_refusal (Err r) = refusal r.number r.place

-- an answer and a list of rows are an outcome's
pub record FeedGives (o : Outcome) (answer : Fed) (rows : List ℤ) : Type 0 where
  pub answer_is : answer ≡ o.answer
  pub rows_are : rows ≡ o.rows

-- ---- call after call

-- one call: its packets, and the row numbers that it is lent
pub record Call : Type 0 where
  pub packets : List Packet
  pub rows : List ℤ

-- the packets of the calls, in order
unfoldable pub all_of : List Call → List Packet
all_of [] = []
all_of (c ∷ cs) = c.packets ++ all_of cs

-- what a call writes: the numbers of the rows of the frames that it closes, one row after the other
abbrev pub writes : State → Call → List ℤ
writes s c = numbers (rows_after (rules_of s.numbers) s c.packets)

-- V4: a call is accepted: the state after it, and what it writes laid from the front of its rows; "unused row numbers stay untouched"
abbrev pub Accepts : State → Call → State → Type 0
Accepts s c t = feed_all s c.rows c.packets ≡ record { answer = Ok t; rows = sets c.rows 0 (writes s c) }

-- N11: a call is refused: it names the number and the place, and leaves state and rows
abbrev pub Refuses : State → Call → ℕ → ℕ → Type 0
Refuses s c number place = feed_all s c.rows c.packets ≡ refused_by s c.rows number place

-- D3a: each call is accepted, from the state that the one before it gave; what they write, one after the other
pub data Deals : State → List Call → State → List ℤ → Type 0 where
  none : {s : State} → Deals s [] s []
  call : {s t u : State} {c : Call} {cs : List Call} {more : List ℤ} → Accepts s c t → Deals t cs u more
      → Deals s (c ∷ cs) u (writes s c ++ more)

-- N13: each call is accepted, up to the first that is refused, which names this number and place
pub data Stops : State → List Call → ℕ → ℕ → Type 0 where
  here : {s : State} {c : Call} {cs : List Call} {number place : ℕ} → Refuses s c number place → Stops s (c ∷ cs) number place
  later : {s t : State} {c : Call} {cs : List Call} {number place : ℕ} → Accepts s c t → Stops t cs number place
      → Stops s (c ∷ cs) number place

-- each call has room for the rows of the frames that it closes
unfoldable pub Rooms : State → List Call → Type 0
Rooms s [] = Unit
Rooms s (c ∷ cs) =
    (length (rows_after (rules_of s.numbers) s c.packets) * row_width ≤ length c.rows)
    × Rooms (state_after (rules_of s.numbers) s c.packets) cs
