-- The C functions: the sentences of document 01, each above what renders it, on what the reader (crate record) and the measurement
-- (crate timing) say of a file. This page is what a reader must believe of them.
use Rattle.std.specs.Prelude.{◌∷◌, ◌++◌, ◌*◌, Some, None, Ok, Err}
use Rattle.laws.specs.Kit.{List, [], map, ℕ, leb, eqb, ℤ, pos, length, drop}
use Rattle.std.proofs.Common.{of_z}
use Rattle.std.specs.Int.{w64}
use Rattle.laws.specs.Choose.{pick, or_else}
use Rattle.endian.specs.Number.{bytes_of}
use Rattle.packet.specs.declared.Packet.{Packet}
use Rattle.limits.specs.Paper.{profile_of}
use Rattle.timing.specs.declared.StreamNumbers.{StreamNumbers}
use Rattle.timing.specs.declared.Stated.{Stated}
use Rattle.timing.specs.declared.State.{State}
use Rattle.timing.specs.Step.{stream_with, stated_of, stated_refusal, frame_of, rules_of, fresh_of, state_after, rows_after, numbers}
use Rattle.timing.specs.Answers.{Awaited}
use Rattle.timing.specs.Answers.{summary_width, summary_of, stated_next, awaited_number}
use Rattle.frame.specs.declared.Row.{Row}
use Rattle.record.specs.Paper.{Heading, resolved, File, file, refused, file_of, file_in}

-- the state after the packets of a stream, and the rows of the frames that they close
abbrev pub state_of : StreamNumbers → List Packet → State
state_of x ps = state_after (rules_of x) (fresh_of x) ps

abbrev pub rows_of : StreamNumbers → List Packet → List Row
rows_of x ps = rows_after (rules_of x) (fresh_of x) ps

-- C1: "fills lent bytes with nine numbers (packets, frames, peak; [..]), then the rows"
abbrev pub report_of : StreamNumbers → List Packet → List ℤ
report_of x ps = map pos (summary_of (state_of x ps)) ++ numbers (rows_of x ps)

-- C3: "Each number is 8 bytes, signed, big-endian."
abbrev pub signed : ℤ → ℕ
signed z = of_z w64 z

unfoldable pub in_bytes : List ℕ → List ℕ
in_bytes [] = []
in_bytes (x ∷ xs) = bytes_of 8 x ++ in_bytes xs

abbrev pub encoded : List ℤ → List ℕ
encoded zs = in_bytes (map signed zs)

-- rows in bytes
abbrev pub row_bytes : List Row → List ℕ
row_bytes rs = encoded (numbers rs)

-- the bytes of a number, and of the nine that stand in front
abbrev pub number_bytes : ℕ
number_bytes = 8

abbrev pub summary_bytes : ℕ
summary_bytes = number_bytes * summary_width

-- F11, F13, F14: the stream numbers that a file sets up with, its profile among them, and the edition beside it
abbrev pub stream_of : ℕ → Heading → StreamNumbers
stream_of edition h = stream_with (profile_of h.kind) edition (resolved h)

-- the bytes of a file's report, by an edition
abbrev pub bytes_for : ℕ → Heading → List Packet → List ℕ
bytes_for edition h ps = encoded (report_of (stream_of edition h) ps)

-- C5: the refusal number and the offset: "both are 0 when accepted"
pub record Answer : Type 0 where
  pub number : ℕ
  pub offset : ℕ

abbrev pub answer : ℕ → ℕ → Answer
answer number offset = record { number = number; offset = offset }

-- C4: "Too few bytes is 15 at the file's length, after all else"
abbrev pub answered : ℕ → ℕ → ℕ → File → Answer
answered edition size room (file h ps) = pick (leb (length (bytes_for edition h ps)) room) (answer 0 0) (answer 15 size)
answered edition size room (refused number offset) = answer number offset

-- F13: what is answered of a file, an edition beside it and so many lent bytes
unfoldable pub answer_of : ℕ → List ℕ → ℕ → Answer
answer_of edition s room = answered edition (length s) room (file_in edition s)

-- X1: how many lent bytes are enough: those of the report; none are needed to be told of a refusal. No edition is asked for: the reports of both
-- are as long (`room_is` in demands)
abbrev pub room_for : File → ℕ
room_for (file h ps) = length (bytes_for 1 h ps)
room_for (refused number offset) = 0

unfoldable pub room_of : List ℕ → ℕ
room_of s = room_for (file_of s)

-- C1, C4: "bytes beyond stay"; "refused, it writes nothing"
abbrev pub filled : ℕ → List ℕ → File → List ℕ
filled edition out (file h ps) =
    let bytes = bytes_for edition h ps in
    pick (leb (length bytes) (length out)) (bytes ++ drop (length bytes) out) out
filled edition out (refused number offset) = out

-- and what the lent bytes hold then
unfoldable pub filled_by : ℕ → List ℕ → List ℕ → List ℕ
filled_by edition s out = filled edition out (file_in edition s)

-- X2: a stream's frame length and TRO in grains, C_MAX and VRX_FULL in packets
abbrev pub limits_of : StreamNumbers → List ℕ
limits_of x = frame_of x ∷ (rules_of x).plan.tro ∷ (rules_of x).limit ∷ (rules_of x).plan.full ∷ []

-- X2, S13: 22 for a kind that chooses no profile, 1 to 7 of set-up; then 15 where fewer than the four numbers are lent
unfoldable pub limits_number : Stated → ℕ → ℕ
limits_number x room = or_else (stated_refusal x) (pick (leb 4 room) 0 15)

unfoldable pub limits_left : Stated → List ℕ → List ℕ
limits_left x out = pick (eqb (limits_number x (length out)) 0) (limits_of (stated_of x) ++ drop 4 out) out

-- C6, P21: whether a read is left, 1 or 0, and the numerator and the denominator of how long it is until the next; 0 where there is none
abbrev pub awaited_numbers : Awaited → List ℕ
awaited_numbers (Ok (Some w)) = 1 ∷ w.num ∷ w.den ∷ []
awaited_numbers (Ok None) = 0 ∷ 0 ∷ 0 ∷ []
awaited_numbers (Err number) = []

-- C6, N14, S13: 22 for a kind that chooses no profile, 1 to 7, 12 and 13; then 15 where fewer than the three numbers are lent
unfoldable pub next_read_number : Stated → ℕ → ℕ → ℕ → ℕ
next_read_number x first t room = or_else (awaited_number (stated_next x first t)) (pick (leb 3 room) 0 15)

unfoldable pub next_read_left : Stated → ℕ → ℕ → List ℕ → List ℕ
next_read_left x first t out =
    pick (eqb (next_read_number x first t (length out)) 0) (awaited_numbers (stated_next x first t) ++ drop 3 out) out
