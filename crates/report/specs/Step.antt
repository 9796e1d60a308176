-- A file measured part by part: what each part of the code asks and gives, in the words of Paper.
use Rattle.std.specs.Prelude.{◌≡◌, ◌∷◌, ◌+◌, ◌*◌, ◌≤◌, Err, Ok, Result}
use Rattle.laws.specs.Kit.{List, ℕ, leb, ℤ, length, drop}
use Rattle.std.specs.Prelude.{Float}
use Rattle.laws.specs.Choose.{pick, or_else}
use Rattle.packet.specs.declared.Packet.{Packet}
use Rattle.packet.specs.Paper.{packets}
use Rattle.packet.specs.Step.{nothing}
use Rattle.frame.specs.Step.{row_width}
use Rattle.timing.specs.declared.StreamNumbers.{StreamNumbers}
use Rattle.timing.specs.declared.Stated.{Stated}
use Rattle.timing.specs.declared.State.{State}
use Rattle.timing.specs.Answers.{Drawn}
use Rattle.timing.specs.Step.{stream_with, set_up_of, rules_of, fresh_of}
use Rattle.timing.specs.Answers.{summary_width, graph_of, drawn_number}
use Rattle.timing.specs.Feed.{RunGives}
use Rattle.record.specs.declared.FileNumbers.{FileNumbers}
use Rattle.record.specs.Paper.{head_bytes, Heading, done, packets_in, File, file, refused, file_in}
use Rattle.record.specs.Layout.{bytes_in}
use Rattle.record.specs.Write.{written_of, written_number, left_by}
use Rattle.refusal.specs.Told.{Numbered}
use Rattle.report.specs.Paper.{rows_of, row_bytes, number_bytes, summary_bytes, stream_of, bytes_for, answer_of, filled_by, limits_number}
use Rattle.report.specs.Paper.{limits_left}
use Rattle.report.specs.Paper.{next_read_number, next_read_left}

-- the bytes of some numbers in front, and of a row for each frame closed; nine stand in front of a file's rows
abbrev pub needed_behind : ℕ → ℕ → ℕ
needed_behind front closed = number_bytes * (front + closed * row_width)

abbrev pub needed : ℕ → ℕ
needed closed = needed_behind summary_width closed

-- F13, F14: what the check says that a file sets up with, and the edition beside it
abbrev pub stream_in : ℕ → FileNumbers → StreamNumbers
stream_in edition x = stream_with x.profile edition x.parameters

-- what is lent for a file: its stream numbers, or the number and the offset of the refusal
abbrev pub Asked : Type 0
Asked = Result StreamNumbers Numbered

abbrev pub not_asked : ℕ → ℕ → Asked
not_asked number offset = Err (record { number = number; place = offset })

-- a file and the room for its report
abbrev pub as_asked : ℕ → ℕ → ℕ → File → Asked
as_asked edition size room (file h ps) = pick (leb (length (bytes_for edition h ps)) room) (Ok (stream_of edition h)) (not_asked 15 size)
as_asked edition size room (refused number offset) = not_asked number offset

unfoldable pub asked_of : ℕ → List ℕ → ℕ → Asked
asked_of edition s room = as_asked edition (length s) room (file_in edition s)

-- document 01's number, 0 where nothing is refused, and its offset
abbrev pub asked_number : Asked → ℕ
asked_number (Ok r) = 0
asked_number (Err r) = r.number

abbrev pub asked_offset : Asked → ℕ
asked_offset (Ok r) = 0
asked_offset (Err r) = r.place

-- ---- the packets of a file that is fine: they come after its head

abbrev pub packets_of : List ℕ → List Packet
packets_of s = (packets_in nothing head_bytes (drop head_bytes s)).accepted

-- nothing is refused, and the rows fit behind the nine numbers
pub record MeasureAsks (x : StreamNumbers) (s : List ℕ) (room : ℕ) : Type 0 where
  pub set_up : set_up_of x ≡ 0
  pub whole : (packets_in nothing head_bytes (drop head_bytes s)).ending ≡ done
  pub fits : summary_bytes + length (row_bytes (rows_of x (packets_of s))) ≤ room

-- the state after the packets, and their rows put behind the nine numbers
abbrev pub MeasureGives : StreamNumbers → List ℕ → List ℕ → State → List ℕ → Type 0
MeasureGives x s before state after = RunGives row_bytes (rules_of x) (fresh_of x) (packets_of s) summary_bytes before state after

-- ---- the C functions: the number, and what the lent slice holds then

pub record CallGives (edition : ℕ) (s out : List ℕ) (number : ℕ) (after : List ℕ) : Type 0 where
  pub number_is : number ≡ (answer_of edition s (length out)).number
  pub bytes_are : after ≡ filled_by edition s out

-- X4: the writer for C: the number, and what it leaves in the lent bytes
pub record WriteGives (h : Heading) (ts ss ms out : List ℕ) (number : ℕ) (after : List ℕ) : Type 0 where
  pub number_is : number ≡ written_number (written_of h ts ss ms (length out))
  pub bytes_are : after ≡ left_by (written_of h ts ss ms (length out)) (bytes_in h (packets ts ss ms)) out

pub record LimitsGives (x : Stated) (out : List ℕ) (number : ℕ) (after : List ℕ) : Type 0 where
  pub number_is : number ≡ limits_number x (length out)
  pub numbers_are : after ≡ limits_left x out

-- three numbers in front, or 15 where fewer are lent
pub record ThreeGive (a b c : ℕ) (out : List ℕ) (number : ℕ) (after : List ℕ) : Type 0 where
  pub number_is : number ≡ pick (leb 3 (length out)) 0 15
  pub numbers_are : after ≡ pick (leb 3 (length out)) (a ∷ b ∷ c ∷ drop 3 out) out

-- C6: the next read of a packet at t, in a frame whose first packet came at `first`
pub record NextReadGives (x : Stated) (first t : ℕ) (out : List ℕ) (number : ℕ) (after : List ℕ) : Type 0 where
  pub number_is : number ≡ next_read_number x first t (length out)
  pub numbers_are : after ≡ next_read_left x first t out

-- X3: 16 of the graph; then 15 where fewer than the three doubles are lent
abbrev pub draw_number : Drawn → ℕ → ℕ
draw_number d room = or_else (drawn_number d) (pick (leb 3 room) 0 15)

-- X3: refused, nothing is written
abbrev pub draw_left : Drawn → List Float → List Float
draw_left (Ok g) out = pick (leb 3 (length out)) (g.fpt ∷ g.margin ∷ g.latency ∷ drop 3 out) out
draw_left (Err number) out = out

pub record DrawGives (fpt margin latency : ℤ) (out : List Float) (number : ℕ) (after : List Float) : Type 0 where
  pub number_is : number ≡ draw_number (graph_of fpt margin latency) (length out)
  pub doubles_are : after ≡ draw_left (graph_of fpt margin latency) out
