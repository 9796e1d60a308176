-- A file read by the cursor, call after call: whole, and in pieces, where the next piece is put behind what is held if more is wanted.
use Rattle.std.specs.Prelude.{◌≡◌, ◌∷◌, ◌++◌, ◌+◌, ◌*◌, ◌<◌, Ok, Err, Some, None}
use Rattle.laws.specs.Kit.{Bool, true, false, List, [], ℕ, zero, suc, length, drop}
use Rattle.laws.specs.Choose.{pick}
use Rattle.packet.specs.declared.Past.{Past}
use Rattle.packet.specs.declared.Packet as packet
use Rattle.packet.specs.Step.{nothing, number_of}
use Rattle.packet.specs.Calls.{past_after_packets}
use Rattle.record.specs.Step.{HeadRead, head_ready, next_packet, next_end}
use Rattle.record.specs.Step.{NextRead}
use Rattle.record.specs.declared.Next.TheVariants.{Packet, End, More}
use Rattle.record.specs.Paper.{packet_bytes, head_bytes, Heading, heading, numbers_refusal, Ending, done, stopped, Reading, unread, read}
use Rattle.record.specs.Step.{cursor, head_piece, head_read, next_piece, next_read}

-- whether reading goes on after an answer, at what offset, and how many bytes it took
abbrev pub reading_goes_on : NextRead → Bool
reading_goes_on (Ok (Packet p c)) = true
reading_goes_on (Ok End) = false
reading_goes_on (Ok More) = false
reading_goes_on (Err r) = false

abbrev pub next_at : NextRead → ℕ
next_at (Ok (Packet p c)) = c.at
next_at (Ok End) = 0
next_at (Ok More) = 0
next_at (Err r) = 0

abbrev pub taken : NextRead → ℕ
taken (Ok (Packet p c)) = packet_bytes
taken (Ok End) = 0
taken (Ok More) = 0
taken (Err r) = 0

-- document 01's number, 0 where nothing is refused, and its offset
abbrev pub read_number : NextRead → ℕ
read_number (Ok (Packet p c)) = 0
read_number (Ok End) = 0
read_number (Ok More) = 0
read_number (Err r) = r.number

abbrev pub read_offset : NextRead → ℕ
read_offset (Ok (Packet p c)) = 0
read_offset (Ok End) = 0
read_offset (Ok More) = 0
read_offset (Err r) = r.offset

abbrev pub wants_more : NextRead → Bool
wants_more (Ok (Packet p c)) = false
wants_more (Ok End) = false
wants_more (Ok More) = true
wants_more (Err r) = false

abbrev pub head_waits : HeadRead → Bool
head_waits (Ok (Some r)) = false
head_waits (Ok None) = true
head_waits (Err r) = false

abbrev pub head_number : HeadRead → ℕ
head_number (Ok (Some r)) = 0
head_number (Ok None) = 0
head_number (Err r) = r.number

-- all that the reader answers: the head, and what comes after it, which is nothing where the head is refused
pub record Heard : Type 0 where
  pub head : HeadRead
  pub after : List NextRead

abbrev pub after_head : HeadRead → (ℕ → List NextRead) → List NextRead
after_head (Ok (Some r)) on = on r.next.at
after_head (Ok None) on = []
after_head (Err r) on = []

abbrev pub heard : HeadRead → (ℕ → List NextRead) → Heard
heard h on = record { head = h; after = after_head h on }

-- `Cursor::read` called on a whole file again and again, each time with the cursor that the answer before gave, up to the end or the
-- first refusal; by at most so many calls
unfoldable pub calls_of : ℕ → ℕ → List ℕ → List NextRead
calls_of zero at s = []
calls_of (suc k) at s = next_read at (drop at s) ∷ pick (reading_goes_on (next_read at (drop at s))) (calls_of k (next_at (next_read at (drop at s))) s) []

-- `read_head`, and then those calls
abbrev pub all_calls : ℕ → List ℕ → Heard
all_calls k s = heard (head_read s) (λ at. calls_of k at s)

-- the same of the rest of a file, read from its front
unfoldable pub answers : ℕ → ℕ → List ℕ → List NextRead
answers zero at l = []
answers (suc k) at l =
    next_read at l ∷ pick (reading_goes_on (next_read at l)) (answers k (next_at (next_read at l)) (drop (taken (next_read at l)) l)) []

abbrev pub all_answers : ℕ → List ℕ → Heard
all_answers k s = heard (head_read s) (λ at. answers k at (drop head_bytes s))

-- X5: the same of a file in pieces: the bytes held, and the pieces still to come; by at most so many steps
unfoldable pub in_pieces : ℕ → ℕ → List ℕ → List (List ℕ) → List NextRead
in_pieces zero at held pieces = []
in_pieces (suc k) at held [] =
    next_piece at held true
    ∷ pick (reading_goes_on (next_piece at held true))
    (in_pieces k (next_at (next_piece at held true)) (drop (taken (next_piece at held true)) held) []) []
in_pieces (suc k) at held (p ∷ pieces) =
    pick (wants_more (next_piece at held false))
    (in_pieces k at (held ++ p) pieces)
    (next_piece at held false
    ∷ pick (reading_goes_on (next_piece at held false))
    (in_pieces k (next_at (next_piece at held false)) (drop (taken (next_piece at held false)) held) (p ∷ pieces)) [])

-- from the first byte on
unfoldable pub all_in_pieces : ℕ → List ℕ → List (List ℕ) → Heard
all_in_pieces k held [] = heard (head_piece held true) (λ at. in_pieces k at (drop head_bytes held) [])
all_in_pieces k held (p ∷ pieces) =
    pick (head_waits (head_piece held false))
    (all_in_pieces k (held ++ p) pieces)
    (heard (head_piece held false) (λ at. in_pieces k at (drop head_bytes held) (p ∷ pieces)))

-- ---- what a window alone does not decide

-- X5: two continuations that are told apart
pub record Depends (at : ℕ) (w : List ℕ) : Type 0 where
  pub one : List ℕ
  pub other : List ℕ
  pub differ : next_read at (w ++ one) ≡ next_read at (w ++ other) → ⊥

pub record HeadDepends (w : List ℕ) : Type 0 where
  pub one : List ℕ
  pub other : List ℕ
  pub differ : head_read (w ++ one) ≡ head_read (w ++ other) → ⊥

-- ---- the records that the reader gives, call after call, and what the file reads as

-- packets from an offset on, one after the other
unfoldable pub told_packets : ℕ → List packet.Packet → List NextRead
told_packets at [] = []
told_packets at (p ∷ ps) = next_packet p (cursor (at + packet_bytes)) ∷ told_packets (at + packet_bytes) ps

-- the version, and the kind with the parameters
abbrev pub told_head : Heading → HeadRead
told_head h = head_ready h.version h.kind h.parameters (cursor head_bytes)

-- the head, each packet in order, the end
abbrev pub told : Heading → List packet.Packet → Heard
told h ps = record { head = told_head h; after = told_packets head_bytes ps ++ (next_end ∷ []) }

-- a head is refused with this number and offset: by the reader itself, or by set-up, which refuses the parameters at offset 1
abbrev pub HeadRefused : ℕ → ℕ → HeadRead → Type 0
HeadRefused number offset (Ok (Some r)) =
    (numbers_refusal (heading r.version r.kind r.parameters) ≡ number) × (offset ≡ 1)
HeadRefused number offset (Ok None) = ⊥
HeadRefused number offset (Err r) = (r.number ≡ number) × (r.place ≡ offset)

-- the number by which the record is refused that an answer gives: the reader's own, or the packet's after what came before
abbrev pub refusal_in : Past → NextRead → ℕ
refusal_in past (Ok (Packet p c)) = number_of past p
refusal_in past (Ok End) = 0
refusal_in past (Ok More) = 0
refusal_in past (Err r) = r.number

-- reading stopped at this answer, to the record at `at`, with this number and offset
pub record StopsAt (past : Past) (at number offset : ℕ) (r : NextRead) : Type 0 where
  pub number_is : refusal_in past r ≡ number
  pub offset_is : offset ≡ at
  pub own : 0 < read_number r → read_offset r ≡ offset

-- some answers, and then that one; more may follow where the reader itself does not refuse
abbrev pub Then : List NextRead → (NextRead → Type 0) → List NextRead → Type 0
Then front P l = (r : NextRead) × (more : List NextRead) × (l ≡ front ++ (r ∷ more)) × P r

abbrev pub AnsweredBy : Past → ℕ → List packet.Packet → Ending → List NextRead → Type 0
AnsweredBy past at ps done l = l ≡ told_packets at ps ++ (next_end ∷ [])
AnsweredBy past at ps (stopped number offset) l =
    Then (told_packets at ps) (StopsAt (past_after_packets past ps) (at + packet_bytes * length ps) number offset) l

-- F6: the answers of a file are its records: all of them and the end, or those up to the refusal, with its number and offset
abbrev pub Answered : Reading → Heard → Type 0
Answered (unread number offset) y = HeadRefused number offset y.head
Answered (read h r) y = (y.head ≡ told_head h) × AnsweredBy nothing head_bytes r.accepted r.ending y.after
