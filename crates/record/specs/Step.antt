-- What the reader answers: how a record is framed, and from that the head of a file and what comes after it, of the whole rest of a file
-- and of a piece of it. What the contracts cite; proofs/Saying.antt says what it is in document 01's words.
use Rattle.std.specs.Prelude.{◌≡◌, ◌&&◌, ◌+◌, ◌%◌, ◌^◌, ◌≤◌, ◌<◌, Option, Some, None, Result, Ok, Err}
use Rattle.laws.specs.Kit.{Bool, true, List, ℕ, ltb, leb, eqb, length, drop}
use Rattle.laws.specs.Choose.{pick}
use Rattle.record.specs.declared.Cursor.{Cursor}
use Rattle.record.specs.declared.Framed.{Framed}
use Rattle.record.specs.declared.Framed.TheVariants as framed
use Rattle.record.specs.declared.Head.{Head}
use Rattle.record.specs.declared.Next.{Next}
use Rattle.record.specs.declared.Next.TheVariants as next
use Rattle.record.specs.declared.RefusedRecord.{RefusedRecord}
use Rattle.limits.specs.declared.Parameters.{Parameters}
use Rattle.packet.specs.declared.Packet.{Packet}
use Rattle.refusal.specs.Refusal.{number}
use Rattle.refusal.specs.Told.{Numbered}
use Rattle.record.specs.Paper.{packet_length, packet_bytes, head_bytes}
use Rattle.record.specs.Paper.{version_of, version_fits, body_length, kind_of, parameters_at, packet_at, is_parameters, kind_length}

-- ---- the answers

-- F6: the head of a file as it is told: more bytes are wanted; the head; or the number and the offset of its refusal
abbrev pub HeadRead : Type 0
HeadRead = Result (Option Head) Numbered

abbrev pub head_ready : ℕ → ℕ → Parameters → Cursor → HeadRead
head_ready version kind parameters next =
    Ok (Some (record { version = version; kind = kind; parameters = parameters; next = next }))

abbrev pub head_more : HeadRead
head_more = Ok None

abbrev pub head_refused : ℕ → ℕ → HeadRead
head_refused number offset = Err (record { number = number; place = offset })

-- X6: a record that is refused: the number, the offset, and the bytes of the record
pub record NumberedRecord : Type 0 where
  pub number : ℕ
  pub offset : ℕ
  pub size : ℕ

-- F6: what stands at a cursor as it is told
abbrev pub NextRead : Type 0
NextRead = Result Next NumberedRecord

abbrev pub next_packet : Packet → Cursor → NextRead
next_packet p c = Ok (next.Packet p c)

abbrev pub next_end : NextRead
next_end = Ok next.End

abbrev pub next_more : NextRead
next_more = Ok next.More

abbrev pub next_refused : ℕ → ℕ → ℕ → NextRead
next_refused number offset size = Err (record { number = number; offset = offset; size = size })

-- the answer of the code, told so
abbrev pub next_told : Result Next RefusedRecord → NextRead
next_told (Ok n) = Ok n
next_told (Err r) = next_refused (number r.refusal) r.offset r.size

-- ---- framing: what stands in front of a window, after which more may come unless it is the last

-- fewer than the two bytes of a length
unfoldable pub scrap_of : ℕ → Bool → Framed
scrap_of size last = pick last (pick (eqb size 0) framed.Nothing framed.Cut) framed.More

unfoldable pub framed_of : List ℕ → Bool → Framed
framed_of w last =
    pick (ltb (length w) 2) (scrap_of (length w) last)
    (pick (eqb (body_length w) 0) framed.Cut
    (pick (ltb (length w) (2 + body_length w)) (pick last framed.Cut framed.More)
    (framed.Whole (body_length w) (kind_of w))))

-- a record that is all there, with its body's length and its kind
pub record Whole (body kind : ℕ) (l : List ℕ) : Type 0 where
  pub length_read : body ≡ body_length l
  pub kind_read : kind ≡ kind_of l
  pub some_body : 0 < body
  pub all_there : 2 + body ≤ length l

-- ---- the head of a file

abbrev pub cursor : ℕ → Cursor
cursor at = record { at = at }

-- the first record, by its length and its kind
unfoldable pub first_of : ℕ → ℕ → ℕ → List ℕ → HeadRead
first_of version body kind l =
    pick (eqb body (kind_length kind))
    (pick (is_parameters kind) (head_ready version kind (parameters_at l) (cursor head_bytes)) (head_refused 23 1))
    (head_refused 22 1)

abbrev pub head_by : ℕ → List ℕ → Framed → HeadRead
head_by version l framed.Nothing = head_refused 23 1
head_by version l framed.Cut = head_refused 21 1
head_by version l (framed.Whole body kind) = first_of version body kind l
head_by version l framed.More = head_more

-- X5: of a window from the first byte on
unfoldable pub head_piece : List ℕ → Bool → HeadRead
head_piece w last =
    pick (eqb (length w) 0) (pick last (head_refused 20 0) head_more)
    (pick (version_fits w) (head_by (version_of w) (drop 1 w) (framed_of (drop 1 w) last)) (head_refused 20 0))

abbrev pub head_read : List ℕ → HeadRead
head_read s = head_piece s true

-- ---- what comes after it

-- an offset past 2^64 wraps: no file is that long
abbrev pub after : ℕ → ℕ → Cursor
after at size = cursor ((at + size) % 2 ^ 64)

abbrev pub packet_of : List ℕ → Cursor → NextRead
packet_of l c = next_packet (packet_at l) c

-- X6: the bytes of a refused record, its length among them: behind them the next one begins. At 21 there is no length to go by
abbrev pub step_over : ℕ → List ℕ → ℕ
step_over number l = pick (eqb number 21) 0 (2 + body_length l)

-- a record, by its length and its kind; one that is refused tells its size, so that it can be stepped over
unfoldable pub whole_of : ℕ → ℕ → ℕ → List ℕ → NextRead
whole_of at body kind l =
    pick (eqb body (kind_length kind))
    (pick (is_parameters kind) (next_refused 23 at (2 + body)) (packet_of l (after at packet_bytes)))
    (next_refused 22 at (2 + body))

abbrev pub next_by : ℕ → List ℕ → Framed → NextRead
next_by at l framed.Nothing = next_end
next_by at l framed.Cut = next_refused 21 at 0
next_by at l (framed.Whole body kind) = whole_of at body kind l
next_by at l framed.More = next_more

-- X5: of a window from an offset on
unfoldable pub next_piece : ℕ → List ℕ → Bool → NextRead
next_piece at w last = next_by at w (framed_of w last)

abbrev pub next_read : ℕ → List ℕ → NextRead
next_read at l = next_piece at l true

-- a whole packet's record stands in front
unfoldable pub stands_in : List ℕ → Bool
stands_in l = leb packet_bytes (length l) && (eqb (body_length l) packet_length && eqb (kind_of l) 2)
