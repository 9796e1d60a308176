-- The record file both ways, whole and in pieces. A `Heading` is what a file tells before its packets, version, kind and parameters as written.
-- `bytes_in s ps` are the bytes of a file, `file_of` what bytes read as, `WriteGives` what the writer ensures, `all_calls` what the reader
-- answers, call after call, and `all_in_pieces` what it answers to a file in pieces: record's Paper, Layout, Write and Pieces. The hypotheses
-- bound numbers by what their types and slices always hold.
use Rattle.std.specs.Prelude.{◌≡◌, ◌∷◌, ◌++◌, ◌+◌, ◌^◌, ◌≤◌, ◌<◌, Ok}
use Rattle.laws.specs.Kit.{sym, ap, ◌∙◌, Bool, true, false, List, [], flatten, ℕ, arith, length, take}
use Rattle.laws.specs.Kit.{get_or}
use Rattle.laws.specs.Choose.{AllBelow}
use Rattle.limits.specs.declared.Parameters.{Parameters}
use Rattle.limits.specs.declared.Class.TheVariants.{Narrow, NarrowLinear, Wide, Unknown}
use Rattle.limits.specs.Paper.{class_of}
use Rattle.limits.specs.Steps.{ParametersHeld}
use Rattle.packet.specs.declared.Packet.{Packet}
use Rattle.packet.specs.Paper.{packets, OneLength, declared}
use Rattle.packet.proofs.Declared.{scan_declared}
use Rattle.endian.proofs.Width.{bytes_all}
use Rattle.record.specs.Write.{Written, written_refused}
use Rattle.record.specs.Paper.{version_known, Heading, heading, class_in, resolved, reading_of, file, refused, as_file, file_of}
use Rattle.record.specs.Layout.{bytes_in, PacketsHeld}
use Rattle.record.specs.Write.{heading_refusal, written_of, WriteGives}
use Rattle.record.specs.Step.{head_piece, head_read, next_piece, next_read}
use Rattle.record.specs.Pieces.{all_calls, told, Answered, wants_more, head_waits, all_answers, all_in_pieces, Depends, HeadDepends}
use Rattle.record.proofs.Writing.{heading_20, answers_set_up}
use Rattle.record.proofs.Versions.{first_classes, second_kept, other_20, lone_byte}
use Rattle.record.proofs.WriteRead.{file_written, written_reads}
use Rattle.record.proofs.ReadWrite.{file_again, writer_again}
use Rattle.record.proofs.Answered.{reader_answers, answered_file}
use Rattle.record.proofs.InPieces as proved
use Rattle.record.proofs.Waiting as waiting

-- ---- Demand 2: "A record file written and read back gives the same records"

-- D2d, F12, F14: "demand 2's round trip holds for each" version (document 02, viii), and for each kind: for every heading that the writer
-- accepts, and all accepted packets, reading what was written gives the same version and kind, the same stream numbers and the same packets
pub reading_written : (s : Heading) (ps : List Packet) (closed : ℕ) → ParametersHeld s.parameters → PacketsHeld ps
    → heading_refusal s ≡ 0 → declared ps ≡ Ok closed → file_of (bytes_in s ps) ≡ file s ps
reading_written s ps closed hs hp e f = ap as_file (file_written s ps closed hs hp e (scan_declared ps ∙ f))

-- D2d: what the writer writes is accepted, and reads as what it was given
pub written_accepted : (s : Heading) (ts ss ms out after : List ℕ) (n : ℕ) → ParametersHeld s.parameters
    → AllBelow 18446744073709551616 ts → AllBelow 4294967296 ss
    → WriteGives s ts ss ms out (Ok n) after → file_of (take n after) ≡ file s (packets ts ss ms)
written_accepted = written_reads

-- ---- "an accepted file, read and written, gives the same bytes."

-- D2e, F12, F14: for every accepted file, of either version and any kind, writing what was read gives the same bytes
pub writing_read : (bytes : List ℕ) → AllBelow 256 bytes → (s : Heading) (ps : List Packet) → file_of bytes ≡ file s ps
    → bytes_in s ps ≡ bytes
writing_read bytes b = file_again bytes (bytes_all bytes b)

-- D2e: and the writer, given what an accepted file reads as and room for it, writes that file
pub writer_repeats : (bytes : List ℕ) → AllBelow 256 bytes → (s : Heading) (ts ss ms out after : List ℕ) (r : Written)
    → OneLength ts ss ms → file_of bytes ≡ file s (packets ts ss ms) → length bytes ≤ length out → WriteGives s ts ss ms out r after
    → (r ≡ Ok (length bytes)) × (take (length bytes) after ≡ bytes)
writer_repeats bytes b = writer_again bytes (bytes_all bytes b)

-- F7, F8: both versions are read, and any other byte is 20 at offset 0, whatever follows; a version byte alone is 23 at offset 1
pub version_first : (version : ℕ) (l : List ℕ)
    → (version_known version ≡ false → file_of (version ∷ l) ≡ refused 20 0)
    × (version_known version ≡ true → file_of (version ∷ []) ≡ refused 23 1)
version_first version l = (other_20 version l, lone_byte version)

-- F9: the writer's 20 is first of all: no number, packet or lent byte is asked for
pub writer_version_first : (s : Heading) (ts ss ms : List ℕ) (room : ℕ) → version_known s.version ≡ false
    → written_of s ts ss ms room ≡ written_refused 20 0
writer_version_first s ts ss ms room e =
    sym (answers_set_up s ts ss ms room 20 (sym (heading_20 s.version s.kind s.parameters e)) (omega arith))

-- ---- What a version decides: the class that 0 stands for.

-- F11: "version 1 files keep 0 as wide": on either schedule the class of such a file is document 01's for its number, where "0 means 3"
pub version_one_class : (class schedule : ℕ)
    → class_of (class_in 1 class) schedule ≡ get_or (Wide ∷ Narrow ∷ NarrowLinear ∷ Wide ∷ []) class Unknown
version_one_class = first_classes

-- F11: one of version 2 is set up with its numbers as they are
pub version_two_kept : (kind : ℕ) (p : Parameters) → resolved (heading 2 kind p) ≡ p
version_two_kept = second_kept

-- ---- What a file reads as is what the reader gives.

-- F6: Of any bytes: the head, and the records up to the first refusal, which has its number and offset, or all of them and the end. A
-- refusal by 20 to 23 is the reader's own answer; one of set-up or of a packet is of the record that it gives.
pub read_by_cursor : (bytes : List ℕ) (calls : ℕ) → length bytes < 2 ^ 64 → length bytes < calls
    → Answered (reading_of bytes) (all_calls calls bytes)
read_by_cursor = reader_answers

-- F6: so an accepted file is answered as its head with the parameters, each packet in order, end
pub file_by_cursor : (bytes : List ℕ) (calls : ℕ) → length bytes < 2 ^ 64 → length bytes < calls
    → (s : Heading) (ps : List Packet) → file_of bytes ≡ file s ps → all_calls calls bytes ≡ told s ps
file_by_cursor bytes calls w h s ps e = answered_file (reading_of bytes) _ s ps e (reader_answers bytes calls w h)

-- ---- A file may come in pieces.

-- X5: whatever the pieces, the head, the records, the refusal and its offset are the whole file's
pub pieces_joined : (pieces : List (List ℕ)) (k j : ℕ) → length (flatten pieces) + length pieces < k → length (flatten pieces) < j
    → all_in_pieces k [] pieces ≡ all_answers j (flatten pieces)
pieces_joined = proved.pieces_joined

-- X5: the answer to the last window is the whole file's by definition (`next_read`, `head_read`), and never More
pub last_answers : (at : ℕ) (w : List ℕ) → wants_more (next_piece at w true) ≡ false
last_answers = proved.last_answers

-- X5: and so is the head
pub last_head : (w : List ℕ) → head_waits (head_piece w true) ≡ false
last_head = proved.last_head

-- X5: the answer to any other window is More, or the whole file's, whatever bytes follow
pub piece_answers : (at : ℕ) (w rest : List ℕ) → wants_more (next_piece at w false) ≡ false → next_piece at w false ≡ next_read at (w ++ rest)
piece_answers = proved.piece_answers

-- X5: and so is the head
pub piece_head : (w rest : List ℕ) → head_waits (head_piece w false) ≡ false → head_piece w false ≡ head_read (w ++ rest)
piece_head = proved.piece_head

-- X5: More is answered only where two continuations of the window are answered differently
pub more_needed : (at : ℕ) (w : List ℕ) → wants_more (next_piece at w false) ≡ true → Depends at w
more_needed = waiting.more_needed

-- X5: and so of the head
pub head_needed : (w : List ℕ) → head_waits (head_piece w false) ≡ true → HeadDepends w
head_needed = waiting.head_needed

-- X5: a window of 65,537 bytes is never answered More, nor a head of one byte more
pub window_suffices : (at : ℕ) (w : List ℕ) (last : Bool) → AllBelow 256 w → 65537 ≤ length w → wants_more (next_piece at w last) ≡ false
window_suffices = proved.window_suffices

-- X5: nor a head of 65,538
pub head_suffices : (w : List ℕ) (last : Bool) → AllBelow 256 w → 65538 ≤ length w → head_waits (head_piece w last) ≡ false
head_suffices = proved.head_suffices
