-- What the writer answers, and what it leaves in the lent bytes.
use Rattle.std.specs.Prelude.{◌≡◌, ◌++◌, ◌+◌, ◌*◌, ◌≤◌, Err, Ok, Result}
use Rattle.laws.specs.Kit.{false, List, ℕ, leb, eqb, length, drop}
use Rattle.laws.specs.Choose.{pick, or_else}
use Rattle.packet.specs.Paper.{Scanned}
use Rattle.packet.specs.Paper.{packets, OneLength}
use Rattle.packet.specs.Step.{nothing, scanned_of}
use Rattle.refusal.specs.Told.{Numbered}
use Rattle.limits.specs.Paper.{profile_refusal}
use Rattle.record.specs.Layout.{bytes_in}
use Rattle.record.specs.Paper.{packet_bytes, head_bytes, version_known, Heading, numbers_refusal}

-- the bytes of a file of so many packets
abbrev pub file_length : ℕ → ℕ
file_length packets = head_bytes + packet_bytes * packets

-- F9: how many bytes were written, or the number and the place
abbrev pub Written : Type 0
Written = Result ℕ Numbered

abbrev pub written_refused : ℕ → ℕ → Written
written_refused number place = Err (record { number = number; place = place })

-- N1, F9: "24 the writer's lent bytes are fewer than the file needs", with place 0
abbrev pub fitting : ℕ → ℕ → Written
fitting needed room = pick (leb needed room) (Ok needed) (written_refused 24 0)

-- F9: "20 is given, first of all, for a version other than 1 or 2, by the writer too" (document 02, viii); then 1 to 7
unfoldable pub version_refusal : ℕ → ℕ
version_refusal version = pick (version_known version) 0 20

-- F14: 22 for a kind that holds no parameters stands between
unfoldable pub heading_refusal : Heading → ℕ
heading_refusal h = or_else (version_refusal h.version) (or_else (profile_refusal h.kind) (numbers_refusal h))

-- N12: 10 to 14, "the packet's place in the history (0 for 1 to 10 and 24)"
abbrev pub scanning : Scanned → ℕ → ℕ → Written
scanning (Ok closed) needed room = fitting needed room
scanning (Err r) needed room = written_refused r.number r.place

-- F9: after 20 and 22, "The writer refuses by 1 to 7, 10 to 14, then 24"
unfoldable pub written_of : Heading → List ℕ → List ℕ → List ℕ → ℕ → Written
written_of h ts ss ms room =
    pick (eqb (heading_refusal h) 0)
    (scanning (scanned_of nothing false ts ss ms) (file_length (length ts)) room)
    (written_refused (heading_refusal h) 0)

-- document 01's number, 0 where it wrote, and the place
abbrev pub written_number : Written → ℕ
written_number (Ok r) = 0
written_number (Err r) = r.number

abbrev pub written_place : Written → ℕ
written_place (Ok r) = 0
written_place (Err r) = r.place

-- F10: ".. and then writes nothing"; else the file stands in front, and the bytes beyond stay
abbrev pub left_by : Written → List ℕ → List ℕ → List ℕ
left_by (Ok r) file out = file ++ drop r out
left_by (Err r) file out = out

-- the answer, and the lent bytes after it
pub record WriteGives (h : Heading) (ts ss ms out : List ℕ) (r : Written) (after : List ℕ) : Type 0 where
  pub answered : r ≡ written_of h ts ss ms (length out)
  pub left : after ≡ left_by r (bytes_in h (packets ts ss ms)) out

-- three slices of one length whose file fits
pub record Fitting (ts ss ms out : List ℕ) : Type 0 where
  pub same : OneLength ts ss ms
  pub room : file_length (length ts) ≤ length out
