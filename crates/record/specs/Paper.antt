-- The record file: the sentences of document 01, each above what renders it. A list of bytes is read from its front:
-- `l` is the rest of a file from one record's length on, and `at` that record's offset.
use Rattle.std.specs.Prelude.{◌&&◌, ◌||◌, ◌∷◌, ◌+◌}
use Rattle.laws.specs.Kit.{Bool, true, false, not, List, [], ℕ, zero, suc, ltb, eqb, length, drop, get_or}
use Rattle.laws.specs.Choose.{pick, or_else}
use Rattle.limits.specs.Paper.{set_up_refusal, edition_refusal, is_profile, profile_of, given}
use Rattle.packet.specs.declared.Past.{Past}
use Rattle.packet.specs.declared.Packet.{Packet}
use Rattle.packet.specs.Step.{nothing, number_of, next_of}
use Rattle.endian.specs.Number.{number_at}
use Rattle.limits.specs.declared.Parameters.{Parameters}

-- F1: "Version byte 1"; "Record files get version byte 2" (document 02, viii)
unfoldable pub version_known : ℕ → Bool
version_known version = eqb version 1 || eqb version 2

-- F1: a file's first byte; the empty file has neither 1 nor 2
abbrev pub version_of : List ℕ → ℕ
version_of s = get_or s 0 0

abbrev pub version_fits : List ℕ → Bool
version_fits s = version_known (version_of s)

-- F1: "then records: length (two bytes, big-endian, of the body), body."
abbrev pub body_length : List ℕ → ℕ
body_length l = number_at 2 l 0

abbrev pub kind_of : List ℕ → ℕ
kind_of l = get_or l 2 0

-- F3: "Kind 1, 16 bytes": the length of its body, and the bytes of the whole record
abbrev pub parameters_length : ℕ
parameters_length = 16

abbrev pub parameters_bytes : ℕ
parameters_bytes = 2 + parameters_length

-- F4: "Kind 2, 14 bytes"
abbrev pub packet_length : ℕ
packet_length = 14

abbrev pub packet_bytes : ℕ
packet_bytes = 2 + packet_length

-- the head of a file, before its packets: the version byte and the record of the parameters
abbrev pub head_bytes : ℕ
head_bytes = 1 + parameters_bytes

-- F3, F5: "Kind 1, 16 bytes: kind, rate, schedule, class, height (2), n (4), MAXUDP (2), TRO (4; all ones is default)."
-- "Records keep class 0 and a default TRO as written."
abbrev pub parameters_at : List ℕ → Parameters
parameters_at l = record {
  rate = get_or l 3 0;
  schedule = get_or l 4 0;
  class = get_or l 5 0;
  height = number_at 2 l 6;
  n = number_at 4 l 8;
  maxudp = number_at 2 l 12;
  tro = number_at 4 l 14;
}

-- F5, F14: what a file tells before its packets, each as written: its version, and the kind of its parameter record with the parameters
pub record Heading : Type 0 where
  pub version : ℕ
  pub kind : ℕ
  pub parameters : Parameters

abbrev pub heading : ℕ → ℕ → Parameters → Heading
heading version kind parameters = record { version = version; kind = kind; parameters = parameters }

-- F11: "version 1 files keep 0 as wide", whose number is 3
abbrev pub first_class : ℕ → ℕ
first_class zero = 3
first_class (suc class) = suc class

-- F11: the class that a file of a version sets up with
unfoldable pub class_in : ℕ → ℕ → ℕ
class_in version class = pick (eqb version 1) (first_class class) class

-- F11: the parameters that it sets up with: set-up knows no version
abbrev pub resolved_in : ℕ → Parameters → Parameters
resolved_in version p = given p.rate p.schedule (class_in version p.class) p.height p.n p.maxudp p.tro

abbrev pub resolved : Heading → Parameters
resolved h = resolved_in h.version h.parameters

-- F4: "Kind 2, 14 bytes: kind, arrival (8), timestamp (4), marker."
abbrev pub packet_at : List ℕ → Packet
packet_at l = record { time = number_at 8 l 3; stamp = number_at 4 l 11; marker = get_or l 15 0 }

-- F14: "a parameter record of kind 3, laid out as kind 1, chooses it" (document 02, vii), and one "of kind 4" (ix): the kinds whose records hold
-- the parameters are those that choose a profile
unfoldable pub is_parameters : ℕ → Bool
is_parameters kind = is_profile kind

-- F3, F4: the length of each kind's body; 0, which no record has, for an unknown kind
unfoldable pub kind_length : ℕ → ℕ
kind_length kind = pick (is_parameters kind) parameters_length (pick (eqb kind 2) packet_length 0)

-- F8: "A lone version byte is 23 at offset 1."
abbrev pub lone : Bool → List ℕ → Bool
lone first l = first && eqb (length l) 0

-- N1, F14: what 23 is not: "no parameters first, or parameters again", of any kind that holds them
abbrev pub is_in_place : Bool → ℕ → Bool
is_in_place first kind = pick first (is_parameters kind) (not (is_parameters kind))

-- N1, F7: "21 record cut short, or its length 0; 22 unknown kind, or wrong length for its kind; 23 no parameters first, or parameters
-- again": "at one record 21, 22, 23 come in that order"; 0 where none is given. `first`: it is the first record of the file
unfoldable pub format_refusal : Bool → List ℕ → ℕ
format_refusal first l =
    pick (lone first l) 23
    (pick (ltb (length l) 2) 21
    (pick (eqb (body_length l) 0) 21
    (pick (ltb (length l) (2 + body_length l)) 21
    (pick (eqb (body_length l) (kind_length (kind_of l)))
    (pick (is_in_place first (kind_of l)) 0 23)
    22))))

-- N2, F11, F14: 1 to 7 of set-up, of what a file tells before its packets, by the profile that its kind chooses
abbrev pub numbers_refusal : Heading → ℕ
numbers_refusal h = set_up_refusal (profile_of h.kind) (resolved h)

-- F7: 21 to 23 come "before set-up and packet refusals"
abbrev pub parameters_refusal : ℕ → List ℕ → ℕ
parameters_refusal version l = or_else (format_refusal true l) (numbers_refusal (heading version (kind_of l) (parameters_at l)))

abbrev pub packet_refusal : Past → List ℕ → ℕ
packet_refusal past l = or_else (format_refusal false l) (number_of past (packet_at l))

-- "Reading stops at the first record that is refused and gives its offset"

-- F6: all was read, or a record was refused: the number and its offset
pub data Ending : Type 0 where
  done : Ending
  stopped : ℕ → ℕ → Ending

-- the packets accepted up to there
pub record Packets : Type 0 where
  pub accepted : List Packet
  pub ending : Ending

abbrev pub none : Ending → Packets
none e = record { accepted = []; ending = e }

abbrev pub more : Packet → Packets → Packets
more p r = record { accepted = p ∷ r.accepted; ending = r.ending }

-- F6: by at most so many records: each takes bytes, so that there are no more records than bytes
unfoldable pub packets_by : ℕ → Past → ℕ → List ℕ → Packets
packets_by zero past at l = none done
packets_by (suc k) past at l =
    pick (eqb (length l) 0) (none done)
    (pick (eqb (packet_refusal past l) 0)
    (more (packet_at l) (packets_by k (next_of past (packet_at l).time) (at + (2 + body_length l)) (drop (2 + body_length l) l)))
    (none (stopped (packet_refusal past l) at)))

abbrev pub packets_in : Past → ℕ → List ℕ → Packets
packets_in past at l = packets_by (length l) past at l

-- what the bytes of a file read as: no heading, with the number and offset of the refusal; or the heading, and the packets up to the
-- first refusal or the end
pub data Reading : Type 0 where
  unread : ℕ → ℕ → Reading
  read : Heading → Packets → Reading

abbrev pub parameters_in : ℕ → List ℕ → Reading
parameters_in version l =
    pick (eqb (parameters_refusal version l) 0)
    (read (heading version (kind_of l) (parameters_at l)) (packets_in nothing (1 + (2 + body_length l)) (drop (2 + body_length l) l)))
    (unread (parameters_refusal version l) 1)

-- N1, F6, F7: "20 is given, first of all, for a version other than 1 or 2" (document 02, viii), as for "file empty": "its offset (0 for 20)"
unfoldable pub reading_of : List ℕ → Reading
reading_of s = pick (version_fits s) (parameters_in (version_of s) (drop 1 s)) (unread 20 0)

-- a file as a whole: the heading and the packets, or the number and the offset
pub data File : Type 0 where
  file : Heading → List Packet → File
  refused : ℕ → ℕ → File

abbrev pub ended_file : Heading → List Packet → Ending → File
ended_file h ps done = file h ps
ended_file h ps (stopped number offset) = refused number offset

abbrev pub as_file : Reading → File
as_file (unread number offset) = refused number offset
as_file (read h r) = ended_file h r.accepted r.ending

abbrev pub file_of : List ℕ → File
file_of s = as_file (reading_of s)

-- F13: "Record files carry none: the C call takes it as a number beside the file" (document 02, vi): where the file's parameters are accepted, an
-- edition that there is not is refused at their record, whatever follows it; a file that has none is refused as it was
abbrev pub beside_edition : ℕ → Reading → Reading
beside_edition edition (unread number offset) = unread number offset
beside_edition edition (read h r) = pick (eqb (edition_refusal edition) 0) (read h r) (unread (edition_refusal edition) 1)

-- a file with an edition beside it
abbrev pub file_in : ℕ → List ℕ → File
file_in edition s = as_file (beside_edition edition (reading_of s))
