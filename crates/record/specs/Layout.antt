-- The layout of the record file: a record is fields of so many bytes each, one after the other, and a file is its records.
use Rattle.std.specs.Prelude.{◌∷◌, ◌++◌, ◌<◌}
use Rattle.laws.specs.Kit.{List, [], ℕ}
use Rattle.endian.specs.declared.Order.TheVariants.{Big}
use Rattle.endian.specs.Fields.{field_bytes}
use Rattle.packet.specs.declared.Packet.{Packet}
use Rattle.limits.specs.declared.Parameters.{Parameters}
use Rattle.record.specs.Paper.{parameters_length, packet_length, Heading}

-- F1, F3: "length (two bytes, big-endian, of the body), body. Kind 1, 16 bytes: kind, rate, schedule, class, height (2), n (4), MAXUDP (2),
-- TRO (4"
abbrev pub parameter_widths : List ℕ
parameter_widths = 2 ∷ 1 ∷ 1 ∷ 1 ∷ 1 ∷ 2 ∷ 4 ∷ 2 ∷ 4 ∷ []

-- F14: of either kind
abbrev pub parameter_fields : ℕ → Parameters → List ℕ
parameter_fields kind s = parameters_length ∷ kind ∷ s.rate ∷ s.schedule ∷ s.class ∷ s.height ∷ s.n ∷ s.maxudp ∷ s.tro ∷ []

-- F1, F4: "Kind 2, 14 bytes: kind, arrival (8), timestamp (4), marker."
abbrev pub packet_widths : List ℕ
packet_widths = 2 ∷ 1 ∷ 8 ∷ 4 ∷ 1 ∷ []

abbrev pub packet_fields : Packet → List ℕ
packet_fields p = packet_length ∷ 2 ∷ p.time ∷ p.stamp ∷ p.marker ∷ []

abbrev pub packet_with : ℕ → ℕ → ℕ → Packet
packet_with t stamp marker = record { time = t; stamp = stamp; marker = marker }

-- F2: "All big-endian."
abbrev pub parameter_record : ℕ → Parameters → List ℕ
parameter_record kind s = field_bytes Big parameter_widths (parameter_fields kind s)

abbrev pub packet_record : Packet → List ℕ
packet_record p = field_bytes Big packet_widths (packet_fields p)

-- F1: the packets' records, and the whole file: the version byte, "then records"
unfoldable pub records_of : List Packet → List ℕ
records_of [] = []
records_of (p ∷ ps) = packet_record p ++ records_of ps

-- F12: "the writer writes the one asked for" (document 02, viii)
abbrev pub head_of : Heading → List ℕ
head_of h = h.version ∷ parameter_record h.kind h.parameters

unfoldable pub bytes_in : Heading → List Packet → List ℕ
bytes_in h ps = head_of h ++ records_of ps

-- what packets of lent slices hold; no refusal but 11 bounds a marker, which then is 0 or 1
abbrev pub PacketsHeld : List Packet → Type 0
PacketsHeld [] = Unit
PacketsHeld (p ∷ ps) = (p.time < 18446744073709551616) × (p.stamp < 4294967296) × PacketsHeld ps
