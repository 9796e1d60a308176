-- What the fields of a packet's and of the parameters' record are, and both records to bytes and back. By the laws of any list of widths.
use Rattle.std.specs.Prelude.{◌≡◌, ◌∷◌, ◌++◌, ◌≤◌, ◌<◌}
use Rattle.laws.specs.Kit.{sym, ◌∙◌, List, [], ℕ, arith, length, drop}
use Rattle.endian.specs.declared.Order.TheVariants.{Big}
use Rattle.endian.specs.Number.{Bytes}
use Rattle.endian.specs.Fields.{fields, Fit}
use Rattle.endian.proofs.Width.{number_byte}
use Rattle.endian.proofs.Fields.{fields_back, bytes_again, fields_at_lem}
use Rattle.packet.specs.declared.Packet.{Packet}
use Rattle.limits.specs.declared.Parameters.{Parameters}
use Rattle.record.specs.Paper.{parameters_length, packet_length, parameters_bytes, packet_bytes}
use Rattle.record.specs.Paper.{body_length, kind_of, parameters_at, packet_at}
use Rattle.record.specs.Layout.{parameter_widths, parameter_fields, packet_widths, packet_fields}
use Rattle.record.specs.Layout.{parameter_record, packet_record}
use Rattle.limits.specs.Steps.{ParametersHeld}

-- the fields of a record, by their offsets

packet_fields_lem : (l : List ℕ)
    → fields Big packet_widths l ≡ body_length l ∷ kind_of l ∷ (packet_at l).time ∷ (packet_at l).stamp ∷ (packet_at l).marker ∷ []
packet_fields_lem l = fields_at_lem Big packet_widths l 0 ∙ rw (number_byte l 2, number_byte l 15)

parameter_fields_lem : (l : List ℕ)
    → fields Big parameter_widths l
    ≡ body_length l ∷ kind_of l ∷ (parameters_at l).rate ∷ (parameters_at l).schedule ∷ (parameters_at l).class
    ∷ (parameters_at l).height ∷ (parameters_at l).n ∷ (parameters_at l).maxudp ∷ (parameters_at l).tro ∷ []
parameter_fields_lem l =
    fields_at_lem Big parameter_widths l 0 ∙ rw (number_byte l 2, number_byte l 3, number_byte l 4, number_byte l 5)

-- a record with its fields, in front of anything

pub record PacketBack (p : Packet) (l : List ℕ) : Type 0 where
  pub body_14 : body_length l ≡ packet_length
  pub kind_2 : kind_of l ≡ 2
  pub same : packet_at l ≡ p

-- F4: a packet that is written is read back
pub packet_back : (p : Packet) (rest : List ℕ) → Fit packet_widths (packet_fields p) → PacketBack p (packet_record p ++ rest)
packet_back p rest f =
    let l = packet_record p ++ rest in
    let e = sym (packet_fields_lem l) ∙ fields_back Big packet_widths (packet_fields p) rest f in
    let e_time : (packet_at l).time ≡ p.time = cc in
    let e_stamp : (packet_at l).stamp ≡ p.stamp = cc in
    let e_marker : (packet_at l).marker ≡ p.marker = cc in
    record { body_14 = cc; kind_2 = cc; same = λ j. record { time = e_time j; stamp = e_stamp j; marker = e_marker j } }

pub record ParametersBack (kind : ℕ) (s : Parameters) (l : List ℕ) : Type 0 where
  pub body_16 : body_length l ≡ parameters_length
  pub kind_is : kind_of l ≡ kind
  pub same : parameters_at l ≡ s

-- F3, F14: parameters that are written are read back, and so is the kind of their record
pub parameters_back : (kind : ℕ) (s : Parameters) (rest : List ℕ) → kind < 256 → ParametersHeld s
    → ParametersBack kind s (parameter_record kind s ++ rest)
parameters_back kind s rest k h =
    let l = parameter_record kind s ++ rest in
    let f : Fit parameter_widths (parameter_fields kind s)
    = (omega arith, (k, (h.rate, (h.schedule, (h.class, (h.height, (h.n, (h.maxudp, (h.tro, tt))))))))) in
    let e = sym (parameter_fields_lem l) ∙ fields_back Big parameter_widths (parameter_fields kind s) rest f in
    let e1 : (parameters_at l).rate ≡ s.rate = cc in
    let e2 : (parameters_at l).schedule ≡ s.schedule = cc in
    let e3 : (parameters_at l).class ≡ s.class = cc in
    let e4 : (parameters_at l).height ≡ s.height = cc in
    let e5 : (parameters_at l).n ≡ s.n = cc in
    let e6 : (parameters_at l).maxudp ≡ s.maxudp = cc in
    let e7 : (parameters_at l).tro ≡ s.tro = cc in
    record {
      body_16 = cc;
      kind_is = cc;
      same = λ j. record { rate = e1 j; schedule = e2 j; class = e3 j; height = e4 j; n = e5 j; maxudp = e6 j; tro = e7 j };
    }

-- and the bytes of a record that was read

pub packet_again : (l : List ℕ) → Bytes l → packet_bytes ≤ length l → body_length l ≡ packet_length → kind_of l ≡ 2
    → packet_record (packet_at l) ++ drop packet_bytes l ≡ l
packet_again l b h e k =
    rw (packet_fields_lem l, e, k) at (bytes_again Big packet_widths l b h)

pub parameters_again : (l : List ℕ) → Bytes l → parameters_bytes ≤ length l → body_length l ≡ parameters_length
    → parameter_record (kind_of l) (parameters_at l) ++ drop parameters_bytes l ≡ l
parameters_again l b h e =
    rw (parameter_fields_lem l, e) at (bytes_again Big parameter_widths l b h)
