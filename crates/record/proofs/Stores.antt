-- A record's fields, stored one after the other, are the record stored. By the law that bytes stored in two runs are stored in one.
use Rattle.std.specs.Prelude.{◌≡◌, ◌+◌, ◌*◌, ◌≤◌, ◌<◌}
use Rattle.laws.specs.Kit.{sym, ◌∙◌, List, ℕ, div-one, div-eq_of_lt, mod-eq_of_lt, add_assoc, lit<, arith, length, set}
use Rattle.laws.specs.Kit.{length-append, sets}
use Rattle.endian.specs.Number.{bytes_of}
use Rattle.endian.specs.Fields.{field_bytes}
use Rattle.laws.proofs.Lay.{sets_join}
use Rattle.endian.proofs.Width.{length_bytes, two_stored}
use Rattle.packet.specs.declared.Packet.{Packet}
use Rattle.packet.specs.Paper.{OneLength, lent, packets_from}
use Rattle.packet.proofs.Lent.{packets_cons, packets_none}
use Rattle.limits.specs.declared.Parameters.{Parameters}
use Rattle.record.specs.Layout.{packet_with, packet_record, head_of, records_of}
use Rattle.record.specs.Paper.{parameters_length, packet_length, packet_bytes, head_bytes, heading}

one_stored : (v : ℕ) (d : List ℕ) (at : ℕ) → sets d at (bytes_of 1 v) ≡ set d at v
unfolding bytes_of
one_stored v d at = rw (div-one v)

-- the two bytes of a length below 256
length_stored : (x : ℕ) → x < 256 → (d : List ℕ) (at : ℕ) → sets d at (bytes_of 2 x) ≡ set (set d at 0) (at + 1) x
length_stored x h d at = sym (two_stored x d at) ∙ rw (div-eq_of_lt h, mod-eq_of_lt h)

pub packet_stored : (t stamp marker : ℕ) (d : List ℕ) (at : ℕ)
    → set (sets (sets (set (set (set d at 0) (at + 1) packet_length) (at + 2) 2) (at + 3) (bytes_of 8 t)) (at + 11) (bytes_of 4 stamp))
    (at + 15) marker
    ≡ sets d at (packet_record (packet_with t stamp marker))
unfolding field_bytes
packet_stored t stamp marker d at = sym (simp (sets_join, length_bytes, one_stored, length_stored packet_length (lit< tt), add_assoc))

pub head_stored : (version kind : ℕ) (s : Parameters) (d : List ℕ)
    → sets (sets (sets (sets (set (set (set (set (set (set (set d 0 version) 1 0) 2 parameters_length) 3 kind) 4 s.rate) 5 s.schedule)
    6 s.class) 7 (bytes_of 2 s.height)) 9 (bytes_of 4 s.n)) 13 (bytes_of 2 s.maxudp)) 15 (bytes_of 4 s.tro)
    ≡ sets d 0 (head_of (heading version kind s))
unfolding field_bytes
head_stored version kind s d = sym (simp (sets_join, length_bytes, one_stored, length_stored parameters_length (lit< tt)))

-- the packets' records, one more at a time

pub length_packet : (p : Packet) → length (packet_record p) ≡ packet_bytes
unfolding field_bytes
length_packet p = simp (length-append, length_bytes)

module _ {ts ss ms : List ℕ} (same : OneLength ts ss ms) (i : ℕ) (d : List ℕ) (at : ℕ) where
  pub records_go : i < length ts
      → sets (sets d at (packet_record (lent ts ss ms i))) (at + packet_bytes) (records_of (packets_from (i + 1) ts ss ms))
      ≡ sets d at (records_of (packets_from i ts ss ms))
  unfolding records_of
  records_go h =
      sym (rw (
        packets_cons same i h,
        sets_join (packet_record (lent ts ss ms i)) (records_of (packets_from (i + 1) ts ss ms)) d at,
        length_packet (lent ts ss ms i),
      ))

  pub records_end : length ts ≤ i → i ≤ length ts → sets d at (records_of (packets_from i ts ss ms)) ≡ d
  unfolding records_of
  records_end h k = rw (packets_none same i h k)

-- the same in a turn: the places are counted by the packets
module _ {ts ss ms : List ℕ} (same : OneLength ts ss ms) (i : ℕ) (d : List ℕ) where
  pub records_turn : i < length ts
      → sets (sets d (head_bytes + packet_bytes * i) (packet_record (lent ts ss ms i))) (head_bytes + packet_bytes * (i + 1))
      (records_of (packets_from (i + 1) ts ss ms))
      ≡ sets d (head_bytes + packet_bytes * i) (records_of (packets_from i ts ss ms))
  records_turn h =
      let next : head_bytes + packet_bytes * (i + 1) ≡ head_bytes + packet_bytes * i + packet_bytes = omega arith in
      rw next (records_go same i d (head_bytes + packet_bytes * i) h)
