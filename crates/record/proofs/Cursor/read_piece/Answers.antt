-- A packet's record that stands in front is the answer (Standing); else any record is read.
use Rattle.laws.specs.Kit.{sym, ◌∙◌, arith}
use Rattle.record.proofs.Standing.{stands, stands_packet}
use Rattle.record.proofs.Cursor.read_piece.Goals as goal

pub packet_of-requires : goal.packet_of-requires
packet_of-requires c =
    let there = stands _ (sym c.packet_stands.ensures ∙ c.if-packet_stands.true) in
    record { inside = omega (arith, there.sixteen) }

pub returns-then-packet_stands : goal.returns-then-packet_stands
returns-then-packet_stands c =
    let there = stands _ (sym c.packet_stands.ensures ∙ c.if-packet_stands.true) in
    c.packet_of.ensures ∙ rw c.after_packet.ensures (stands_packet _ _ _ there)
