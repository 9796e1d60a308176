-- The packets' records. The invariant: storing what is left, from where the loop is, is storing them all; each record takes 16 bytes.
use Rattle.std.specs.Prelude.{◌+◌, ◌*◌, ◌≡◌}
use Rattle.laws.specs.Kit.{length, sets}
use Rattle.packet.specs.Paper.{packets, packets_from}
use Rattle.record.specs.Layout.{records_of}
use Rattle.record.specs.Paper.{packet_bytes, head_bytes}
use Rattle.record.proofs.write_packets.Given as goal

abbrev pub invariant-loop-i : goal.invariant-loop-i
invariant-loop-i l =
    (sets l.out (head_bytes + packet_bytes * l.i) (records_of (packets_from l.i l.arrivals l.stamps l.markers))
    ≡ sets l.initial.out head_bytes (records_of (packets l.arrivals l.stamps l.markers)))
    × (length l.out ≡ length l.initial.out)
