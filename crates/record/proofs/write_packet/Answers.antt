-- A packet, field by field: its stores are its record, stored.
use Rattle.record.proofs.Stores.{packet_stored}
use Rattle.record.proofs.write_packet.Goals as goal

pub returns : goal.returns
returns c = cc (packet_stored _ _ _ _ _)
