-- The room first: without it none stands there.
use Rattle.record.proofs.Standing.{no_room}
use Rattle.record.proofs.packet_stands.Goals as goal

pub returns-then-window-lt-PACKET_BYTES : goal.returns-then-window-lt-PACKET_BYTES
returns-then-window-lt-PACKET_BYTES c = no_room _ c.if-window-lt-PACKET_BYTES.true
