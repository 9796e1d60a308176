-- A packet that is refused is where the scan stops.
use Rattle.laws.specs.Kit.{sym, ◌∙◌}
use Rattle.packet.proofs.Turn.{scan_turn_stops}
use Rattle.packet.proofs.Tally.scan.Goals as goal

pub returns-in-Err : goal.returns-in-Err
returns-in-Err c =
    let at = c.loop-i in
    sym (scan_turn_stops at.tally _ _ _ at.i _ _ c.requires.0 c.loop-i-test.true c.lent_packet-p.ensures c.in-Err.ensures) ∙ at.invariant.rest
