-- The scan of three slices of one length. The invariant: scanning what is left, from the tally so far, is scanning the whole.
-- Each turn is a law of one packet; no more frames closed than packets came, so their number fits.
use Rattle.std.specs.Prelude.{◌≤◌, ◌≡◌}
use Rattle.packet.specs.Paper.{packets, packets_from}
use Rattle.packet.specs.Step.{scan_of}
use Rattle.packet.proofs.Tally.scan.Given as goal

abbrev pub invariant-loop-i : goal.invariant-loop-i
invariant-loop-i l = record {
  rest : scan_of l.tally.past l.tally.begun l.tally.closed (packets_from l.i l.arrivals l.stamps l.markers)
      ≡ scan_of l.fn.self.past l.fn.self.begun l.fn.self.closed (packets l.arrivals l.stamps l.markers);
  no_more : l.tally.closed ≤ l.tally.past.packets;
}
