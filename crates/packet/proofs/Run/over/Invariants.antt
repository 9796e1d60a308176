-- A run over three slices of one length. The invariant: the run over what is left, from where it is, is the run over the whole.
-- Each turn is a law of one packet; no more markers came than packets and one before them, so their number fits.
use Rattle.std.specs.Prelude.{◌+◌, ◌≤◌, ◌≡◌}
use Rattle.packet.specs.Paper.{packets, packets_from}
use Rattle.packet.specs.Quick.{ran_of}
use Rattle.packet.proofs.Run.over.Given as goal

abbrev pub invariant-loop-i : goal.invariant-loop-i
invariant-loop-i l = record {
  rest : ran_of l.run (packets_from l.i l.arrivals l.stamps l.markers) ≡ ran_of l.fn.self (packets l.arrivals l.stamps l.markers);
  marks : l.run.marks ≤ l.i + 1;
}
