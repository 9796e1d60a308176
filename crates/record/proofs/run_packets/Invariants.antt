-- A run over packets' records. The invariant: the run over those that are left, from where it is, is the run over all. Each turn is a law
-- of one record, for which there is room; no more markers came than records, so their number fits.
use Rattle.std.specs.Prelude.{◌+◌, ◌*◌, ◌-◌, ◌≤◌, ◌≡◌}
use Rattle.laws.specs.Kit.{false, drop}
use Rattle.packet.specs.Step.{nothing}
use Rattle.packet.specs.Quick.{start_of}
use Rattle.record.specs.Paper.{packet_bytes}
use Rattle.record.specs.Walk.{ran_in}
use Rattle.record.proofs.run_packets.Given as goal

abbrev pub invariant-loop-k : goal.invariant-loop-k
invariant-loop-k l =
    (ran_in l.run (l.count - l.k) (drop (l.start + packet_bytes * l.k) l.s) ≡ ran_in (start_of nothing false) l.count (drop l.start l.s))
    × (l.run.marks ≤ l.k)
