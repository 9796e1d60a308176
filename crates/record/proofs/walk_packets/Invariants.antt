-- The packets of a file. The invariant: what is left, read from where the cursor is into the tally so far, finishes as the whole does.
-- Each turn is a law of one answer; a record takes 16 bytes, so the walk ends.
use Rattle.std.specs.Prelude.{◌-◌, ◌≤◌, ◌≡◌}
use Rattle.laws.specs.Kit.{length, drop}
use Rattle.packet.specs.Step.{nothing, no_packets}
use Rattle.record.specs.Paper.{packets_in}
use Rattle.record.specs.Walk.{finish}
use Rattle.record.proofs.walk_packets.Given as goal

abbrev pub invariant-loop-item : goal.invariant-loop-item
invariant-loop-item l =
    (finish l.numbers l.tally (packets_in l.tally.past l.cursor.at (drop l.cursor.at l.s))
    ≡ finish l.numbers no_packets (packets_in nothing l.initial.cursor.at (drop l.initial.cursor.at l.s)))
    × (l.tally.closed ≤ l.tally.past.packets)

abbrev pub decreases-loop-item : goal.decreases-loop-item
decreases-loop-item l = length l.s - l.cursor.at
