-- What is left of the packets, run from the state and the rows so far, gives what the whole gives (Loop of timing's Running): each need is
-- one law of it, and the packet that was sought is the first of what is left (Seeking).
use Rattle.std.specs.Prelude.{◌-◌}
use Rattle.laws.specs.Kit.{length, drop}
use Rattle.capture.specs.Paper.{header_bytes}
use Rattle.capture.specs.Step.{handed_in}
use Rattle.timing.proofs.Running.{Loop}
use Rattle.timing.proofs.Sink.{as_numbers}
use Rattle.intake.proofs.run_packets.Given as goal

abbrev pub invariant-loop-found : goal.invariant-loop-found
invariant-loop-found l =
    Loop as_numbers l.rules l.initial.s (handed_in l.setting (drop header_bytes l.bytes)) 0 l.initial.rows l.s
    (handed_in l.setting (drop l.from l.bytes)) l.at l.rows

abbrev pub decreases-loop-found : goal.decreases-loop-found
decreases-loop-found l = length l.bytes - l.from
