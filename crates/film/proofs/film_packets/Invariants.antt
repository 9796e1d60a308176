-- What is left of the packets, from the state and the bytes so far, gives what the whole gives (Loop of timing's Running): each need is one
-- law of it, and the packet that was sought is the first of what is left (capture's Seeking).
use Rattle.std.specs.Prelude.{◌-◌}
use Rattle.laws.specs.Kit.{length, drop}
use Rattle.capture.specs.Paper.{header_bytes}
use Rattle.capture.specs.Step.{handed_in}
use Rattle.timing.proofs.Running.{Loop}
use Rattle.film.specs.Step.{eleven_bytes}
use Rattle.report.proofs.Bytes.{as_bytes}
use Rattle.film.proofs.film_packets.Given as goal

abbrev pub invariant-loop-found : goal.invariant-loop-found
invariant-loop-found l =
    Loop as_bytes l.rules l.initial.s (handed_in l.setting (drop header_bytes l.capture)) eleven_bytes l.initial.out l.s
    (handed_in l.setting (drop l.from l.capture)) l.at l.out

abbrev pub decreases-loop-found : goal.decreases-loop-found
decreases-loop-found l = length l.capture - l.from
