-- The records of a capture: what stands in front is a record, which is counted or refused, or it ends the check (Checking).
use Rattle.std.specs.Prelude.{◌-◌}
use Rattle.laws.specs.Kit.{length}
use Rattle.capture.proofs.Checking.{Loop}
use Rattle.capture.proofs.Seen.check_records.Given as goal

abbrev pub invariant-loop-front : goal.invariant-loop-front
invariant-loop-front l = Loop l.setting l.s l.initial.seen l.seen l.at

abbrev pub decreases-loop-front : goal.decreases-loop-front
decreases-loop-front l = length l.s - l.at
