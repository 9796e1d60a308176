-- The invariant: the search from where it is finds what the search from the start finds. Each turn is a law of what stands in front (Seeking).
use Rattle.std.specs.Prelude.{◌≡◌, ◌-◌}
use Rattle.laws.specs.Kit.{length}
use Rattle.capture.specs.Step.{sought_of}
use Rattle.capture.proofs.Setting.seek.Given as goal

abbrev pub invariant-loop-at : goal.invariant-loop-at
invariant-loop-at l = sought_of l.self l.at l.s ≡ sought_of l.self l.from l.s

abbrev pub decreases-loop-at : goal.decreases-loop-at
decreases-loop-at l = length l.s - l.at
