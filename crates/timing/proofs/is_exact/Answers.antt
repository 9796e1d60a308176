-- By the two ends.
use Rattle.laws.specs.Kit.{◌∙◌}
use lib.Ieee.{binary64, in_float}
use mir.Syntax.{w64}
use mir.Val.{to_z, of_z}
use Rattle.timing.proofs.Doubles.{by_ends, back}
use Rattle.timing.proofs.is_exact.Goals as goal

pub returns : goal.returns
returns c = by_ends (to_z w64 (of_z w64 c.args.x)) ∙ back (in_float binary64) c.ranges.x
