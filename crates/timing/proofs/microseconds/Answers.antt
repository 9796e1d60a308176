-- An exact conversion and one division.
use Rattle.laws.specs.Kit.{ap, ◌∙◌, ℤ}
use lib.Ieee.{Float, binary64, of_int, of_bits, div}
use Rattle.timing.specs.Answers.{microseconds_of}
use Rattle.timing.proofs.Doubles.{back, divisor}
use Rattle.timing.proofs.microseconds.Goals as goal

pub returns : goal.returns
unfolding microseconds_of
returns c = back (λ (z : ℤ). div binary64 (of_int binary64 z) (of_bits binary64 4673150917443321856)) c.ranges.x
    ∙ ap (λ (y : Float). div binary64 (of_int binary64 c.args.x) y) divisor
