-- A period more where what is past is below half of one: then the nearest start is the one before. What is past is its own rest.
use Rattle.laws.specs.Kit.{arith, mod-eq_of_lt}
use Rattle.grain.proofs.Rounding.{phase_down, phase_up}
use Rattle.grain.proofs.phase_of_rest.Goals as goal

pub returns-then-past-left : goal.returns-then-past-left
returns-then-past-left c = let a = c.args in
    let own = mod-eq_of_lt {n = a.past} {m = a.period} (omega arith) in
    omega (arith, own, phase_down a.past a.period (omega arith) (omega (arith, own)))

pub returns-else-past-left : goal.returns-else-past-left
returns-else-past-left c = let a = c.args in
    let own = mod-eq_of_lt {n = a.past} {m = a.period} (omega arith) in
    omega (arith, own, phase_up a.past a.period (omega arith) (omega (arith, own)))
