-- Two num's taken off leave less than num, or x is divided out.
use Rattle.laws.specs.Kit.{arith}
use Rattle.grain.proofs.Carried.{divided_is, twice_off}
use Rattle.grain.proofs.divided.Goals as goal

pub overflow_add-result : goal.overflow_add-result
overflow_add-result c = record { fits = omega (arith, (twice_off c.taken-once.ensures c.taken-twice.ensures).few) }

pub returns-then-twice-num : goal.returns-then-twice-num
returns-then-twice-num c = divided_is _ _ _ _ (twice_off c.taken-once.ensures c.taken-twice.ensures).sum (omega arith)
