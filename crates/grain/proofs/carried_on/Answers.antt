-- No read comes by before read 0; else so many as are not left of two, or as are divided out.
use Rattle.std.specs.Prelude.{◌-◌}
use Rattle.laws.specs.Kit.{arith, leb-true}
use Rattle.grain.proofs.Carried.{taken_off, twice_off, reads_are, reads_near, up_low, up_high, up_small}
use Rattle.grain.proofs.carried_on.Goals as goal

pub returns-then-gone-wait : goal.returns-then-gone-wait
returns-then-gone-wait c =
    let soon = leb-true c.args.gone c.args.wait c.if-gone-wait.true-raw in
    reads_are _ _ _ _ _ 0 c.requires.apart _ _ (omega (arith, c.requires.apart)) (omega (arith, soon))
    (omega (arith, c.requires.among)) (omega (arith, soon))

pub overflow_sub-once : goal.overflow_sub-once
overflow_sub-once c = omega (arith, (taken_off c.taken-once.ensures).few)

pub overflow_sub-once-then-gone-second : goal.overflow_sub-once-then-gone-second
overflow_sub-once-then-gone-second c = omega (arith, (twice_off c.taken-once.ensures c.taken-twice.ensures).few)

pub returns-then-gone-second : goal.returns-then-gone-second
returns-then-gone-second c =
    reads_near _ _ _ _ _ _ _ _ c.requires.apart c.if-gone-second.true
    (twice_off c.taken-once.ensures c.taken-twice.ensures) (omega (arith, c.min.ensures))

pub overflow_add-count-2 : goal.overflow_add-count-2
overflow_add-count-2 c = let a = c.args in omega (arith, up_small (a.gone - a.wait) a.num c.requires.apart)

pub overflow_mul-result : goal.overflow_mul-result
overflow_mul-result c = let a = c.args in record { fits = omega (arith, up_high (a.gone - a.wait) a.num c.requires.apart) }

pub overflow_sub-result-2 : goal.overflow_sub-result-2
overflow_sub-result-2 c = let a = c.args in up_low (a.gone - a.wait) a.num c.requires.apart

pub returns : goal.returns
returns c =
    let a = c.args in
    let low = up_low (a.gone - a.wait) a.num c.requires.apart in
    reads_are _ _ _ _ _ _ c.requires.apart _ _ (up_high (a.gone - a.wait) a.num c.requires.apart) low c.min-2.ensures
    (omega (arith, low))
