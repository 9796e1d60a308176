-- The call's answer, and where the walk stands after it.
use Rattle.laws.specs.Kit.{arith, length}
use Rattle.printer.proofs.Inside.{take_inside}
use Rattle.window.specs.Step.{shown}
use Rattle.window.proofs.Showing.{used_fits}
use Rattle.pump.proofs.Stepping.{walked_on}
use Rattle.pump.proofs.walk_on.Goals as goal

pub past-requires : goal.past-requires
past-requires c = let a = c.args in
    let used = c.take-taken.ensures.used_is in
    let inside = take_inside a.walk (shown a.span a.window.now) a.span.last (length a.out.now) in
    used_fits a.span a.window.now c.take-taken.result.used c.requires (omega (arith, used, inside))

pub returns : goal.returns
returns c = let a = c.args in
    walked_on a.span _ _ c.take-taken.result _ c.past.result c.take-taken.ensures c.past.ensures
