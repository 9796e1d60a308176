-- The call by its branches: no room for a line, 9, or record by record (Turning).
use Rattle.laws.specs.Kit.{sym, ◌∙◌, arith, not-true, not-false}
use Rattle.timing.proofs.InRange.{sound_of}
use Rattle.printer.proofs.Turning.{stays_takes, take_full, take_9, take_runs}
use Rattle.printer.proofs.Walk.take.Goals as goal

pub returns-then-out-lt-LINE : goal.returns-then-out-lt-LINE
returns-then-out-lt-LINE c = let a = c.args in
    take_full a.self a.window.now a.last a.out.now (omega (arith, c.if-out-lt-LINE.true)) (stays_takes a.self (omega arith))

pub returns-then-not-in_range : goal.returns-then-not-in_range
returns-then-not-in_range c = let r = c.in_range in
    let a = c.args in
    take_9 a.self a.window.now a.last a.out.now (omega (arith, c.if-out-lt-LINE.false))
    (sym r.ensures ∙ not-true r.result c.if-not-in_range.true-raw) c.stop.ensures

pub run-requires : goal.run-requires
run-requires c = let r = c.in_range in
    record { rules_are = c.rules.ensures; sound = sound_of _ (sym r.ensures ∙ not-false r.result c.if-not-in_range.false-raw) }

pub returns : goal.returns
returns c = let r = c.in_range in
    let a = c.args in
    take_runs a.self a.window.now a.last a.out.now (omega (arith, c.if-out-lt-LINE.false))
    (sym r.ensures ∙ not-false r.result c.if-not-in_range.false-raw) c.rules.ensures
    c.run.ensures
