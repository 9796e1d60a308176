-- A step by its stage.
use Rattle.laws.specs.Kit.{length}
use Rattle.window.specs.Step.{shown}
use Rattle.pump.proofs.Stepping.{head_step, walk_step}
use Rattle.pump.proofs.Stage.step.Goals as goal

pub returns-in-Head : goal.returns-in-Head
returns-in-Head c = let a = c.args in
    head_step a.span a.self (shown a.span a.window.now) (length a.out.now)
    c.in-Head.is c.before.before.«open».ensures

pub returns-in-Walking : goal.returns-in-Walking
returns-in-Walking c = let a = c.args in
    walk_step a.span a.self (shown a.span a.window.now) (length a.out.now) _
    c.in-Walking.is c.walk_on.ensures
