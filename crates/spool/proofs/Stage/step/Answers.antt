-- A step by its stage.
use Rattle.laws.specs.Kit.{length}
use Rattle.window.specs.Step.{shown}
use Rattle.spool.proofs.Stepping.{lead_step, roll_step}
use Rattle.spool.proofs.Stage.step.Goals as goal

pub returns-in-Leader : goal.returns-in-Leader
returns-in-Leader c = let a = c.args in
    lead_step a.span a.self (shown a.span a.window.now) (length a.out.now) _
    c.in-Leader.is c.lead.ensures

pub returns-in-Rolling : goal.returns-in-Rolling
returns-in-Rolling c = let a = c.args in
    roll_step a.span a.self (shown a.span a.window.now) (length a.out.now) _
    c.in-Rolling.is c.roll_on.ensures
