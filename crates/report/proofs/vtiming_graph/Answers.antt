-- The graph's refusal, then the room, then the three stores: one law each (Calls).
use Rattle.laws.specs.Kit.{ap, ◌∙◌}
use Rattle.refusal.specs.Told.{by_number}
use Rattle.report.proofs.Calls.{drawn_of, draws_refused}
use Rattle.report.proofs.vtiming_graph.Goals as goal

pub returns-in-Err : goal.returns-in-Err
returns-in-Err c =
    let drawn = drawn_of c.ranges.fpt c.ranges.margin c.ranges.latency c.draw.ensures in
    rw c.from-in-Err.ensures (draws_refused _ _ _ _ (drawn ∙ ap by_number c.in-Err.is))
