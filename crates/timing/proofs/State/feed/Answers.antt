-- The call by its branches: 9, the scan's refusal, 15, or the run (Feeding).
use Rattle.refusal.specs.Told.{told}
use Rattle.laws.specs.Kit.{sym, ap, ◌∙◌, not-true, not-false}
use Rattle.timing.proofs.Feeding.{fed_9, fed_refused, fed_15, one_length, runs, fed}
use Rattle.timing.proofs.State.feed.Goals as goal

pub returns-then-not-in_range : goal.returns-then-not-in_range
returns-then-not-in_range c = let r = c.in_range in rw c.refused.ensures (fed_9 _ _ _ _ _ (sym r.ensures ∙ not-true r.result c.if-not-in_range.true-raw))

pub run-self-requires : goal.run-self-requires
run-self-requires c =
    let i = c.in_range in
    let a = c.args in
    let e = sym i.ensures ∙ not-false i.result c.if-not-in_range.false-raw in (
      one_length a.self a.rows.now a.arrivals.now a.stamps.now a.markers.now e c.scan.ensures
          (ap told c.in-Ok.is),
      runs a.self a.rows.now a.arrivals.now a.stamps.now a.markers.now e c.scan.ensures
          (ap told c.in-Ok.is) c.rules-rules.ensures c.if-rows-closed.false,
    )

pub returns-else-rows-closed : goal.returns-else-rows-closed
returns-else-rows-closed c =
    let i = c.in_range in
    let e = sym i.ensures ∙ not-false i.result c.if-not-in_range.false-raw in
    fed _ _ _ _ _ e c.scan.ensures (ap told c.in-Ok.is) c.rules-rules.ensures c.if-rows-closed.false
    c.run-self.ensures

pub returns-then-rows-closed : goal.returns-then-rows-closed
returns-then-rows-closed c =
    let i = c.in_range in
    rw c.refused-then-rows-closed.ensures (fed_15 _ _ _ _ _ (sym i.ensures ∙ not-false i.result c.if-not-in_range.false-raw) c.scan.ensures
    (ap told c.in-Ok.is) c.if-rows-closed.true)

pub returns-in-Err : goal.returns-in-Err
returns-in-Err c =
    let i = c.in_range in
    rw c.refused-in-Err.ensures (fed_refused _ _ _ _ _ (sym i.ensures ∙ not-false i.result c.if-not-in_range.false-raw) c.scan.ensures
    (ap told c.in-Err.is))
