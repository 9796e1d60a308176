-- A capture that is accepted: what was read of it is what the run asks, and what was counted (Taking).
use Rattle.laws.specs.Kit.{sym, ◌∙◌}
use Rattle.intake.proofs.Taking.{counted, runs, taken}
use Rattle.intake.proofs.feed.Goals as goal

pub run-next-requires : goal.run-next-requires
run-next-requires c =
    let a = c.args in
    runs a.state a.rows.now a.port a.offset a.bytes.now (sym c.in_range.ensures ∙ c.if-not-in_range.false) c.in-Ok.ensures
    c.rules.ensures c.if-rows-seen.false

pub overflow_sub-result : goal.overflow_sub-result
overflow_sub-result c =
    let a = c.args in
    let all = counted a.state a.rows.now a.port a.offset a.bytes.now (sym c.in_range.ensures ∙ c.if-not-in_range.false) c.in-Ok.ensures in
    all.0

pub returns-else-rows-seen : goal.returns-else-rows-seen
returns-else-rows-seen c =
    taken _ _ _ _ _ (sym c.in_range.ensures ∙ c.if-not-in_range.false) c.in-Ok.ensures c.rules.ensures c.if-rows-seen.false
    c.run-next.ensures
