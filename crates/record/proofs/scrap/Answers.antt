-- Too few bytes for a length: each return is one law, from the tests before it.
use Rattle.laws.specs.Kit.{sym, not-true, not-false}
use Rattle.record.proofs.Ways.{scrap_more, scrap_nothing, scrap_cut}
use Rattle.record.proofs.scrap.Goals as goal

pub returns-then-not-last : goal.returns-then-not-last
returns-then-not-last c = sym (scrap_more _ _ (not-true _ c.if-not-last.true-raw))

pub returns-then-size-eq0 : goal.returns-then-size-eq0
returns-then-size-eq0 c = sym (scrap_nothing _ _ (not-false _ c.if-not-last.false-raw) c.if-size-eq0.true)

pub returns : goal.returns
returns c = sym (scrap_cut _ _ (not-false _ c.if-not-last.false-raw) c.if-size-eq0.false)
