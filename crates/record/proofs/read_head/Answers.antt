-- The version byte, and then the first record: each return is one law, from the tests before it.
use Rattle.laws.specs.Kit.{sym, ◌∙◌, arith, not-true, not-false}
use Rattle.record.proofs.Ways.{head_none, head_waits_for_more, head_unknown, head_first, rest_all}
use Rattle.record.proofs.read_head.Goals as goal

pub returns-then-last : goal.returns-then-last
returns-then-last c = rw c.refused_at.ensures (sym (head_none _ _ (omega arith) (cc)))

pub returns-then-window-eq0 : goal.returns-then-window-eq0
returns-then-window-eq0 c = sym (head_waits_for_more _ _ (omega arith) (cc))

pub returns-then-not-version_known : goal.returns-then-not-version_known
returns-then-not-version_known c =
    let unknown = sym c.version_known.ensures ∙ not-true _ c.if-not-version_known.true-raw in
    rw c.refused_at-then-not-version_known.ensures (sym (head_unknown _ _ (omega arith) unknown))

pub returns : goal.returns
returns c =
    let known = sym c.version_known.ensures ∙ not-false _ c.if-not-version_known.false-raw in
    c.first.ensures ∙ rw (rest_all _ _) (sym (head_first _ _ (omega arith) known))
