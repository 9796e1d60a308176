-- The row of a whole frame, or of a broken one, by its kind.
use Rattle.laws.specs.Kit.{◌∙◌, arith}
use Rattle.frame.proofs.FrameKinds.{row_whole, row_broken, kind_small, detail_small}
use Rattle.frame.proofs.Frame.row.Goals as goal

pub returns-then-kind-eq0 : goal.returns-then-kind-eq0
returns-then-kind-eq0 c = c.whole_row.ensures ∙ row_whole _ _ _ _ _ (omega arith)

pub broken_row-requires : goal.broken_row-requires
broken_row-requires c = let a = c.args in
    let r = c.requires.1 in
    omega (arith, kind_small a.self a.plan.packets, detail_small a.self c.kind-kind.result r.few r.differs)

pub returns : goal.returns
returns c = let a = c.args in
    let k = c.kind-kind in
    c.broken_row.ensures ∙ rw c.detail.ensures
    (row_broken a.plan a.number a.self a.marked a.began k.result k.ensures c.if-kind-eq0.false)
