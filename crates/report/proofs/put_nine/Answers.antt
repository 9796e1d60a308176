-- What is left of the nine numbers, stored from the next place on, gives the end; each turn stores one.
use Rattle.laws.specs.Kit.{refl, ◌∙◌, arith}
use Rattle.report.proofs.Bytes.{store_turn, store_done}
use Rattle.report.proofs.put_nine.Goals as goal

pub loop-k-preserved : goal.loop-k-preserved
loop-k-preserved c =
    let l = c.loop-k in
    let all = c.args.numbers in (
      rw c.write64.ensures
          (store_turn _ _ l.k _ all l.out (omega arith) (omega (arith, l.invariant.1)) refl ∙ l.invariant.0),
      l.invariant.1,
    )

pub returns : goal.returns
returns c =
    let l = c.loop-k in
    let all = c.args.numbers in
    store_done _ l.k all l.out (omega (arith, l.invariant.1)) l.invariant.0
