-- What is left of the ten numbers, stored from the next place on, gives the end; each turn stores one.
use Rattle.laws.specs.Kit.{ap, ◌∙◌, map, length, add-zero, arith}
use Rattle.report.proofs.Bytes.{length_signs, row_length, sign_passed, store_turn, store_done}
use Rattle.report.specs.Paper.{signed}
use Rattle.report.proofs.put_row.Goals as goal

pub loop-k-init : goal.loop-k-init
loop-k-init c = (
  rw add-zero,
  ap length c.numbers-numbers.ensures,
  omega (arith, c.requires, row_length c.args.row),
)

pub loop-k-preserved : goal.loop-k-preserved
loop-k-preserved c =
    let l = c.loop-k in
    let ten = c.numbers-numbers.result in
    let x = c.cast_unsigned.ensures ∙ sign_passed ten l.k (record { sfits = c.number-1.given }) in (
      rw c.write64.ensures
          (store_turn _ _ l.k _ (map signed ten) l.out (omega arith) (omega (arith, l.invariant.1, length_signs ten)) x ∙ l.invariant.0),
      l.invariant.1,
      l.invariant.2,
    )

pub returns : goal.returns
returns c =
    let l = c.loop-k in
    let ten = c.numbers-numbers.result in
    store_done _ l.k (map signed ten) l.out (omega (arith, l.invariant.1, length_signs ten)) l.invariant.0
    ∙ rw c.numbers-numbers.ensures
