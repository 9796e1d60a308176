-- What is left of the row's numbers, laid from the next place on, gives the end; each turn lays one.
use Rattle.laws.proofs.Lay.{sets_turn, sets_done}
use Rattle.laws.specs.Kit.{pos, add-zero, ap, ◌∙◌, arith, length}
use mir.Syntax.{w64}
use mir.Facts.{to_z-of_z}
use Rattle.frame.proofs.Row.put.Goals as goal

pub loop-k-init : goal.loop-k-init
loop-k-init c = rw add-zero

pub loop-k-preserved : goal.loop-k-preserved
loop-k-preserved c = let l = c.loop-k in
    let all = c.numbers-numbers.result in
    rw (to_z-of_z {w = w64} (record { sfits = c.rows-1.given }))
    (sets_turn _ l.k all l.rows (pos 0) (omega (arith, ap length c.numbers-numbers.ensures)) ∙ l.invariant)

pub returns : goal.returns
returns c = let l = c.loop-k in
    let all = c.numbers-numbers.result in
    sets_done _ l.k all l.rows (omega (arith, ap length c.numbers-numbers.ensures)) l.invariant ∙ rw c.numbers-numbers.ensures
