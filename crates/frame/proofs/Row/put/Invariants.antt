-- What is left of the row's numbers, laid from the next place on, gives the end; each turn lays one.
use Rattle.std.specs.Prelude.{◌≡◌, ◌+◌}
use Rattle.laws.specs.Kit.{drop, sets}
use Rattle.frame.proofs.Row.put.Given as goal

abbrev pub invariant-loop-k : goal.invariant-loop-k
invariant-loop-k l = sets l.rows (l.at + l.k) (drop l.k l.numbers) ≡ sets l.initial.rows l.at l.numbers
