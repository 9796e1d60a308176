-- What is left of the ten numbers, stored from the next place on, gives the end; each turn stores one.
use Rattle.std.specs.Prelude.{◌≡◌, ◌+◌, ◌*◌, ◌≤◌}
use Rattle.laws.specs.Kit.{map, length, drop, sets}
use Rattle.frame.specs.Step.{row_width}
use Rattle.report.specs.Paper.{number_bytes, signed, in_bytes, encoded}
use Rattle.report.proofs.put_row.Given as goal

abbrev pub invariant-loop-k : goal.invariant-loop-k
invariant-loop-k l =
    (sets l.out (l.at + number_bytes * l.k) (in_bytes (drop l.k (map signed l.number-items))) ≡ sets l.initial.out l.at (encoded l.number-items))
    × (length l.number-items ≡ row_width) × (l.at + number_bytes * row_width ≤ length l.initial.out)
