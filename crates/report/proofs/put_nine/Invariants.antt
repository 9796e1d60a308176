-- What is left of the nine numbers, stored from the next place on, gives the end; each turn stores one.
use Rattle.std.specs.Prelude.{◌≡◌, ◌*◌}
use Rattle.laws.specs.Kit.{length, drop, sets}
use Rattle.timing.specs.Answers.{summary_width}
use Rattle.report.specs.Paper.{number_bytes, in_bytes}
use Rattle.report.proofs.put_nine.Given as goal

abbrev pub invariant-loop-k : goal.invariant-loop-k
invariant-loop-k l =
    (sets l.out (number_bytes * l.k) (in_bytes (drop l.k l.fn.numbers)) ≡ sets l.initial.out 0 (in_bytes l.fn.numbers))
    × (length l.fn.numbers ≡ summary_width)
