-- The rest of the two, from where the loop is, is alike exactly where the whole is.
use Rattle.std.specs.Prelude.{◌≡◌}
use Rattle.laws.specs.Kit.{drop}
use Rattle.probe.specs.Words as words
use Rattle.probe.proofs.same.Given as goal

abbrev pub invariant-loop-k : goal.invariant-loop-k
invariant-loop-k l = words.same (drop l.k l.a) (drop l.k l.b) ≡ words.same l.a l.b
