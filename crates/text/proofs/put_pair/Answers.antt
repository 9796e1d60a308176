-- The word and the first number, and behind them a space and the second.
use Rattle.laws.specs.Kit.{append_assoc, arith}
use Rattle.text.proofs.Parts.{part_then, part_is}
use Rattle.text.proofs.put_pair.Goals as goal

pub returns : goal.returns
returns c =
    part_is (omega arith) (simp append_assoc) (part_then c.put_named-next.ensures c.put_named.ensures)
