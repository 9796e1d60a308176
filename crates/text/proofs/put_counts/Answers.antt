-- Three words, each with its number behind it.
use Rattle.laws.specs.Kit.{append_assoc, arith}
use Rattle.text.proofs.Parts.{part_then, part_is}
use Rattle.text.proofs.put_counts.Goals as goal

pub returns : goal.returns
returns c =
    part_is (omega arith) (simp append_assoc)
    (part_then (part_then c.put_named-frames.ensures c.put_named-greatest.ensures) c.put_named.ensures)
