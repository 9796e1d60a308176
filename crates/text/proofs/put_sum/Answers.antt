-- The counts and the two answers, one behind the other.
use Rattle.laws.specs.Kit.{arith}
use Rattle.text.proofs.Parts.{part_then, part_is}
use Rattle.text.proofs.Grouping.{summary_grouped}
use Rattle.text.proofs.put_sum.Goals as goal

pub returns : goal.returns
returns c =
    let args = c.args in
    let answers = part_then (part_then c.put_counts-counted.ensures c.put_network-judged.ensures) c.put_buffer.ensures in
    part_is (omega arith) (summary_grouped _ _ _ args.network args.buffer) answers
