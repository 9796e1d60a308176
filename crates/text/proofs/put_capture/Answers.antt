-- The counts and the answers, the two counts of records, and the line's end.
use Rattle.laws.specs.Kit.{arith}
use Rattle.text.proofs.Parts.{part_then, part_is, part_put}
use Rattle.text.proofs.Grouping.{capture_grouped}
use Rattle.text.proofs.put_capture.Goals as goal

pub returns : goal.returns
returns c =
    let args = c.args in
    let line = part_then (part_then (part_then c.put_sum-read.ensures c.put_named-passed.ensures) c.put_named-next.ensures)
    c.put_word.ensures in
    part_put {m = 256} (omega arith) (part_is (omega arith) (capture_grouped _ _ _ args.network args.buffer _ _) line)
