-- The counts and the answers, and the line's end.
use Rattle.laws.specs.Kit.{arith}
use Rattle.text.specs.Lines.{summary_line}
use Rattle.text.proofs.Parts.{part_then, part_put}
use Rattle.text.proofs.put_summary.Goals as goal

pub returns : goal.returns
unfolding summary_line
returns c =
    part_put {m = 195} (omega arith) (part_then c.put_sum-next.ensures c.put_word.ensures)
