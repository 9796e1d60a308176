-- The word, the row's numbers and the line's end, one behind the other.
use Rattle.std.specs.Prelude.{◌++◌}
use Rattle.laws.specs.Kit.{ap, List, arith, ℤ}
use Rattle.text.specs.Decimal.{codes}
use Rattle.text.specs.Lines.{fields, row_line}
use Rattle.text.proofs.Parts.{part_then, part_is, part_put}
use Rattle.text.proofs.put_row.Goals as goal

pub returns : goal.returns
unfolding row_line
returns c =
    let line = part_then (part_then c.put_word-frame.ensures c.put_fields-next.ensures) c.put_word.ensures in
    let same = ap (λ (zs : List ℤ). codes "frame" ++ fields zs ++ codes "\n") c.numbers.ensures in
    part_put {m = 256} (omega arith) (part_is (omega arith) same line)
