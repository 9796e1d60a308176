-- The word and the two numbers, and behind them the line's end.
use Rattle.laws.specs.Kit.{sym, arith}
use Rattle.text.specs.Lines.{refusal_line}
use Rattle.text.proofs.Parts.{part_then, part_put}
use Rattle.text.proofs.put_refusal.Goals as goal

pub returns : goal.returns
unfolding refusal_line
returns c =
    rw (sym c.from.ensures) (part_put (omega arith) (part_then c.put_pair-next.ensures c.put_word.ensures))
