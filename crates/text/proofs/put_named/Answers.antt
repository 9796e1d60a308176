-- The word, and behind it the number.
use Rattle.text.proofs.Parts.{part_then}
use Rattle.text.proofs.put_named.Goals as goal

pub returns : goal.returns
returns c =
    part_then c.put_word-next.ensures c.put_number.ensures
