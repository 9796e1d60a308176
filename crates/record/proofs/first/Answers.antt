-- What follows the version byte, by the framing that was seen.
use Rattle.record.proofs.Ways.{is_whole}
use Rattle.record.proofs.first.Goals as goal

pub first_record-requires : goal.first_record-requires
first_record-requires c = is_whole _ _ c.frame-framed.ensures c.in-Whole.is
