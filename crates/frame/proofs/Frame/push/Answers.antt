-- The frame opened, what goes by taken off the wait, one packet more: the products fit by Opening. Where the buffer is not judged the packet
-- is counted, and nothing else.
use Rattle.laws.specs.Kit.{arith}
use Rattle.frame.proofs.Opening.{opened_timed, reach_fits}
use Rattle.frame.proofs.Frame.push.Goals as goal

pub overflow_mul-by : goal.overflow_mul-by
overflow_mul-by c = record { fits = rw c.gone_by.ensures (omega (arith, (reach_fits _ _ c.opened-f.ensures c.requires.0 c.requires.1).goes)) }

pub reads_on-reads-requires : goal.reads_on-reads-requires
reads_on-reads-requires c = rw c.gone_by.ensures (reach_fits _ _ c.opened-f.ensures c.requires.0 c.requires.1)

pub counted-counted-requires : goal.counted-counted-requires
counted-counted-requires c = (opened_timed _ _ c.opened-f.ensures c.requires.0 c.requires.1).few

pub ticked-requires : goal.ticked-requires
ticked-requires c = (opened_timed _ _ c.opened-f.ensures c.requires.0 c.requires.1).few
