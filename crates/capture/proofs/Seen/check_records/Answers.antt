-- A record that is counted: the check goes on behind it (Checking).
use Rattle.std.proofs.Common.{rules}
use Rattle.capture.proofs.Checking.{loop_next}
use Rattle.capture.proofs.Seen.check_records.Goals as goal

pub loop-front-preserved : goal.loop-front-preserved
loop-front-preserved c =
    loop_next c.loop-front.invariant (search rules) c.in-Record.is c.in_ok-admit.ensures c.with-seen.ensures
