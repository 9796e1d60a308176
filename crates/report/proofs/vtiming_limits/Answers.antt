-- Set-up's refusal, then the room, then the four stores: one law each (Calls).
use Rattle.laws.specs.Kit.{sym, arith}
use Rattle.refusal.proofs.Telling.{number_some}
use Rattle.report.proofs.Calls.{limits_refused, limits_short, limits_done}
use Rattle.report.proofs.vtiming_limits.Goals as goal

pub returns-in-Err : goal.returns-in-Err
returns-in-Err c =
    rw (c.from.ensures, sym c.stated-asked.ensures) (limits_refused _ _ _ (sym c.in-Err.ensures) (omega (arith, number_some c.in-Err.refusal)))

pub returns-then-out-lt4 : goal.returns-then-out-lt4
returns-then-out-lt4 c =
    rw (c.from-then-out-lt4.ensures, sym c.stated-asked.ensures) (limits_short _ _ (sym c.in_default.ensures) c.if-out-lt4.true)

pub returns : goal.returns
returns c =
    rw (sym c.stated-asked.ensures)
    (limits_done _ _ (sym c.in_default.ensures) (omega arith)
    (rw (c.frame_length.ensures, c.rules-rules.ensures, c.numbers-numbers.ensures)))
