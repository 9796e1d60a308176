-- The check's count of frames is how long the report is; at most 1,000,000,000 of them, so that nothing overflows (Asking).
use Rattle.laws.specs.Kit.{sym, arith}
use Rattle.report.proofs.Asking.{room_fine, few_closed, room_refused}
use Rattle.report.proofs.vtiming_measure_room.Goals as goal

pub overflow_mul-result : goal.overflow_mul-result
overflow_mul-result c =
    omega (arith, few_closed _ _ _ _ (sym c.in-Ok.ensures))

pub overflow_add-result : goal.overflow_add-result
overflow_add-result c =
    omega (arith, few_closed _ _ _ _ (sym c.in-Ok.ensures))

pub overflow_mul-result-in-Ok : goal.overflow_mul-result-in-Ok
overflow_mul-result-in-Ok c =
    omega (arith, few_closed _ _ _ _ (sym c.in-Ok.ensures))

pub returns-in-Ok : goal.returns-in-Ok
returns-in-Ok c =
    room_fine _ _ _ _ (sym c.in-Ok.ensures)

pub returns-in-Err : goal.returns-in-Err
returns-in-Err c = room_refused _ _ _ (sym c.in-Err.ensures)
