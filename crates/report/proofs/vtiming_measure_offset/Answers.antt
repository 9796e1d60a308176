-- What is asked has the offset.
use Rattle.laws.specs.Kit.{sym, ap}
use Rattle.report.specs.Paper.{Answer}
use Rattle.report.proofs.Asking.{asked_answer}
use Rattle.report.proofs.vtiming_measure_offset.Goals as goal

pub returns-in-Ok : goal.returns-in-Ok
returns-in-Ok c = sym (ap (λ (a : Answer). a.offset) (asked_answer _ _ _ _ (sym c.in-Ok.ensures)))

pub returns-in-Err : goal.returns-in-Err
returns-in-Err c =
    sym (ap (λ (a : Answer). a.offset) (asked_answer _ _ _ _ (sym c.in-Err.ensures)))
