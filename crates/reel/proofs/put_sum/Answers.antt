-- The line is that of the verdict which the state was asked for, whichever case it is.
use Rattle.laws.specs.Kit.{ap}
use Rattle.printer.proofs.Answers.{line_is}
use Rattle.reel.specs.Paper.{judged_line, captured_line}
use Rattle.reel.proofs.put_sum.Goals as goal

pub returns-in-Ok : goal.returns-in-Ok
unfolding captured_line
returns-in-Ok c =
    let a = c.args in
    line_is (ap (judged_line a.s a.records a.skipped) c.in-Ok.ensures)
    c.put_capture.ensures

pub returns-in-Err : goal.returns-in-Err
unfolding captured_line
returns-in-Err c =
    let a = c.args in
    line_is (ap (judged_line a.s a.records a.skipped) c.in-Err.ensures)
    (rw c.number.ensures at c.put_refusal.ensures)
