-- What is asked decides: refused, nothing is stored; fine, the rows are stored and then the nine numbers (Asking).
use Rattle.laws.specs.Kit.{sym, ap, ◌∙◌, arith}
use Rattle.report.specs.Paper.{Answer}
use Rattle.report.proofs.Asking.{asked_fine, asked_answer, fits_measurable, refused_leaves, report_filled}
use Rattle.report.proofs.Measuring.{measured_in_range}
use Rattle.report.proofs.vtiming_measure.Goals as goal

pub measure-s-requires : goal.measure-s-requires
measure-s-requires c =
    fits_measurable _ _ _ _ (asked_fine _ _ _ _ (sym c.in-Ok.ensures))

pub put_summary-requires : goal.put_summary-requires
put_summary-requires c =
    let fits = asked_fine _ _ _ _ (sym c.in-Ok.ensures) in
    let can = fits_measurable _ _ _ _ fits in
    let room = can.fits in
    (omega (arith, room), measured_in_range can c.measure-s.ensures)

pub returns-in-Ok : goal.returns-in-Ok
returns-in-Ok c =
    let fine = sym c.in-Ok.ensures in
    let measured = c.measure-s.ensures in
    record {
      number_is = sym (ap (λ (a : Answer). a.number) (asked_answer _ _ _ _ fine));
      bytes_are = report_filled _ _ _ _ (asked_fine _ _ _ _ fine) measured c.put_summary.ensures;
    }

pub returns-in-Err : goal.returns-in-Err
returns-in-Err c =
    let refused = sym c.in-Err.ensures in
    record {
      number_is = c.from.ensures ∙ sym (ap (λ (a : Answer). a.number) (asked_answer _ _ _ _ refused));
      bytes_are = refused_leaves _ _ _ _ _ refused;
    }
