-- The check's answer, and then the room: each return is one law (Asking).
use Rattle.std.specs.Prelude.{Ok}
use Rattle.laws.specs.Kit.{sym, ap, ◌∙◌}
use Rattle.report.proofs.Asking.{asked_refused, asked_room, asked_15}
use Rattle.report.proofs.ask.Goals as goal

pub returns-then-fits : goal.returns-then-fits
returns-then-fits c =
    ap Ok c.stream_in.ensures
    ∙ asked_room _ _ _ _ _ _ (sym c.in-Ok.ensures)
    (sym c.fits.ensures ∙ c.if-fits.true)

pub returns-else-fits : goal.returns-else-fits
returns-else-fits c =
    asked_15 _ _ _ _ _ _ (sym c.in-Ok.ensures)
    (sym c.fits.ensures ∙ c.if-fits.false)

pub returns-in-Err : goal.returns-in-Err
returns-in-Err c = asked_refused _ _ _ _ _ (sym c.in-Err.ensures)
