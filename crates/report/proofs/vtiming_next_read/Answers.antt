-- The refusals, or the three numbers and the room for them: one law each (Calls).
use Rattle.std.specs.Prelude.{Ok}
use Rattle.laws.specs.Kit.{refl, sym, ap, ◌∙◌}
use Rattle.refusal.specs.Told.{by_number}
use Rattle.report.proofs.Calls.{next_refused, next_told}
use Rattle.report.proofs.vtiming_next_read.Goals as goal

pub returns-in-Ok-Some : goal.returns-in-Ok-Some
returns-in-Ok-Some c =
    let which = sym c.next_read.ensures ∙ ap by_number (c.in-Ok-Some.is ∙ ap Ok c.in-Ok-Some.field-0-is) in
    rw (sym c.stated-asked.ensures) (next_told _ _ _ _ (sym which) refl refl c.put_three.ensures)

pub returns-in-Ok-None : goal.returns-in-Ok-None
returns-in-Ok-None c =
    let which = sym c.next_read.ensures ∙ ap by_number (c.in-Ok-None.is ∙ ap Ok c.in-Ok-None.field-0-is) in
    rw (sym c.stated-asked.ensures) (next_told _ _ _ _ (sym which) refl refl c.put_three-in-Ok-None.ensures)

pub returns-in-Err : goal.returns-in-Err
returns-in-Err c =
    rw (c.from.ensures, sym c.stated-asked.ensures) (next_refused _ _ _ _ c.next_read.ensures (ap by_number c.in-Err.is))
