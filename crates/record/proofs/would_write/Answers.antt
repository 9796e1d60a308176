-- What the writer answers: each return is one law, from what was refused before it.
use Rattle.std.specs.Prelude.{◌≡◌, Ok}
use Rattle.std.proofs.lemmas.Result.{err_from_is_err_and}
use Rattle.laws.specs.Kit.{refl, sym, ap, ◌∙◌, arith}
use Rattle.refusal.specs.Told.{told}
use Rattle.refusal.proofs.Telling.{number_some}
use Rattle.packet.specs.Step.{nothing, scanned_of}
use Rattle.laws.specs.Kit.{false}
use Rattle.record.proofs.Writing.{scan_of, answers_set_up, answers_scan, answers_24, answers_done, few_packets}
use Rattle.record.proofs.would_write.Goals as goal
use Rattle.record.proofs.would_write.Goals.{In_ok-scan}

-- the packets were accepted
scanned : (c : In_ok-scan) → let a = c.args in scanned_of nothing false a.arrivals.now a.stamps.now a.markers.now ≡ Ok c.in_ok-scan.field-0
scanned c = scan_of _ _ _ c.none.ensures c.scan.ensures ∙ ap told c.in_ok-scan.was

pub returns-in-Err : goal.returns-in-Err
returns-in-Err c = answers_set_up _ _ _ _ _ _ (sym c.in-Err.ensures) (omega (arith, number_some c.in-Err.refusal))

pub returns-in_err-scan : goal.returns-in_err-scan
returns-in_err-scan c =
    let p = err_from_is_err_and c.from_residual.result c.from_residual.ensures.1 in
    rw (p.1, p.2)
    (answers_scan _ _ _ _ _ (sym c.in_default.ensures) (scan_of _ _ _ c.none.ensures c.scan.ensures ∙ ap told c.in_err-scan.was) refl)

pub overflow_add-needed : goal.overflow_add-needed
overflow_add-needed c = omega (arith, few_packets _ _ _ (scanned c))

pub returns-then-room-needed : goal.returns-then-room-needed
returns-then-room-needed c =
    answers_24 _ _ _ _ _ (sym c.in_default.ensures) (scanned (goal.at.returns-then-room-needed c).In_ok-scan) (omega arith)

pub returns : goal.returns
returns c = answers_done _ _ _ _ _ (sym c.in_default.ensures) (scanned (goal.at.returns c).In_ok-scan) (omega arith)
