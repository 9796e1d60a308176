-- A whole file: its head, and its packets, each by the law of its answer.
use Rattle.std.specs.Prelude.{◌≡◌, Ok}
use Rattle.std.proofs.lemmas.Result.{err_from_is_err_and}
use Rattle.laws.specs.Kit.{sym, ap, ◌∙◌, arith}
use Rattle.refusal.specs.Told.{told}
use Rattle.refusal.proofs.Telling.{number_some}
use Rattle.record.specs.Step.{head_ready}
use Rattle.record.proofs.Opening.{head_stops, head_never_more, opens_refused, opens_fine}
use Rattle.record.proofs.check.Goals as goal
use Rattle.record.proofs.check.Goals.{In-Some}

-- the head that was read
read : (c : In-Some) → let h = c.in-Some.head in told c.read_head.result ≡ head_ready h.version h.kind h.parameters h.next
read c = ap told (c.in_ok-head.was ∙ ap Ok c.in-Some.is)

pub returns-in_err-head : goal.returns-in_err-head
returns-in_err-head c =
    let p = err_from_is_err_and c.from_residual.result c.from_residual.ensures.1 in
    rw (p.1, p.2) (head_stops _ _ _ c.in_err-head.ensures)

pub unreachable-requires : goal.unreachable-requires
unreachable-requires c =
    head_never_more c.args.edition c.args.s.now (sym (ap told (c.in_ok-head.was ∙ ap Ok c.in_default.is)) ∙ c.read_head.ensures)

pub returns-in-Err : goal.returns-in-Err
returns-in-Err c =
    rw c.refused_at.ensures
    (opens_refused _ _ c.read_head.ensures (read (goal.at.returns-in-Err c).In-Some) c.set_with-numbers.ensures _ (sym c.in-Err.ensures)
    (omega (arith, number_some c.in-Err.refusal)))

pub returns : goal.returns
returns c =
    c.check_packets.ensures
    ∙ opens_fine _ _ c.read_head.ensures (read (goal.at.returns c).In-Some) c.set_with-numbers.ensures (sym c.in_default-check_in.ensures)
