-- The packets of a file. The invariant: what is left, read from where the cursor is into the tally so far, finishes as the whole does.
-- Each turn is a law of one answer; a record takes 16 bytes, so the walk ends.
use Rattle.std.specs.Prelude.{◌≡◌, Ok}
use Rattle.std.proofs.lemmas.Result.{err_from_is_err_and}
use Rattle.laws.specs.Kit.{sym, ap, ◌∙◌, arith, drop}
use Rattle.refusal.specs.Told.{number_in}
use Rattle.refusal.proofs.Telling.{number_some}
use Rattle.packet.specs.Step.{number_of}
use Rattle.packet.proofs.Refusals.{accepted}
use Rattle.packet.proofs.Turn.{tally_keeps}
use Rattle.record.specs.Step.{next_read, next_packet}
use Rattle.record.proofs.Walking.{stops, closing_fine, goes, refuses, next_at, next_within}
use Rattle.record.proofs.walk_packets.Goals as goal
use Rattle.record.proofs.walk_packets.Goals.{In-Packet, In_default-admit}

-- the packet that stands there
here : (c : In-Packet) → next_read c.loop-item.cursor.at (drop c.loop-item.cursor.at c.args.s.now) ≡ next_packet c.in-Packet.packet c.in-Packet.next
here c = sym c.in_ok-item.ensures ∙ ap Ok c.in-Packet.is

-- and it is accepted
fine : (c : In_default-admit) → number_of c.loop-item.tally.past c.in-Packet.packet ≡ 0
fine c = sym c.admit.ensures ∙ ap number_in c.in_default-admit.is

pub returns-in_err-item : goal.returns-in_err-item
returns-in_err-item c =
    let p = err_from_is_err_and c.from_residual.result c.from_residual.ensures.1 in
    let at = c.loop-item in
    let refused = c.in_err-item.ensures in
    rw (p.1, p.2) (sym (stops _ at.tally _ _ _ (λ q next k. absurd (cc)) (sym refused)) ∙ at.invariant.0)

pub returns-in_default : goal.returns-in_default
returns-in_default c =
    let at = c.loop-item in
    closing_fine _ at.tally c.in_ok-item.item
    ∙ sym (stops _ at.tally _ _ _ (λ q next k. c.in_default.not-Packet q next (cc)) (sym c.in_ok-item.ensures)) ∙ at.invariant.0

pub returns-in-Err : goal.returns-in-Err
returns-in-Err c =
    let at = c.loop-item in
    let number = ap number_in c.in-Err.is in
    rw c.refused_at.ensures
    (sym (refuses _ _ (omega arith) (here (goal.at.returns-in-Err c).In-Packet) _ at.tally _ (sym c.admit.ensures ∙ number)
    (omega (arith, number_some c.in-Err.refusal)))
    ∙ at.invariant.0)

pub with-tally-requires : goal.with-tally-requires
with-tally-requires c =
    record { few = (accepted _ _ _ (fine (goal.at.with-tally-requires c).In_default-admit)).few; no_more = c.loop-item.invariant.1 }

pub loop-item-smaller : goal.loop-item-smaller
loop-item-smaller c =
    let h = here (goal.at.loop-item-smaller c).In-Packet in
    omega (arith, next_at _ _ (omega (arith, c.well_formed)) h, next_within _ _ (omega (arith, c.well_formed)) h)

pub loop-item-preserved : goal.loop-item-preserved
loop-item-preserved c =
    let at = c.loop-item in
    let h = here (goal.at.loop-item-preserved c).In-Packet in (
      rw c.with-tally.ensures
          (sym (goes _ _ (omega (arith, c.well_formed)) h _ at.tally (fine (goal.at.loop-item-preserved c).In_default-admit))
          ∙ at.invariant.0),
      rw c.with-tally.ensures (tally_keeps at.tally _ at.invariant.1),
    )
