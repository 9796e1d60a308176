-- What is left of the packets, run from the state and the rows so far, gives what the whole gives (Loop of timing's Running): each need is
-- one law of it, and the packet that was sought is the first of what is left (Seeking).
use Rattle.std.specs.Prelude.{◌≡◌, ◌∷◌, ◌≤◌, ◌<◌}
use Rattle.laws.specs.Kit.{sym, ◌∙◌, arith, length, drop}
use Rattle.capture.specs.Step.{handed_in}
use Rattle.capture.proofs.Seeking.{sought_cons, sought_none}
use Rattle.timing.proofs.Running.{loop_next, loop_ends, loop_arrives, loop_lays, loop_closed, turn_marked, turn_plain}
use Rattle.timing.proofs.Sink.{as_numbers}
use Rattle.intake.proofs.run_packets.Goals as goal
use Rattle.intake.proofs.run_packets.Goals.{In-Some}

-- the packet that was sought is the first of what is left, and the others begin behind it
first : (k : In-Some)
    → let a = k.args in
    let next = k.in-Some.found.next in
    (handed_in a.setting (drop k.loop-found.from a.bytes.now)
    ≡ k.in-Some.found.packet ∷ handed_in a.setting (drop next a.bytes.now))
    × (k.loop-found.from < next) × (next ≤ length a.bytes.now)
first k = sought_cons _ _ _ (sym k.seek.ensures ∙ k.in-Some.is)

pub returns-in_default : goal.returns-in_default
returns-in_default c =
    loop_ends as_numbers (sought_none _ _ _ (sym c.seek.ensures ∙ c.in_default.is)) c.loop-found.invariant

pub arrive-s-requires : goal.arrive-s-requires
arrive-s-requires c =
    loop_arrives as_numbers (first (goal.at.arrive-s-requires c).In-Some).0 c.loop-found.invariant

pub lay_row-at-requires : goal.lay_row-at-requires
lay_row-at-requires c =
    let on = first (goal.at.lay_row-at-requires c).In-Some in
    rw c.arrive-s.ensures (loop_lays as_numbers on.0 c.loop-found.invariant c.if-packet-eq1.true)

pub mark-s-requires : goal.mark-s-requires
mark-s-requires c =
    rw c.arrive-s.ensures (loop_closed as_numbers (first (goal.at.mark-s-requires c).In-Some).0 c.loop-found.invariant)

pub loop-found-smaller-then-packet-eq1 : goal.loop-found-smaller-then-packet-eq1
loop-found-smaller-then-packet-eq1 c =
    let on = first (goal.at.loop-found-smaller-then-packet-eq1 c).In-Some in
    omega (arith, on.1, on.2)

pub loop-found-preserved-then-packet-eq1 : goal.loop-found-preserved-then-packet-eq1
loop-found-preserved-then-packet-eq1 c =
    let l = c.loop-found in
    loop_next as_numbers (first (goal.at.loop-found-preserved-then-packet-eq1 c).In-Some).0 l.invariant
    (turn_marked as_numbers _ l.s _ l.at l.rows c.arrive-s.ensures c.if-packet-eq1.true c.mark-s.ensures
    c.lay_row-at.ensures)

pub loop-found-smaller : goal.loop-found-smaller
loop-found-smaller c =
    let on = first (goal.at.loop-found-smaller c).In-Some in
    omega (arith, on.1, on.2)

pub loop-found-preserved : goal.loop-found-preserved
loop-found-preserved c =
    let l = c.loop-found in
    loop_next as_numbers (first (goal.at.loop-found-preserved c).In-Some).0 l.invariant
    (turn_plain as_numbers _ l.s _ l.at l.rows c.arrive-s.ensures c.if-packet-eq1.false)
