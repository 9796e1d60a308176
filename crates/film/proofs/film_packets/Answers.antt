-- What is left of the packets, from the state and the bytes so far, gives what the whole gives (Loop of timing's Running): each need is one
-- law of it, and the packet that was sought is the first of what is left (capture's Seeking).
use Rattle.laws.specs.Kit.{sym, ◌∙◌, arith}
use Rattle.capture.proofs.Seeking.{sought_cons, sought_none}
use Rattle.timing.proofs.Running.{loop_next, loop_ends, loop_arrives, loop_lays, loop_closed, turn_marked, turn_plain}
use Rattle.report.proofs.Bytes.{as_bytes}
use Rattle.film.proofs.Filming.{film_ends}
use Rattle.film.proofs.film_packets.Goals as goal

pub returns-in_default : goal.returns-in_default
returns-in_default c =
    film_ends c.rules-made.ensures c.fresh-s.ensures
    (loop_ends as_bytes (sought_none _ _ _ (sym c.seek.ensures ∙ c.in_default.is)) c.loop-found.invariant)

pub arrive-s-requires : goal.arrive-s-requires
arrive-s-requires c =
    let first = sought_cons _ _ _ (sym c.seek.ensures ∙ c.in-Some.is) in
    loop_arrives as_bytes first.0 c.loop-found.invariant

pub put_closed-at-requires : goal.put_closed-at-requires
put_closed-at-requires c =
    let first = sought_cons _ _ _ (sym c.seek.ensures ∙ c.in-Some.is) in
    rw c.arrive-s.ensures (loop_lays as_bytes first.0 c.loop-found.invariant c.if-packet-eq1.true)

pub mark-s-requires : goal.mark-s-requires
mark-s-requires c =
    let first = sought_cons _ _ _ (sym c.seek.ensures ∙ c.in-Some.is) in
    rw c.arrive-s.ensures (loop_closed as_bytes first.0 c.loop-found.invariant)

pub loop-found-smaller-then-packet-eq1 : goal.loop-found-smaller-then-packet-eq1
loop-found-smaller-then-packet-eq1 c =
    let first = sought_cons _ _ _ (sym c.seek.ensures ∙ c.in-Some.is) in
    omega (arith, first.1, first.2)

pub loop-found-preserved-then-packet-eq1 : goal.loop-found-preserved-then-packet-eq1
loop-found-preserved-then-packet-eq1 c =
    let l = c.loop-found in
    let first = sought_cons _ _ _ (sym c.seek.ensures ∙ c.in-Some.is) in
    loop_next as_bytes first.0 l.invariant
    (turn_marked as_bytes _ l.s _ l.at l.out c.arrive-s.ensures c.if-packet-eq1.true c.mark-s.ensures
    c.put_closed-at.ensures)

pub loop-found-smaller : goal.loop-found-smaller
loop-found-smaller c =
    let first = sought_cons _ _ _ (sym c.seek.ensures ∙ c.in-Some.is) in
    omega (arith, first.1, first.2)

pub loop-found-preserved : goal.loop-found-preserved
loop-found-preserved c =
    let l = c.loop-found in
    let first = sought_cons _ _ _ (sym c.seek.ensures ∙ c.in-Some.is) in
    loop_next as_bytes first.0 l.invariant (turn_plain as_bytes _ l.s _ l.at l.out c.arrive-s.ensures c.if-packet-eq1.false)
