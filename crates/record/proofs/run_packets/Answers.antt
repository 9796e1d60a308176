-- A run over packets' records. The invariant: the run over those that are left, from where it is, is the run over all. Each turn is a law
-- of one record, for which there is room; no more markers came than records, so their number fits.
use Rattle.std.specs.Prelude.{◌≡◌, ◌-◌}
use Rattle.laws.specs.Kit.{sym, ◌∙◌, arith}
use Rattle.packet.proofs.Latest.{taken}
use Rattle.record.specs.Walk.{ran_in}
use Rattle.record.proofs.Ways.{rest_all}
use Rattle.record.proofs.Quickly.{turn_goes, turn_other, turn_breaks}
use Rattle.record.proofs.run_packets.Goals as goal

pub returns-then-not-packet_fits : goal.returns-then-not-packet_fits
returns-then-not-packet_fits c =
    turn_other c.loop-k.run c.loop-k-test.true c.args.from.at c.args.s.now
    (rw (rest_all _ _) at (sym c.packet_fits.ensures ∙ c.if-not-packet_fits.true)) ∙ c.loop-k.invariant.0

pub returns-then-not-takes : goal.returns-then-not-takes
returns-then-not-takes c =
    turn_breaks c.loop-k.run c.loop-k-test.true c.args.from.at c.args.s.now
    (rw (c.packet_at-p.ensures, rest_all _ _) at (sym c.takes.ensures ∙ c.if-not-takes.true)) ∙ c.loop-k.invariant.0

pub loop-k-preserved : goal.loop-k-preserved
loop-k-preserved c =
    let took = sym c.takes.ensures ∙ c.if-not-takes.false in (
      rw (c.with-run.ensures, c.packet_at-p.ensures, rest_all _ _)
          (turn_goes c.loop-k.run c.loop-k-test.true c.args.from.at c.args.s.now
          (rw (rest_all _ _) at (sym c.packet_fits.ensures ∙ c.if-not-packet_fits.false))
          (rw (c.packet_at-p.ensures, rest_all _ _) at took) ∙ c.loop-k.invariant.0),
      rw c.with-run.ensures (omega (arith, (taken c.loop-k.run c.packet_at-p.result took).marker_small)),
    )

pub returns : goal.returns
unfolding ran_in
returns c =
    let end : c.args.count - c.loop-k.k ≡ 0 = omega arith in
    rw end at c.loop-k.invariant.0
