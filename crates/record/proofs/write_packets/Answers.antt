-- The packets' records. The invariant: storing what is left, from where the loop is, is storing them all; each record takes 16 bytes.
use Rattle.laws.specs.Kit.{sym, ◌∙◌, arith}
use Rattle.record.proofs.Stores.{records_turn, records_end}
use Rattle.record.proofs.write_packets.Goals as goal

pub loop-i-preserved : goal.loop-i-preserved
loop-i-preserved c =
    let at = c.loop-i in (
      rw c.write_packet.ensures (records_turn c.requires.same at.i at.out c.loop-i-test.true ∙ at.invariant.0),
      omega arith,
    )

pub returns : goal.returns
returns c =
    let at = c.loop-i in
    sym (records_end c.requires.same at.i at.out _ c.loop-i-test.false (omega arith)) ∙ at.invariant.0
