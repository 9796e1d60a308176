-- The body's length and the kind as one number (Standing).
use Rattle.laws.specs.Kit.{arith}
use Rattle.record.proofs.Standing.{by_front}
use Rattle.record.proofs.packet_fits.Goals as goal

pub returns : goal.returns
returns c =
    rw c.read32.ensures
    (by_front c.args.s.now (omega (arith, c.requires.inside)) (omega (arith, (c.type_inv.s 2).fits)) (omega (arith, (c.type_inv.s 3).fits)))
