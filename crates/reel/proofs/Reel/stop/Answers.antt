-- By what lies ahead: each return is one law (Turning).
use Rattle.std.proofs.Common.{rules}
use Rattle.laws.specs.Kit.{refl, arith}
use Rattle.reel.proofs.Turning.{stop_packet, stop_wait}
use Rattle.reel.proofs.Reel.stop.Goals as goal

pub returns-in-Ok-Packet : goal.returns-in-Ok-Packet
returns-in-Ok-Packet c =
    let w = c.in-Ok-Packet in
    stop_packet c.args.self {p = w.field-0-0} {m = w.field-0-1} {n = w.field-0-2} (search rules) (omega (arith, c.requires.0))
    c.put_ahead-next.ensures

pub returns-in-Ok-Wait : goal.returns-in-Ok-Wait
returns-in-Ok-Wait c =
    stop_wait c.args.self (search rules) (omega (arith, c.requires.0)) c.put_ahead-next.ensures c.passed.ensures refl
