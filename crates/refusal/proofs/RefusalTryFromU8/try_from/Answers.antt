-- The numbers that no refusal has.
use Rattle.std.proofs.Common.{arith, refl}
use Rattle.refusal.proofs.Telling.{from_25, from_34}
use Rattle.refusal.proofs.RefusalTryFromU8.try_from.Goals as goal

pub returns-in-25-to-29 : goal.returns-in-25-to-29
returns-in-25-to-29 c = rw (from_25 c.args.code (omega arith) (omega arith)) refl

pub returns-in-34-to-255 : goal.returns-in-34-to-255
returns-in-34-to-255 c = rw (from_34 c.args.code (omega arith)) refl
