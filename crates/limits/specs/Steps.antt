-- What the code of a limit asks of the number that it is given from document 01's formula, and what the parameters' types hold.
use Rattle.std.specs.Prelude.{◌≡◌, ◌*◌, ◌/◌, ◌≤◌, ◌<◌}
use Rattle.laws.specs.Kit.{ℕ}
use Rattle.limits.specs.declared.Parameters.{Parameters}
use Rattle.limits.specs.Paper.{second}

-- k divides a second's grains, and is not so small that n times a k-th of a second leaves 64 bits
pub record Divides (k : ℕ) : Type 0 where
  pub whole : k * (second / k) ≡ second
  pub least : 300 ≤ k

-- what the types of the seven numbers always hold: a u8, a u16 and a u32
pub record ParametersHeld (p : Parameters) : Type 0 where
  pub rate : p.rate < 256
  pub schedule : p.schedule < 256
  pub class : p.class < 256
  pub height : p.height < 65536
  pub n : p.n < 4294967296
  pub maxudp : p.maxudp < 65536
  pub tro : p.tro < 4294967296
