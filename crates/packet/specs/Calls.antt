-- A history cut in two: what the first part brought, and the answer to the second from there.
use Rattle.std.specs.Prelude.{◌||◌, ◌+◌, Err, Ok}
use Rattle.laws.specs.Kit.{Bool, List, ℕ}
use Rattle.laws.specs.Fold.{fold}
use Rattle.packet.specs.declared.Past.{Past}
use Rattle.packet.specs.Paper.{Scanned}
use Rattle.packet.specs.declared.Packet.{Packet}
use Rattle.packet.specs.Paper.{marked}
use Rattle.packet.specs.Step.{next_of}

-- what came before the packet after l, and whether a marker did
abbrev pub past_after_packets : Past → List Packet → Past
past_after_packets = fold (λ past p. next_of past p.time)

abbrev pub begun_after : Bool → List Packet → Bool
begun_after = fold (λ begun p. begun || marked p)

-- a refusal stands; else go on with the frames that closed so far
abbrev pub and_then : Scanned → (ℕ → Scanned) → Scanned
and_then (Ok closed) rest = rest closed
and_then (Err r) rest = Err r

-- the frames that closed before, and then an answer's
abbrev pub more : ℕ → Scanned → Scanned
more closed (Ok n) = Ok (closed + n)
more closed (Err r) = Err r
