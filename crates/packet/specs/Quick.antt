-- Packets gone through quickly: 11 and 12 packet by packet, 13 and 14 once for all. What the contracts cite.
use Rattle.std.specs.Prelude.{◌&&◌, ◌∷◌, ◌+◌, ◌-◌, Option, None, Some}
use Rattle.laws.specs.Kit.{Bool, List, [], ℕ, leb}
use Rattle.laws.specs.Choose.{pick}
use Rattle.packet.specs.declared.Packet.{Packet}
use Rattle.packet.specs.declared.Past.{Past}
use Rattle.packet.specs.declared.Run.{Run}
use Rattle.packet.specs.Step.{first_of}

-- before the packets: the last arrival of those that came, and 1 where a marker did
abbrev pub start_of : Past → Bool → Run
start_of past begun = record { last = past.last; marks = pick begun 1 0 }

-- N7: neither 11 nor 12
abbrev pub takes_of : Run → Packet → Bool
takes_of r p = leb p.marker 1 && leb r.last p.time

-- a marker that is taken is 0 or 1
abbrev pub runs_of : Run → Packet → Run
runs_of r p = record { last = p.time; marks = r.marks + p.marker }

-- through all packets, or broken off at one that 11 or 12 refuses
abbrev pub Ran : Type 0
Ran = Option Run

unfoldable pub ran_of : Run → List Packet → Ran
ran_of r [] = Some r
ran_of r (p ∷ ps) = pick (takes_of r p) (ran_of (runs_of r p) ps) None

-- N7: neither 13 nor 14, of so many packets, the first and the last of which arrive at these times
abbrev pub admits_of : Past → ℕ → ℕ → ℕ → Bool
admits_of past count first last = leb count (1000000000 - past.packets) && leb (last - first_of past first) 600000000000

-- P4, P5: the first marker ends the lead-in, and each one after it closes a frame
abbrev pub closed_by : Run → ℕ
closed_by r = r.marks - 1
