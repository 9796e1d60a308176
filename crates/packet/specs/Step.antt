-- A packet against what came before it, and the scan packet by packet: what the contracts cite.
use Rattle.std.specs.Prelude.{◌&&◌, ◌||◌, ◌∷◌, ◌+◌, ◌-◌, ◌≤◌, ◌<◌, Err, Ok}
use Rattle.laws.specs.Kit.{Bool, false, List, [], ℕ, ltb, leb, eqb, length}
use Rattle.laws.specs.Choose.{pick}
use Rattle.laws.specs.Fold.{fold}
use Rattle.packet.specs.declared.Past.{Past}
use Rattle.packet.specs.declared.Tally.{Tally}
use Rattle.packet.specs.Paper.{Scanned}
use Rattle.packet.specs.declared.Packet.{Packet}
use Rattle.packet.specs.Paper.{marked, packets}

-- before the first packet
abbrev pub nothing : Past
nothing = record { packets = 0; first = 0; last = 0 }

-- the first arrival, a packet at t included
abbrev pub first_of : Past → ℕ → ℕ
first_of past t = pick (eqb past.packets 0) t past.first

-- nanoseconds from the first packet to one at t
abbrev pub elapsed_of : Past → ℕ → ℕ
elapsed_of past t = t - first_of past t

-- nanoseconds from the packet before to one at t; 0 for the first
abbrev pub since_of : Past → ℕ → ℕ
since_of past t = pick (eqb past.packets 0) 0 (t - past.last)

-- N7: the number by which a packet is refused, 0 where it is not
unfoldable pub refusal_of : Past → ℕ → ℕ → ℕ
refusal_of past t marker =
    pick (ltb 1 marker) 11
    (pick (ltb t past.last) 12
    (pick (ltb 600000000000 (elapsed_of past t)) 13
    (pick (leb 1000000000 past.packets) 14 0)))

-- and of a packet of a list
abbrev pub number_of : Past → Packet → ℕ
number_of past p = refusal_of past p.time p.marker

-- what came before the packet after one at t
abbrev pub next_of : Past → ℕ → Past
next_of past t = record { packets = past.packets + 1; first = first_of past t; last = t }

-- how many frames a packet closes, by whether a marker came before it
abbrev pub closes : Bool → Packet → ℕ
closes begun p = pick (marked p && begun) 1 0

-- the packets so far: before the first, and after one more
abbrev pub no_packets : Tally
no_packets = record { past = nothing; begun = false; closed = 0 }

unfoldable pub tallied : Tally → Packet → Tally
tallied y p = record {
  past = next_of y.past p.time;
  begun = y.begun || marked p;
  closed = y.closed + closes y.begun p;
}

abbrev pub tally_of : Tally → List Packet → Tally
tally_of = fold tallied

-- another packet may be counted: no more frames closed than packets came
pub record Countable (y : Tally) : Type 0 where
  pub few : y.past.packets < 1000000000
  pub no_more : y.closed ≤ y.past.packets

-- so many frames closed before, then packet by packet up to the first that is refused
unfoldable pub scan_of : Past → Bool → ℕ → List Packet → Scanned
scan_of past begun closed [] = Ok closed
scan_of past begun closed (p ∷ ps) =
    pick (eqb (number_of past p) 0)
    (scan_of (next_of past p.time) (begun || marked p) (closed + closes begun p) ps)
    (Err (record { number = number_of past p; place = past.packets }))

-- N1, N6, N12: "10 the three slices differ in length", with place 0
abbrev pub unequal : Scanned
unequal = Err (record { number = 10; place = 0 })

-- the answer to three lent slices, whatever they are
unfoldable pub scanned_of : Past → Bool → List ℕ → List ℕ → List ℕ → Scanned
scanned_of past begun ts ss ms =
    pick (eqb (length ss) (length ts) && eqb (length ms) (length ts))
    (scan_of past begun 0 (packets ts ss ms))
    unequal

-- a scan found nothing to refuse, and no more frames close than there is room for
abbrev pub Ready : Scanned → ℕ → Type 0
Ready (Ok closed) room = closed ≤ room
Ready (Err r) room = ⊥

-- Document 01's number, 0 where nothing is refused, the place, and the frames that close, for each case of the answer.
abbrev pub scanned_number : Scanned → ℕ
scanned_number (Ok closed) = 0
scanned_number (Err r) = r.number

abbrev pub scanned_place : Scanned → ℕ
scanned_place (Ok closed) = 0
scanned_place (Err r) = r.place

abbrev pub scanned_closed : Scanned → ℕ
scanned_closed (Ok closed) = closed
scanned_closed (Err r) = 0
