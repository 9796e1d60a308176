-- The sentences of document 01 about packets, their refusals and the frames that they close, over the whole history by place.
use Rattle.std.specs.Prelude.{◌≡◌, ◌∷◌, ◌-◌, Result, Err, Ok}
use Rattle.laws.specs.Kit.{Bool, false, not, List, [], ℕ, zero, suc, ltb, leb, eqb, length, drop, get_or}
use Rattle.laws.specs.Choose.{pick}
use Rattle.laws.specs.Count.{count, begun, again}
use Rattle.laws.specs.Seek.{seek}
use Rattle.packet.specs.declared.Packet.{Packet}
use Rattle.refusal.specs.Told.{Numbered}
use Rattle.packet.specs.declared.Past.{Past}

-- what stands past the end of a history
abbrev pub no_packet : Packet
no_packet = record { time = 0; stamp = 0; marker = 0 }

abbrev pub marked : Packet → Bool
marked p = eqb p.marker 1

-- P1, P2: "A call lends three slices of these": as many packets as the shortest has
unfoldable pub packets : List ℕ → List ℕ → List ℕ → List Packet
packets [] ss ms = []
packets (t ∷ ts) [] ms = []
packets (t ∷ ts) (s ∷ ss) [] = []
packets (t ∷ ts) (s ∷ ss) (m ∷ ms) = record { time = t; stamp = s; marker = m } ∷ packets ts ss ms

-- N6: what is not "the three slices differ in length"
pub record OneLength (ts ss ms : List ℕ) : Type 0 where
  pub stamps : length ss ≡ length ts
  pub markers : length ms ≡ length ts

-- packet i of them, and the packets from i on
abbrev pub lent : List ℕ → List ℕ → List ℕ → ℕ → Packet
lent ts ss ms i = record { time = get_or ts i 0; stamp = get_or ss i 0; marker = get_or ms i 0 }

abbrev pub packets_from : ℕ → List ℕ → List ℕ → List ℕ → List Packet
packets_from i ts ss ms = packets (drop i ts) (drop i ss) (drop i ms)

-- N7, N11, N12: fine with the number of frames that close, or the number of the first refusal and its place in the history
abbrev pub Scanned : Type 0
Scanned = Result ℕ Numbered

module _ (l : List Packet) where
  -- packet i of the history, counted from 0
  abbrev pub at : ℕ → Packet
  at i = get_or l i no_packet

  -- N7: "arrival earlier than the one before it": the first packet has none before it
  abbrev pub earlier_at : ℕ → Bool
  earlier_at zero = false
  earlier_at (suc i) = ltb (at (suc i)).time (at i).time

  -- N1, N7: "11 marker above 1; 12 arrival earlier than the one before it; 13 more than 600 s after the first packet;
  -- 14 more than 1,000,000,000 packets", in this order; 0 where packet i is not refused.
  -- Places count from 0: the packet at 1,000,000,000 is the first of more than that many.
  unfoldable pub refusal_at : ℕ → ℕ
  refusal_at i =
      pick (ltb 1 (at i).marker) 11
      (pick (earlier_at i) 12
      (pick (ltb 600000000000 ((at i).time - (at 0).time)) 13
      (pick (leb 1000000000 i) 14 0)))

  abbrev pub refused_at : ℕ → Bool
  refused_at i = not (eqb (refusal_at i) 0)

  abbrev pub marked_at : ℕ → Bool
  marked_at i = marked (at i)

  -- P4: a marker came before packet i
  abbrev pub begun_at : ℕ → Bool
  begun_at = begun marked_at

  -- P4, P5: "Packets up to and including the first marker are the lead-in: in the bucket, in no frame. After that each marker closes a
  -- frame."
  abbrev pub closes_at : ℕ → Bool
  closes_at = again marked_at

  -- the lowest place that is refused; the length where none is
  abbrev pub first_refused : ℕ
  first_refused = seek refused_at (length l)

  -- N7: "packet by packet 11 to 14": the first refused packet names its number and place; else so many frames close
  unfoldable pub declared : Scanned
  declared =
      pick (ltb first_refused (length l))
      (Err (record { number = refusal_at first_refused; place = first_refused }))
      (Ok (count closes_at (length l)))

  -- what came before packet i: how many, and the first and the last arrival of them
  abbrev pub first_before : ℕ → ℕ
  first_before zero = 0
  first_before (suc i) = (at 0).time

  abbrev pub last_before : ℕ → ℕ
  last_before zero = 0
  last_before (suc i) = (at i).time

  abbrev pub past_at : ℕ → Past
  past_at i = record { packets = i; first = first_before i; last = last_before i }
