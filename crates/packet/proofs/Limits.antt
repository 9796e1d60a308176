-- Both sides of each limit of a packet, at any arrival, by the laws of the refusals; and three histories, computed.
use Rattle.std.specs.Prelude.{◌≡◌, ◌∷◌, ◌+◌, Err, Ok}
use Rattle.laws.specs.Kit.{refl, [], ℕ, arith}
use Rattle.laws.specs.Count.{count}
use Rattle.laws.specs.Seek.{seek}
use Rattle.packet.specs.declared.Past.{Past}
use Rattle.packet.specs.declared.Packet.{Packet}
use Rattle.packet.specs.Paper.{refusal_at, declared}
use Rattle.packet.specs.Step.{nothing, refusal_of}
use Rattle.packet.proofs.Refusals.{refused_11, refused_12, refused_13, refused_14, accepted_0}

-- so many packets came before, all at t
abbrev pub after : ℕ → ℕ → Past
after n t = record { packets = n; first = t; last = t }

-- a first packet may arrive at any time; a marker is 0 or 1
pub first_accepted : (t : ℕ) → refusal_of nothing t 1 ≡ 0
first_accepted t = accepted_0 _ _ _ (omega arith) (omega arith) (omega arith) (omega arith)

-- N1: a marker of 2
pub marker_2 : (t : ℕ) → refusal_of nothing t 2 ≡ 11
marker_2 t = refused_11 _ _ _ (omega arith)

-- N1: at the same instant as the one before, and one nanosecond earlier
pub same_instant : (t : ℕ) → refusal_of (after 1 t) t 0 ≡ 0
same_instant t = accepted_0 _ _ _ (omega arith) (omega arith) (omega arith) (omega arith)

pub earlier : (t : ℕ) → refusal_of (after 1 (t + 1)) t 0 ≡ 12
earlier t = refused_12 _ _ _ (omega arith) (omega arith)

-- N1: 600 s after the first packet, and one nanosecond more
pub at_600_s : (t : ℕ) → refusal_of (after 1 t) (t + 600000000000) 0 ≡ 0
at_600_s t = accepted_0 _ _ _ (omega arith) (omega arith) (omega arith) (omega arith)

pub after_600_s : (t : ℕ) → refusal_of (after 1 t) (t + 600000000001) 0 ≡ 13
after_600_s t = refused_13 _ _ _ (omega arith) (omega arith) (omega arith)

-- N1: the packet at place 999,999,999 is the last of 1,000,000,000, and the one at place 1,000,000,000 is one too many
pub place_999999999 : (t : ℕ) → refusal_of (after 999999999 t) t 0 ≡ 0
place_999999999 t = accepted_0 _ _ _ (omega arith) (omega arith) (omega arith) (omega arith)

pub place_1000000000 : (t : ℕ) → refusal_of (after 1000000000 t) t 0 ≡ 14
place_1000000000 t = refused_14 _ _ _ (omega arith) (omega arith) (omega arith) (omega arith)

abbrev pub packet : ℕ → ℕ → ℕ → Packet
packet t s m = record { time = t; stamp = s; marker = m }

-- the first marker ends the lead-in and closes no frame
pub lead_in : declared (packet 7 0 0 ∷ packet 8 0 1 ∷ packet 9 0 0 ∷ []) ≡ Ok 0
unfolding declared refusal_at count seek
lead_in = refl

-- the five packets of document 01's file close one frame
pub one_frame : declared
    (packet 19000000 0 1 ∷ packet 20700000 1800 0 ∷ packet 25500000 1800 0 ∷ packet 30300000 1800 0 ∷ packet 35100000 1800 1 ∷ [])
    ≡ Ok 1
unfolding declared refusal_at count seek
one_frame = refl

-- 12 at place 1 decides, though the packet after it has a marker above 1
pub first_decides : declared (packet 8 0 0 ∷ packet 7 0 1 ∷ packet 9 0 2 ∷ []) ≡ Err (record { number = 12; place = 1 })
unfolding declared refusal_at count seek
first_decides = refl
