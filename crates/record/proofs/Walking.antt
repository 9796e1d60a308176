-- One turn of the walk over a file, by what the cursor answers: a packet goes into the tally or is refused, and anything else ends
-- the walk. What an answer says of the bytes is in Saying.
use Rattle.std.specs.Prelude.{◌≡◌, ◌∷◌, ◌+◌, ◌^◌, ◌≤◌, ◌<◌, Ok, Err}
use Rattle.laws.specs.Kit.{refl, sym, ap, subst, ◌∙◌, List, ℕ, arith, mod-eq_of_lt, length, drop}
use Rattle.laws.specs.Kit.{length-drop, drop-drop}
use Rattle.laws.specs.Fold.{fold}
use Rattle.laws.proofs.Choose.{second, before}
use Rattle.packet.specs.declared.Packet as packet
use Rattle.packet.specs.declared.Tally.{Tally}
use Rattle.packet.specs.Step.{number_of, next_of, tallied}
use Rattle.record.specs.declared.FileNumbers.{FileNumbers}
use Rattle.record.specs.declared.Cursor.{Cursor}
use Rattle.record.specs.declared.Next.{Next}
use Rattle.record.specs.Step.{NumberedRecord, NextRead, next_packet}
use Rattle.record.specs.declared.Next.TheVariants.{Packet, End, More}
use Rattle.record.specs.Paper.{packet_bytes, packet_at, Ending, done, stopped, Packets, more, packets_in}
use Rattle.record.specs.Step.{next_read}
use Rattle.record.specs.Walk.{Checked, fine_with, finish_by, finish, checked_refused}
use Rattle.record.proofs.Saying.{Says, next_says}
use Rattle.record.proofs.Reading.{packet_here, packets_end, packets_stop, packets_go}

-- an answer that is no packet ends the walk: the end of the file, since no more will come, or a refusal
module _ (numbers : FileNumbers) (y : Tally) (at : ℕ) (l : List ℕ) where
  pub stops_fine : (n : Next) → Ok n ≡ next_read at l → ((p : packet.Packet) (c : Cursor) → n ≡ Packet p c → ⊥)
      → finish numbers y (packets_in y.past at l) ≡ fine_with numbers y
  unfolding fold
  stops_fine n e other = go n other (subst (Says at l) (sym e) (next_says at l))
    where
      go : (n : Next) → ((p : packet.Packet) (c : Cursor) → n ≡ Packet p c → ⊥) → Says at l (Ok n)
          → finish numbers y (packets_in y.past at l) ≡ fine_with numbers y
      go (Packet p c) other s = absurd (other p c refl)
      go End other s = rw (packets_end y.past at l s)
      go More other s = absurd s

  pub stops_refused : (r : NumberedRecord) → Err r ≡ next_read at l
      → finish numbers y (packets_in y.past at l) ≡ checked_refused r.number r.offset
  unfolding fold
  stops_refused r e =
      let s = subst (Says at l) (sym e) (next_says at l) in
      rw (packets_stop y.past at l r.number s.0 (before _ _ (omega arith) ∙ s.1) s.2, s.3)

-- what an answer comes to that ends the walk
abbrev pub closing : NextRead → FileNumbers → Tally → Checked
closing (Ok n) numbers y = fine_with numbers y
closing (Err r) numbers y = checked_refused r.number r.offset

-- both in one: an answer that is no packet
pub stops : (numbers : FileNumbers) (y : Tally) (at : ℕ) (l : List ℕ) (r : NextRead)
    → ((p : packet.Packet) (c : Cursor) → r ≡ Ok (Packet p c) → ⊥) → next_read at l ≡ r → finish numbers y (packets_in y.past at l) ≡ closing r numbers y
stops numbers y at l (Ok n) none e = stops_fine numbers y at l n (sym e) (λ p c k. none p c (ap Ok k))
stops numbers y at l (Err r) none e = stops_refused numbers y at l r (sym e)

pub closing_fine : (numbers : FileNumbers) (y : Tally) (n : Next) → fine_with numbers y ≡ closing (Ok n) numbers y
closing_fine numbers y n = refl

finish_more : (numbers : FileNumbers) (y : Tally) (p : packet.Packet) (r : Packets) → finish numbers y (more p r) ≡ finish numbers (tallied y p) r
unfolding fold
finish_more numbers y p r = go r.ending
  where
    go : (e : Ending) → finish_by numbers y (p ∷ r.accepted) e ≡ finish_by numbers (tallied y p) r.accepted e
    go done = refl
    go (stopped n o) = refl

-- a packet goes into the tally, or is refused
module _ (s : List ℕ) (at : ℕ) (fits : length s < 2 ^ 64) {p : packet.Packet} {next : Cursor}
    (e : next_read at (drop at s) ≡ next_packet p next) where
  here : Says at (drop at s) (next_packet p next)
  here = subst (Says at (drop at s)) e (next_says at (drop at s))

  pub next_within : at + packet_bytes ≤ length s
  next_within = omega (arith, (packet_here (drop at s) here.0).sixteen, length-drop at s)

  pub next_at : next.at ≡ at + packet_bytes
  next_at =
      let m = mod-eq_of_lt {n = at + packet_bytes} {m = 2 ^ 64} (omega (arith, next_within)) in
      let w = here.1 in
      cc

  the_packet : packet_at (drop at s) ≡ p
  the_packet = let w = here.1 in cc

  rest : drop packet_bytes (drop at s) ≡ drop next.at s
  rest = drop-drop packet_bytes at s ∙ rw next_at

  module _ (numbers : FileNumbers) (y : Tally) where
    pub goes : number_of y.past p ≡ 0
        → finish numbers y (packets_in y.past at (drop at s))
        ≡ finish numbers (tallied y p) (packets_in (tallied y p).past next.at (drop next.at s))
    unfolding tallied fold
    goes f =
        let q = packet_at (drop at s) in
        ap (finish numbers y) (packets_go y.past at (drop at s) (second _ _ here.0 ∙ ap (number_of y.past) the_packet ∙ f))
        ∙ finish_more numbers y q (packets_in (next_of y.past q.time) (at + packet_bytes) (drop packet_bytes (drop at s)))
        ∙ ap (λ (r : packet.Packet). finish numbers (tallied y r)
        (packets_in (next_of y.past r.time) (at + packet_bytes) (drop packet_bytes (drop at s))))
        the_packet
        ∙ rw (rest, next_at)

    pub refuses : (n : ℕ) → number_of y.past p ≡ n → 0 < n
        → finish numbers y (packets_in y.past at (drop at s)) ≡ checked_refused n at
    refuses n f some =
        ap (finish numbers y)
        (packets_stop y.past at (drop at s) n (omega (arith, next_within, length-drop at s))
        (second _ _ here.0 ∙ ap (number_of y.past) the_packet ∙ f) some)
