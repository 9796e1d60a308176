-- Three lent slices of one length as one list of packets: from place i on, and by place. By the lists.
use Rattle.std.specs.Prelude.{◌≡◌, ◌∷◌, ◌+◌, ◌≤◌, ◌<◌}
use Rattle.laws.specs.Kit.{refl, sym, ap, ◌∙◌, List, [], ℕ, zero, suc, arith, suc_inj, length, drop-cons}
use Rattle.laws.specs.Kit.{drop-length, drop_of_length-le}
use native.Mathlib.Numerals.{add-one}
use Rattle.packet.specs.declared.Packet.{Packet}
use Rattle.packet.specs.Paper.{packets, OneLength, lent, packets_from, at}

module _ {ts ss ms : List ℕ} (same : OneLength ts ss ms) (i : ℕ) where
  -- there is a packet i, and then the others; or there is none
  pub packets_cons : i < length ts → packets_from i ts ss ms ≡ lent ts ss ms i ∷ packets_from (i + 1) ts ss ms
  unfolding packets
  packets_cons h =
      let hs : i < length ss = omega arith in
      let hm : i < length ms = omega arith in
      rw (drop-cons ts i 0 h, drop-cons ss i 0 hs, drop-cons ms i 0 hm, add-one)

  pub packets_lent : {p : Packet} → p ≡ lent ts ss ms i → i < length ts → packets_from i ts ss ms ≡ p ∷ packets_from (i + 1) ts ss ms
  packets_lent e h = packets_cons h ∙ ap (λ (p : Packet). p ∷ packets_from (i + 1) ts ss ms) (sym e)

  pub packets_none : length ts ≤ i → i ≤ length ts → packets_from i ts ss ms ≡ []
  unfolding packets
  packets_none h k = let e : i ≡ length ts = omega arith in rw (e, drop-length ts)

-- and from there on none is left
pub packets_done : (ts ss ms : List ℕ) (i : ℕ) → length ts ≤ i → packets_from i ts ss ms ≡ []
unfolding packets
packets_done ts ss ms i h = rw (drop_of_length-le ts h)

-- one packet fewer in each
fewer : {t s m : ℕ} {ts ss ms : List ℕ} → OneLength (t ∷ ts) (s ∷ ss) (m ∷ ms) → OneLength ts ss ms
fewer same = record { stamps = suc_inj same.stamps; markers = suc_inj same.markers }

pub packets_length : (ts ss ms : List ℕ) → OneLength ts ss ms → length (packets ts ss ms) ≡ length ts
unfolding packets
packets_length [] ss ms same = refl
packets_length (t ∷ ts) [] ms same = absurd (omega arith)
packets_length (t ∷ ts) (s ∷ ss) [] same = absurd (omega arith)
packets_length (t ∷ ts) (s ∷ ss) (m ∷ ms) same = ap suc (packets_length ts ss ms (fewer same))

pub packets_at : (ts ss ms : List ℕ) (i : ℕ) → OneLength ts ss ms → at (packets ts ss ms) i ≡ lent ts ss ms i
unfolding packets
packets_at [] [] [] i same = refl
packets_at [] [] (m ∷ ms) i same = absurd (omega arith)
packets_at [] (s ∷ ss) ms i same = absurd (omega arith)
packets_at (t ∷ ts) [] ms i same = absurd (omega arith)
packets_at (t ∷ ts) (s ∷ ss) [] i same = absurd (omega arith)
packets_at (t ∷ ts) (s ∷ ss) (m ∷ ms) zero same = refl
packets_at (t ∷ ts) (s ∷ ss) (m ∷ ms) (suc i) same = packets_at ts ss ms i (fewer same)
