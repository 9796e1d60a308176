-- The scan from the start is what document 01 declares of the whole history. By place: what the scan carries at place i is a function
-- of the history, one equation for each part, and it moves on by one packet until the lowest refused place or the end.
use Rattle.std.specs.Prelude.{◌≡◌, ◌||◌, ◌+◌, ◌≤◌, ◌<◌, Err, Ok}
use Rattle.laws.specs.Kit.{refl, sym, ◌∙◌, Bool, true, false, or-false, or-true, List, ℕ, zero, suc, arith}
use Rattle.laws.specs.Kit.{add-zero, dec_le, ltb, eqb-suc-zero, length, drop, drop-cons, drop-length, ltb-true, ltb-false, lt-ltb, le-ltb}
use Rattle.laws.specs.Kit.{eqb-true, not-false, not-true, eqb-false}
use native.Mathlib.Numerals.{add-one}
use Rattle.laws.specs.Choose.{pick}
use Rattle.laws.proofs.Choose.{pick_either}
use Rattle.laws.specs.Count.{count}
use Rattle.laws.specs.Seek.{Lowest}
use Rattle.laws.proofs.Seek.{seek_is}
use Rattle.laws.proofs.Fold.{fold_states}
use Rattle.packet.specs.declared.Tally.{Tally}
use Rattle.packet.specs.declared.Packet.{Packet}
use Rattle.packet.specs.Paper.{no_packet, marked, at, refusal_at, refused_at, marked_at, begun_at, closes_at}
use Rattle.packet.specs.Paper.{Scanned, first_refused, declared, past_at}
use Rattle.packet.specs.Step.{nothing, refusal_of, next_of, no_packets, tallied, tally_of, scan_of}
use Rattle.packet.specs.Calls.{past_after_packets, begun_after}
use Rattle.packet.proofs.Refusals.{accepted}
use Rattle.packet.proofs.Turn.{fine_refused, scan_ends, scan_goes, scan_stops}

-- one more place, whether or not it is marked
pub begun_more : (n : ℕ) (t : Bool) → ltb 0 n || t ≡ ltb 0 (n + pick t 1 0)
begun_more n true = or-true (ltb 0 n) ∙ sym (lt-ltb 0 (n + 1) (omega arith))
begun_more n false = or-false (ltb 0 n) ∙ rw (add-zero n)

module _ (l : List Packet) where
  -- packet i against what came before it
  pub refusal_at_lem : (i : ℕ) → refusal_of (past_at l i) (at l i).time (at l i).marker ≡ refusal_at l i
  unfolding refusal_of refusal_at
  refusal_at_lem zero = simp (le-ltb (at l 0).time 0 (omega arith))
  refusal_at_lem (suc i) = simp (eqb-suc-zero i)

  pub next_at : (i : ℕ) → next_of (past_at l i) (at l i).time ≡ past_at l (suc i)
  next_at zero = refl
  next_at (suc i) = simp (eqb-suc-zero i, add-one)

  pub begun_at_lem : (i : ℕ) → begun_at l i || marked (at l i) ≡ begun_at l (suc i)
  unfolding count
  begun_at_lem i = begun_more (count (marked_at l) i) (marked (at l i))

  -- what comes after the whole history is what came before the place at its end
  pub past_after : past_after_packets nothing l ≡ past_at l (length l)
  past_after = fold_states (λ past p. next_of past p.time) l no_packet (past_at l) (λ i h. next_at i)

  pub begun_after_lem : begun_after false l ≡ begun_at l (length l)
  unfolding count
  begun_after_lem = fold_states (λ begun p. begun || marked p) l no_packet (begun_at l) (λ i h. begun_at_lem i)

  -- the tally before packet i, and that it is the tally of the packets up to there
  abbrev pub tally_at : ℕ → Tally
  tally_at i = record { past = past_at l i; begun = begun_at l i; closed = count (closes_at l) i }

  pub tally_declared : tally_of no_packets l ≡ tally_at (length l)
  unfolding count tallied
  tally_declared = fold_states tallied l no_packet tally_at (λ i h. rw (next_at i, begun_at_lem i))

  -- where no packet before i is refused, the scan comes to i
  scan_reaches : (i : ℕ) → i ≤ length l → ((k : ℕ) → k < i → refusal_at l k ≡ 0)
      → scan_of nothing false 0 l ≡ scan_of (past_at l i) (begun_at l i) (count (closes_at l) i) (drop i l)
  unfolding count
  scan_reaches zero h ok = refl
  scan_reaches (suc i) h ok =
      scan_reaches i (omega arith) (λ k b. ok k (omega arith))
      ∙ scan_goes (past_at l i) (begun_at l i) (count (closes_at l) i) (drop-cons l i no_packet h) (refusal_at_lem i ∙ ok i (omega arith))
      ∙ rw (next_at i, begun_at_lem i)

  -- the scan from the start names the first refused packet of the whole history, or counts the frames that close
  pub scan_declared : scan_of nothing false 0 l ≡ declared l
  unfolding declared
  scan_declared = go (ltb k (length l)) refl
    where
      k : ℕ
      k = first_refused l

      low : Lowest (refused_at l) (length l) k
      low = seek_is (refused_at l) (length l)

      fine : (i : ℕ) → i < k → refusal_at l i ≡ 0
      fine i b = eqb-true (refusal_at l i) 0 (not-false _ (low.before i b))

      comes : scan_of nothing false 0 l ≡ scan_of (past_at l k) (begun_at l k) (count (closes_at l) k) (drop k l)
      comes = scan_reaches k low.within fine

      go : (t : Bool) → ltb k (length l) ≡ t
          → scan_of nothing false 0 l
          ≡ pick t (Err (record { number = refusal_at l k; place = k })) (Ok (count (closes_at l) (length l)))
      go true e =
          let h = ltb-true k (length l) e in
          let bad = eqb-false (refusal_at l k) 0 (not-true _ (low.here h)) in
          comes
          ∙ scan_stops (past_at l k) (begun_at l k) (count (closes_at l) k) (drop-cons l k no_packet h) (λ z. bad (sym (refusal_at_lem k) ∙ z))
          ∙ rw (refusal_at_lem k)
      go false e =
          let end : k ≡ length l = omega (arith, ltb-false k (length l) e, low.within) in
          comes ∙ rw end (scan_ends _ _ _ (drop-length l))

  -- and it is fine only where no packet of the history is refused
  pub fine_everywhere : (n i : ℕ) → declared l ≡ Ok n → i < length l → refusal_at l i ≡ 0
  unfolding declared
  fine_everywhere n i e h =
      let low = seek_is (refused_at l) (length l) in
      pick_either (λ s. s ≡ Ok n → refusal_at l i ≡ 0) (ltb (first_refused l) (length l))
      (λ t f. absurd (fine_refused n _ (sym f)))
      (λ t f. eqb-true _ 0 (not-false _ (low.before i (omega (arith, ltb-false (first_refused l) (length l) t))))) e

  -- so that by 14 it has at most 1,000,000,000 packets
  pub fine_few : (n : ℕ) → declared l ≡ Ok n → length l ≤ 1000000000
  fine_few n e = go (dec_le (length l) 1000000000)
    where
      go : Dec (length l ≤ 1000000000) → length l ≤ 1000000000
      go (yes h) = h
      go (no m) =
          let here = fine_everywhere n 1000000000 e (omega arith) in
          absurd (omega (arith, (accepted _ _ _ (refusal_at_lem 1000000000 ∙ here)).few))

  -- and counts the frames that close
  pub fine_count : (n : ℕ) → declared l ≡ Ok n → n ≡ count (closes_at l) (length l)
  unfolding declared
  fine_count n e = go (ltb (first_refused l) (length l)) e
    where
      go : (t : Bool) → pick {A = Scanned} t (Err (record { number = refusal_at l (first_refused l); place = first_refused l }))
          (Ok (count (closes_at l) (length l))) ≡ Ok n
          → n ≡ count (closes_at l) (length l)
      go true e = let z : ◌≡◌ {A = ℕ} 0 1 = cc in absurd (omega arith)
      go false e = cc
