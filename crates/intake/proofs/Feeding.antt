-- A capture call is `feed` of the packets that it hands on; a capture that stops at a record names what the scan of the packets before it
-- names, or else that record. By the header, and by what the scan says.
use Rattle.std.specs.Prelude.{◌≡◌, ◌+◌, ◌*◌, ◌≤◌, ◌<◌, Err, Ok}
use Rattle.laws.specs.Kit.{refl, sym, ap, ◌∙◌, Bool, true, false, List, [], ℕ, arith, leb, ℤ, length}
use Rattle.laws.specs.Choose.{pick}
use Rattle.packet.specs.declared.Packet.{Packet}
use Rattle.packet.specs.Paper.{Scanned}
use Rattle.refusal.specs.Told.{Numbered}
use Rattle.packet.specs.Step.{scan_of}
use Rattle.frame.specs.Step.{row_width}
use Rattle.capture.specs.declared.Format.{Format}
use Rattle.capture.specs.Paper.{Checked, capture, unknown, header_of, Ending, done, stopped, seen_from, checked_of}
use Rattle.capture.specs.Step.{seen_all, checked_by}
use Rattle.capture.proofs.Checking.{check_offset, check_unknown}
use Rattle.capture.proofs.Counting.{scan_closed}
use Rattle.timing.specs.declared.State.{State}
use Rattle.timing.specs.Range.{in_range}
use Rattle.timing.specs.Feed as F
use Rattle.timing.proofs.Feeding.{nothing_fed}
use Rattle.intake.specs.Paper.{Taken, records_of, packets_of, skipped_of, refused_by, accepted_as, room_for, by_check, capture_of, fed_as}
use Rattle.intake.specs.Paper.{taken_as, not_taken}
use Rattle.intake.proofs.Reading.{seen, check_known}

module _ (s : State) (rows : List ℤ) (port offset : ℕ) (b : List ℕ) where
  -- ---- before the records

  pub capture_9 : in_range s ≡ false → capture_of s rows port offset b ≡ refused_by s rows 9 0
  unfolding capture_of
  capture_9 e = rw e

  module _ (e : in_range s ≡ true) where
    by_check_lem : {x : Checked} → checked_of port offset (seen_from s.past s.frames.begun) b ≡ x
        → capture_of s rows port offset b ≡ by_check s rows x (packets_of port offset b) (skipped_of port offset b)
    unfolding capture_of
    by_check_lem f = rw (e, f)

    pub capture_33 : 99 < offset → capture_of s rows port offset b ≡ refused_by s rows 33 0
    capture_33 h = by_check_lem (sym (check_offset port offset (seen_from s.past s.frames.begun) b h))

    module _ (h : offset ≤ 99) where
      pub capture_30 : header_of b ≡ unknown → capture_of s rows port offset b ≡ refused_by s rows 30 0
      capture_30 k = by_check_lem (sym (check_unknown port offset (seen_from s.past s.frames.begun) b h k))

      -- ---- the records

      module _ {f : Format} (k : header_of b ≡ capture f) where
        by_scan_lem : {x : Scanned} {z : Ending} → scan_of s.past s.frames.begun 0 (packets_of port offset b) ≡ x
            → (records_of port offset b).ending ≡ z
            → capture_of s rows port offset b
            ≡ by_check s rows (checked_by x (seen port offset s.past s.frames.begun b) z) (packets_of port offset b) (skipped_of port offset b)
        by_scan_lem {x} {z} g q =
            by_check_lem {x = checked_by x (seen port offset s.past s.frames.begun b) z}
            (check_known port offset s.past s.frames.begun b h k ∙ rw (g, q))

        -- a packet that the scan refuses
        pub capture_refused : {r : Numbered} → scan_of s.past s.frames.begun 0 (packets_of port offset b) ≡ Err r
            → capture_of s rows port offset b ≡ refused_by s rows r.number r.place
        capture_refused {r} g = by_scan_lem g refl ∙ go (records_of port offset b).ending
          where
            go : (z : Ending)
                → by_check s rows (checked_by (Err r) (seen port offset s.past s.frames.begun b) z) (packets_of port offset b)
                (skipped_of port offset b) ≡ refused_by s rows r.number r.place
            go done = refl
            go (stopped n) = refl

        -- none, and the record at which the file stops
        pub capture_stopped : {closed number : ℕ} → scan_of s.past s.frames.begun 0 (packets_of port offset b) ≡ Ok closed
            → (records_of port offset b).ending ≡ stopped number
            → capture_of s rows port offset b ≡ refused_by s rows number (length (records_of port offset b).found)
        unfolding seen_all
        capture_stopped {closed} {number} g q =
            let all : 0 + length (records_of port offset b).found ≡ length (records_of port offset b).found = omega arith in
            by_scan_lem g q ∙ ap (refused_by s rows number) all

-- ---- the whole call

module _ (s : State) (rows : List ℤ) (l : List Packet) (skips : ℕ) where
  room_as : (closed : ℕ) → room_for s rows closed l skips ≡ fed_as (F.room_for s rows closed l) l skips
  room_as closed = go (leb (closed * row_width) (length rows))
    where
      go : (t : Bool) → pick t (accepted_as s rows l skips) (refused_by s rows 15 s.past.packets)
          ≡ fed_as (pick t (F.accepted_as s rows l) (F.refused_by s rows 15 s.past.packets)) l skips
      go true = refl
      go false = refl

-- R19: "A capture call is `feed` of the packets that it hands on (same rows, same state, same number and place for 9, 12 to 14 and 15)"
pub capture_feeds : (s : State) (rows : List ℤ) (port offset : ℕ) (b : List ℕ) {f : Format} → offset ≤ 99 → header_of b ≡ capture f
    → (records_of port offset b).ending ≡ done
    → capture_of s rows port offset b ≡ fed_as (F.feed_all s rows (packets_of port offset b)) (packets_of port offset b) (skipped_of port offset b)
unfolding F.feed_all seen_all
capture_feeds s rows port offset b h k q = go (in_range s) refl (scan_of s.past s.frames.begun 0 (packets_of port offset b)) refl
  where
    go : (t : Bool) → in_range s ≡ t → (x : Scanned) → scan_of s.past s.frames.begun 0 (packets_of port offset b) ≡ x
        → capture_of s rows port offset b
        ≡ fed_as (pick t (F.by_scan s rows x (packets_of port offset b)) (F.refused_by s rows 9 0)) (packets_of port offset b) (skipped_of port offset b)
    go false e x g = capture_9 s rows port offset b e
    go true e (Err r) g = capture_refused s rows port offset b e h k g
    go true e (Ok n) g =
        let closed = scan_closed (packets_of port offset b) (record { past = s.past; begun = s.frames.begun; closed = 0 }) g in
        by_scan_lem s rows port offset b e h k g q
        ∙ ap (λ (m : ℕ). room_for s rows m (packets_of port offset b) (skipped_of port offset b)) closed
        ∙ room_as s rows (packets_of port offset b) (skipped_of port offset b) n

-- R10: "A capture of exactly 24 bytes, or of skipped frames only, is accepted and changes nothing."
pub nothing_handed : (s : State) (rows : List ℤ) (port offset : ℕ) (b : List ℕ) {f : Format} → in_range s ≡ true → offset ≤ 99
    → header_of b ≡ capture f → (records_of port offset b).ending ≡ done → packets_of port offset b ≡ []
    → capture_of s rows port offset b ≡ record { answer = taken_as s 0 (skipped_of port offset b); rows = rows }
nothing_handed s rows port offset b e h k q none =
    capture_feeds s rows port offset b h k q
    ∙ ap (λ (l : List Packet). fed_as (F.feed_all s rows l) l (skipped_of port offset b)) none
    ∙ ap (λ (o : F.Outcome). fed_as o [] (skipped_of port offset b)) (nothing_fed s rows e)

-- the state that an answer tells
abbrev state_in : Taken → State
state_in (Ok a) = a.state
state_in (Err r) = r.state

-- R11: a refusal leaves state and rows
room_stays : (s t : State) (rows : List ℤ) (n number place skips : ℕ) (l : List Packet)
    → (room_for s rows n l skips).answer ≡ not_taken number place t → (t ≡ s) × ((room_for s rows n l skips).rows ≡ rows)
room_stays s t rows n number place skips l = go (leb (n * row_width) (length rows))
  where
    go : (b : Bool) → (pick b (accepted_as s rows l skips) (refused_by s rows 15 s.past.packets)).answer ≡ not_taken number place t
        → (t ≡ s) × ((pick b (accepted_as s rows l skips) (refused_by s rows 15 s.past.packets)).rows ≡ rows)
    go true e = let z : ◌≡◌ {A = ℕ} 0 1 = cc in absurd (omega arith)
    go false e = (sym (ap state_in e), refl)

pub refused_stays : (s t : State) (rows : List ℤ) (port offset number place : ℕ) (b : List ℕ)
    → (capture_of s rows port offset b).answer ≡ not_taken number place t → (t ≡ s) × ((capture_of s rows port offset b).rows ≡ rows)
unfolding capture_of
refused_stays s t rows port offset number place b =
    go (in_range s) (checked_of port offset (seen_from s.past s.frames.begun) b)
  where
    go : (r : Bool) (x : Checked)
        → (pick r (by_check s rows x (packets_of port offset b) (skipped_of port offset b)) (refused_by s rows 9 0)).answer
        ≡ not_taken number place t
        → (t ≡ s) × ((pick r (by_check s rows x (packets_of port offset b) (skipped_of port offset b)) (refused_by s rows 9 0)).rows ≡ rows)
    go true (Ok y) e =
        room_stays s t rows y.tally.closed number place (skipped_of port offset b) (packets_of port offset b) e
    go true (Err r) e = (sym (ap state_in e), refl)
    go false x e = (sym (ap state_in e), refl)
