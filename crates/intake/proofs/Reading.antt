-- The check of a capture whose header is known is the scan of the packets that it hands on, or else names the record at which it stops; where
-- nothing is refused, every record is counted. By the header.
use Rattle.std.specs.Prelude.{◌≡◌, ◌+◌, ◌≤◌, Err, Ok}
use Rattle.laws.specs.Kit.{refl, sym, ap, subst, ◌∙◌, Bool, List, [], ℕ, arith, length, drop, dec_le, ℤ}
use Rattle.laws.specs.Fold.{fold}
use Rattle.packet.specs.declared.Packet.{Packet}
use Rattle.packet.specs.declared.Past.{Past}
use Rattle.packet.specs.Paper.{Scanned}
use Rattle.packet.specs.Step.{scan_of}
use Rattle.capture.specs.declared.Format.{Format}
use Rattle.capture.specs.declared.Seen.{Seen}
use Rattle.capture.specs.Paper.{header_bytes, Header, capture, unknown, header_of, Ending, done, stopped, handed_on, seen_from, checked_of}
use Rattle.capture.specs.Step.{handed_in, seen_all, checked_by}
use Rattle.capture.proofs.Checking.{check_offset, check_unknown, check_capture}
use Rattle.capture.proofs.Counting.{check_scan, scan_closed, all_counted}
use Rattle.frame.specs.declared.Row.{Row}
use Rattle.timing.specs.declared.Rules.{Rules}
use Rattle.timing.specs.declared.State.{State}
use Rattle.timing.specs.Step.{rows_after, numbers}
use Rattle.timing.specs.Feed.{RunAsks, RunGives}
use Rattle.intake.specs.Paper.{records_of, packets_of, skipped_of}

-- ---- the packets, by the header

module _ (port offset : ℕ) (b : List ℕ) where
  pub packets_known : {f : Format} → header_of b ≡ capture f
      → packets_of port offset b ≡ handed_in (record { format = f; port = port; offset = offset }) (drop header_bytes b)
  packets_known e = rw e

  pub packets_unknown : header_of b ≡ unknown → packets_of port offset b ≡ []
  unfolding handed_on
  packets_unknown e = rw e

-- no packets leave state and rows
pub runs_none : (rules : Rules) (s : State) (l : List Packet) (rows : List ℤ) → l ≡ [] → RunGives numbers rules s l 0 rows s rows
unfolding fold rows_after numbers
runs_none rules s l rows e = rw e (record { state_is = refl; rows_are = refl })

-- a run through the packets behind a known header is one through the capture's packets, however rows are written
module _ {A : Type 0} {w : List Row → List A} {rules : Rules} {s : State} {l m : List Packet} (e : l ≡ m) where
  pub asks_same : {at room : ℕ} → RunAsks w rules s l at room → RunAsks w rules s m at room
  asks_same {at} {room} r = subst (λ (x : List Packet). RunAsks w rules s x at room) e r

  pub gives_same : {at : ℕ} {before after : List A} {t : State} → RunGives w rules s m at before t after
      → RunGives w rules s l at before t after
  gives_same {at} {before} {after} {t} g = subst (λ (x : List Packet). RunGives w rules s x at before t after) (sym e) g

-- ---- the check, by the scan

module _ (port offset : ℕ) (past : Past) (begun : Bool) (b : List ℕ) where
  -- what was seen where nothing is refused
  abbrev pub seen : Seen
  seen = seen_all (seen_from past begun) (records_of port offset b).found

  abbrev pub scan : Scanned
  scan = scan_of past begun 0 (packets_of port offset b)

  pub check_known : offset ≤ 99 → {f : Format} → header_of b ≡ capture f
      → checked_of port offset (seen_from past begun) b ≡ checked_by scan seen (records_of port offset b).ending
  check_known h {f} e =
      sym (check_capture port offset (seen_from past begun) b h e)
      ∙ rw e (check_scan _ (seen_from past begun) _)

  -- nothing is refused: the capture could be read to its end, and so many frames close
  pub record Read (y : Seen) : Type 0 where
    pub in_time : offset ≤ 99
    pub format : Format
    pub known : header_of b ≡ capture format
    pub whole : (records_of port offset b).ending ≡ done
    pub fine : scan ≡ Ok y.tally.closed
    pub all : y ≡ seen

  fine_read : (h : offset ≤ 99) (f : Format) → header_of b ≡ capture f → (x : Scanned) → scan ≡ x → (e : Ending)
      → (records_of port offset b).ending ≡ e → (y : Seen) → checked_by x seen e ≡ Ok y → Read y
  unfolding seen_all
  fine_read h f k (Ok n) g done w y z =
      let same : seen ≡ y = cc in
      let closed = scan_closed (packets_of port offset b) (record { past = past; begun = begun; closed = 0 }) g in
      let told : n ≡ y.tally.closed = sym closed ∙ ap (λ (q : Seen). q.tally.closed) same in
      record { in_time = h; format = f; known = k; whole = w; fine = g ∙ ap Ok told; all = sym same }
  fine_read h f k (Ok n) g (stopped m) w y z = let q : ◌≡◌ {A = ℕ} 0 1 = cc in absurd (omega arith)
  fine_read h f k (Err r) g e w y z = let q : ◌≡◌ {A = ℕ} 0 1 = cc in absurd (omega arith)

  pub checked_read : (y : Seen) → checked_of port offset (seen_from past begun) b ≡ Ok y → Read y
  checked_read y e = go (dec_le offset 99) (header_of b) refl
    where
      go : Dec (offset ≤ 99) → (header : Header) → header_of b ≡ header → Read y
      go (no n) header k =
          let f = check_offset port offset (seen_from past begun) b (omega arith) ∙ e in
          let z : ◌≡◌ {A = ℕ} 0 1 = cc in
          absurd (omega arith)
      go (yes h) unknown k =
          let f = check_unknown port offset (seen_from past begun) b h k ∙ e in
          let z : ◌≡◌ {A = ℕ} 0 1 = cc in
          absurd (omega arith)
      go (yes h) (capture f) k =
          fine_read h f k scan refl (records_of port offset b).ending refl y (sym (check_known h k) ∙ e)

  -- and every record is counted
  module _ {y : Seen} (r : Read y) where
    pub records_read : y.records ≡ length (records_of port offset b).found
    unfolding seen_all
    records_read = rw r.all (omega arith)

    pub skipped_read : y.skipped ≡ skipped_of port offset b
    unfolding seen_all
    skipped_read = rw r.all (omega arith)

    pub handed_read : length (packets_of port offset b) + y.skipped ≡ y.records
    handed_read = omega (arith, records_read, skipped_read, all_counted (records_of port offset b).found)
