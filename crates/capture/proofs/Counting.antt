-- Every record is handed on or skipped; and the check of a capture is the scan of the packets handed on, or else names the record at
-- which the file stops. By the records.
use Rattle.std.specs.Prelude.{◌≡◌, ◌∷◌, ◌+◌, Ok}
use Rattle.laws.specs.Kit.{refl, sym, ◌∙◌, List, [], ℕ, suc, arith, add-zero, length, eq-eqb, ne_eqb, ℕ_discrete}
use Rattle.laws.specs.Fold.{fold}
use Rattle.packet.specs.declared.Packet.{Packet}
use Rattle.packet.specs.declared.Tally.{Tally}
use Rattle.packet.specs.Step.{number_of, tallied, tally_of, scan_of}
use Rattle.packet.proofs.Turn.{scan_tallied, scan_stops, fine_refused}
use Rattle.capture.specs.declared.Seen.{Seen}
use Rattle.capture.specs.Paper.{Found, packet, skipped, Ending, done, stopped, handed_on, skipped_in, with_packet, with_skipped, check_all}
use Rattle.capture.specs.Step.{seen_all, checked_by}

-- R7: "Skipped plus handed on is the number of records read."
pub all_counted : (xs : List Found) → length (handed_on xs) + skipped_in xs ≡ length xs
unfolding handed_on skipped_in
all_counted [] = refl
all_counted (packet p ∷ xs) = let more = all_counted xs in omega arith
all_counted (skipped ∷ xs) = let more = all_counted xs in omega arith

-- what is seen of no record, and of one more
seen_none : (y : Seen) → seen_all y [] ≡ y
unfolding seen_all handed_on skipped_in fold
seen_none y = rw (add-zero y.records, add-zero y.skipped)

seen_packet : (y : Seen) (p : Packet) (xs : List Found) → seen_all (with_packet y p) xs ≡ seen_all y (packet p ∷ xs)
unfolding seen_all handed_on skipped_in fold
seen_packet y p xs =
    let sum : y.records + 1 + length xs ≡ y.records + suc (length xs) = omega arith in
    λ j. record { tally = tally_of (tallied y.tally p) (handed_on xs); records = sum j; skipped = y.skipped + skipped_in xs }

seen_skipped : (y : Seen) (xs : List Found) → seen_all (with_skipped y) xs ≡ seen_all y (skipped ∷ xs)
unfolding seen_all handed_on skipped_in fold
seen_skipped y xs =
    let sum : y.records + 1 + length xs ≡ y.records + suc (length xs) = omega arith in
    let all : y.skipped + 1 + skipped_in xs ≡ y.skipped + suc (skipped_in xs) = omega arith in
    λ j. record { tally = tally_of y.tally (handed_on xs); records = sum j; skipped = all j }

-- a packet that is not refused goes into the tally of all that follow
pub check_scan : (xs : List Found) (y : Seen) (e : Ending)
    → check_all y xs e ≡ checked_by (scan_of y.tally.past y.tally.begun y.tally.closed (handed_on xs)) (seen_all y xs) e
unfolding check_all handed_on scan_of
check_scan [] y done = rw (seen_none y)
check_scan [] y (stopped n) = rw (seen_none y)
check_scan (packet p ∷ xs) y e = go (ℕ_discrete (number_of y.tally.past p) 0) (check_scan xs (with_packet y p) e)
  where
    go : Dec (number_of y.tally.past p ≡ 0)
        → check_all (with_packet y p) xs e
        ≡ checked_by (scan_of (tallied y.tally p).past (tallied y.tally p).begun (tallied y.tally p).closed (handed_on xs))
        (seen_all (with_packet y p) xs) e
        → check_all y (packet p ∷ xs) e
        ≡ checked_by (scan_of y.tally.past y.tally.begun y.tally.closed (p ∷ handed_on xs)) (seen_all y (packet p ∷ xs)) e
    go (yes z) ih =
        let here : check_all y (packet p ∷ xs) e ≡ check_all (with_packet y p) xs e = rw (eq-eqb (number_of y.tally.past p) 0 z) in
        here ∙ ih ∙ rw (scan_tallied y.tally {p = p} {l = p ∷ handed_on xs} refl z, seen_packet y p xs)
    go (no n) ih = rw (ne_eqb (number_of y.tally.past p) 0 n)
check_scan (skipped ∷ xs) y e = check_scan xs (with_skipped y) e ∙ rw (seen_skipped y xs)

-- how many frames close, where nothing is refused
pub scan_closed : (l : List Packet) (y : Tally) {n : ℕ} → scan_of y.past y.begun y.closed l ≡ Ok n
    → (tally_of y l).closed ≡ n
unfolding scan_of fold
scan_closed [] y {n} e = cc
scan_closed (p ∷ l) y {n} e = go (ℕ_discrete (number_of y.past p) 0) (λ f. scan_closed l (tallied y p) {n = n} f)
  where
    go : Dec (number_of y.past p ≡ 0)
        → (scan_of (tallied y p).past (tallied y p).begun (tallied y p).closed l ≡ Ok n → (tally_of (tallied y p) l).closed ≡ n)
        → (tally_of (tallied y p) l).closed ≡ n
    go (yes z) ih = ih (scan_tallied y {p = p} {l = p ∷ l} refl z ∙ e)
    go (no m) ih = absurd (fine_refused n _ (sym e ∙ scan_stops y.past y.begun y.closed {l = p ∷ l} refl m))
