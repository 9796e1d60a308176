-- Where a run goes through all packets, and 13 and 14 admit them, the scan refuses none and closes as many frames. By the list: arrivals
-- that never fall have their greatest at the end, so that each is no further from the first than the last is.
use Rattle.std.specs.Prelude.{◌≡◌, ◌&&◌, ◌||◌, ◌∷◌, ◌+◌, ◌-◌, ◌≤◌, Ok, None, Some}
use Rattle.laws.specs.Kit.{refl, ap, ◌∙◌, Bool, true, false, List, [], ℕ, zero, suc, arith}
use Rattle.std.specs.Prelude.{◌<◌}
use Rattle.laws.specs.Kit.{le_trans, ltb, leb, eqb, length, get_or, leb-true, lt-ltb, ne_eqb}
use Rattle.laws.specs.Choose.{pick}
use Rattle.laws.proofs.Choose.{pick_either}
use Rattle.laws.proofs.Every.{and_left, and_right}
use Rattle.packet.specs.declared.Past.{Past}
use Rattle.packet.specs.declared.Packet.{Packet}
use Rattle.packet.specs.declared.Run.{Run}
use Rattle.packet.specs.Quick.{Ran}
use Rattle.packet.specs.Paper.{OneLength, lent, packets, packets_from}
use Rattle.packet.specs.Step.{first_of, elapsed_of, next_of, scan_of}
use Rattle.packet.specs.Quick.{start_of, takes_of, runs_of, ran_of, admits_of, closed_by}
use Rattle.packet.proofs.Refusals.{accepted_0}
use Rattle.packet.proofs.Turn.{scan_goes, lengths_differ, lengths_same}
use Rattle.packet.proofs.Lent.{packets_cons, packets_lent, packets_done, packets_length}
use Rattle.packet.proofs.Declared.{begun_more}

-- ---- one packet of a run

pub record Taken (r : Run) (p : Packet) : Type 0 where
  pub marker_small : p.marker ≤ 1
  pub in_order : r.last ≤ p.time

pub taken : (r : Run) (p : Packet) → takes_of r p ≡ true → Taken r p
taken r p e = record {
  marker_small = leb-true _ _ (and_left (leb p.marker 1) (leb r.last p.time) e);
  in_order = leb-true _ _ (and_right (leb p.marker 1) (leb r.last p.time) e);
}

pub run_ends : (r : Run) {l : List Packet} → l ≡ [] → ran_of r l ≡ Some r
unfolding ran_of
run_ends r e = rw e

module _ (r : Run) {p : Packet} {l ps : List Packet} (c : l ≡ p ∷ ps) where
  pub run_goes : takes_of r p ≡ true → ran_of r l ≡ ran_of (runs_of r p) ps
  unfolding ran_of
  run_goes e = rw (c, e)

  pub run_breaks : takes_of r p ≡ false → ran_of r l ≡ None
  unfolding ran_of
  run_breaks e = rw (c, e)

-- one turn of a run over three lent slices, and its end
module _ (r : Run) (ts ss ms : List ℕ) (i : ℕ) where
  pub run_turn : (p : Packet) → OneLength ts ss ms → i < length ts → p ≡ lent ts ss ms i → takes_of r p ≡ true
      → ran_of r (packets_from i ts ss ms) ≡ ran_of (runs_of r p) (packets_from (i + 1) ts ss ms)
  run_turn p same h e t = run_goes r (packets_lent same i e h) t

  pub run_turn_breaks : (p : Packet) → OneLength ts ss ms → i < length ts → p ≡ lent ts ss ms i → takes_of r p ≡ false
      → ran_of r (packets_from i ts ss ms) ≡ None
  run_turn_breaks p same h e t = run_breaks r (packets_lent same i e h) t

  pub run_done : length ts ≤ i → ran_of r (packets_from i ts ss ms) ≡ Some r
  run_done h = run_ends r (packets_done ts ss ms i h)

pub ruleset run_laws = (run_turn, run_turn_breaks, run_done)

-- a run that went through took its first packet
pub through : (r z : Run) (p : Packet) (ps : List Packet) → ran_of r (p ∷ ps) ≡ Some z → Taken r p × (ran_of (runs_of r p) ps ≡ Some z)
unfolding ran_of
through r z p ps =
    pick_either (λ (x : Ran). x ≡ Some z → Taken r p × (ran_of (runs_of r p) ps ≡ Some z)) (takes_of r p)
    (λ t e. (taken r p t, e))
    (λ t e. let z : ◌≡◌ {A = ℕ} 0 1 = cc in absurd (omega arith))

rising : (l : List Packet) (r z : Run) → ran_of r l ≡ Some z → r.last ≤ z.last
unfolding ran_of
rising [] r z e = let same : r.last ≡ z.last = cc in omega arith
rising (p ∷ ps) r z e =
    let t = through r z p ps e in
    omega (arith, t.0.in_order, rising ps (runs_of r p) z t.1)

-- ---- the marks, of which the first closes no frame

marker_is : (k : ℕ) → k ≤ 1 → pick (eqb k 1) 1 0 ≡ k
marker_is zero h = refl
marker_is (suc zero) h = refl
marker_is (suc (suc k)) h = absurd (omega arith)

begun_on : (m k : ℕ) → k ≤ 1 → ltb 0 m || eqb k 1 ≡ ltb 0 (m + k)
begun_on m k h = rw (marker_is k h) at (begun_more m (eqb k 1))

closed_on : (m k : ℕ) → k ≤ 1 → m - 1 + pick (eqb k 1 && ltb 0 m) 1 0 ≡ m + k - 1
closed_on m zero h = omega arith
closed_on zero (suc zero) h = refl
closed_on (suc m) (suc zero) h = rw (lt-ltb 0 (suc m) (omega arith)) (omega arith)
closed_on m (suc (suc k)) h = absurd (omega arith)

-- ---- the first arrival, where l comes next

abbrev first_in : Past → List Packet → ℕ
first_in past [] = past.first
first_in past (p ∷ ps) = first_of past p.time

first_stays : (past : Past) (t : ℕ) (l : List Packet) → first_in (next_of past t) l ≡ first_of past t
first_stays past t [] = refl
first_stays past t (p ∷ ps) = rw (ne_eqb (past.packets + 1) 0 (λ z. omega arith))

-- ---- all packets

scan_run : (l : List Packet) (past : Past) (m : ℕ) (z : Run) → ran_of (record { last = past.last; marks = m }) l ≡ Some z
    → past.packets + length l ≤ 1000000000 → z.last - first_in past l ≤ 600000000000
    → scan_of past (ltb 0 m) (m - 1) l ≡ Ok (closed_by z)
unfolding scan_of ran_of
scan_run [] past m z e f h = let same : m ≡ z.marks = cc in rw same
scan_run (p ∷ ps) past m z e f h =
    let r : Run = record { last = past.last; marks = m } in
    let t = through r z p ps e in
    let later = rising ps (runs_of r p) z t.1 in
    let near : elapsed_of past p.time ≤ 600000000000 = omega (arith, later, h) in
    let small = t.0.marker_small in
    let fine = accepted_0 past p.time p.marker small t.0.in_order near (omega arith) in
    scan_goes past (ltb 0 m) (m - 1) {p = p} {l = p ∷ ps} {ps = ps} refl fine
    ∙ rw (begun_on m p.marker small, closed_on m p.marker small)
    (scan_run ps (next_of past p.time) (m + p.marker) z t.1 (omega arith) (rw (first_stays past p.time ps) h))

pub run_scans : (past : Past) (begun : Bool) {z : Run} {p : Packet} {l ps : List Packet} → l ≡ p ∷ ps
    → ran_of (start_of past begun) l ≡ Some z → admits_of past (length l) p.time z.last ≡ true
    → scan_of past begun 0 l ≡ Ok (closed_by z)
run_scans past begun {z} {p} {l} {ps} c e a = go begun (rw c at e)
  where
    few : length (p ∷ ps) ≤ 1000000000 - past.packets
    few = rw c at (leb-true (length l) (1000000000 - past.packets) (and_left _ (leb (z.last - first_of past p.time) _) a))

    near : z.last - first_of past p.time ≤ 600000000000
    near = le_trans (leb-true _ _ (and_right (leb (length l) (1000000000 - past.packets)) _ a)) (omega arith)

    go : (b : Bool) → ran_of (start_of past b) (p ∷ ps) ≡ Some z → scan_of past b 0 l ≡ Ok (closed_by z)
    go true e = rw c (scan_run (p ∷ ps) past 1 z e (omega (arith, few)) near)
    go false e = rw c (scan_run (p ∷ ps) past 0 z e (omega (arith, few)) near)

-- ---- three lent slices

pub start_marks : (past : Past) (begun : Bool) → (start_of past begun).marks ≤ 1
start_marks past begun = pick_either (λ n. n ≤ 1) begun (λ e. omega arith) (λ e. omega arith)

pub lent_scans : {ts ss ms : List ℕ} → OneLength ts ss ms → (past : Past) (begun : Bool) {z : Run} → 0 < length ts
    → ran_of (start_of past begun) (packets ts ss ms) ≡ Some z → admits_of past (length ts) (get_or ts 0 0) z.last ≡ true
    → scan_of past begun 0 (packets ts ss ms) ≡ Ok (closed_by z)
lent_scans {ts} {ss} {ms} same past begun {z} some e a =
    run_scans past begun (packets_cons same 0 some) e
    (ap (λ (n : ℕ). admits_of past n (get_or ts 0 0) z.last) (packets_length ts ss ms same) ∙ a)

pub ruleset lent_laws = (lengths_differ, lengths_same, lent_scans, start_marks)
