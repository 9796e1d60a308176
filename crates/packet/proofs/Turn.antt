-- One packet of a scan: where the scan goes after it, what an answer of the scan says of it, and what there is room for.
-- By the test on its refusal.
use Rattle.std.specs.Prelude.{◌≡◌, ◌&&◌, ◌||◌, ◌∷◌, ◌+◌, ◌≤◌, ◌<◌, Err, Ok}
use Rattle.laws.specs.Kit.{refl, sym, ap, subst, ◌∙◌, Bool, true, false, or-false, or-true, List, [], ℕ, arith}
use Rattle.laws.specs.Kit.{add-zero, eqb, length, eq-eqb, ne_eqb, eqb-true, eqb-false}
use Rattle.laws.specs.Choose.{pick}
use Rattle.laws.proofs.Choose.{pick_either}
use Rattle.packet.specs.declared.Past.{Past}
use Rattle.refusal.specs.Told.{Numbered}
use Rattle.refusal.specs.declared.Refusal.{Refusal}
use Rattle.refusal.specs.Refusal.{number}
use Rattle.refusal.proofs.Telling.{number_some}
use Rattle.packet.specs.declared.Tally.{Tally}
use Rattle.packet.specs.Paper.{Scanned}
use Rattle.packet.specs.declared.Packet.{Packet}
use Rattle.packet.specs.Paper.{marked, packets, OneLength, lent, packets_from}
use Rattle.packet.specs.Step.{number_of, next_of, closes, tallied, Countable, scan_of, unequal, scanned_of, Ready, scanned_number}
use Rattle.packet.proofs.Refusals.{accepted}
use Rattle.packet.proofs.Lent.{packets_lent, packets_done}

pub fine_refused : (n : ℕ) (r : Numbered) → Ok n ≡ Err r → ⊥
fine_refused n r e = let z : ◌≡◌ {A = ℕ} 0 1 = cc in omega arith

pub scan_ends : (past : Past) (begun : Bool) (closed : ℕ) {l : List Packet} → l ≡ [] → scan_of past begun closed l ≡ Ok closed
unfolding scan_of
scan_ends past begun closed e = rw e

-- the tally with one packet more, by its marker
module _ (y : Tally) (p : Packet) {past : Past} (e : past ≡ next_of y.past p.time) where
  pub tally_passes : (p.marker ≡ 1 → ⊥) → record { past = past; begun = y.begun; closed = y.closed } ≡ tallied y p
  unfolding tallied
  tally_passes n = simp (e, ne_eqb p.marker 1 n, or-false, add-zero)

  pub tally_marked : p.marker ≡ 1 → {n : ℕ} → n ≡ pick y.begun 1 0
      → record { past = past; begun = true; closed = y.closed + n } ≡ tallied y p
  unfolding tallied
  tally_marked m {n} f = simp (e, f, eq-eqb p.marker 1 m, or-true)

-- no more frames close than packets come
pub tally_keeps : (y : Tally) (p : Packet) → y.closed ≤ y.past.packets → (tallied y p).closed ≤ (tallied y p).past.packets
unfolding tallied
tally_keeps y p h =
    pick_either (λ n. y.closed + n ≤ y.past.packets + 1) (marked p && y.begun) (λ e. omega arith) (λ e. omega arith)

module _ (past : Past) (begun : Bool) (closed : ℕ) {p : Packet} {l ps : List Packet} (c : l ≡ p ∷ ps) where
  -- an accepted packet: the scan goes on
  pub scan_goes : number_of past p ≡ 0
      → scan_of past begun closed l ≡ scan_of (next_of past p.time) (begun || marked p) (closed + closes begun p) ps
  unfolding scan_of
  scan_goes e = rw (c, eq-eqb (number_of past p) 0 e)

  -- a refused packet: the scan stops there
  pub scan_stops : (number_of past p ≡ 0 → ⊥)
      → scan_of past begun closed l ≡ Err (record { number = number_of past p; place = past.packets })
  unfolding scan_of
  scan_stops n = rw (c, ne_eqb (number_of past p) 0 n)

  -- where a scan is ready, this packet is accepted, and the scan after it is ready
  pub ready_accepted : (room : ℕ) → Ready (scan_of past begun closed l) room → number_of past p ≡ 0
  unfolding scan_of
  ready_accepted room r =
      pick_either (λ (s : Scanned). Ready s room → number_of past p ≡ 0) (eqb (number_of past p) 0)
      (λ e x. eqb-true _ 0 e) (λ e x. absurd x)
      (subst (λ (l : List Packet). Ready (scan_of past begun closed l) room) c r)

-- the same from a tally
pub scan_tallied : (y : Tally) {p : Packet} {l ps : List Packet} → l ≡ p ∷ ps → number_of y.past p ≡ 0
    → scan_of (tallied y p).past (tallied y p).begun (tallied y p).closed ps ≡ scan_of y.past y.begun y.closed l
unfolding tallied
scan_tallied y c e = sym (scan_goes y.past y.begun y.closed c e)

-- one turn of the scan of three lent slices, by the packet's number, and the end
module _ (y : Tally) (ts ss ms : List ℕ) (i : ℕ) where
  pub scan_turn : (p : Packet) → OneLength ts ss ms → i < length ts → p ≡ lent ts ss ms i → 0 ≡ number_of y.past p
      → scan_of y.past y.begun y.closed (packets_from i ts ss ms)
      ≡ scan_of (tallied y p).past (tallied y p).begun (tallied y p).closed (packets_from (i + 1) ts ss ms)
  scan_turn p same h e n = sym (scan_tallied y (packets_lent same i e h) (sym n))

  pub scan_turn_stops : (p : Packet) (r : Refusal) → OneLength ts ss ms → i < length ts → p ≡ lent ts ss ms i
      → number r ≡ number_of y.past p
      → scan_of y.past y.begun y.closed (packets_from i ts ss ms) ≡ Err (record { number = number r; place = y.past.packets })
  scan_turn_stops p r same h e n =
      rw n (scan_stops y.past y.begun y.closed (packets_lent same i e h) (λ z. number_some r (n ∙ z)))

  pub scan_done : length ts ≤ i → scan_of y.past y.begun y.closed (packets_from i ts ss ms) ≡ Ok y.closed
  scan_done h = scan_ends y.past y.begun y.closed (packets_done ts ss ms i h)

-- a packet that is accepted may be counted
pub countable : (y : Tally) (p : Packet) → 0 ≡ number_of y.past p → y.closed ≤ y.past.packets → Countable y
countable y p n h = record { few = (accepted y.past p.time p.marker (sym n)).few; no_more = h }

pub ruleset scan_laws = (scan_turn, scan_turn_stops, scan_done, countable, tally_keeps)

pub fine_ready : (s : Scanned) (n room : ℕ) → s ≡ Ok n → n ≤ room → Ready s room
fine_ready s n room e h = rw e h

-- three lent slices, of one length or not
module _ (past : Past) (begun : Bool) (ts ss ms : List ℕ) where
  pub lengths_same : OneLength ts ss ms → scanned_of past begun ts ss ms ≡ scan_of past begun 0 (packets ts ss ms)
  unfolding scanned_of
  lengths_same same = rw (eq-eqb (length ss) (length ts) same.stamps, eq-eqb (length ms) (length ts) same.markers)

  by_length : (P : Scanned → Type 0) → (OneLength ts ss ms → P (scan_of past begun 0 (packets ts ss ms)))
      → ((OneLength ts ss ms → ⊥) → P unequal) → P (scanned_of past begun ts ss ms)
  unfolding scanned_of
  by_length P same differ = go (eqb (length ss) (length ts)) refl (eqb (length ms) (length ts)) refl
    where
      go : (s : Bool) → eqb (length ss) (length ts) ≡ s → (m : Bool) → eqb (length ms) (length ts) ≡ m
          → P (pick (s && m) (scan_of past begun 0 (packets ts ss ms)) unequal)
      go true e true f = same (record { stamps = eqb-true _ _ e; markers = eqb-true _ _ f })
      go true e false f = differ (λ same. eqb-false _ _ f same.markers)
      go false e m f = differ (λ same. eqb-false _ _ e same.stamps)

  pub lengths_differ : (OneLength ts ss ms → ⊥) → scanned_of past begun ts ss ms ≡ unequal
  lengths_differ differ = by_length (λ s. s ≡ unequal) (λ same. absurd (differ same)) (λ d. refl)

  -- an answer of fine says that the slices have one length, and answers for their packets
  pub scanned_fine : (n : ℕ) → scanned_of past begun ts ss ms ≡ Ok n
      → OneLength ts ss ms × (scan_of past begun 0 (packets ts ss ms) ≡ Ok n)
  scanned_fine n =
      by_length (λ s. s ≡ Ok n → OneLength ts ss ms × (scan_of past begun 0 (packets ts ss ms) ≡ Ok n))
      (λ same e. (same, e)) (λ differ e. absurd (fine_refused n _ (sym e)))

-- a refusal has a number that is not 0
scan_some : (l : List Packet) (past : Past) (begun : Bool) (closed : ℕ) (r : Numbered) → scan_of past begun closed l ≡ Err r
    → r.number ≡ 0 → ⊥
unfolding scan_of
scan_some [] past begun closed r = λ e z. fine_refused closed r e
scan_some (p ∷ ps) past begun closed r = go (eqb (number_of past p) 0) refl
    (scan_some ps (next_of past p.time) (begun || marked p) (closed + closes begun p) r)
  where
    go : (t : Bool) → eqb (number_of past p) 0 ≡ t
        → (scan_of (next_of past p.time) (begun || marked p) (closed + closes begun p) ps ≡ Err r → r.number ≡ 0 → ⊥)
        → pick t (scan_of (next_of past p.time) (begun || marked p) (closed + closes begun p) ps)
        (Err (record { number = number_of past p; place = past.packets })) ≡ Err r → r.number ≡ 0 → ⊥
    go true n ih e z = ih e z
    go false n ih e z =
        let same : number_of past p ≡ r.number = ap scanned_number e in
        eqb-false (number_of past p) 0 n (same ∙ z)

pub scanned_some : (past : Past) (begun : Bool) (ts ss ms : List ℕ) (r : Numbered) → scanned_of past begun ts ss ms ≡ Err r
    → r.number ≡ 0 → ⊥
scanned_some past begun ts ss ms r =
    by_length past begun ts ss ms (λ s. s ≡ Err r → r.number ≡ 0 → ⊥) (λ same. scan_some (packets ts ss ms) past begun 0 r)
    (λ differ e z. let ten : 10 ≡ r.number = ap scanned_number e in omega arith)
