-- A file whose bytes are packets' records, gone through by a run that is admitted, finishes as the walk over it does. By the records: each
-- stands whole, so that the format refuses none, and no packet is refused either, as a run that is admitted says.
use Rattle.std.specs.Prelude.{◌≡◌, ◌&&◌, ◌||◌, ◌∷◌, ◌+◌, ◌*◌, None, Some, Ok, ◌-◌}
use Rattle.laws.specs.Kit.{refl, sym, ap, subst, ◌∙◌, Bool, true, false, and-false, List, [], ℕ, zero, suc}
use Rattle.std.specs.Prelude.{◌/◌, ◌%◌, ◌<◌}
use Rattle.laws.specs.Kit.{arith, eqb, length, drop, length-drop, drop-drop, eq-eqb, ne_eqb, eqb-true}
use Rattle.laws.proofs.Choose.{pick_either, second}
use Rattle.laws.proofs.Every.{and_left, and_right}
use Rattle.packet.specs.declared.Packet.{Packet}
use Rattle.packet.specs.declared.Past.{Past}
use Rattle.packet.specs.declared.Run.{Run}
use Rattle.packet.specs.Quick.{Ran}
use Rattle.packet.specs.Paper.{marked}
use Rattle.packet.specs.Step.{nothing, number_of, next_of, closes, no_packets, scan_of}
use Rattle.packet.specs.Quick.{start_of, takes_of, runs_of, ran_of, admits_of, closed_by}
use Rattle.packet.proofs.Turn.{scan_goes, ready_accepted, fine_ready}
use Rattle.packet.proofs.Declared.{tally_declared, scan_declared, fine_count}
use Rattle.packet.proofs.Latest.{run_goes, run_scans}
use Rattle.record.specs.declared.FileNumbers.{FileNumbers}
use Rattle.record.specs.Paper.{packet_bytes, packet_at, format_refusal, done, more, packets_in}
use Rattle.record.specs.Step.{stands_in}
use Rattle.record.specs.Walk.{fine_with, finish, records_left, ran_in, checked_fine}
use Rattle.record.proofs.Reading.{packets_end, packets_go}
use Rattle.record.proofs.Saying.{Says, next_says}
use Rattle.record.proofs.Standing.{stands, stands_packet}

-- ---- how many records there are

module _ (l : List ℕ) where
  -- they fill the bytes
  pub left_fills : 0 < records_left l → length l ≡ packet_bytes * records_left l
  left_fills =
      pick_either (λ (n : ℕ). 0 < n → length l ≡ packet_bytes * n) (eqb (length l % packet_bytes) 0)
      (λ e h. omega (arith, eqb-true (length l % packet_bytes) 0 e)) (λ e h. absurd (omega arith))

  module _ {size : ℕ} (e : size ≡ length l) where
    pub left_none : (size % packet_bytes ≡ 0 → ⊥) → 0 ≡ records_left l
    left_none n = sym (rw (← e, ne_eqb (size % packet_bytes) 0 n))

    pub left_all : size % packet_bytes ≡ 0 → size / packet_bytes ≡ records_left l
    left_all z = sym (rw (← e, eq-eqb (size % packet_bytes) 0 z))

-- ---- one record of a run

module _ (r : Run) {left k : ℕ} (some : left ≡ suc k) (l : List ℕ) where
  pub ran_goes : stands_in l ≡ true → takes_of r (packet_at l) ≡ true
      → ran_in r left l ≡ ran_in (runs_of r (packet_at l)) k (drop packet_bytes l)
  unfolding ran_in
  ran_goes s t = rw (some, s, t)

  pub ran_other : stands_in l ≡ false → ran_in r left l ≡ None
  unfolding ran_in
  ran_other s = rw (some, s)

  pub ran_breaks : takes_of r (packet_at l) ≡ false → ran_in r left l ≡ None
  unfolding ran_in
  ran_breaks t = rw (some, t, and-false (stands_in l))

-- the same in a turn: behind so many records from a place in a file
module _ (r : Run) {n k : ℕ} (some : k < n) (at : ℕ) (l : List ℕ) where
  pub turn_goes : stands_in (drop (at + packet_bytes * k) l) ≡ true → takes_of r (packet_at (drop (at + packet_bytes * k) l)) ≡ true
      → ran_in (runs_of r (packet_at (drop (at + packet_bytes * k) l))) (n - (k + 1)) (drop (at + packet_bytes * (k + 1)) l)
      ≡ ran_in r (n - k) (drop (at + packet_bytes * k) l)
  turn_goes s t =
      let next : at + packet_bytes * (k + 1) ≡ at + packet_bytes * k + packet_bytes = omega arith in
      let left : n - k ≡ suc (n - (k + 1)) = omega arith in
      rw (next, ← drop-drop packet_bytes (at + packet_bytes * k) l) (sym (ran_goes r left _ s t))

  pub turn_other : stands_in (drop (at + packet_bytes * k) l) ≡ false → None ≡ ran_in r (n - k) (drop (at + packet_bytes * k) l)
  turn_other s = sym (ran_other r {k = n - (k + 1)} (omega arith) _ s)

  pub turn_breaks : takes_of r (packet_at (drop (at + packet_bytes * k) l)) ≡ false
      → None ≡ ran_in r (n - k) (drop (at + packet_bytes * k) l)
  turn_breaks t = sym (ran_breaks r {k = n - (k + 1)} (omega arith) _ t)

-- what a run that went through says of its first record
record Passed (r z : Run) (k : ℕ) (l : List ℕ) : Type 0 where
  stood : stands_in l ≡ true
  took : takes_of r (packet_at l) ≡ true
  then : ran_in (runs_of r (packet_at l)) k (drop packet_bytes l) ≡ Some z

passed : (r z : Run) (k : ℕ) (l : List ℕ) → ran_in r (suc k) l ≡ Some z → Passed r z k l
unfolding ran_in
passed r z k l =
    pick_either (λ (x : Ran). x ≡ Some z → Passed r z k l) (stands_in l && takes_of r (packet_at l))
    (λ t e. record { stood = and_left (stands_in l) _ t; took = and_right (stands_in l) _ t; then = e })
    (λ t e. let z : ◌≡◌ {A = ℕ} 0 1 = cc in absurd (omega arith))

format_fits : (l : List ℕ) → stands_in l ≡ true → format_refusal false l ≡ 0
format_fits l s = (subst (Says 0 l) (sym (stands_packet l 0 true (stands l s))) (next_says 0 l)).0

-- ---- all records

-- the packets of so many records
pieces : ℕ → List ℕ → List Packet
pieces zero l = []
pieces (suc k) l = packet_at l ∷ pieces k (drop packet_bytes l)

pieces_length : (k : ℕ) (l : List ℕ) → length (pieces k l) ≡ k
unfolding pieces
pieces_length zero l = refl
pieces_length (suc k) l = ap suc (pieces_length k (drop packet_bytes l))

-- the run over the bytes is the run over the packets
pieces_run : (k : ℕ) (r z : Run) (l : List ℕ) → ran_in r k l ≡ Some z → ran_of r (pieces k l) ≡ Some z
unfolding pieces ran_in ran_of
pieces_run zero r z l e = e
pieces_run (suc k) r z l e =
    let p = passed r z k l e in
    run_goes r {p = packet_at l} {l = pieces (suc k) l} {ps = pieces k (drop packet_bytes l)} refl p.took
    ∙ pieces_run k (runs_of r (packet_at l)) z (drop packet_bytes l) p.then

-- where the scan refuses none of them, they are what the bytes read as
pieces_read : (k : ℕ) (r z : Run) (l : List ℕ) (past : Past) (begun : Bool) (closed at n : ℕ) → ran_in r k l ≡ Some z
    → length l ≡ packet_bytes * k → scan_of past begun closed (pieces k l) ≡ Ok n
    → packets_in past at l ≡ record { accepted = pieces k l; ending = done }
unfolding pieces
pieces_read zero r z l past begun closed at n e f s = packets_end past at l (omega arith)
pieces_read (suc k) r z l past begun closed at n e f s =
    let p = passed r z k l e in
    let q = packet_at l in
    let rest = drop packet_bytes l in
    let fine : number_of past q ≡ 0 =
    ready_accepted past begun closed {p = q} {l = pieces (suc k) l} {ps = pieces k rest} refl n (fine_ready _ n n s (omega arith)) in
    let on = scan_goes past begun closed {p = q} {l = pieces (suc k) l} {ps = pieces k rest} refl fine in
    packets_go past at l (second _ _ (format_fits l p.stood) ∙ fine)
    ∙ ap (more q)
    (pieces_read k (runs_of r q) z rest (next_of past q.time) (begun || marked q) (closed + closes begun q) (at + packet_bytes) n p.then
    (length-drop packet_bytes l ∙ omega arith) (sym on ∙ s))

pub quick_finish : (numbers : FileNumbers) (at : ℕ) (l : List ℕ) (k : ℕ) {z : Run} → 0 < k → length l ≡ packet_bytes * k
    → ran_in (start_of nothing false) k l ≡ Some z → admits_of nothing k (packet_at l).time z.last ≡ true
    → checked_fine numbers k (closed_by z) ≡ finish numbers no_packets (packets_in nothing at l)
unfolding pieces
quick_finish numbers at l zero {z} h f e a = absurd (omega arith)
quick_finish numbers at l (suc k) {z} h f e a =
    let ps = pieces (suc k) l in
    let many = pieces_length (suc k) l in
    let admitted = ap (λ (n : ℕ). admits_of nothing n (packet_at l).time z.last) many ∙ a in
    let fine : scan_of nothing false 0 ps ≡ Ok (closed_by z) =
    run_scans nothing false {ps = pieces k (drop packet_bytes l)} refl (pieces_run (suc k) (start_of nothing false) z l e) admitted in
    let closed = fine_count ps (closed_by z) (sym (scan_declared ps) ∙ fine) in
    sym (ap (finish numbers no_packets) (pieces_read (suc k) (start_of nothing false) z l nothing false 0 at (closed_by z) e f fine)
    ∙ ap (fine_with numbers) (tally_declared ps)
    ∙ rw (← closed, many))
