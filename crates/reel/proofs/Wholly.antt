-- What is printed of a capture, record by record, is what is printed of all its packets at once: the rows of those before the first refused, and
-- the last line. By the records, one by one, beside the scan of the packets.
use Rattle.std.specs.Prelude.{◌≡◌, ◌||◌, ◌∷◌, ◌++◌, ◌+◌, ◌-◌, ◌≤◌, Err, Ok}
use Rattle.laws.specs.Kit.{refl, sym, ap, ◌∙◌, Bool, true, false, List, [], append_assoc, ℕ, suc}
use Rattle.laws.specs.Kit.{arith, eqb, length, take, drop, le-leb, eq-eqb}
use Rattle.laws.specs.Choose.{pick}
use Rattle.laws.specs.Fold.{fold}
use Rattle.packet.specs.declared.Packet as packets
use Rattle.packet.specs.declared.Past.{Past}
use Rattle.packet.specs.Paper.{Scanned}
use Rattle.refusal.specs.Told.{Numbered}
use Rattle.packet.specs.Step.{nothing, number_of, next_of, closes, scan_of, scanned_number, scanned_place}
use Rattle.packet.specs.Paper.{marked}
use Rattle.packet.proofs.Turn.{fine_refused}
use Rattle.text.specs.Lines.{refusal_line}
use Rattle.capture.specs.declared.Format.{Format}
use Rattle.capture.specs.Paper.{header_bytes, capture, header_of, Found, packet, skipped, Ending, done, stopped, Records, records_in, handed_on}
use Rattle.capture.specs.Paper.{skipped_in, asked}
use Rattle.timing.specs.declared.Rules.{Rules}
use Rattle.timing.specs.declared.State.{State}
use Rattle.timing.specs.Step.{stated_of, stated_refusal, rules_of, fresh_of, step_of, rows_of, state_after, rows_after}
use Rattle.timing.proofs.Running.{step_past}
use Rattle.printer.specs.Paper.{row_lines}
use Rattle.printer.proofs.Carrying.{rows_append}
use Rattle.reel.specs.declared.Asked.{Asked}
use Rattle.reel.specs.Paper.{counted, lines_from, output_of, last_by, printed_by}
use Rattle.reel.proofs.Carrying.{counted_on}

counted_one : (a i : ℕ) → counted (a + 1 + i) ≡ counted (a + suc i)
counted_one a i = let sum : a + 1 + i ≡ a + suc i = omega arith in ap counted sum

module _ (rules : Rules) (e : Ending) where
  -- one packet's lines before those of the others
  rows_first : (s : State) (p : packets.Packet) (l : List packets.Packet) (end : List ℕ)
      → row_lines (rows_of rules s p) ++ (row_lines (rows_after rules (step_of rules s p) l) ++ end) ≡ row_lines (rows_after rules s (p ∷ l)) ++ end
  unfolding rows_after
  rows_first s p l end =
      let here = rows_of rules s p in
      let rest = rows_after rules (step_of rules s p) l in
      sym (ap (λ (x : List ℕ). x ++ end) (rows_append here rest) ∙ append_assoc (row_lines here) (row_lines rest) end)

  on_past : (s : State) (p : packets.Packet) (xs : List Found) (begun : Bool) (closed : ℕ)
      → scan_of (step_of rules s p).past (begun || marked p) (closed + closes begun p) (handed_on xs)
      ≡ scan_of (next_of s.past p.time) (begun || marked p) (closed + closes begun p) (handed_on xs)
  on_past s p xs begun closed =
      ap (λ (y : Past). scan_of y (begun || marked p) (closed + closes begun p) (handed_on xs)) (step_past rules s p)

  -- ---- no packet is refused

  abbrev FineLines : List Found → State → ℕ → ℕ → Type 0
  FineLines xs s records skips =
      lines_from rules s (counted records) (counted skips) xs e
      ≡ row_lines (rows_after rules s (handed_on xs))
      ++ last_by e (state_after rules s (handed_on xs)) (counted (records + length xs)) (counted (skips + skipped_in xs))

  lines_fine : (xs : List Found) (s : State) (begun : Bool) (closed records skips : ℕ) {n : ℕ}
      → scan_of s.past begun closed (handed_on xs) ≡ Ok n → FineLines xs s records skips
  unfolding lines_from handed_on skipped_in rows_after row_lines scan_of fold
  lines_fine [] s begun closed records skips f =
      let all : records + 0 ≡ records = omega arith in
      let skipped_all : skips + 0 ≡ skips = omega arith in
      rw (all, skipped_all) (go e)
    where
      go : (z : Ending) → lines_from rules s (counted records) (counted skips) [] z ≡ last_by z s (counted records) (counted skips)
      go done = refl
      go (stopped number) = refl
  lines_fine (skipped ∷ xs) s begun closed records skips f =
      rw (counted_on records 1, counted_on skips 1, ← counted_one records (length xs), ← counted_one skips (skipped_in xs))
      (lines_fine xs s begun closed (records + 1) (skips + 1) f)
  lines_fine (packet p ∷ xs) s begun closed records skips {n} f =
      go (eqb (number_of s.past p) 0) f
      (λ g. lines_fine xs (step_of rules s p) (begun || marked p) (closed + closes begun p) (records + 1) skips (on_past s p xs begun closed ∙ g))
    where
      go : (t : Bool)
          → pick t (scan_of (next_of s.past p.time) (begun || marked p) (closed + closes begun p) (handed_on xs))
          (Err (record { number = number_of s.past p; place = s.past.packets })) ≡ Ok n
          → (scan_of (next_of s.past p.time) (begun || marked p) (closed + closes begun p) (handed_on xs) ≡ Ok n
          → FineLines xs (step_of rules s p) (records + 1) skips)
          → pick t (row_lines (rows_of rules s p) ++ lines_from rules (step_of rules s p) (counted (counted records + 1)) (counted skips) xs e)
          (refusal_line (number_of s.past p) s.past.packets)
          ≡ row_lines (rows_after rules s (p ∷ handed_on xs))
          ++ last_by e (state_after rules (step_of rules s p) (handed_on xs)) (counted (records + suc (length xs))) (counted (skips + skipped_in xs))
      go true g ih =
          rw (counted_on records 1, ← counted_one records (length xs))
          (ap (λ (x : List ℕ). row_lines (rows_of rules s p) ++ x) (ih g) ∙ rows_first s p (handed_on xs) _)
      go false g ih = absurd (fine_refused n _ (sym g))

  -- ---- a packet is refused

  -- the rows of the packets before it, and its number and place
  pub record StoppedLines (xs : List Found) (s : State) (records skips : ℕ) (q : Numbered) : Type 0 where
    pub from : s.past.packets ≤ q.place
    pub lines : lines_from rules s records skips xs e
        ≡ row_lines (rows_after rules s (take (q.place - s.past.packets) (handed_on xs))) ++ refusal_line q.number q.place

  lines_stopped : (xs : List Found) (s : State) (begun : Bool) (closed records skips : ℕ) {q : Numbered}
      → scan_of s.past begun closed (handed_on xs) ≡ Err q → StoppedLines xs s records skips q
  unfolding lines_from handed_on rows_after row_lines scan_of
  lines_stopped [] s begun closed records skips {q} f = absurd (fine_refused closed q f)
  lines_stopped (skipped ∷ xs) s begun closed records skips f =
      let ih = lines_stopped xs s begun closed (counted (records + 1)) (counted (skips + 1)) f in
      record { from = ih.from; lines = ih.lines }
  lines_stopped (packet p ∷ xs) s begun closed records skips {q} f =
      go (eqb (number_of s.past p) 0) refl f
      (λ g. lines_stopped xs (step_of rules s p) (begun || marked p) (closed + closes begun p) (counted (records + 1)) skips
      (on_past s p xs begun closed ∙ g))
    where
      go : (t : Bool) → eqb (number_of s.past p) 0 ≡ t
          → pick t (scan_of (next_of s.past p.time) (begun || marked p) (closed + closes begun p) (handed_on xs))
          (Err (record { number = number_of s.past p; place = s.past.packets })) ≡ Err q
          → (scan_of (next_of s.past p.time) (begun || marked p) (closed + closes begun p) (handed_on xs) ≡ Err q
          → StoppedLines xs (step_of rules s p) (counted (records + 1)) skips q)
          → StoppedLines (packet p ∷ xs) s records skips q
      go true z g ih =
          let after = ih g in
          let here : (step_of rules s p).past.packets ≡ s.past.packets + 1 = ap (λ (y : Past). y.packets) (step_past rules s p) in
          let one : q.place - s.past.packets ≡ suc (q.place - (step_of rules s p).past.packets) = omega (arith, after.from, here) in
          record {
            from = omega (arith, after.from, here);
            lines = rw (z, one) (ap (λ (x : List ℕ). row_lines (rows_of rules s p) ++ x) after.lines
                ∙ rows_first s p (take (q.place - (step_of rules s p).past.packets) (handed_on xs)) (refusal_line q.number q.place));
          }
      go false z g ih =
          let number : number_of s.past p ≡ q.number = ap scanned_number g in
          let place : s.past.packets ≡ q.place = ap scanned_place g in
          let none : q.place - s.past.packets ≡ 0 = omega (arith, place) in
          record { from = omega (arith, place); lines = rw (z, none, number, place) }

-- ---- the whole capture, from a state that has seen no packet

module _ (rules : Rules) (s : State) (none : s.past.packets ≡ 0) (begun : Bool) (r : Records) where
  pub printed_wholly : lines_from rules s 0 0 r.found r.ending ≡ printed_by (scan_of s.past begun 0 (handed_on r.found)) rules s r
  printed_wholly = go (scan_of s.past begun 0 (handed_on r.found)) refl
    where
      go : (x : Scanned) → scan_of s.past begun 0 (handed_on r.found) ≡ x
          → lines_from rules s 0 0 r.found r.ending ≡ printed_by x rules s r
      go (Ok n) f =
          let all : 0 + length r.found ≡ length r.found = omega arith in
          let skips : 0 + skipped_in r.found ≡ skipped_in r.found = omega arith in
          rw (all, skips) at (lines_fine rules r.ending r.found s begun 0 0 0 f)
      go (Err q) f =
          let all : q.place - s.past.packets ≡ q.place = omega (arith, none) in
          rw all at (lines_stopped rules r.ending r.found s begun 0 0 0 f).lines

-- R17: so of a capture whose stream, offset and header are accepted
pub output_wholly : (a : Asked) (file : List ℕ) {f : Format} → stated_refusal a.stated ≡ 0 → a.offset ≤ 99 → header_of file ≡ capture f
    → let r = records_in (asked f a.port a.offset) (drop header_bytes file) in
    output_of a file ≡ printed_by (scan_of nothing false 0 (handed_on r.found)) (rules_of (stated_of a.stated)) (fresh_of (stated_of a.stated)) r
unfolding output_of
output_wholly a file {f} e h k =
    rw (eq-eqb (stated_refusal a.stated) 0 e, le-leb a.offset 99 h, k)
    (printed_wholly (rules_of (stated_of a.stated)) (fresh_of (stated_of a.stated)) refl false
    (records_in (asked f a.port a.offset) (drop header_bytes file)))
