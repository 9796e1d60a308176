-- What was to be printed is what a call writes, and then what is still to be printed. One packet at a time: what lies ahead of the reel is
-- what lies there in the whole capture, and each answer's line is the request's. By the turns still allowed.
use Rattle.std.specs.Prelude.{◌≡◌, ◌++◌, Ok, Err}
use Rattle.laws.specs.Kit.{refl, sym, ap, ◌∙◌, Bool, true, List, [], append-nil, append_assoc, ℕ, zero, suc}
use Rattle.std.specs.Prelude.{◌+◌, ◌-◌, ◌<◌}
use Rattle.laws.specs.Kit.{arith, eqb, ltb, length, drop, drop-drop, eqb-true, eqb-false, eq-eqb, ne_eqb}
use Rattle.laws.specs.Choose.{pick}
use Rattle.laws.proofs.Choose.{pick_either}
use Rattle.packet.specs.declared.Packet as packets
use Rattle.packet.specs.Step.{number_of}
use Rattle.text.specs.Lines.{line_room, refusal_line}
use Rattle.capture.specs.Step.{AheadRead}
use Rattle.capture.specs.declared.Ahead.TheVariants.{Packet, Wait, End}
use Rattle.capture.specs.Paper.{packet, done, stopped, Records, none, more, records_in}
use Rattle.capture.specs.Step.{ahead_of, rest_from, skipping}
use Rattle.capture.proofs.Looking.{Lies, ahead_keeps}
use Rattle.timing.specs.declared.Rules.{Rules}
use Rattle.timing.specs.declared.State.{State}
use Rattle.timing.specs.Step.{rules_of, step_of, rows_of}
use Rattle.timing.proofs.InRange.{of_sound}
use Rattle.timing.proofs.Running.{going_next, step_numbers}
use Rattle.printer.specs.Paper.{row_lines}
use Rattle.reel.specs.declared.Reel.{Reel}
use Rattle.reel.specs.Paper.{counted, captured_line, lines_from, lines_of}
use Rattle.reel.specs.Step.{TakeOutcome, line_ahead, stays, ends, and_then, at_packet, lines_at, refused_line, ahead_by}
use Rattle.reel.specs.Step.{roll_by, take_of, rest_of, Stands}

small : (n : ℕ) → counted n < 18446744073709551616
small n = omega arith

-- a count that goes on
pub counted_on : (b i : ℕ) → counted (counted b + i) ≡ counted (b + i)
counted_on b i = omega arith

counted_suc : (a i : ℕ) → counted (counted (a + 1) + i) ≡ counted (a + suc i)
counted_suc a i =
    let sum : a + 1 + i ≡ a + suc i = omega arith in
    counted_on (a + 1) i ∙ ap counted sum

-- ---- the lines of records

module _ (rules : Rules) (s : State) where
  lines_skipping : (i records skips : ℕ) → records < 18446744073709551616 → skips < 18446744073709551616 → (r : Records)
      → lines_of rules s records skips (skipping i r) ≡ lines_of rules s (counted (records + i)) (counted (skips + i)) r
  unfolding skipping lines_from
  lines_skipping zero records skips h k r =
      let a : counted (records + 0) ≡ records = omega arith in
      let b : counted (skips + 0) ≡ skips = omega arith in
      rw (a, b)
  lines_skipping (suc i) records skips h k r =
      lines_skipping i (counted (records + 1)) (counted (skips + 1)) (small (records + 1)) (small (skips + 1)) r
      ∙ rw (counted_suc records i, counted_suc skips i)

  lines_packet : (records skips : ℕ) (p : packets.Packet) (r : Records) → number_of s.past p ≡ 0
      → lines_of rules s records skips (more (packet p) r)
      ≡ row_lines (rows_of rules s p) ++ lines_of rules (step_of rules s p) (counted (records + 1)) skips r
  unfolding lines_from
  lines_packet records skips p r e = rw (eq-eqb (number_of s.past p) 0 e)

  lines_refused : (records skips : ℕ) (p : packets.Packet) (r : Records) → (number_of s.past p ≡ 0 → ⊥)
      → lines_of rules s records skips (more (packet p) r) ≡ refusal_line (number_of s.past p) s.past.packets
  unfolding lines_from
  lines_refused records skips p r n = rw (ne_eqb (number_of s.past p) 0 n)

  lines_done : (records skips : ℕ) → lines_of rules s records skips (none done) ≡ captured_line s records skips
  unfolding lines_from
  lines_done records skips = refl

  lines_stopped : (records skips number : ℕ) → lines_of rules s records skips (none (stopped number)) ≡ refusal_line number records
  unfolding lines_from
  lines_stopped records skips number = refl

-- ---- one call

-- what was to be printed from a reel on is what the call wrote, and, where it has not ended, what is to be printed from there on
abbrev Carries : Rules → Reel → List ℕ → List ℕ → TakeOutcome → Type 0
Carries rules reel w v k =
    (rest_of rules reel (w ++ v) ≡ k.text ++ pick k.ended [] (rest_of rules k.reel (drop k.used w ++ v)))
    × Stands k.reel
    × (rules ≡ rules_of k.reel.state.numbers)

module _ (rules : Rules) (reel : Reel) (w v : List ℕ) (q : rules ≡ rules_of reel.state.numbers) (z : Stands reel) where
  -- the last line
  ends_at : (line : List ℕ) → rest_of rules reel (w ++ v) ≡ line → Carries rules reel w v (ends reel line)
  ends_at line e = (e ∙ sym (append-nil line), z, q)

  -- nothing done
  waits : Carries rules reel w v (stays reel)
  waits = (refl, z, q)

  -- behind so many skipped records
  skips : (i : ℕ) (r : Records) → rest_from reel.setting reel.cursor (w ++ v) ≡ skipping i r
      → rest_of rules reel (w ++ v) ≡ lines_of rules reel.state (counted (reel.records + i)) (counted (reel.skipped + i)) r
  skips i r e =
      ap (lines_of rules reel.state reel.records reel.skipped) e
      ∙ lines_skipping rules reel.state i reel.records reel.skipped z.records z.skipped r

  next_stands : (p : packets.Packet) (m : ℕ) → number_of reel.state.past p ≡ 0 → Stands (at_packet rules reel p m)
  next_stands p m e = record {
    sound = (going_next {rules = rules} (record { rules_are = q; sound = z.sound }) p e).sound;
    records = small _;
    skipped = small _;
  }

  carried_on : (p : packets.Packet) (m n : ℕ) (k : TakeOutcome) → number_of reel.state.past p ≡ 0
      → rest_from reel.setting reel.cursor (w ++ v) ≡ skipping m (more (packet p) (records_in reel.setting (drop n w ++ v)))
      → Carries rules (at_packet rules reel p m) (drop n w) v k → Carries rules reel w v (and_then n (lines_at rules reel p) k)
  unfolding rest_from
  carried_on p m n k e lies f =
      let lines = lines_at rules reel p in
      let go : rest_of rules reel (w ++ v) ≡ lines ++ rest_of rules (at_packet rules reel p m) (drop n w ++ v) =
      skips m _ lies
      ∙ lines_packet rules reel.state (counted (reel.records + m)) (counted (reel.skipped + m)) p
      (records_in reel.setting (drop n w ++ v)) e in
      let left : rest_of rules k.reel (drop k.used (drop n w) ++ v) ≡ rest_of rules k.reel (drop (n + k.used) w ++ v) =
      ap (λ (x : List ℕ). rest_of rules k.reel (x ++ v)) (drop-drop k.used n w) in (
        go ∙ ap (λ (x : List ℕ). lines ++ x) (f.0 ∙ ap (λ (x : List ℕ). k.text ++ pick k.ended [] x) left)
            ∙ sym (append_assoc lines k.text _),
        f.1,
        f.2,
      )

  -- what lies ahead, by cases
  carries_ahead : (r : AheadRead) (room : ℕ) (on : Reel → ℕ → ℕ → TakeOutcome) → Lies reel.setting reel.cursor w v 0 0 r
      → ((next : Reel) (n left : ℕ) → rules ≡ rules_of next.state.numbers → Stands next → Carries rules next (drop n w) v (on next n left))
      → Carries rules reel w v (ahead_by rules reel room on r)
  unfolding line_ahead
  carries_ahead (Ok (Packet p m n)) room on (i, j, a, b, some, within, lies) ih =
      let number = number_of reel.state.past p in
      let same : m ≡ i = omega arith in
      let here : n ≡ j = omega arith in
      let lie : rest_from reel.setting reel.cursor (w ++ v) ≡ skipping m (more (packet p) (records_in reel.setting (drop n w ++ v))) =
      rw (same, here) lies in
      pick_either (Carries rules reel w v) (eqb number 0)
      (λ e. let f = eqb-true number 0 e in
      carried_on p m n (on (at_packet rules reel p m) n (room - length (lines_at rules reel p))) f lie
      (ih (at_packet rules reel p m) n _ (q ∙ sym (ap rules_of (step_numbers rules reel.state p))) (next_stands p m f)))
      (λ e. ends_at (refused_line reel p) (skips m _ lie
      ∙ lines_refused rules reel.state (counted (reel.records + m)) (counted (reel.skipped + m)) p
      (records_in reel.setting (drop n w ++ v)) (eqb-false number 0 e)))
  carries_ahead (Ok (Wait d m n)) room on (i, j, a, b, within, lies) ih =
      let same : i ≡ m = omega arith in
      let here : j ≡ n = omega arith in (
        rw (same, here) at (skips i _ lies),
        record { sound = z.sound; records = small (reel.records + m); skipped = small (reel.skipped + m) },
        q,
      )
  carries_ahead (Ok (End m)) room on (i, a, lies) ih =
      let same : i ≡ m = omega arith in
      ends_at _ (rw same at (skips i _ lies) ∙ lines_done rules reel.state (counted (reel.records + m)) (counted (reel.skipped + m)))
  carries_ahead (Err r) room on (i, a, lies) ih =
      let same : i ≡ r.skipped = omega arith in
      ends_at _ (rw same at (skips i _ lies)
      ∙ lines_stopped rules reel.state (counted (reel.records + r.skipped)) (counted (reel.skipped + r.skipped)) r.number)

carries_roll : (k : ℕ) (rules : Rules) (reel : Reel) (w v : List ℕ) (last : Bool) (room : ℕ) → (last ≡ true → v ≡ [])
    → rules ≡ rules_of reel.state.numbers → Stands reel → Carries rules reel w v (roll_by k rules reel w last room)
unfolding roll_by
carries_roll zero rules reel w v last room l q z = waits rules reel w v q z
carries_roll (suc k) rules reel w v last room l q z =
    pick_either (Carries rules reel w v) (ltb room line_room) (λ e. waits rules reel w v q z)
    (λ e. carries_ahead rules reel w v q z (ahead_of reel.setting reel.cursor w last) room _
    (ahead_keeps reel.setting reel.cursor w v last l)
    (λ next n left q' z'. carries_roll k rules next (drop n w) v last left l q' z'))

-- a call from a reel that a capture leads to
pub take_carries : (reel : Reel) (w v : List ℕ) (last : Bool) (room : ℕ) → (last ≡ true → v ≡ []) → Stands reel
    → Carries (rules_of reel.state.numbers) reel w v (take_of reel w last room)
unfolding take_of
take_carries reel w v last room l z =
    let rules = rules_of reel.state.numbers in
    pick_either (Carries rules reel w v) (ltb room line_room) (λ e. waits rules reel w v refl z)
    (λ e. rw (of_sound reel.state z.sound) (carries_roll _ rules reel w v last room l refl z))
