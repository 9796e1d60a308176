-- What was to be printed is what a call writes, and then what is still to be printed. One record at a time: what stands at the walk is
-- what stands there in the whole file, and each answer's line is document 01's. By the turns still allowed.
use Rattle.std.specs.Prelude.{◌≡◌, ◌∷◌, ◌++◌, Ok, Err, ◌+◌, ◌-◌, ◌^◌, ◌≤◌, ◌<◌}
use Rattle.laws.specs.Kit.{refl, sym, ap, subst, ◌∙◌, Bool, true, false, List, [], append-nil, append_assoc, ℕ, zero, suc}
use Rattle.laws.specs.Kit.{arith, mod-eq_of_lt, eqb, ltb, length, drop, length-append, drop-drop, drop-append-le, eqb-true, eqb-false}
use Rattle.laws.specs.Choose.{pick}
use Rattle.laws.proofs.Choose.{pick_either, second, before}
use Rattle.laws.specs.Fold.{fold}
use Rattle.packet.specs.declared.Past.{Past}
use Rattle.packet.specs.declared.Packet as packet
use Rattle.packet.specs.Step.{number_of, next_of}
use Rattle.packet.proofs.Refusals.{accepted}
use Rattle.frame.specs.declared.Row.{Row}
use Rattle.text.specs.Lines.{line_room, row_line, refusal_line}
use Rattle.record.specs.declared.Cursor.{Cursor}
use Rattle.record.specs.Step.{NextRead, next_packet, next_read, next_piece}
use Rattle.record.specs.declared.Next.TheVariants.{Packet, End, More}
use Rattle.record.specs.Paper.{packet_bytes, packet_at, packet_refusal, Packets, packets_in, more}
use Rattle.record.specs.Pieces.{wants_more}
use Rattle.record.proofs.Reading.{packets_end, packets_stop, packets_go}
use Rattle.record.proofs.Saying.{Says, next_says}
use Rattle.record.proofs.InPieces.{piece_answers}
use Rattle.timing.specs.declared.Rules.{Rules}
use Rattle.timing.specs.declared.State.{State}
use Rattle.timing.specs.Step.{rules_of, step_of, rows_of, state_after, rows_after}
use Rattle.timing.proofs.InRange.{of_sound}
use Rattle.timing.proofs.Running.{going_next, step_numbers, step_past}
use Rattle.printer.specs.declared.Walk.{Walk}
use Rattle.printer.specs.Paper.{row_lines, sum_line, last_line, lines_of, rest_of}
use Rattle.printer.specs.Step.{TakeOutcome, line_of, stays, and_then, stepped, lines_at, item_by, walk_by, take_of}
use Rattle.printer.specs.Drive.{Stands}
use Rattle.printer.proofs.Turning.{piece_sixteen}

-- ---- the lines of packets

pub rows_append : (l m : List Row) → row_lines (l ++ m) ≡ row_lines l ++ row_lines m
unfolding row_lines
rows_append [] m = refl
rows_append (r ∷ l) m = ap (λ (x : List ℕ). row_line r ++ x) (rows_append l m) ∙ sym (append_assoc (row_line r) (row_lines l) (row_lines m))

module _ (rules : Rules) (s : State) where
  -- one packet's lines, and then those of the others
  lines_more : (p : packet.Packet) (r : Packets) → lines_of rules s (more p r) ≡ row_lines (rows_of rules s p) ++ lines_of rules (step_of rules s p) r
  unfolding rows_after fold
  lines_more p r =
      let here = rows_of rules s p in
      let rest = rows_after rules (step_of rules s p) r.accepted in
      let end = last_line (state_after rules (step_of rules s p) r.accepted) r.ending in
      ap (λ (x : List ℕ). x ++ end) (rows_append here rest) ∙ append_assoc (row_lines here) (row_lines rest) end

  module _ (at : ℕ) (l : List ℕ) where
    rest_end : length l ≡ 0 → rest_of rules s at l ≡ sum_line s
    unfolding rest_of rows_after fold row_lines
    rest_end e = rw (packets_end s.past at l e)

    rest_stop : (n : ℕ) → 0 < length l → packet_refusal s.past l ≡ n → 0 < n → rest_of rules s at l ≡ refusal_line n at
    unfolding rest_of rows_after fold row_lines
    rest_stop n some e p = rw (packets_stop s.past at l n some e p)

    rest_go : (p : packet.Packet) → packet_at l ≡ p → packet_refusal s.past l ≡ 0
        → rest_of rules s at l ≡ row_lines (rows_of rules s p) ++ rest_of rules (step_of rules s p) (at + packet_bytes) (drop packet_bytes l)
    unfolding rest_of
    rest_go p same e =
        let tail = packets_in (next_of s.past p.time) (at + packet_bytes) (drop packet_bytes l) in
        let split : packets_in s.past at l ≡ more p tail = packets_go s.past at l e
        ∙ ap (λ (x : packet.Packet). more x (packets_in (next_of s.past x.time) (at + packet_bytes) (drop packet_bytes l))) same in
        ap (lines_of rules s) split ∙ lines_more p tail
        ∙ ap (λ (x : Past). row_lines (rows_of rules s p) ++ lines_of rules (step_of rules s p) (packets_in x (at + packet_bytes) (drop packet_bytes l)))
        (sym (step_past rules s p))

-- ---- what stands at the walk stands there in the whole file

pub follows : (at : ℕ) (w v : List ℕ) (last : Bool) (r : NextRead) → (last ≡ true → v ≡ []) → next_piece at w last ≡ r → wants_more r ≡ false
    → next_read at (w ++ v) ≡ r
follows at w v true r l e m = rw (l refl) (ap (next_read at) (append-nil w) ∙ e)
follows at w v false r l e m = sym (piece_answers at w v (ap wants_more e ∙ m)) ∙ e

some_refusal : (n : ℕ) → (n ≡ 0 → ⊥) → 0 < n
some_refusal n h = omega arith

-- ---- one call

-- what was to be printed from a walk on is what the call wrote, and, where it has not ended, what is to be printed from there on
abbrev Carries : Rules → Walk → List ℕ → List ℕ → TakeOutcome → Type 0
Carries rules walk w v k =
    (rest_of rules walk.state walk.at.at (w ++ v)
    ≡ k.text ++ pick k.ended [] (rest_of rules k.walk.state k.walk.at.at (drop k.used w ++ v)))
    × Stands k.walk
    × (rules ≡ rules_of k.walk.state.numbers)

module _ (rules : Rules) (walk : Walk) (w v : List ℕ) (q : rules ≡ rules_of walk.state.numbers) (z : Stands walk) where
  -- the last line
  ends_at : (line : List ℕ) → rest_of rules walk.state walk.at.at (w ++ v) ≡ line
      → Carries rules walk w v (record { walk = walk; used = 0; text = line; ended = true })
  ends_at line e = (e ∙ sym (append-nil line), z, q)

  -- nothing done
  waits : Carries rules walk w v (stays walk)
  waits = (refl, z, q)

  module _ {p : packet.Packet} {c : Cursor} (s : Says walk.at.at (w ++ v) (next_packet p c)) where
    the_packet : packet_at (w ++ v) ≡ p
    the_packet = let e = s.1 in cc

    the_refusal : packet_refusal walk.state.past (w ++ v) ≡ number_of walk.state.past p
    the_refusal = second _ _ s.0 ∙ ap (number_of walk.state.past) the_packet

    pub the_next : number_of walk.state.past p ≡ 0 → c.at ≡ walk.at.at + packet_bytes
    the_next e =
        let few = (accepted walk.state.past p.time p.marker e).few in
        let m = mod-eq_of_lt {n = walk.at.at + packet_bytes} {m = 2 ^ 64} (omega (arith, z.offset, few)) in
        let f = s.1 in
        cc

    next_stands : number_of walk.state.past p ≡ 0 → Stands (stepped rules walk p c)
    next_stands e =
        record {
          sound = (going_next {rules = rules} (record { rules_are = q; sound = z.sound }) p e).sound;
          offset = omega (arith, the_next e, z.offset, ap (λ (x : Past). x.packets) (step_past rules walk.state p));
        }

    carried_on : (k : TakeOutcome) → packet_bytes ≤ length w → number_of walk.state.past p ≡ 0
        → Carries rules (stepped rules walk p c) (drop packet_bytes w) v k
        → Carries rules walk w v (and_then packet_bytes (lines_at rules walk p) k)
    carried_on k room e f =
        let next = step_of rules walk.state p in
        let lines = lines_at rules walk p in
        let go : rest_of rules walk.state walk.at.at (w ++ v)
        ≡ lines ++ rest_of rules next (walk.at.at + packet_bytes) (drop packet_bytes (w ++ v)) =
        rest_go rules walk.state walk.at.at (w ++ v) p the_packet (the_refusal ∙ e) in
        let same : rest_of rules next (walk.at.at + packet_bytes) (drop packet_bytes (w ++ v)) ≡ rest_of rules next c.at (drop packet_bytes w ++ v) =
        rw (the_next e, drop-append-le packet_bytes w v room) in
        let left : rest_of rules k.walk.state k.walk.at.at (drop k.used (drop packet_bytes w) ++ v)
        ≡ rest_of rules k.walk.state k.walk.at.at (drop (packet_bytes + k.used) w ++ v) =
        ap (λ (x : List ℕ). rest_of rules k.walk.state k.walk.at.at (x ++ v)) (drop-drop k.used packet_bytes w) in (
          go ∙ ap (λ (x : List ℕ). lines ++ x) (same ∙ f.0 ∙ ap (λ (x : List ℕ). k.text ++ pick k.ended [] x) left)
              ∙ sym (append_assoc lines k.text _),
          f.1,
          f.2,
        )

  -- what stands there, by cases
  carries_item : (r : NextRead) (room : ℕ) (on : Walk → ℕ → TakeOutcome) → (wants_more r ≡ false → Says walk.at.at (w ++ v) r)
      → ((p : packet.Packet) (c : Cursor) → r ≡ next_packet p c → packet_bytes ≤ length w)
      → ((next : Walk) (left : ℕ) → rules ≡ rules_of next.state.numbers → Stands next → Carries rules next (drop packet_bytes w) v (on next left))
      → Carries rules walk w v (item_by rules walk room on r)
  unfolding line_of
  carries_item (Ok (Packet p c)) room on s six ih =
      let n = number_of walk.state.past p in
      pick_either (Carries rules walk w v) (eqb n 0)
      (λ e. let f = eqb-true n 0 e in
      carried_on (s refl) (on (stepped rules walk p c) (room - length (lines_at rules walk p))) (six p c refl) f
      (ih (stepped rules walk p c) _ (q ∙ sym (ap rules_of (step_numbers rules walk.state p))) (next_stands (s refl) f)))
      (λ e. ends_at _ (rest_stop rules walk.state walk.at.at (w ++ v) n
      (omega (arith, six p c refl, length-append w v)) (the_refusal (s refl)) (some_refusal n (eqb-false n 0 e))))
  carries_item (Ok End) room on s six ih = ends_at _ (rest_end rules walk.state walk.at.at (w ++ v) (s refl))
  carries_item (Ok More) room on s six ih = waits
  carries_item (Err r) room on s six ih =
      let f = s refl in
      ends_at _ (rest_stop rules walk.state walk.at.at (w ++ v) r.number f.0 (before _ _ (omega arith) ∙ f.1) f.2
      ∙ ap (refusal_line r.number) (sym f.3))

carries_walk : (k : ℕ) (rules : Rules) (walk : Walk) (w v : List ℕ) (last : Bool) (room : ℕ) → (last ≡ true → v ≡ [])
    → rules ≡ rules_of walk.state.numbers → Stands walk → Carries rules walk w v (walk_by k rules walk w last room)
unfolding walk_by
carries_walk zero rules walk w v last room l q z = waits rules walk w v q z
carries_walk (suc k) rules walk w v last room l q z =
    pick_either (Carries rules walk w v) (ltb room line_room) (λ e. waits rules walk w v q z)
    (λ e. carries_item rules walk w v q z (next_piece walk.at.at w last) room _
    (λ m. subst (Says walk.at.at (w ++ v)) (follows walk.at.at w v last _ l refl m)
    (next_says walk.at.at (w ++ v)))
    (λ p c f. piece_sixteen walk.at.at w last f)
    (λ next left q' z'. carries_walk k rules next (drop packet_bytes w) v last left l q' z'))

-- a call from a walk that a file leads to
pub take_carries : (walk : Walk) (w v : List ℕ) (last : Bool) (room : ℕ) → (last ≡ true → v ≡ []) → Stands walk
    → Carries (rules_of walk.state.numbers) walk w v (take_of walk w last room)
unfolding take_of
take_carries walk w v last room l z =
    let rules = rules_of walk.state.numbers in
    pick_either (Carries rules walk w v) (ltb room line_room) (λ e. waits rules walk w v refl z)
    (λ e. rw (of_sound walk.state z.sound) (carries_walk _ rules walk w v last room l refl z))
