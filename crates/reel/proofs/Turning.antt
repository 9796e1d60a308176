-- One turn of a call: whatever ends what is left of the window, from the reel and the lines so far, ends the whole call (Loop). A packet
-- that is taken (Here) is a turn of the measurement's one loop (timing's Running) with rows as lines; at all else the call stops.
use Rattle.std.specs.Prelude.{◌≡◌, ◌+◌, ◌-◌, ◌≤◌, ◌<◌, Ok, Err}
use Rattle.laws.specs.Kit.{refl, sym, ap, subst, ◌∙◌, Bool, true, false, List, [], ℕ, zero, suc, arith}
use Rattle.laws.specs.Kit.{length, take, drop, length-drop, length-append, length-sets, drop-drop, eqb, ltb, eq-eqb, ne_eqb, lt-ltb, le-ltb}
use Rattle.laws.specs.Choose.{pick}
use Rattle.laws.specs.Lay.{Put}
use Rattle.laws.proofs.Lay.{put_length, sets_join}
use Rattle.packet.specs.declared.Packet as packet
use Rattle.packet.specs.Step.{number_of}
use Rattle.text.specs.Lines.{line_room, Line, refusal_line}
use Rattle.capture.specs.declared.Cursor.{Cursor}
use Rattle.capture.specs.Step.{AheadRead, ahead_packet, ahead_end, ahead_refused, ahead_wait}
use Rattle.capture.specs.declared.Ahead.TheVariants.{Packet, Wait, End}
use Rattle.capture.specs.Step.{between, ahead_of}
use Rattle.capture.proofs.Ways.{rest_all}
use Rattle.timing.specs.declared.Rules.{Rules}
use Rattle.timing.specs.declared.State.{State}
use Rattle.timing.specs.Step.{rules_of, arrive_of}
use Rattle.timing.specs.Range.{in_range}
use Rattle.timing.specs.Feed.{ArriveAsks, Going}
use Rattle.timing.proofs.Running.{going_arrives, going_makes, going_closed, going_next, Turn}
use Rattle.printer.specs.Step.{CloseAsks}
use Rattle.printer.proofs.Turning.{as_lines}
use Rattle.reel.specs.declared.Reel.{Reel}
use Rattle.reel.specs.declared.TakeAnswer.{TakeAnswer}
use Rattle.reel.specs.Paper.{counted}
use Rattle.reel.specs.Step.{TakeOutcome, line_ahead, stays, ends, stops_at, and_then, at_packet, lines_at, ahead_by, roll_by, roll_of, take_of}
use Rattle.reel.specs.Step.{AheadFits, TakeGives}
use Rattle.reel.proofs.Shown.{Inside, ahead_inside}

-- ---- one turn, by the definition

-- no packet lies ahead
abbrev pub NoPacket : AheadRead → Type 0
NoPacket r = (p : packet.Packet) (m n : ℕ) → r ≡ ahead_packet p m n → ⊥

module _ (rules : Rules) (last : Bool) where
  -- any number of turns that is enough
  roll_same : (k j : ℕ) (reel : Reel) (w : List ℕ) (room : ℕ) → length w < k → length w < j
      → roll_by k rules reel w last room ≡ roll_by j rules reel w last room
  unfolding roll_by
  roll_same zero j reel w room h g = absurd (omega arith)
  roll_same (suc k) zero reel w room h g = absurd (omega arith)
  roll_same (suc k) (suc j) reel w room h g =
      ap (λ (o : TakeOutcome). pick (ltb room line_room) (stays reel) o)
      (go (ahead_of reel.setting reel.cursor w last) (ahead_inside reel.setting reel.cursor w last)
      (λ next n left some. roll_same k j next (drop n w) left (omega (arith, length-drop n w)) (omega (arith, length-drop n w))))
    where
      go : (r : AheadRead) → Inside w r
          → ((next : Reel) (n left : ℕ) → (0 < n) × (n ≤ length w)
          → roll_by k rules next (drop n w) last left ≡ roll_by j rules next (drop n w) last left)
          → ahead_by rules reel room (λ next n left. roll_by k rules next (drop n w) last left) r
          ≡ ahead_by rules reel room (λ next n left. roll_by j rules next (drop n w) last left) r
      go (Ok (Packet p m n)) s ih =
          ap (λ (o : TakeOutcome). pick (eqb (number_of reel.state.past p) 0) (and_then n (lines_at rules reel p) o)
          (ends reel (refusal_line (number_of reel.state.past p) reel.state.past.packets)))
          (ih (at_packet rules reel p m) n (room - length (lines_at rules reel p)) s)
      go (Ok (Wait d m n)) s ih = refl
      go (Ok (End m)) s ih = refl
      go (Err r) s ih = refl

  module _ (reel : Reel) (w : List ℕ) (room : ℕ) where
    roll_full : room < line_room → roll_of rules reel w last room ≡ stays reel
    unfolding roll_by
    roll_full h = rw (lt-ltb room line_room h)

    module _ (h : line_room ≤ room) {r : AheadRead} (e : ahead_of reel.setting reel.cursor w last ≡ r) where
      roll_ahead : roll_of rules reel w last room ≡ ahead_by rules reel room (λ next n left. roll_by (length w) rules next (drop n w) last left) r
      unfolding roll_by
      roll_ahead = rw (le-ltb room line_room h, e)

      roll_stops : NoPacket r → roll_of rules reel w last room ≡ stops_at r reel
      roll_stops k = roll_ahead ∙ go r k
        where
          go : (r : AheadRead) → NoPacket r
              → ahead_by rules reel room (λ next n left. roll_by (length w) rules next (drop n w) last left) r ≡ stops_at r reel
          go (Ok (Packet p m n)) k = absurd (k p m n refl)
          go (Ok (Wait d m n)) k = refl
          go (Ok (End m)) k = refl
          go (Err r) k = refl

      module _ {p : packet.Packet} {m n : ℕ} (f : r ≡ ahead_packet p m n) where
        pub ahead_some : (0 < n) × (n ≤ length w)
        ahead_some = subst (Inside w) (e ∙ f) (ahead_inside reel.setting reel.cursor w last)

        roll_refuses : (number : ℕ) → number ≡ number_of reel.state.past p → (number ≡ 0 → ⊥)
            → roll_of rules reel w last room ≡ ends reel (refusal_line number reel.state.past.packets)
        roll_refuses number g some = roll_ahead ∙ rw (f, ← g, ne_eqb number 0 some)

        roll_goes : number_of reel.state.past p ≡ 0
            → roll_of rules reel w last room
            ≡ and_then n (lines_at rules reel p) (roll_of rules (at_packet rules reel p m) (drop n w) last (room - length (lines_at rules reel p)))
        roll_goes g =
            let less = length-drop n w in
            let same = roll_same (length w) (suc (length (drop n w))) (at_packet rules reel p m) (drop n w)
            (room - length (lines_at rules reel p)) (omega (arith, ahead_some.0, ahead_some.1)) (omega arith) in
            roll_ahead ∙ rw (f, eq-eqb (number_of reel.state.past p) 0 g, same)

-- ---- what a call did

-- nothing more is done
pub stays_takes : {used written : ℕ} {out : List ℕ} (reel : Reel) → written ≤ length out
    → TakeGives (stays reel) used written out (record { reel = reel; used = used; written = written; ended = false }) out
stays_takes reel h = record {
  reel_is = refl;
  used_is = omega arith;
  written_is = omega arith;
  ended_is = refl;
  bytes = refl;
  fits = h;
}

pub takes_length : {k : TakeOutcome} {used written : ℕ} {out after : List ℕ} {r : TakeAnswer} → TakeGives k used written out r after
    → length after ≡ length out
takes_length {k} {written = written} {out} t = ap length t.bytes ∙ length-sets out written k.text

-- a line, and the call is over
pub line_ends : {reel : Reel} {line out after : List ℕ} {used written next : ℕ} → written + line_room ≤ length out → Line line written out next after
    → TakeGives (ends reel line) used written out (record { reel = reel; used = used; written = next; ended = true }) after
line_ends h l = record {
  reel_is = refl;
  used_is = omega arith;
  written_is = l.put.next;
  ended_is = refl;
  bytes = l.put.there;
  fits = omega (arith, l.put.next, l.short);
}

-- some lines, and then the rest
takes_more : (n : ℕ) {k : TakeOutcome} {lines : List ℕ} {used written written' : ℕ} {out out' after : List ℕ} {r : TakeAnswer}
    → Put lines written out written' out' → TakeGives k (used + n) written' out' r after
    → TakeGives (and_then n lines k) used written out r after
takes_more n {k} {lines} {written = written} {out = out} p t = record {
  reel_is = t.reel_is;
  used_is = omega (arith, t.used_is);
  written_is = omega (arith, t.written_is, p.next, length-append lines k.text);
  ended_is = t.ended_is;
  bytes = t.bytes ∙ rw (p.there, p.next) (sym (sets_join lines k.text out written));
  fits = omega (arith, t.fits, put_length p);
}

-- ---- the loop: whatever ends what is left of the window, from the reel and the lines so far, ends the whole call

pub record Loop (rules : Rules) (reel₀ : Reel) (w : List ℕ) (last : Bool) (out₀ : List ℕ) (reel : Reel) (used written : ℕ)
    (out : List ℕ) : Type 0 where
  pub ends : (r : TakeAnswer) (after : List ℕ)
      → TakeGives (roll_of rules reel (drop used w) last (length out - written)) used written out r after
      → TakeGives (roll_of rules reel₀ w last (length out₀)) 0 0 out₀ r after
  pub going : Going rules reel.state
  pub inside : used ≤ length w
  pub fits : written ≤ length out
  pub same_length : length out ≡ length out₀

pub loop_begins : {rules : Rules} (reel : Reel) (w : List ℕ) (last : Bool) (out : List ℕ) → Going rules reel.state
    → Loop rules reel w last out reel 0 0 out
loop_begins reel w last out g =
    let all : length out - 0 ≡ length out = omega arith in
    record { ends = rw all (λ r after t. t); going = g; inside = omega arith; fits = omega arith; same_length = refl }

module _ {rules : Rules} {reel₀ : Reel} {w : List ℕ} {last : Bool} {out₀ : List ℕ} {reel : Reel} {used written : ℕ} {out : List ℕ} where
  module _ (l : Loop rules reel₀ w last out₀ reel used written out) where
    -- a turn at a packet that is taken
    pub record Here (p : packet.Packet) (m n : ℕ) : Type 0 where
      pub room : line_room ≤ length out - written
      pub stands : ahead_of reel.setting reel.cursor (drop used w) last ≡ ahead_packet p m n
      pub passed : number_of reel.state.past p ≡ 0

    -- the code looks at the same in the window that it lends
    pub as_read : {r : AheadRead} → r ≡ ahead_of reel.setting reel.cursor (take (length w - used) (drop used w)) last
        → ahead_of reel.setting reel.cursor (drop used w) last ≡ r
    as_read f = sym (f ∙ ap (λ (m : List ℕ). ahead_of reel.setting reel.cursor m last) (rest_all w used))

    abbrev Ended : TakeAnswer → List ℕ → Type 0
    Ended r after = TakeGives (roll_of rules reel₀ w last (length out₀)) 0 0 out₀ r after

    -- what is used is within 64 bits
    pub ahead_fits : {r : AheadRead} → length w < 18446744073709551616 → ahead_of reel.setting reel.cursor (drop used w) last ≡ r
        → AheadFits r used
    ahead_fits {r} h e = go r (subst (Inside (drop used w)) e (ahead_inside reel.setting reel.cursor (drop used w) last))
      where
        go : (r : AheadRead) → Inside (drop used w) r → AheadFits r used
        go (Ok (Packet p m n)) s = tt
        go (Ok (Wait d m n)) s = omega (arith, length-drop used w, l.inside)
        go (Ok (End m)) s = tt
        go (Err r) s = tt

    module _ {r : TakeAnswer} {after : List ℕ} where
      stops : {k : TakeOutcome} → roll_of rules reel (drop used w) last (length out - written) ≡ k → TakeGives k used written out r after
          → Ended r after
      stops e t = l.ends r after (subst (λ x. TakeGives x used written out r after) (sym e) t)

      pub stops_full : length out - written < line_room → TakeGives (stays reel) used written out r after → Ended r after
      stops_full h = stops (roll_full rules last reel (drop used w) _ h)

      module _ {a : AheadRead} (h : line_room ≤ length out - written) (e : ahead_of reel.setting reel.cursor (drop used w) last ≡ a) where
        pub stops_ahead : NoPacket a → TakeGives (stops_at a reel) used written out r after → Ended r after
        stops_ahead k = stops (roll_stops rules last reel (drop used w) _ h e k)

        pub stops_refused : {p : packet.Packet} {m n number : ℕ} → a ≡ ahead_packet p m n → number ≡ number_of reel.state.past p
            → (number ≡ 0 → ⊥) → TakeGives (ends reel (refusal_line number reel.state.past.packets)) used written out r after
            → Ended r after
        stops_refused i f some = stops (roll_refuses rules last reel (drop used w) _ h e i _ f some)

  -- a packet goes on
  module _ {l : Loop rules reel₀ w last out₀ reel used written out} {p : packet.Packet} {m n : ℕ} (h : Here l p m n) where
    pub packet_inside : (0 < n) × (used + n ≤ length w)
    packet_inside =
        let s = ahead_some rules last reel (drop used w) _ h.room h.stands refl in
        (s.0, omega (arith, s.1, length-drop used w, l.inside))

    pub packet_arrives : ArriveAsks rules reel.state p.time
    packet_arrives = going_arrives l.going p h.passed

    module _ {a : State} (ea : a ≡ arrive_of rules reel.state p.time p.stamp) where
      pub packet_closes : CloseAsks rules a written (length out)
      packet_closes = rw ea (record { makes = going_makes l.going p h.passed; fits = omega (arith, h.room, l.fits) })

      pub packet_closed : a.frames.closed ≤ 1000000000
      packet_closed = rw ea (going_closed l.going p h.passed)

    pub packet_next : {s' : State} {written' records' skipped' : ℕ} {out' : List ℕ} {c : Cursor}
        → Turn as_lines rules reel.state p written out s' written' out' × (written' ≤ length out)
        → records' ≡ counted (counted (reel.records + m) + 1) → skipped' ≡ counted (reel.skipped + m) → c ≡ between
        → Loop rules reel₀ w last out₀
        (record { setting = reel.setting; cursor = c; state = s'; records = records'; skipped = skipped' }) (used + n) written' out'
    packet_next {s'} {written'} {records'} {skipped'} {out'} q er es ec =
        let t = q.0 in
        let left : length out - written - length (lines_at rules reel p) ≡ length out' - written' =
        omega (arith, put_length t.put, t.put.next) in
        let goes = roll_goes rules last reel (drop used w) _ h.room h.stands refl h.passed in
        record {
          ends = rw (t.state, er, es, ec, ← left, ← drop-drop n used w)
              (λ r after more. l.ends r after (subst (λ x. TakeGives x used written out r after) (sym goes) (takes_more n t.put more)));
          going = subst (Going rules) (sym t.state) (going_next l.going p h.passed);
          inside = packet_inside.1;
          fits = omega (arith, q.1, put_length t.put);
          same_length = put_length t.put ∙ l.same_length;
        }

-- ---- the whole call: no room for a line, 9, or packet by packet

module _ (reel : Reel) (w : List ℕ) (last : Bool) (out : List ℕ) {r : TakeAnswer} {after : List ℕ} where
  pub take_full : length out < line_room → TakeGives (stays reel) 0 0 out r after → TakeGives (take_of reel w last (length out)) 0 0 out r after
  unfolding take_of
  take_full h t = rw (lt-ltb (length out) line_room h) t

  module _ (h : line_room ≤ length out) where
    pub take_9 : in_range reel.state ≡ false → TakeGives (ends reel (refusal_line 9 0)) 0 0 out r after
        → TakeGives (take_of reel w last (length out)) 0 0 out r after
    unfolding take_of
    take_9 e t = rw (le-ltb (length out) line_room h, e) t

    pub take_runs : {rules : Rules} → in_range reel.state ≡ true → rules ≡ rules_of reel.state.numbers
        → TakeGives (roll_of rules reel w last (length out)) 0 0 out r after → TakeGives (take_of reel w last (length out)) 0 0 out r after
    unfolding take_of
    take_runs e f t = rw (le-ltb (length out) line_room h, e, ← f) t

-- ---- where the call stops

module _ (reel : Reel) {used written next : ℕ} {out after : List ℕ} where
  pub stop_packet : {a : AheadRead} {p : packet.Packet} {m n : ℕ} → a ≡ ahead_packet p m n → written ≤ length out
      → Line (line_ahead reel a) written out next after
      → TakeGives (stops_at a reel) used written out (record { reel = reel; used = used; written = next; ended = false }) after
  unfolding line_ahead
  stop_packet {a} e h l =
      let k : Line [] written out next after = rw e at l in
      rw e (record {
        reel_is = refl;
        used_is = omega arith;
        written_is = k.put.next;
        ended_is = refl;
        bytes = k.put.there;
        fits = omega (arith, k.put.next);
      })

  pub stop_wait : {a : AheadRead} {d : Cursor} {m n total : ℕ} {passed : Reel} → a ≡ ahead_wait d m n → written ≤ length out
      → Line (line_ahead reel a) written out next after → passed ≡ (stops_at (ahead_wait d m n) reel).reel → total ≡ used + n
      → TakeGives (stops_at a reel) used written out (record { reel = passed; used = total; written = next; ended = false }) after
  unfolding line_ahead
  stop_wait {a} e h l f g =
      let k : Line [] written out next after = rw e at l in
      rw e (record {
        reel_is = f;
        used_is = g;
        written_is = k.put.next;
        ended_is = refl;
        bytes = k.put.there;
        fits = omega (arith, k.put.next);
      })

  pub stop_end : {a : AheadRead} {m : ℕ} → a ≡ ahead_end m → written + line_room ≤ length out
      → Line (line_ahead reel a) written out next after
      → TakeGives (stops_at a reel) used written out (record { reel = reel; used = used; written = next; ended = true }) after
  stop_end {a} e h l = rw e (line_ends h (rw e at l))

  pub stop_refused : {a : AheadRead} {number m : ℕ} → a ≡ ahead_refused number m → written + line_room ≤ length out
      → Line (line_ahead reel a) written out next after
      → TakeGives (stops_at a reel) used written out (record { reel = reel; used = used; written = next; ended = true }) after
  stop_refused {a} e h l = rw e (line_ends h (rw e at l))
