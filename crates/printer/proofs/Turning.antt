-- One turn of a call: whatever ends what is left of the window, from the walk and the lines so far, ends the whole call (Loop). A packet
-- that is taken (Here) is a turn of the measurement's one loop (timing's Running) with rows as lines; at all else the call stops.
use Rattle.std.specs.Prelude.{◌≡◌, ◌∷◌, ◌++◌, ◌+◌, ◌-◌, ◌/◌, ◌≤◌, ◌<◌, Ok, Err}
use Rattle.laws.specs.Kit.{refl, sym, ap, subst, ◌∙◌, Bool, true, false, List, [], ℕ, suc, arith}
use Rattle.laws.specs.Kit.{length, take, drop, length-drop, length-append, length-sets, drop-drop, ne_eqb, lt-ltb, le-ltb}
use Rattle.laws.specs.Lay.{Put}
use Rattle.laws.proofs.Lay.{put_length, sets_join}
use Rattle.packet.specs.declared.Packet as packet
use Rattle.packet.specs.Step.{number_of}
use Rattle.frame.specs.declared.Row.{Row}
use Rattle.text.specs.Lines.{line_room, row_line}
use Rattle.record.specs.declared.Cursor.{Cursor}
use Rattle.record.specs.Step.{NextRead, next_refused, next_packet, next_end, next_more, next_piece}
use Rattle.record.specs.declared.Next.TheVariants.{Packet, End, More}
use Rattle.record.specs.Paper.{packet_bytes}
use Rattle.record.specs.Pieces.{taken, wants_more}
use Rattle.record.proofs.Window.{read_within}
use Rattle.record.proofs.InPieces.{piece_alone}
use Rattle.timing.specs.declared.Rules.{Rules}
use Rattle.timing.specs.declared.State.{State}
use Rattle.timing.specs.Step.{rules_of, arrive_of}
use Rattle.timing.specs.Range.{in_range}
use Rattle.timing.specs.Feed.{ArriveAsks, Going}
use Rattle.timing.proofs.Sink.{Sink}
use Rattle.timing.proofs.Running.{going_arrives, going_makes, going_closed, going_next, Turn}
use Rattle.printer.proofs.Answers.{read_rest}
use Rattle.printer.specs.declared.Walk.{Walk}
use Rattle.printer.specs.declared.TakeAnswer.{TakeAnswer}
use Rattle.printer.specs.Paper.{row_lines}
use Rattle.printer.specs.Step.{TakeOutcome, stays, stops_at, and_then, stepped, lines_at, item_by, walk_by, walk_of, take_of, CloseAsks, TakeGives}

-- ---- what a window's answer says of the window

-- a packet's record is all there
pub piece_sixteen : (at : ℕ) (w : List ℕ) (last : Bool) {p : packet.Packet} {c : Cursor} → next_piece at w last ≡ next_packet p c
    → packet_bytes ≤ length w
piece_sixteen at w last e =
    let i = sym (piece_alone at w last (ap wants_more e)) ∙ e in
    subst (λ (r : NextRead). taken r ≤ length w) i (read_within at w).1

-- no packet stands there
abbrev pub NoPacket : NextRead → Type 0
NoPacket r = (p : packet.Packet) (c : Cursor) → r ≡ next_packet p c → ⊥

-- ---- one turn, by the definition

module _ (rules : Rules) (walk : Walk) (w : List ℕ) (last : Bool) (room : ℕ) where
  walk_full : room < line_room → walk_of rules walk w last room ≡ stays walk
  unfolding walk_by
  walk_full h = rw (lt-ltb room line_room h)

  module _ (h : line_room ≤ room) where
    onward : Walk → ℕ → TakeOutcome
    onward next left = walk_by (length w / packet_bytes) rules next (drop packet_bytes w) last left

    walk_item : (r : NextRead) → next_piece walk.at.at w last ≡ r → walk_of rules walk w last room ≡ item_by rules walk room onward r
    unfolding walk_by onward
    walk_item r e = rw (le-ltb room line_room h, e)

    walk_stops : (r : NextRead) → NoPacket r → next_piece walk.at.at w last ≡ r → walk_of rules walk w last room ≡ stops_at r walk
    walk_stops (Ok (Packet p c)) k e = absurd (k p c refl)
    walk_stops (Ok End) k e = walk_item next_end e
    walk_stops (Ok More) k e = walk_item next_more e
    walk_stops (Err r) k e = walk_item (next_refused r.number r.offset r.size) e

    module _ {p : packet.Packet} {c : Cursor} (e : next_piece walk.at.at w last ≡ next_packet p c) where
      walk_refuses : (n : ℕ) → n ≡ number_of walk.state.past p → (n ≡ 0 → ⊥)
          → walk_of rules walk w last room ≡ stops_at (next_refused n walk.at.at packet_bytes) walk
      walk_refuses n f some = walk_item _ e ∙ rw (← f, ne_eqb n 0 some)

      fuel : length w / packet_bytes ≡ suc (length (drop packet_bytes w) / packet_bytes)
      fuel = let s = piece_sixteen walk.at.at w last e in omega (arith, length-drop packet_bytes w)

      walk_goes : 0 ≡ number_of walk.state.past p
          → walk_of rules walk w last room
          ≡ and_then packet_bytes (lines_at rules walk p)
          (walk_of rules (stepped rules walk p c) (drop packet_bytes w) last
          (room - length (lines_at rules walk p)))
      unfolding onward
      walk_goes f = walk_item _ e ∙ rw (← f, fuel)

-- ---- rows written as lines

pub lines_none : row_lines [] ≡ []
unfolding row_lines
lines_none = refl

pub lines_more : (r : Row) (rs : List Row) → row_lines (r ∷ rs) ≡ row_line r ++ row_lines rs
unfolding row_lines
lines_more r rs = refl

abbrev pub as_lines : Sink ℕ
as_lines = record { row = row_line; write = row_lines; none = lines_none; more = lines_more }

-- ---- what a call did

-- nothing more is done
pub stays_takes : {used written : ℕ} {out : List ℕ} (walk : Walk) → written ≤ length out
    → TakeGives (stays walk) used written out (record { walk = walk; used = used; written = written; ended = false }) out
stays_takes walk h = record {
  walk_is = refl;
  used_is = omega arith;
  written_is = omega arith;
  ended_is = refl;
  bytes = refl;
  fits = h;
}

pub takes_length : {k : TakeOutcome} {used written : ℕ} {out after : List ℕ} {r : TakeAnswer} → TakeGives k used written out r after
    → length after ≡ length out
takes_length {k} {written = written} {out} t = ap length t.bytes ∙ length-sets out written k.text

-- some lines, and then the rest
takes_more : {k : TakeOutcome} {lines : List ℕ} {used written written' : ℕ} {out out' after : List ℕ} {r : TakeAnswer}
    → Put lines written out written' out' → TakeGives k (used + packet_bytes) written' out' r after
    → TakeGives (and_then packet_bytes lines k) used written out r after
takes_more {k} {lines} {written = written} {out = out} p t = record {
  walk_is = t.walk_is;
  used_is = omega (arith, t.used_is);
  written_is = omega (arith, t.written_is, p.next, length-append lines k.text);
  ended_is = t.ended_is;
  bytes = t.bytes ∙ rw (p.there, p.next) (sym (sets_join lines k.text out written));
  fits = omega (arith, t.fits, put_length p);
}

-- ---- the loop: whatever ends what is left of the window, from the walk and the lines so far, ends the whole call

pub record Loop (rules : Rules) (walk₀ : Walk) (w : List ℕ) (last : Bool) (out₀ : List ℕ) (walk : Walk) (used written : ℕ)
    (out : List ℕ) : Type 0 where
  pub ends : (r : TakeAnswer) (after : List ℕ)
      → TakeGives (walk_of rules walk (drop used w) last (length out - written)) used written out r after
      → TakeGives (walk_of rules walk₀ w last (length out₀)) 0 0 out₀ r after
  pub going : Going rules walk.state
  pub inside : used ≤ length w
  pub fits : written ≤ length out
  pub same_length : length out ≡ length out₀

pub loop_begins : {rules : Rules} (walk : Walk) (w : List ℕ) (last : Bool) (out : List ℕ) → Going rules walk.state
    → Loop rules walk w last out walk 0 0 out
loop_begins walk w last out g =
    let all : length out - 0 ≡ length out = omega arith in
    record { ends = rw all (λ r after t. t); going = g; inside = omega arith; fits = omega arith; same_length = refl }

module _ {rules : Rules} {walk₀ : Walk} {w : List ℕ} {last : Bool} {out₀ : List ℕ} {walk : Walk} {used written : ℕ} {out : List ℕ} where
  module _ (l : Loop rules walk₀ w last out₀ walk used written out) where
    -- a turn at a packet that is taken
    pub record Here (p : packet.Packet) (c : Cursor) : Type 0 where
      pub room : line_room ≤ length out - written
      pub stands : next_piece walk.at.at (drop used w) last ≡ next_packet p c
      pub passed : number_of walk.state.past p ≡ 0

    -- the code reads the same in the window that it lends
    pub as_read : {item : NextRead} → item ≡ next_piece walk.at.at (take (length w - used) (drop used w)) last
        → next_piece walk.at.at (drop used w) last ≡ item
    as_read e = read_rest w last walk.at.at used e

    -- the call stops: for want of room, at what is no packet, or at a packet that is refused
    abbrev Ended : TakeAnswer → List ℕ → Type 0
    Ended r after = TakeGives (walk_of rules walk₀ w last (length out₀)) 0 0 out₀ r after

    module _ {r : TakeAnswer} {after : List ℕ} where
      stops : {k : TakeOutcome} → walk_of rules walk (drop used w) last (length out - written) ≡ k → TakeGives k used written out r after
          → Ended r after
      stops e t = l.ends r after (subst (λ x. TakeGives x used written out r after) (sym e) t)

      pub stops_full : length out - written < line_room → TakeGives (stays walk) used written out r after → Ended r after
      stops_full h = stops (walk_full rules walk (drop used w) last _ h)

      module _ {item : NextRead} (h : line_room ≤ length out - written) (e : next_piece walk.at.at (drop used w) last ≡ item) where
        pub stops_item : NoPacket item → TakeGives (stops_at item walk) used written out r after → Ended r after
        stops_item k = stops (walk_stops rules walk (drop used w) last _ h item k e)

        pub stops_refused : {p : packet.Packet} {c : Cursor} {n : ℕ} {named : NextRead} → item ≡ next_packet p c
            → n ≡ number_of walk.state.past p → (n ≡ 0 → ⊥) → named ≡ next_refused n walk.at.at packet_bytes
            → TakeGives (stops_at named walk) used written out r after → Ended r after
        stops_refused i f some g =
            let refuses = walk_refuses rules walk (drop used w) last _ h (e ∙ i) _ f some in
            stops (refuses ∙ ap (λ (x : NextRead). stops_at x walk) (sym g))

  -- a packet goes on
  module _ {l : Loop rules walk₀ w last out₀ walk used written out} {p : packet.Packet} {c : Cursor} (h : Here l p c) where
    pub packet_inside : used + packet_bytes ≤ length w
    packet_inside = omega (arith, piece_sixteen _ _ _ h.stands, length-drop used w, l.inside)

    pub packet_arrives : ArriveAsks rules walk.state p.time
    packet_arrives = going_arrives l.going p h.passed

    module _ {a : State} (ea : a ≡ arrive_of rules walk.state p.time p.stamp) where
      pub packet_closes : CloseAsks rules a written (length out)
      packet_closes = rw ea (record { makes = going_makes l.going p h.passed; fits = omega (arith, h.room, l.fits) })

      pub packet_closed : a.frames.closed ≤ 1000000000
      packet_closed = rw ea (going_closed l.going p h.passed)

    pub packet_next : {s' : State} {written' : ℕ} {out' : List ℕ}
        → Turn as_lines rules walk.state p written out s' written' out' × (written' ≤ length out)
        → Loop rules walk₀ w last out₀ (record { at = c; state = s' }) (used + packet_bytes) written' out'
    packet_next {s'} {written'} {out'} q =
        let t = q.0 in
        let left : length out - written - length (lines_at rules walk p) ≡ length out' - written' =
        omega (arith, put_length t.put, t.put.next) in
        let goes = walk_goes rules walk (drop used w) last _ h.room h.stands (sym h.passed) in
        record {
          ends = rw (t.state, ← left, ← drop-drop packet_bytes used w)
              (λ r after more. l.ends r after (subst (λ x. TakeGives x used written out r after) (sym goes) (takes_more t.put more)));
          going = subst (Going rules) (sym t.state) (going_next l.going p h.passed);
          inside = packet_inside;
          fits = omega (arith, q.1, put_length t.put);
          same_length = put_length t.put ∙ l.same_length;
        }

-- ---- the whole call: no room for a line, 9, or record by record

module _ (walk : Walk) (w : List ℕ) (last : Bool) (out : List ℕ) {r : TakeAnswer} {after : List ℕ} where
  pub take_full : length out < line_room → TakeGives (stays walk) 0 0 out r after → TakeGives (take_of walk w last (length out)) 0 0 out r after
  unfolding take_of
  take_full h t = rw (lt-ltb (length out) line_room h) t

  module _ (h : line_room ≤ length out) where
    pub take_9 : in_range walk.state ≡ false → TakeGives (stops_at (next_refused 9 0 0) walk) 0 0 out r after
        → TakeGives (take_of walk w last (length out)) 0 0 out r after
    unfolding take_of
    take_9 e t = rw (le-ltb (length out) line_room h, e) t

    pub take_runs : {rules : Rules} → in_range walk.state ≡ true → rules ≡ rules_of walk.state.numbers
        → TakeGives (walk_of rules walk w last (length out)) 0 0 out r after → TakeGives (take_of walk w last (length out)) 0 0 out r after
    unfolding take_of
    take_runs e f t = rw (le-ltb (length out) line_room h, e, ← f) t
