-- Frames pass their tests exactly where each number is in its range; it stays there, packet by packet, and from
-- these ranges the code's own demands follow.
use Rattle.std.specs.Prelude.{◌≡◌, ◌&&◌, ◌+◌, ◌*◌, ◌≤◌, ◌<◌}
use Rattle.laws.specs.Kit.{refl, sym, subst, ◌∙◌, Bool, true, false, not, ℕ, arith, ltb, eqb, eqb-false}
use Rattle.laws.specs.Choose.{pick}
use Rattle.laws.proofs.Choose.{pick_either, false_true}
use Rattle.laws.specs.Every.{every, All}
use Rattle.laws.proofs.Every.{facts, of_facts, ◌and◌}
use Rattle.grain.proofs.Carried.{wait_small}
use Rattle.frame.specs.declared.Plan.{Plan}
use Rattle.frame.specs.declared.Frame.{Frame}
use Rattle.frame.specs.declared.Frames.{Frames}
use Rattle.frame.specs.declared.Buffer.{Buffer}
use Rattle.frame.specs.Paper.{has_failed, is_none, broken_fails, buffer_number, buffer_frame, buffer_place}
use Rattle.frame.specs.Step.{kind_of, opened_of, gone_of, differs_of, counted_of, ticked_of, reads_of, push_of, broken_answer, judged_of, answer_of}
use Rattle.frame.specs.Step.{joined, no_frames, arrive_of, close_of, empty_of, began_of}
use Rattle.frame.specs.Range.{Planned, PushAsks, RowAsks, FramesRowAsks, is_broken, kept_most, ranges, Answered, Kept}
use Rattle.frame.proofs.FrameKinds.{kind_small}
use Rattle.frame.proofs.Opening.{Timed, timed, wait_fits}

module _ (plan : Plan) (s : Frames) (first last packets : ℕ) where
  pub kept_of : every (ranges plan s first last packets) ≡ true → Kept plan s first last packets
  kept_of e =
      let t = facts (ranges plan s first last packets) e in
      record {
        closed = t 0;
        begun = t 1;
        marked_from = t 2;
        marked_to = t 3;
        held = t 4;
        first_from = t 5;
        first_to = t 6;
        phased = t 7;
        read = t 8;
        waits = t 9;
        differs = t 10;
        top = t 11;
        late = t 12;
        deficit = t 13;
        answered = record { number = t 14; fails = t 15; frame = t 16; place = t 17; kind_from = t 18; kind_to = t 19 };
      }

  pub of_kept : Kept plan s first last packets → every (ranges plan s first last packets) ≡ true
  unfolding All
  of_kept k =
      of_facts (ranges plan s first last packets)
      (k.closed and k.begun and k.marked_from and k.marked_to and k.held and k.first_from and k.first_to and k.phased and k.read
      and k.waits and k.differs and k.top and k.late and k.deficit and k.answered.number and k.answered.fails and k.answered.frame
      and k.answered.place and k.answered.kind_from and k.answered.kind_to and tt)

-- no answer is out of its range with one packet more
more_named : {plan : Plan} {b : Buffer} {m : ℕ} → Answered plan b m → Answered plan b (m + 1)
more_named a = record {
  number = a.number;
  fails = a.fails;
  frame = omega (arith, a.frame);
  place = λ e. omega (arith, a.place e);
  kind_from = a.kind_from;
  kind_to = a.kind_to;
}

-- its third number, a place or a kind, is bounded in either case
pub third_most : {plan : Plan} {b : Buffer} {m k : ℕ} → Answered plan b m → m ≤ k → 3 ≤ k → buffer_place b ≤ k
third_most {plan} {b} {m} {k} a l t = go (is_broken b) refl
  where
    go : (z : Bool) → is_broken b ≡ z → buffer_place b ≤ k
    go true e = omega (arith, a.kind_to e)
    go false e = omega (arith, a.place (rw e))

-- V13: the bound of what is kept of reads is at most what it was, and is that where the buffer is judged
most_kept : (judged : Bool) (m : ℕ) → kept_most judged m ≤ m
most_kept judged m = pick_either (λ x. x ≤ m) judged (λ e. omega arith) (λ e. omega arith)

kept_all : {judged : Bool} {x m : ℕ} → judged ≡ true → x ≤ m → x ≤ kept_most judged m
kept_all {judged} {x} {m} e l = subst (λ (t : Bool). x ≤ kept_most t m) (sym e) l

-- an answer that is not broken
placed_named : {plan : Plan} {b : Buffer} {m : ℕ} → is_broken b ≡ false → buffer_number b ≤ kept_most plan.buffered 4 → buffer_frame b ≤ m
    → buffer_place b ≤ m → Answered plan b m
placed_named e n f p = record {
  number = n;
  fails = λ z. absurd (false_true (sym e ∙ z));
  frame = f;
  place = λ z. p;
  kind_from = λ z. absurd (false_true (sym e ∙ z));
  kind_to = λ z. absurd (false_true (sym e ∙ z));
}

-- with no packet in the open frame, what is known of the frames is enough
kept_empty : (plan : Plan) {begun : Bool} {closed marked first last packets : ℕ} {buffer : Buffer} → (begun ≡ true → 0 < packets)
    → closed ≤ packets → (begun ≡ true → first ≤ marked) → (begun ≡ true → marked ≤ last) → Answered plan buffer packets
    → Kept plan (record { begun = begun; closed = closed; marked = marked; current = empty_of; buffer = buffer }) first last packets
kept_empty plan b c from to a = record {
  begun = b;
  closed = c;
  marked_from = from;
  marked_to = to;
  held = omega arith;
  first_from = λ l. absurd (omega arith);
  first_to = λ l. omega arith;
  phased = omega arith;
  read = omega arith;
  waits = omega arith;
  differs = omega arith;
  top = omega arith;
  deficit = omega arith;
  late = omega arith;
  answered = a;
}

pub kept_none : (plan : Plan) → Kept plan no_frames 0 0 0
kept_none plan = kept_empty plan (λ e. absurd (false_true e)) (omega arith) (λ e. omega arith) (λ e. omega arith)
    (placed_named refl (omega arith) (omega arith) (omega arith))

-- the next packet arrives at t, in order and in time
pub record Next (first last packets t : ℕ) : Type 0 where
  pub order : last ≤ t
  pub near : t ≤ first + 600000000000
  pub few : packets < 1000000000

-- a place that is kept is one of the frame's
place_small : (known place : ℕ) (hit : Bool) → known ≤ place → pick hit place known ≤ place + 1
place_small known place hit l = pick_either (λ k. k ≤ place + 1) hit (λ e. omega arith) (λ e. omega arith)

module _ (plan : Plan) (s : Frames) (first last packets gone t : ℕ) (p : Planned plan) (k : Kept plan s first last packets) where
  pub pushable : gone ≤ 16200000000000 → (s.begun ≡ true → Next first last packets t) → s.begun ≡ true → PushAsks plan s.current gone
  pushable near next e = record {
    few = omega (arith, k.held, (next e).few);
    near = near;
    phased = omega (arith, k.phased);
    read = omega (arith, k.read, most_kept plan.buffered plan.packets);
    waits = omega (arith, k.waits, most_kept plan.buffered (2 * plan.period * plan.reads.den));
  }

  -- what is pushed
  pub record Pushed (f : Frame) : Type 0 where
    pub held : f.held ≡ s.current.held + 1
    pub first_from : s.marked ≤ f.first
    pub first_to : f.first ≤ t
    pub phased : f.phase ≤ 2 * plan.period
    pub read : f.reads ≤ kept_most plan.buffered plan.packets
    pub waits : f.wait ≤ kept_most plan.buffered (2 * plan.period * plan.reads.den)
    pub differs : f.differs ≤ f.held
    pub top : f.top ≤ kept_most plan.buffered f.held
    pub deficit : f.deficit ≤ kept_most plan.buffered plan.packets
    pub late : f.late ≤ kept_most plan.buffered f.held

  -- the frame with its times set, which holds what the open one does
  record Opened (o : Frame) : Type 0 where
    pub held : o.held ≡ s.current.held
    pub differs : o.differs ≡ s.current.differs
    pub top : o.top ≡ s.current.top
    pub deficit : o.deficit ≡ s.current.deficit
    pub late : o.late ≡ s.current.late
    pub wait : o.wait ≤ 2 * plan.period * plan.reads.den
    pub first_from : s.marked ≤ o.first
    pub first_to : o.first ≤ t
    pub times : Timed plan o gone

  differs_small : (o : Frame) (stamp : ℕ) → Opened o → differs_of o stamp ≤ o.held + 1
  differs_small o stamp z =
      place_small o.differs o.held (not (eqb stamp o.stamp) && eqb o.differs 0) (omega (arith, k.differs, z.differs, z.held))

  counted : (o : Frame) (stamp : ℕ) → plan.buffered ≡ true → Opened o → Pushed (counted_of o stamp (reads_of plan o gone))
  unfolding counted_of
  counted o stamp b z =
      let top_held : o.top ≤ o.held = omega (arith, k.top, most_kept plan.buffered s.current.held, z.top, z.held) in
      let late_held : o.late ≤ o.held = omega (arith, k.late, most_kept plan.buffered s.current.held, z.late, z.held) in
      let lack : o.deficit ≤ plan.packets = omega (arith, k.deficit, most_kept plan.buffered plan.packets, z.deficit) in
      record {
        held = omega (arith, z.held);
        first_from = z.first_from;
        first_to = z.first_to;
        phased = z.times.phased;
        read = kept_all b (omega arith);
        waits = kept_all b (wait_small o.wait plan.reads.num (gone_of o gone * plan.reads.den) _ p.apart z.wait p.spread);
        differs = differs_small o stamp z;
        top = kept_all b (omega arith);
        deficit = kept_all b (omega arith);
        late = kept_all b (place_small o.late o.held (ltb o.held (reads_of plan o gone).count && eqb o.deficit 0) late_held);
      }

  -- V13: nothing of reads
  ticked : (o : Frame) (stamp : ℕ) → Opened o → Pushed (ticked_of o stamp)
  unfolding ticked_of
  ticked o stamp z = record {
    held = omega (arith, z.held);
    first_from = z.first_from;
    first_to = z.first_to;
    phased = z.times.phased;
    read = omega arith;
    waits = omega arith;
    differs = differs_small o stamp z;
    top = omega arith;
    deficit = omega arith;
    late = omega arith;
  }

  opened_first : (stamp : ℕ) → s.begun ≡ true → Next first last packets t
      → (s.marked ≤ (opened_of plan s.current t stamp).first) × ((opened_of plan s.current t stamp).first ≤ t)
  unfolding opened_of
  opened_first stamp e next = go (eqb s.current.held 0) refl
    where
      go : (z : Bool) → eqb s.current.held 0 ≡ z → (s.marked ≤ pick z t s.current.first) × (pick z t s.current.first ≤ t)
      go true q = (omega (arith, k.marked_to e, next.order), omega arith)
      go false q =
          let some : ¬ (s.current.held ≡ 0) = eqb-false s.current.held 0 q in
          (k.first_from (omega arith), omega (arith, k.first_to (omega arith), next.order))

  opened : (stamp : ℕ) → gone ≤ 16200000000000 → s.begun ≡ true → Next first last packets t → Opened (opened_of plan s.current t stamp)
  unfolding opened_of
  opened stamp near e next =
      let asks = pushable near (λ b. next) e in
      let from = opened_first stamp e next in
      record {
        held = refl;
        differs = refl;
        top = refl;
        deficit = refl;
        late = refl;
        wait = wait_fits plan p s.current t stamp asks.waits;
        first_from = from.0;
        first_to = from.1;
        times = timed plan p s.current t stamp gone asks;
      }

  pub pushed : (stamp : ℕ) → gone ≤ 16200000000000 → s.begun ≡ true → Next first last packets t
      → Pushed (push_of plan s.current gone t stamp)
  pushed stamp near e next =
      pick_either Pushed plan.buffered (λ b. counted (opened_of plan s.current t stamp) stamp b (opened stamp near e next))
      (λ b. ticked (opened_of plan s.current t stamp) stamp (opened stamp near e next))

  -- ---- a packet arrives, and closes if it is a marker; first' is the first arrival with it

  module _ (stamp first' : ℕ) (near : gone ≤ 16200000000000) (next : s.begun ≡ true → Next first last packets t) (order : last ≤ t)
      (same : s.begun ≡ true → first' ≡ first) (since : first' ≤ t) where
    -- the lead-in: nothing is pushed
    kept_lead : s.begun ≡ false → Kept plan s first' t (packets + 1)
    kept_lead e = record {
      begun = λ b. omega arith;
      closed = omega (arith, k.closed);
      marked_from = λ b. absurd (false_true (sym e ∙ b));
      marked_to = λ b. absurd (false_true (sym e ∙ b));
      held = omega (arith, k.held);
      first_from = k.first_from;
      first_to = λ l. omega (arith, k.first_to l);
      phased = k.phased;
      read = k.read;
      waits = k.waits;
      differs = k.differs;
      top = k.top;
      deficit = k.deficit;
      late = k.late;
      answered = more_named k.answered;
    }

    kept_pushed : s.begun ≡ true
        → Kept plan (record {
          begun = s.begun;
          closed = s.closed;
          marked = s.marked;
          current = push_of plan s.current gone t stamp;
          buffer = s.buffer;
        }) first' t (packets + 1)
    kept_pushed e =
        let f = pushed stamp near e (next e) in
        record {
          begun = λ b. omega arith;
          closed = omega (arith, k.closed);
          marked_from = λ b. omega (arith, k.marked_from e, same e);
          marked_to = λ b. omega (arith, k.marked_to e);
          held = omega (arith, k.held, f.held);
          first_from = λ l. f.first_from;
          first_to = λ l. f.first_to;
          phased = f.phased;
          read = f.read;
          waits = f.waits;
          differs = f.differs;
          top = f.top;
          deficit = f.deficit;
          late = f.late;
          answered = more_named k.answered;
        }

    pub kept_arrive : Kept plan (arrive_of plan s gone t stamp) first' t (packets + 1)
    unfolding arrive_of
    kept_arrive = go s.begun refl
      where
        go : (b : Bool) → s.begun ≡ b
            → Kept plan (record {
              begun = s.begun;
              closed = s.closed;
              marked = s.marked;
              current = pick b
                  (push_of plan s.current gone t stamp) s.current;
              buffer = s.buffer;
            }) first' t (packets + 1)
        go true e = kept_pushed e
        go false e = kept_lead e

    -- a row can be made of what was pushed
    pub rowable : s.begun ≡ true → FramesRowAsks plan (arrive_of plan s gone t stamp) (packets + 1)
    unfolding arrive_of
    rowable e = record { held = kept_arrive.held; row = rw e (row (pushed stamp near e (next e))) }
      where
        row : Pushed (push_of plan s.current gone t stamp)
            → RowAsks plan s.closed s.marked (began_of (push_of plan s.current gone t stamp) (packets + 1))
            (push_of plan s.current gone t stamp)
        row f = record {
          few = omega (arith, f.held, k.held, (next e).few);
          counted = omega (arith, k.closed, (next e).few);
          placed = omega (arith, (next e).few);
          phased = f.phased;
          order = f.first_from;
          near = omega (arith, f.first_to, (next e).near, k.marked_from e);
          top = omega (arith, f.top, most_kept plan.buffered (push_of plan s.current gone t stamp).held, f.held, k.held, (next e).few);
          low = omega (arith, f.deficit, most_kept plan.buffered plan.packets, p.few);
          differs = omega (arith, f.differs, f.held, k.held, (next e).few);
        }

-- the answer of a frame names it, and a place in it or its kind
module _ (plan : Plan) (judged : plan.buffered ≡ true) where
  broken_named : (n kind m : ℕ) → n ≤ m → (kind ≡ 0 → ⊥) → kind ≤ 3 → Answered plan (broken_answer plan.edition n kind) m
  broken_named n kind m hn some few =
      pick_either (λ b. Answered plan b m) (broken_fails plan.edition)
      (λ e. record {
        number = kept_all judged (omega arith);
        fails = λ z. e;
        frame = hn;
        place = λ z. absurd (false_true z);
        kind_from = λ z. omega arith;
        kind_to = λ z. few;
      })
      (λ e. placed_named refl (omega arith) (omega arith) (omega arith))

  judged_named : (n : ℕ) (f : Frame) (m : ℕ) → n ≤ m → f.late ≤ m → f.top ≤ m → Answered plan (judged_of plan n f) m
  unfolding judged_of
  judged_named n f m hn hl ht =
      pick_either (λ b. Answered plan b m) (eqb (kind_of f plan.packets) 0) (λ e.
      pick_either (λ b. Answered plan b m) (ltb 0 f.deficit) (λ e. placed_named refl (kept_all judged (omega arith)) hn hl) (λ e.
      pick_either (λ b. Answered plan b m) (ltb plan.full f.top) (λ e. placed_named refl (kept_all judged (omega arith)) hn ht) (λ e.
      placed_named refl (kept_all judged (omega arith)) (omega arith) (omega arith))))
      (λ e. broken_named n (kind_of f plan.packets) m hn (eqb-false (kind_of f plan.packets) 0 e) (kind_small f plan.packets))

answer_named : (plan : Plan) (n : ℕ) (f : Frame) (m : ℕ) → n ≤ m → f.late ≤ m → f.top ≤ m → Answered plan (answer_of plan n f) m
unfolding answer_of
answer_named plan n f m hn hl ht =
    pick_either (λ b. Answered plan b m) plan.buffered (λ e. judged_named plan e n f m hn hl ht)
    (λ e. placed_named refl (omega arith) (omega arith) (omega arith))

joined_named : (plan : Plan) (b c : Buffer) (m : ℕ) → Answered plan b m → Answered plan c m → Answered plan (joined b c) m
unfolding joined
joined_named plan b c m x y =
    pick_either (λ r. Answered plan r m) (has_failed b) (λ e. x) (λ e.
    pick_either (λ r. Answered plan r m) (is_none c) (λ e. x) (λ e. y))

-- a marker closes the frame of what has arrived
module _ (plan : Plan) (a : Frames) (first t packets : ℕ) (k : Kept plan a first t packets) (room : a.closed + 1 ≤ packets)
    (since : first ≤ t) where
  answers : (b : Bool) → Answered plan (pick b (joined a.buffer (answer_of plan a.closed a.current)) a.buffer) packets
  answers b =
      let held_most = most_kept plan.buffered a.current.held in
      pick_either (λ x. Answered plan x packets) b (λ e. joined_named plan a.buffer (answer_of plan a.closed a.current) packets k.answered
      (answer_named plan a.closed a.current packets k.closed (omega (arith, k.late, held_most, k.held))
      (omega (arith, k.top, held_most, k.held)))) (λ e. k.answered)

  pub kept_close : Kept plan (close_of plan a t) first t packets
  unfolding close_of
  kept_close = kept_empty plan (λ e. omega arith)
      (pick_either (λ x. a.closed + x ≤ packets) a.begun (λ e. omega arith) (λ e. omega arith)) (λ e. since) (λ e. omega arith)
      (answers a.begun)
