-- A state reached from set-up is the declared state of its history, and its rows are the declared rows: the step goes from place to place.
use Rattle.std.specs.Prelude.{◌≡◌, ◌∷◌, ◌++◌, Err, Ok}
use Rattle.laws.specs.Kit.{refl, sym, ap, ◌∙◌, subst, Bool, true, false, List, [], append_assoc, append-nil, ℕ, zero, suc}
use Rattle.std.specs.Prelude.{◌+◌, ◌-◌, ◌*◌, ◌/◌, ◌%◌, ◌≤◌, ◌<◌}
use Rattle.laws.specs.Kit.{arith, ltb, leb, eqb-suc-zero, length, take, take-suc, take-length, ltb-false}
use Rattle.laws.specs.Choose.{pick}
use Rattle.laws.specs.Fold.{fold}
use Rattle.laws.proofs.Fold.{fold_up_to, fold_states}
use Rattle.grain.specs.Paper.{grains, instants}
use Rattle.grain.specs.Carry.{since_instant}
use Rattle.grain.proofs.Onward.{instants_on, since_on}
use Rattle.laws.specs.Climb.{Climbs}
use Rattle.laws.proofs.Climb.{climbs_le}
use Rattle.refusal.specs.Told.{Numbered}
use Rattle.packet.specs.Paper.{Scanned}
use Rattle.packet.specs.declared.Packet.{Packet}
use Rattle.packet.specs.Paper.{no_packet, marked, at, earlier_at, refusal_at, declared, past_at}
use Rattle.packet.specs.Step.{nothing, since_of, next_of, scan_of}
use Rattle.packet.specs.Calls.{past_after_packets, begun_after, and_then, more}
use Rattle.packet.proofs.Cutting.{scan_cut, scan_more}
use Rattle.packet.proofs.Declared.{scan_declared, past_after, begun_after_lem, next_at, fine_everywhere}
use Rattle.bucket.specs.Paper as BP
use Rattle.bucket.specs.Step as B
use Rattle.bucket.proofs.ByPlace as BB
use Rattle.frame.specs.declared.Row.{Row}
use Rattle.frame.specs.Step as FS
use Rattle.frame.specs.ByPlace as F
use Rattle.frame.proofs.Stepping as FF
use Rattle.timing.specs.declared.StreamNumbers.{StreamNumbers}
use Rattle.timing.specs.declared.Rules.{Rules}
use Rattle.timing.specs.declared.State.{State}
use Rattle.timing.specs.Step.{set_up_of, frame_of, rules_of, fresh_of, gone_of, left_of, arrive_of, mark_of, step_of, rows_of, state_after, rows_after}
use Rattle.timing.specs.History.{bucket_history, frame_history, rest_at, state_at, rows_to}
use Rattle.timing.proofs.Planning.{planned, spacing_some}

-- the step, with the frames' own step in it
step_is : (rules : Rules) (s : State) (p : Packet) → step_of rules s p ≡ record {
  numbers = s.numbers;
  past = next_of s.past p.time;
  rest = left_of rules s p.time % rules.drains.num;
  bucket = B.step_of s.bucket s.past.packets (left_of rules s p.time / rules.drains.num) rules.limit;
  frames = FS.step_of rules.plan s.frames (gone_of s p.time) p.time p.stamp (marked p);
}
unfolding step_of arrive_of mark_of FS.step_of
step_is rules s p = go (marked p)
  where
    go : (m : Bool) → pick m (mark_of rules (arrive_of rules s p.time p.stamp) p.time) (arrive_of rules s p.time p.stamp)
        ≡ record {
          numbers = s.numbers;
          past = next_of s.past p.time;
          rest = left_of rules s p.time % rules.drains.num;
          bucket = B.step_of s.bucket s.past.packets (left_of rules s p.time / rules.drains.num) rules.limit;
          frames = pick m
              (FS.close_of rules.plan (FS.arrive_of rules.plan s.frames (gone_of s p.time) p.time p.stamp) p.time)
              (FS.arrive_of rules.plan s.frames (gone_of s p.time) p.time p.stamp);
        }
    go true = refl
    go false = refl

-- an accepted history's arrivals never fall
not_earlier : (a b c d : Bool) → ◌≡◌ {A = ℕ} (pick a 11 (pick b 12 (pick c 13 (pick d 14 0)))) 0 → b ≡ false
not_earlier true b c d e = absurd (omega arith)
not_earlier false true c d e = absurd (omega arith)
not_earlier false false c d e = refl

pub arrivals_climb : (l : List Packet) (n : ℕ) → declared l ≡ Ok n → Climbs (λ i. (at l i).time) (length l)
unfolding refusal_at
arrivals_climb l n e i h =
    ltb-false (at l (suc i)).time (at l i).time
    (not_earlier (ltb 1 (at l (suc i)).marker) (earlier_at l (suc i)) (ltb 600000000000 ((at l (suc i)).time - (at l 0).time))
    (leb 1000000000 (suc i))
    (fine_everywhere l n (suc i) e h))

-- nor is one of them more than 600 s after the first
not_late : (a b c d : Bool) → ◌≡◌ {A = ℕ} (pick a 11 (pick b 12 (pick c 13 (pick d 14 0)))) 0 → c ≡ false
not_late true b c d e = absurd (omega arith)
not_late false true c d e = absurd (omega arith)
not_late false false true d e = absurd (omega arith)
not_late false false false d e = refl

pub arrivals_near : (l : List Packet) (n : ℕ) → declared l ≡ Ok n → (i : ℕ) → i < length l → (at l i).time - (at l 0).time ≤ 600000000000
unfolding refusal_at
arrivals_near l n e i h =
    ltb-false 600000000000 ((at l i).time - (at l 0).time)
    (not_late (ltb 1 (at l i).marker) (earlier_at l i) (ltb 600000000000 ((at l i).time - (at l 0).time)) (leb 1000000000 i)
    (fine_everywhere l n i e h))

-- ---- from place to place, in a list whose arrivals never fall

module _ (x : StreamNumbers) (accepted : set_up_of x ≡ 0) (l : List Packet) (order : Climbs (λ i. (at l i).time) (length l)) where
  -- since the packet before, in grains
  gone_is : (i : ℕ) → grains (since_of (past_at l i) (at l i).time) ≡ F.gone_at (frame_history x l) i
  gone_is zero = omega arith
  gone_is (suc i) = rw (eqb-suc-zero i) refl

  abbrev num : ℕ
  num = 10 * frame_of x

  abbrev den : ℕ
  den = 11 * x.parameters.n

  apart : 0 < num
  unfolding rules_of
  apart = spacing_some x accepted

  -- what is left since the last drain instant, and since then
  abbrev left : ℕ → ℕ
  left i = rest_at x l i + F.gone_at (frame_history x l) i * den

  -- the time up to a packet is that up to the one before, and what goes by
  elapsed_on : (i : ℕ) → suc i < length l
      → BP.elapsed (bucket_history x l) (suc i) ≡ BP.elapsed (bucket_history x l) i + F.gone_at (frame_history x l) (suc i)
  elapsed_on i h = omega (arith, order i h, climbs_le (λ k. (at l k).time) (length l) order 0 i (omega arith) (omega arith))

  nothing_gone : F.gone_at (frame_history x l) 0 * den ≡ BP.elapsed (bucket_history x l) 0 * den
  nothing_gone = ap (λ (z : ℕ). z * den) (omega arith)

  -- B1: the drain instants since the packet before, and what is left after them
  drains_are : (i : ℕ) → i < length l → left i / num ≡ B.drains_since (BP.drains (bucket_history x l)) i
  drains_are zero h =
      let none : left 0 ≡ BP.elapsed (bucket_history x l) 0 * den = omega (arith, nothing_gone) in
      ap (λ (z : ℕ). z / num) none
  drains_are (suc i) h =
      let e = BP.elapsed (bucket_history x l) i in
      let later = ap (λ (z : ℕ). instants z num den) (elapsed_on i h) in
      omega (arith, later, instants_on e (F.gone_at (frame_history x l) (suc i)) num den apart)

  rest_is : (i : ℕ) → i < length l → left i % num ≡ rest_at x l (suc i)
  rest_is zero h =
      let none : left 0 ≡ BP.elapsed (bucket_history x l) 0 * den = omega (arith, nothing_gone) in
      ap (λ (z : ℕ). z % num) none
  rest_is (suc i) h =
      let e = BP.elapsed (bucket_history x l) i in
      sym (ap (λ (z : ℕ). since_instant z num den) (elapsed_on i h) ∙ since_on e (F.gone_at (frame_history x l) (suc i)) num den apart)

  left_is : (i : ℕ) → left_of (rules_of x) (state_at x l i) (at l i).time ≡ left i
  unfolding state_at rules_of
  left_is i = ap (λ (g : ℕ). rest_at x l i + g * den) (gone_is i)

  pub step_declared : (i : ℕ) → i < length l → step_of (rules_of x) (state_at x l i) (at l i) ≡ state_at x l (suc i)
  unfolding state_at rules_of
  step_declared i h =
      step_is (rules_of x) (state_at x l i) (at l i) ∙ (λ j. record {
        numbers = x;
        past = next_at l i j;
        rest = (ap (λ (z : ℕ). z % num) (left_is i) ∙ rest_is i h) j;
        bucket = (ap (λ (d : ℕ). B.step_of (B.bucket_at (BP.drains (bucket_history x l)) (rules_of x).limit i) i d (rules_of x).limit)
            (ap (λ (z : ℕ). z / num) (left_is i) ∙ drains_are i h)
            ∙ BB.step_by_place (BP.drains (bucket_history x l)) (rules_of x).limit i) j;
        frames = (ap (λ (g : ℕ). FS.step_of (rules_of x).plan (F.frames_at (rules_of x).plan (frame_history x l) i) g (at l i).time
            (at l i).stamp (marked (at l i))) (gone_is i)
            ∙ FF.frames_step (rules_of x).plan (frame_history x l) (planned x accepted).apart order i h) j;
      })

  fresh_declared : fresh_of x ≡ state_at x l 0
  unfolding state_at B.bucket_at
  fresh_declared = λ j. record {
    numbers = x;
    past = past_at l 0;
    rest = 0;
    bucket = B.empty_of;
    frames = sym
        (FF.frames_first (rules_of x).plan (frame_history x l)) j;
  }

  -- so a state reached from set-up is the declared state of its history
  pub state_declared : state_after (rules_of x) (fresh_of x) l ≡ state_at x l (length l)
  state_declared =
      ap (λ (s : State). state_after (rules_of x) s l) fresh_declared
      ∙ fold_states (step_of (rules_of x)) l no_packet (state_at x l) (λ i h. step_declared i h)

-- rows of a list cut in two
pub rows_cut : (rules : Rules) (s : State) (l m : List Packet) → rows_after rules s (l ++ m)
    ≡ rows_after rules s l ++ rows_after rules (state_after rules s l) m
unfolding rows_after fold
rows_cut rules s [] m = refl
rows_cut rules s (p ∷ l) m =
    ap (λ (r : List Row). rows_of rules s p ++ r) (rows_cut rules (step_of rules s p) l m)
    ∙ sym (append_assoc (rows_of rules s p) (rows_after rules (step_of rules s p) l)
    (rows_after rules (state_after rules (step_of rules s p) l) m))

module _ (x : StreamNumbers) (accepted : set_up_of x ≡ 0) (l : List Packet) (order : Climbs (λ i. (at l i).time) (length l)) where
  row_declared : (i : ℕ) → i < length l → rows_of (rules_of x) (state_at x l i) (at l i) ≡ F.rows_at (rules_of x).plan (frame_history x l) i
  unfolding state_at
  row_declared i h =
      ap (λ (g : ℕ). FS.rows_of (rules_of x).plan (F.frames_at (rules_of x).plan (frame_history x l) i) (i + 1) g (at l i).time
      (at l i).stamp (marked (at l i))) (gone_is x accepted l order i)
      ∙ FF.rows_step (rules_of x).plan (frame_history x l) (planned x accepted).apart order i h

  state_take : (i : ℕ) → i ≤ length l → state_after (rules_of x) (state_at x l 0) (take i l) ≡ state_at x l i
  state_take = fold_up_to (step_of (rules_of x)) l no_packet (state_at x l) (step_declared x accepted l order)

  rows_take : (i : ℕ) → i ≤ length l → rows_after (rules_of x) (state_at x l 0) (take i l) ≡ rows_to x l i
  unfolding rows_after rows_to
  rows_take zero h = refl
  rows_take (suc i) h =
      ap (rows_after (rules_of x) (state_at x l 0)) (take-suc l i no_packet h) ∙ rows_cut (rules_of x) (state_at x l 0) (take i l) (at l i ∷ [])
      ∙ rw (rows_take i (omega arith), state_take i (omega arith), row_declared i h)
      (ap (λ (r : List Row). rows_to x l i ++ r) (append-nil (F.rows_at (rules_of x).plan (frame_history x l) i)))

  -- and the rows written are those of the frames that close, in order
  pub rows_declared : rows_after (rules_of x) (fresh_of x) l ≡ rows_to x l (length l)
  rows_declared =
      ap (λ (s : State). rows_after (rules_of x) s l) (fresh_declared x accepted l order)
      ∙ ap (rows_after (rules_of x) (state_at x l 0)) (sym (take-length l)) ∙ rows_take (length l) (omega arith)

-- ---- a call after an accepted history

more_refused : (closed : ℕ) (x : Scanned) (r : Numbered) → more closed x ≡ Err r → x ≡ Err r
more_refused closed (Ok n) r e = let z : ◌≡◌ {A = ℕ} 0 1 = cc in absurd (omega arith)
more_refused closed (Err q) r e = e

-- the scan of a call that follows a history finds what the scan of the whole finds
scan_after : (h l : List Packet) (closed : ℕ) (r : Numbered) → declared h ≡ Ok closed → declared (h ++ l) ≡ Err r
    → scan_of (past_after_packets nothing h) (begun_after false h) 0 l ≡ Err r
scan_after h l closed r e f =
    let whole : and_then (scan_of nothing false 0 h) (λ n. scan_of (past_after_packets nothing h) (begun_after false h) n l) ≡ Err r =
    sym (scan_cut nothing false 0 h l) ∙ scan_declared (h ++ l) ∙ f in
    let rest : scan_of (past_after_packets nothing h) (begun_after false h) closed l ≡ Err r =
    subst (λ (x : Scanned). and_then x (λ n. scan_of (past_after_packets nothing h) (begun_after false h) n l) ≡ Err r) (scan_declared h ∙ e)
    whole in
    let zero_more : closed + 0 ≡ closed = omega arith in
    more_refused closed (scan_of (past_after_packets nothing h) (begun_after false h) 0 l) r
    (sym (scan_more (past_after_packets nothing h) (begun_after false h) closed 0 l)
    ∙ ap (λ (k : ℕ). scan_of (past_after_packets nothing h) (begun_after false h) k l) zero_more ∙ rest)

module _ (x : StreamNumbers) (accepted : set_up_of x ≡ 0) (h : List Packet) (order : Climbs (λ i. (at h i).time) (length h)) where
  past_of : (state_after (rules_of x) (fresh_of x) h).past ≡ past_after_packets nothing h
  unfolding state_at
  past_of = ap (λ (s : State). s.past) (state_declared x accepted h order) ∙ sym (past_after h)

  begun_of : (state_after (rules_of x) (fresh_of x) h).frames.begun ≡ begun_after false h
  unfolding state_at F.frames_at
  begun_of = ap (λ (s : State). s.frames.begun) (state_declared x accepted h order) ∙ sym (begun_after_lem h)

  pub scan_of_call : (l : List Packet) (closed : ℕ) (r : Numbered) → declared h ≡ Ok closed → declared (h ++ l) ≡ Err r
      → scan_of (state_after (rules_of x) (fresh_of x) h).past (state_after (rules_of x) (fresh_of x) h).frames.begun 0 l ≡ Err r
  scan_of_call l closed r e f = rw (past_of, begun_of) (scan_after h l closed r e f)
