-- The buffer answer is that of the first whole frame that fails. What was kept of a frame is its lack and its top over its arrivals, which
-- decide the frame's own answer; the answers are then joined place by place.
use Rattle.std.specs.Prelude.{◌≡◌, ◌↔◌, ◌+◌, ◌≤◌, ◌<◌}
use Rattle.laws.specs.Kit.{refl, sym, ap, ◌∙◌, subst, Bool, true, false, ℕ, zero, suc, arith, not-suc-le-zero, dec_lt}
use Rattle.std.specs.Prelude.{◌<ℤ◌}
use Rattle.laws.specs.Kit.{ltb, eqb, ℤ, pos, negsuc, sub_ℕ, ltb-true, lt-ltb, eqb-true, eqb-false}
use Rattle.laws.specs.Choose.{pick}
use Rattle.laws.proofs.Choose.{false_true, pick_either, up_to}
use Rattle.laws.specs.Climb.{Climbs}
use Rattle.laws.specs.Seek.{seek, Lowest}
use Rattle.laws.proofs.Seek.{seek_is, seek_same, lowest_unique}
use Rattle.laws.proofs.Differ.{differ_sub, differ_lt, lt_differ}
use Rattle.frame.specs.declared.Plan.{Plan}
use Rattle.frame.specs.declared.Frame.{Frame}
use Rattle.frame.specs.declared.Place.{Place}
use Rattle.frame.specs.declared.BrokenFrame.{BrokenFrame}
use Rattle.frame.specs.declared.Buffer.{Buffer}
use Rattle.frame.specs.declared.Buffer.TheVariants.{None, Pass, Under, Over, Broken}
use Rattle.frame.specs.Paper.{History, closes_at, number_at, since, kind_at, reads_to, arrived_by, PeakIs}
use Rattle.frame.specs.Paper.{late, Dry, Overfull, Whole, Judged, PassIs, OverIs, BrokenIs, AnswerIs, DecidedIs, BufferIs}
use Rattle.frame.specs.Paper.{has_failed, is_none, broken_fails, Fails, FirstDecides, failed, passed, unjudged}
use Rattle.frame.specs.Step.{broken_answer, judged_of, answer_of, joined}
use Rattle.frame.specs.ByPlace.{closed_at, answer_at, buffer_at}
use Rattle.frame.specs.Range.{Planned}
use Rattle.frame.proofs.FrameKinds.{judged_broken, judged_under, judged_over, judged_pass}
use Rattle.frame.proofs.RowOfFrame.{peak_unique, kind_is, WholeFrame, frame, top_is, deficit_is, peak_is, least_is, late_is}
use Rattle.frame.proofs.Stepping.{joined_none}
use Rattle.frame.proofs.Duality as D

-- ---- the first that fails decides, whatever each place answers by itself, if it has one answer

-- what has not failed and is not none passes
is_pass : (b : Buffer) → has_failed b ≡ false → is_none b ≡ false → b ≡ Pass
is_pass None e f = absurd (false_true (sym f))
is_pass Pass e f = refl
is_pass (Under q) e f = absurd (false_true (sym e))
is_pass (Over q) e f = absurd (false_true (sym e))
is_pass (Broken q) e f = absurd (false_true (sym e))

is_none_lem : (b : Buffer) → is_none b ≡ true → b ≡ None
is_none_lem None e = refl
is_none_lem Pass e = absurd (false_true e)
is_none_lem (Under q) e = absurd (false_true e)
is_none_lem (Over q) e = absurd (false_true e)
is_none_lem (Broken q) e = absurd (false_true e)

module _ (A : ℕ → Buffer → Type 0) (one : (i : ℕ) (b c : Buffer) → A i b → A i c → b ≡ c) where
  -- an answer that has not failed is not of a place that fails
  pub quiet : (i : ℕ) (b : Buffer) → A i b → has_failed b ≡ false → ¬ Fails A i
  quiet i b x e f = false_true (sym e ∙ ap has_failed (one i b f.0 x f.1) ∙ f.2)

  -- place m is judged, and none before it failed
  decides : (m : ℕ) (w : Buffer) → A m w → is_none w ≡ false → ((k : ℕ) → k < m → ¬ Fails A k) → FirstDecides A (suc m) w
  decides m w y j fine = go (has_failed w) refl
    where
      go : (t : Bool) → has_failed w ≡ t → FirstDecides A (suc m) w
      go true e = failed m (omega arith) y e fine
      go false e =
          passed m (omega arith) (subst (A m) (is_pass w e j) y) (up_to (λ k. ¬ Fails A k) m fine (quiet m w y e)) (is_pass w e j)

  pub decides_next : (m : ℕ) (b w : Buffer) → FirstDecides A m b → A m w → FirstDecides A (suc m) (joined b w)
  unfolding joined
  decides_next m b w (failed i l x e fine) y = rw e (failed i (omega arith) x e fine)
  decides_next m b w (passed i l x fine e) y = rw e (go (is_none w) refl)
    where
      go : (t : Bool) → is_none w ≡ t → FirstDecides A (suc m) (pick t Pass w)
      go true j =
          passed i (omega arith) x (up_to (λ k. ¬ Fails A k) m fine (quiet m w y (ap has_failed (is_none_lem w j)))) refl
      go false j = decides m w y j fine
  decides_next m b w (unjudged all e) y = rw e (go (is_none w) refl)
    where
      go : (t : Bool) → is_none w ≡ t → FirstDecides A (suc m) (pick t None w)
      go true j = unjudged (up_to (λ k. A k None) m all (subst (A m) (is_none_lem w j) y)) refl
      go false j = decides m w y j (λ k l. quiet k None (all k l) refl)

  pub decides_unique : (m : ℕ) (b c : Buffer) → FirstDecides A m b → FirstDecides A m c → b ≡ c
  decides_unique m b c (failed i l x e first_i) (failed k n y f first_k) =
      let not_less : ¬ (i < k) = λ z. first_k i z (b, x, e) in
      let not_more : ¬ (k < i) = λ z. first_i k z (c, y, f) in
      let same : k ≡ i = omega arith in
      one i b c x (subst (λ (j : ℕ). A j c) same y)
  decides_unique m b c (failed i l x e first_i) (passed k n y fine f) = absurd (fine i l (b, x, e))
  decides_unique m b c (failed i l x e first_i) (unjudged all f) = absurd (quiet i None (all i l) refl (b, x, e))
  decides_unique m b c (passed i l x fine e) (failed k n y f first_k) = absurd (fine k n (c, y, f))
  decides_unique m b c (passed i l x fine e) (passed k n y clear f) = e ∙ sym f
  decides_unique m b c (passed i l x fine e) (unjudged all f) = e ∙ one i Pass None x (all i l) ∙ sym f
  decides_unique m b c (unjudged all e) (failed k n y f first_k) = absurd (quiet k None (all k n) refl (c, y, f))
  decides_unique m b c (unjudged all e) (passed k n y clear f) = e ∙ one k None Pass (all k n) y ∙ sym f
  decides_unique m b c (unjudged all e) (unjudged each f) = e ∙ sym f

-- ---- one answer only

module _ (plan : Plan) (h : History) where
  pub over_fails : (i : ℕ) (q : Place) → OverIs plan h i q → Overfull plan h (since h i)
  over_fails i q x = (
    pos q.place,
    x.peak,
    differ_lt (pos plan.full) (pos q.place) plan.full 0 q.place 0 (omega arith) (omega arith) (omega (arith, x.over)),
  )

  -- whole frames are judged, and broken ones that fail
  pub whole_judged : (i : ℕ) → Whole plan h i → Judged plan h i
  whole_judged i w = record { closing = w.closing; judged = λ other. absurd (other w.whole) }

  broken_judged : (i : ℕ) (b : BrokenFrame) → BrokenIs plan h i b → Judged plan h i
  broken_judged i b x = record { closing = x.closing; judged = λ other. x.fails }

  pub answer_unique : (i : ℕ) (b c : Buffer) → AnswerIs plan h i b → AnswerIs plan h i c → b ≡ c
  answer_unique i None None x y = refl
  answer_unique i None Pass x y = absurd (x (whole_judged i y.whole))
  answer_unique i None (Under r) x y = absurd (x (whole_judged i y.whole))
  answer_unique i None (Over r) x y = absurd (x (whole_judged i y.whole))
  answer_unique i None (Broken r) x y = absurd (x (broken_judged i r y))
  answer_unique i Pass None x y = absurd (y (whole_judged i x.whole))
  answer_unique i Pass Pass x y = refl
  answer_unique i Pass (Under r) x y = absurd (x.not_dry y.dry)
  answer_unique i Pass (Over r) x y = absurd (x.not_over (over_fails i r y))
  answer_unique i Pass (Broken r) x y = absurd (y.broken x.whole.whole)
  answer_unique i (Under q) None x y = absurd (y (whole_judged i x.whole))
  answer_unique i (Under q) Pass x y = absurd (y.not_dry x.dry)
  answer_unique i (Under q) (Under r) x y =
      let frames : q.frame ≡ r.frame = x.frame ∙ sym y.frame in
      let places = lowest_unique (late plan h (since h i)) plan.packets q.place r.place x.place y.place in
      λ j. Under (record { frame = frames j; place = places j })
  answer_unique i (Under q) (Over r) x y = absurd (y.not_dry x.dry)
  answer_unique i (Under q) (Broken r) x y = absurd (y.broken x.whole.whole)
  answer_unique i (Over q) None x y = absurd (y (whole_judged i x.whole))
  answer_unique i (Over q) Pass x y = absurd (y.not_over (over_fails i q x))
  answer_unique i (Over q) (Under r) x y = absurd (x.not_dry y.dry)
  answer_unique i (Over q) (Over r) x y =
      let frames : q.frame ≡ r.frame = x.frame ∙ sym y.frame in
      let peaks = peak_unique plan h (since h i) (pos q.place) (pos r.place) x.peak y.peak in
      let places : q.place ≡ r.place = cc in
      λ j. Over (record { frame = frames j; place = places j })
  answer_unique i (Over q) (Broken r) x y = absurd (y.broken x.whole.whole)
  answer_unique i (Broken q) None x y = absurd (y (broken_judged i q x))
  answer_unique i (Broken q) Pass x y = absurd (x.broken y.whole.whole)
  answer_unique i (Broken q) (Under r) x y = absurd (x.broken y.whole.whole)
  answer_unique i (Broken q) (Over r) x y = absurd (x.broken y.whole.whole)
  answer_unique i (Broken q) (Broken r) x y =
      let frames : q.frame ≡ r.frame = x.frame ∙ sym y.frame in
      let kinds : q.kind ≡ r.kind = x.kind ∙ sym y.kind in
      λ j. Broken (record { frame = frames j; kind = kinds j })

  -- a whole frame that does not fail passes: there is no other way to fail
  pub not_failing : (i : ℕ) → Whole plan h i → ¬ Fails (AnswerIs plan h) i → PassIs plan h i
  not_failing i w f = record { whole = w; not_dry = calm; not_over = λ o. go o.0 o.1 o.2 }
    where
      calm : ¬ Dry plan h (since h i)
      calm d = f (
        Under (record { frame = number_at h i; place = seek (late plan h (since h i)) plan.packets }),
        record { whole = w; frame = refl; dry = d; place = seek_is (late plan h (since h i)) plan.packets },
        refl,
      )

      go : (z : ℤ) → PeakIs plan h (since h i) z → pos plan.full <ℤ z → ⊥
      go (pos n) peak l =
          let over = lt_differ (pos plan.full) (pos n) plan.full 0 n 0 (omega arith) (omega arith) l in
          f (
            Over (record { frame = number_at h i; place = n }),
            record { whole = w; frame = refl; not_dry = calm; peak = peak; over = omega (arith, over) },
            refl,
          )
      go (negsuc n) peak l = l.lt

  -- V13: where the buffer is judged, the answer is what the frames decide
  pub buffered_is : plan.buffered ≡ true → (b : Buffer) → BufferIs plan h b ↔ DecidedIs plan h b
  buffered_is e b = (λ x. x.judged e, λ x. record { judged = λ z. x; unjudged = λ z. absurd (false_true (sym z ∙ e)) })

  pub buffer_unique : (b c : Buffer) → BufferIs plan h b → BufferIs plan h c → b ≡ c
  buffer_unique b c x y = go plan.buffered refl
    where
      go : (t : Bool) → plan.buffered ≡ t → b ≡ c
      go true e = decides_unique (AnswerIs plan h) answer_unique h.packets b c (x.judged e) (y.judged e)
      go false e = x.unjudged e ∙ sym (y.unjudged e)

module _ (plan : Plan) (p : Planned plan) (h : History) (ordered : Climbs h.time h.packets) (buffered : plan.buffered ≡ true) where
  -- ---- one frame, closed by packet i

  module _ (i : ℕ) (inside : i < h.packets) (whole : kind_at plan h i ≡ 0) where
    -- where the frame begins, what was kept of it, and its arrivals
    abbrev s : ℕ
    s = since h i

    abbrev kept : Frame
    kept = closed_at plan h i

    abbrev w : WholeFrame plan h i
    w = record { planned = p; ordered = ordered; inside = inside; whole = whole }

    -- the lack and the top that were kept, over the frame's arrivals
    lacks : (j : ℕ) → j < plan.packets → suc j ≤ arrived_by plan h s j + kept.deficit
    lacks j l = rw (deficit_is w buffered) (D.lack_bound (frame w) j l)

    tops : (j : ℕ) → j < plan.packets → suc j ≤ kept.top + reads_to plan h s j
    tops j l = rw (top_is w buffered) (D.top_bound (frame w) j l)

    -- P19: "The buffer runs dry where least is below 0.": where there was a lack
    pub is_dry : 0 < kept.deficit → Dry plan h s
    is_dry l = (
      sub_ℕ 0 kept.deficit,
      least_is w buffered,
      differ_lt (sub_ℕ 0 kept.deficit) (pos 0) 0 kept.deficit 0 0 (differ_sub 0 kept.deficit) (omega arith) (omega arith),
    )

    pub not_dry : kept.deficit ≤ 0 → ¬ Dry plan h s
    not_dry none d =
        let m = d.1.met in
        let there = arrived_by plan h s m.0 in
        let low = lt_differ (sub_ℕ there (suc m.0)) (pos 0) there (suc m.0) 0 0 (differ_sub there (suc m.0)) (omega arith)
        (rw m.2 at d.2) in
        omega (arith, lacks m.0 m.1)

    -- and one of its packets comes after its read time exactly then; the lowest such is the one kept
    pub late_lowest : 0 < kept.deficit → Lowest (late plan h s) plan.packets kept.late
    late_lowest some =
        let same = seek_same (late plan h s) (λ j. ltb j (reads_to plan h s j)) plan.packets (D.late_is (frame w)) in
        rw (late_is w buffered some, sym same) (seek_is (late plan h s) plan.packets)

    pub not_overfull : kept.top ≤ plan.full → ¬ Overfull plan h s
    not_overfull few o =
        let m = o.1.met in
        let read = reads_to plan h s m.0 in
        let high = lt_differ (pos plan.full) (sub_ℕ (suc m.0) read) plan.full 0 (suc m.0) read (omega arith)
        (differ_sub (suc m.0) read) (rw m.2 at o.2) in
        omega (arith, tops m.0 m.1)

    -- D3e: "A whole frame runs dry exactly when one of its packets comes after its read time."
    pub dry_late : Dry plan h s → (j : ℕ) × (j < plan.packets) × (late plan h s j ≡ true)
    dry_late d = go (dec_lt 0 kept.deficit)
      where
        go : Dec (0 < kept.deficit) → (j : ℕ) × (j < plan.packets) × (late plan h s j ≡ true)
        go (yes l) =
            let q = D.dry_late (frame w) (omega (arith, deficit_is w buffered)) in
            (q.0, q.1, D.late_is (frame w) q.0 q.1 ∙ lt-ltb q.0 (reads_to plan h s q.0) q.2)
        go (no g) = absurd (not_dry (omega arith) d)

    pub late_dry : (j : ℕ) → j < plan.packets → late plan h s j ≡ true → Dry plan h s
    late_dry j l e =
        let more = ltb-true j (reads_to plan h s j) (sym (D.late_is (frame w) j l) ∙ e) in
        is_dry (omega (arith, deficit_is w buffered, D.late_dry (frame w) j l more))

  -- ---- what packet i answers, if it closes a frame

  module _ (i : ℕ) (inside : i < h.packets) (closing : closes_at h i ≡ true) where
    abbrev answer : Buffer
    answer = judged_of plan (number_at h i) (closed_at plan h i)

    judged_whole : kind_at plan h i ≡ 0 → Dec (0 < (closed_at plan h i).deficit) → Dec (plan.full < (closed_at plan h i).top)
        → AnswerIs plan h i answer
    judged_whole k (yes l) over = subst (AnswerIs plan h i) (judged_under plan _ _ (kind_is plan h i ∙ k) l) (record {
      whole = record { closing = closing; whole = k };
      frame = refl;
      dry = is_dry i inside k l;
      place = late_lowest i inside k l;
    })
    judged_whole k (no g) (yes l) = subst (AnswerIs plan h i) (judged_over plan _ _ (kind_is plan h i ∙ k) (omega arith) l) (record {
      whole = record { closing = closing; whole = k };
      frame = refl;
      not_dry = not_dry i inside k (omega arith);
      peak = peak_is (w i inside k) buffered;
      over = l;
    })
    judged_whole k (no g) (no f) =
        subst (AnswerIs plan h i) (judged_pass plan _ _ (kind_is plan h i ∙ k) (omega arith) (omega arith)) (record {
          whole = record { closing = closing; whole = k };
          not_dry = not_dry i inside k (omega arith);
          not_over = not_overfull i inside k (omega arith);
        })

    -- a broken frame fails, or is not judged
    not_whole : ¬ (kind_at plan h i ≡ 0) → AnswerIs plan h i (broken_answer plan.edition (number_at h i) (kind_at plan h i))
    not_whole k = go (broken_fails plan.edition) refl
      where
        go : (t : Bool) → broken_fails plan.edition ≡ t → AnswerIs plan h i (pick t (Broken (record { frame = number_at h i; kind = kind_at plan h i })) None)
        go true f = record { closing = closing; broken = k; fails = f; frame = refl; kind = refl }
        go false f = λ z. false_true (sym f ∙ z.judged k)

    judged : AnswerIs plan h i answer
    judged = go (eqb (kind_at plan h i) 0) refl
      where
        go : (t : Bool) → eqb (kind_at plan h i) 0 ≡ t → AnswerIs plan h i answer
        go true e =
            let k = eqb-true (kind_at plan h i) 0 e in
            judged_whole k (dec_lt 0 (closed_at plan h i).deficit) (dec_lt plan.full (closed_at plan h i).top)
        go false e =
            subst (AnswerIs plan h i) (judged_broken plan _ _ (sym (kind_is plan h i)) (eqb-false (kind_at plan h i) 0 e))
            (not_whole (eqb-false (kind_at plan h i) 0 e))

  -- what is judged is the frame's answer
  judged_answers : (i : ℕ) → judged_of plan (number_at h i) (closed_at plan h i) ≡ answer_of plan (number_at h i) (closed_at plan h i)
  unfolding answer_of
  judged_answers i = rw buffered

  pub answered : (i : ℕ) → i < h.packets → AnswerIs plan h i (answer_at plan h i)
  answered i inside = go (closes_at h i) refl
    where
      go : (t : Bool) → closes_at h i ≡ t → AnswerIs plan h i (pick t (answer_of plan (number_at h i) (closed_at plan h i)) None)
      go true e = subst (AnswerIs plan h i) (judged_answers i) (judged i inside e)
      go false e = λ w. false_true (sym e ∙ w.closing)

  buffer_to : (m : ℕ) → m ≤ h.packets → FirstDecides (AnswerIs plan h) m (buffer_at plan h m)
  unfolding buffer_at
  buffer_to zero l = unjudged (λ i k. absurd (not-suc-le-zero k)) refl
  buffer_to (suc m) l = decides_next (AnswerIs plan h) (answer_unique plan h) m (buffer_at plan h m) (answer_at plan h m)
      (buffer_to m (omega arith)) (answered m l)

  -- V7, V8: "Buffer: none (no whole frame yet); pass; under [..]; over [..]. The first failing frame decides; in one frame under goes first."
  pub decided_is : DecidedIs plan h (buffer_at plan h h.packets)
  decided_is = buffer_to h.packets (omega arith)

-- where the buffer is not judged no frame answers anything
module _ (plan : Plan) (h : History) (unbuffered : plan.buffered ≡ false) where
  answer_none : (i : ℕ) → answer_at plan h i ≡ None
  unfolding answer_of
  answer_none i = pick_either (λ b. b ≡ None) (closes_at h i) (λ e. rw unbuffered) (λ e. refl)

  none_to : (m : ℕ) → buffer_at plan h m ≡ None
  unfolding buffer_at
  none_to zero = refl
  none_to (suc m) = ap (λ (b : Buffer). joined b (answer_at plan h m)) (none_to m) ∙ ap (joined None) (answer_none m) ∙ joined_none None

-- V7, V13: the buffer answer, judged or not
pub buffer_is : (plan : Plan) → Planned plan → (h : History) → Climbs h.time h.packets → BufferIs plan h (buffer_at plan h h.packets)
buffer_is plan p h ordered = record { judged = decided_is plan p h ordered; unjudged = λ e. none_to plan h e h.packets }
