-- The one buffer answer over the edition is, in each edition, what the documents say of it. A broken frame is judged exactly where it fails, so
-- that edition 1 answers packet by packet what there was before there were editions, and edition 2 leaves no closed frame unjudged.
use Rattle.std.specs.Prelude.{◌≡◌, ◌↔◌, ◌<◌}
use Rattle.laws.specs.Kit.{refl, sym, ap, ◌∙◌, Bool, true, false, ℕ, ℕ_discrete}
use Rattle.laws.proofs.Choose.{false_true}
use Rattle.laws.specs.Climb.{Climbs}
use Rattle.frame.specs.declared.Plan.{Plan}
use Rattle.frame.specs.declared.Buffer.{Buffer}
use Rattle.frame.specs.declared.BrokenFrame.{BrokenFrame}
use Rattle.frame.specs.declared.Buffer.TheVariants.{None, Pass, Under, Over, Broken}
use Rattle.frame.specs.Paper.{History, closes_at, number_at, kind_at, Whole, Judged, PassIs, BrokenIs, AnswerIs, DecidedIs}
use Rattle.frame.specs.Paper.{has_failed, is_none, broken_fails, Fails, FirstDecides, failed, passed, unjudged}
use Rattle.frame.specs.Editions.{FirstAnswerIs, FirstBufferIs, FrameFails, broken, dry, overfull, NoneClosed, AllFit}
use Rattle.frame.specs.ByPlace.{answer_at}
use Rattle.frame.specs.Range.{Planned}
use Rattle.frame.proofs.BufferOfFrames.{quiet, over_fails, whole_judged, answer_unique, not_failing, answered}

-- V12: the two editions
pub one_spares : broken_fails 1 ≡ false
one_spares = refl

pub two_fails : broken_fails 2 ≡ true
two_fails = refl

-- ---- two ways to say what each place answers

-- where each place answers alike, the same answer decides
decides_alike : {A B : ℕ → Buffer → Type 0} → ((i : ℕ) (b : Buffer) → A i b ↔ B i b) → (m : ℕ) (b : Buffer)
    → FirstDecides A m b → FirstDecides B m b
decides_alike same m b (failed i l x e fine) =
    failed i l ((same i b).0 x) e (λ k g f. fine k g (f.0, (same k f.0).1 f.1, f.2))
decides_alike same m b (passed i l x fine e) =
    passed i l ((same i Pass).0 x) (λ k g f. fine k g (f.0, (same k f.0).1 f.1, f.2)) e
decides_alike same m b (unjudged all e) = unjudged (λ k g. (same k None).0 (all k g)) e

-- an answer that is one case is no other
none_failed : {A : Type 0} → has_failed None ≡ true → A
none_failed e = absurd (false_true e)

pass_failed : {A : Type 0} → has_failed Pass ≡ true → A
pass_failed e = absurd (false_true e)

module _ (plan : Plan) (h : History) where
  -- ---- edition 1

  module _ (first : broken_fails plan.edition ≡ false) where
    -- what is judged is whole
    judged_whole : (i : ℕ) → Judged plan h i → Whole plan h i
    judged_whole i j = record { closing = j.closing; whole = go (ℕ_discrete (kind_at plan h i) 0) }
      where
        go : Dec (kind_at plan h i ≡ 0) → kind_at plan h i ≡ 0
        go (yes e) = e
        go (no n) = absurd (false_true (sym first ∙ j.judged n))

    answers_first : (i : ℕ) (b : Buffer) → AnswerIs plan h i b ↔ FirstAnswerIs plan h i b
    answers_first i None = (λ x w. x (whole_judged plan h i w), λ x j. x (judged_whole i j))
    answers_first i Pass = (λ x. x, λ x. x)
    answers_first i (Under p) = (λ x. x, λ x. x)
    answers_first i (Over p) = (λ x. x, λ x. x)
    answers_first i (Broken b) = (λ x. false_true (sym first ∙ x.fails), λ x. absurd x)

    -- V12: "Earlier reports must come out as they did, under edition 1"
    pub first_edition : (b : Buffer) → DecidedIs plan h b ↔ FirstBufferIs plan h b
    first_edition b =
        let back : (i : ℕ) (c : Buffer) → FirstAnswerIs plan h i c ↔ AnswerIs plan h i c = λ i c. ((answers_first i c).1, (answers_first i c).0) in
        (decides_alike answers_first h.packets b, decides_alike back h.packets b)

    -- V12: "the case never occurs"
    pub never_broken : (b : BrokenFrame) → DecidedIs plan h (Broken b) → ⊥
    never_broken b (failed i l x e fine) = false_true (sym first ∙ x.fails)
    never_broken b (passed i l x fine e) = false_true (sym (ap has_failed e))
    never_broken b (unjudged all e) = false_true (sym (ap has_failed e))

  -- ---- edition 2

  -- a frame that fails has closed
  fails_closed : (i : ℕ) (b : Buffer) → AnswerIs plan h i b → has_failed b ≡ true → closes_at h i ≡ true
  fails_closed i None x e = none_failed e
  fails_closed i Pass x e = pass_failed e
  fails_closed i (Under p) x e = x.whole.closing
  fails_closed i (Over p) x e = x.whole.closing
  fails_closed i (Broken b) x e = x.closing

  module _ (second : broken_fails plan.edition ≡ true) where
    -- what closes is judged
    closed_judged : (i : ℕ) → closes_at h i ≡ true → Judged plan h i
    closed_judged i c = record { closing = c; judged = λ other. second }

    -- V12: "none means no frame closed"
    none_is : DecidedIs plan h None → NoneClosed plan h
    none_is (failed i l x e fine) = none_failed e
    none_is (passed i l x fine e) = absurd (false_true (sym (ap is_none e)))
    none_is (unjudged all e) = λ i l. go i (all i l) (closes_at h i) refl
      where
        go : (i : ℕ) → ¬ Judged plan h i → (t : Bool) → closes_at h i ≡ t → closes_at h i ≡ false
        go i n true c = absurd (n (closed_judged i c))
        go i n false c = c

    pub second_none : DecidedIs plan h None ↔ NoneClosed plan h
    second_none = (none_is, λ n. unjudged (λ k l j. false_true (sym (n k l) ∙ j.closing)) refl)

    -- a broken frame that closes fails
    broken_fails_lem : (i : ℕ) → closes_at h i ≡ true → ¬ (kind_at plan h i ≡ 0) → Fails (AnswerIs plan h) i
    broken_fails_lem i c n = (
      Broken (record { frame = number_at h i; kind = kind_at plan h i }),
      record { closing = c; broken = n; fails = second; frame = refl; kind = refl },
      refl,
    )

    -- a frame that closes and does not fail passes
    closed_fits : (i : ℕ) → closes_at h i ≡ true → ¬ Fails (AnswerIs plan h) i → PassIs plan h i
    closed_fits i c f = go (ℕ_discrete (kind_at plan h i) 0)
      where
        go : Dec (kind_at plan h i ≡ 0) → PassIs plan h i
        go (yes e) = not_failing plan h i (record { closing = c; whole = e }) f
        go (no n) = absurd (f (broken_fails_lem i c n))

    pass_is : DecidedIs plan h Pass → AllFit plan h
    pass_is (failed i l x e fine) = pass_failed e
    pass_is (passed i l x fine e) = record { some = (i, l, x.whole.closing); each = λ k g c. closed_fits k c (fine k g) }
    pass_is (unjudged all e) = absurd (false_true (ap is_none e))

    -- V12: pass: "every closed frame is whole and fits"
    pub second_pass : DecidedIs plan h Pass ↔ AllFit plan h
    second_pass = (pass_is, λ a. passed a.some.0 a.some.1 (a.each _ a.some.1 a.some.2) (λ k l f. calm a k l f) refl)
      where
        calm : AllFit plan h → (k : ℕ) → k < h.packets → ¬ Fails (AnswerIs plan h) k
        calm a k l f =
            let c = fails_closed k f.0 f.1 f.2 in
            quiet (AnswerIs plan h) (answer_unique plan h) k Pass (a.each k l c) refl f

-- ---- the new case

module _ (plan : Plan) (h : History) (b : BrokenFrame) where
  -- packet i closes the broken frame, and no frame before it fails
  abbrev FirstBroken : Type 0
  FirstBroken = (i : ℕ) × (i < h.packets) × BrokenIs plan h i b × ((k : ℕ) → k < i → ¬ Fails (AnswerIs plan h) k)

  first_broken : DecidedIs plan h (Broken b) → FirstBroken
  first_broken (failed i l x e fine) = (i, l, x, fine)
  first_broken (passed i l x fine e) = absurd (false_true (sym (ap has_failed e)))
  first_broken (unjudged all e) = absurd (false_true (sym (ap has_failed e)))

  -- V12: "a case that names frame and kind; the first failing frame decides, broken or not"
  pub broken_is : DecidedIs plan h (Broken b) ↔ FirstBroken
  broken_is = (first_broken, λ x. failed x.0 x.1 x.2 refl x.3)

-- ---- the ways to fail

module _ (plan : Plan) (p : Planned plan) (h : History) (ordered : Climbs h.time h.packets) (buffered : plan.buffered ≡ true) (i : ℕ)
    (inside : i < h.packets) where
  fails_way : Fails (AnswerIs plan h) i → FrameFails plan h i
  fails_way (b, x, e) = go b x e
    where
      go : (b : Buffer) → AnswerIs plan h i b → has_failed b ≡ true → FrameFails plan h i
      go None x e = none_failed e
      go Pass x e = pass_failed e
      go (Under q) x e = dry x.whole x.dry
      go (Over q) x e = overfull x.whole (over_fails plan h i q x)
      go (Broken b) x e = broken x.closing x.broken x.fails

  -- a whole frame that would pass if it did not fail, and cannot pass, fails
  fails_whole : Whole plan h i → (PassIs plan h i → ⊥) → Fails (AnswerIs plan h) i
  fails_whole w other = go (has_failed (answer_at plan h i)) refl
    where
      go : (t : Bool) → has_failed (answer_at plan h i) ≡ t → Fails (AnswerIs plan h) i
      go true e = (answer_at plan h i, answered plan p h ordered buffered i inside, e)
      go false e =
          let calm = quiet (AnswerIs plan h) (answer_unique plan h) i (answer_at plan h i) (answered plan p h ordered buffered i inside) e in
          absurd (other (not_failing plan h i w calm))

  way_fails : FrameFails plan h i → Fails (AnswerIs plan h) i
  way_fails (broken c n s) = broken_fails_lem plan h s i c n
  way_fails (dry w d) = fails_whole w (λ x. x.not_dry d)
  way_fails (overfull w o) = fails_whole w (λ x. x.not_over o)

  -- V8, V12: a frame fails exactly in one of these ways; the edition is asked of broken ones alone
  pub fails_are : Fails (AnswerIs plan h) i ↔ FrameFails plan h i
  fails_are = (fails_way, way_fails)
