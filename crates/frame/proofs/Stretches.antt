-- The frames are exactly the stretches between markers: where a frame began is one
-- place, after a marker and with none since; and it is there from the second marker on.
use Rattle.std.specs.Prelude.{◌≡◌, ◌+◌, ◌-◌, ◌≤◌, ◌<◌}
use Rattle.laws.specs.Kit.{refl, sym, ◌∙◌, Bool, true, false, ℕ, zero, suc, pred, arith, not-suc-le-zero}
use Rattle.laws.specs.Kit.{add-zero, ltb, ltb-true, lt-ltb}
use Rattle.laws.specs.Choose.{pick}
use Rattle.laws.proofs.Choose.{false_true, up_to}
use Rattle.laws.specs.Count.{count}
use Rattle.frame.specs.Paper.{History, begun_at, since, Began}
use Rattle.frame.specs.ByPlace.{marked_time}
use Rattle.frame.specs.declared.Plan.{Plan}

module _ (h : History) where
  -- P5: the frame began after the last marker
  pub since_is : (i : ℕ) → Began h i (since h i)
  unfolding since
  since_is zero = record { within = omega arith; clear = λ k l q. absurd (not-suc-le-zero q); after = λ q. absurd (not-suc-le-zero q) }
  since_is (suc i) = go (h.marked i) refl (since_is i)
    where
      go : (t : Bool) → h.marked i ≡ t → Began h i (since h i) → Began h (suc i) (pick t (suc i) (since h i))
      go true e ih = record { within = omega arith; clear = λ k l q. absurd (omega arith); after = λ q. e }
      go false e ih = record {
        within = omega (arith, ih.within);
        clear = λ k l q. up_to (λ m. since h i ≤ m → h.marked m ≡ false) i (λ m g w. ih.clear m w g) (λ w. e) k q l;
        after = ih.after;
      }

  pub since_unique : (i s t : ℕ) → Began h i s → Began h i t → s ≡ t
  since_unique i s t p q =
      let not_less : ¬ (s < t) = λ l. false_true
      (sym (p.clear (pred t) (omega arith) (omega (arith, q.within))) ∙ q.after (omega arith)) in
      let not_more : ¬ (t < s) = λ l. false_true
      (sym (q.clear (pred s) (omega arith) (omega (arith, p.within))) ∙ p.after (omega arith)) in
      omega arith

  -- one packet more in the same stretch
  pub one_more : (i : ℕ) → suc i - since h i ≡ suc (i - since h i)
  one_more i = omega (arith, (since_is i).within)

  -- where a marker came before, a frame began after one
  marker_since : (i : ℕ) → 0 < count h.marked i → 0 < since h i
  unfolding since count
  marker_since zero l = l
  marker_since (suc i) l = go (h.marked i) (marker_since i) l
    where
      go : (t : Bool) → (0 < count h.marked i → 0 < since h i) → 0 < count h.marked i + pick t 1 0 → 0 < pick t (suc i) (since h i)
      go true ih l = omega arith
      go false ih l = ih (omega arith)

  pub begun_since : (i : ℕ) → begun_at h i ≡ true → 0 < since h i
  begun_since i e = marker_since i (ltb-true 0 (count h.marked i) e)

  -- once over it stays so, and a marker makes it so
  pub begun_next : (i : ℕ) → begun_at h (suc i) ≡ pick (h.marked i) true (begun_at h i)
  unfolding count
  begun_next i = go (h.marked i)
    where
      go : (t : Bool) → ltb 0 (count h.marked i + pick t 1 0) ≡ pick t true (ltb 0 (count h.marked i))
      go true = lt-ltb 0 (count h.marked i + 1) (omega arith)
      go false = rw add-zero

  -- the last marker packet before packet i stands just before the frame that it is in
  pub marked_time_lem : (plan : Plan) (i : ℕ) → 0 < since h i → marked_time plan h i ≡ h.time (pred (since h i))
  unfolding since marked_time
  marked_time_lem plan zero l = absurd (not-suc-le-zero l)
  marked_time_lem plan (suc i) l = go (h.marked i) (marked_time_lem plan i) l
    where
      go : (t : Bool) → (0 < since h i → marked_time plan h i ≡ h.time (pred (since h i))) → 0 < pick t (suc i) (since h i)
          → pick t (h.time i) (marked_time plan h i) ≡ h.time (pred (pick t (suc i) (since h i)))
      go true ih l = refl
      go false ih l = ih l
