-- Where a frame began tells its packets: a marker stands just before it and none from it up to the marker that closes it. So it is never
-- the first place of the history, and a later frame began after that marker.
use Rattle.std.specs.Prelude.{◌≡◌, ◌↔◌, ◌&&◌, ◌≤◌, ◌<◌}
use Rattle.laws.specs.Kit.{refl, sym, ap, ◌∙◌, Bool, true, false, ℕ, suc, pred, arith, lt-ltb}
use Rattle.laws.proofs.Choose.{false_true}
use Rattle.laws.proofs.Every.{and_left, and_right}
use Rattle.laws.specs.Count.{count}
use Rattle.laws.proofs.Count.{count_some}
use Rattle.frame.specs.Paper.{History, begun_at, closes_at, since, InFrame}
use Rattle.frame.proofs.Stretches.{since_is, since_unique, begun_since}

and_true : (b : Bool) → (b && true) ≡ b
and_true true = refl
and_true false = refl

module _ (h : History) where
  -- a packet that closes a frame is a marker
  marks : (i : ℕ) → closes_at h i ≡ true → h.marked i ≡ true
  marks i c = and_left (h.marked i) (begun_at h i) c

  -- behind a marker the lead-in is over
  over : (i k : ℕ) → h.marked i ≡ true → i < k → begun_at h k ≡ true
  over i k m l = lt-ltb 0 (count h.marked k) (count_some h.marked i k l m)

  -- V10: never 0, since a marker came before
  pub began_after : (i : ℕ) → closes_at h i ≡ true → 0 < since h i
  began_after i c = begun_since h i (and_right (h.marked i) (begun_at h i) c)

  -- V10: and the place of a later frame lies behind the marker of an earlier one
  pub began_later : (i j : ℕ) → closes_at h i ≡ true → i < j → i < since h j
  began_later i j c l =
      let not_before : ¬ (since h j ≤ i) = λ w. false_true (sym ((since_is h j).clear i w l) ∙ marks i c) in
      omega arith

  -- V10: where none closes between, it is the very next place
  pub began_next : (i j : ℕ) → closes_at h i ≡ true → i < j → ((k : ℕ) → i < k → k < j → closes_at h k ≡ false) → since h j ≡ suc i
  began_next i j c l none = since_unique h j (since h j) (suc i) (since_is h j)
      (record { within = l; clear = λ k g b. not_marked k g (none k g b); after = λ g. marks i c })
    where
      not_marked : (k : ℕ) → i < k → closes_at h k ≡ false → h.marked k ≡ false
      not_marked k g e = sym (and_true (h.marked k)) ∙ sym (ap (λ (b : Bool). h.marked k && b) (over i k (marks i c) g)) ∙ e

  module _ (i : ℕ) (c : closes_at h i ≡ true) where
    -- the marker before the frame
    before : h.marked (pred (since h i)) ≡ true
    before = (since_is h i).after (began_after i c)

    inside : (k : ℕ) → InFrame h i k → (since h i ≤ k) × (k ≤ i)
    inside k f =
        let not_before : ¬ (k < since h i) = λ w.
        false_true (sym (f.clear (pred (since h i)) (omega arith) (omega (arith, (since_is h i).within))) ∙ before) in
        (omega arith, f.up_to)

    from_there : (k : ℕ) → (since h i ≤ k) × (k ≤ i) → InFrame h i k
    from_there k w = record {
      begun = over (pred (since h i)) k before (omega (arith, began_after i c, w.0));
      closes = marks i c;
      up_to = w.1;
      clear = λ m l g. (since_is h i).clear m (omega (arith, w.0)) g;
    }

    -- V10: the frame holds exactly the packets from there up to the marker that closes it
    pub frame_holds : (k : ℕ) → InFrame h i k ↔ ((since h i ≤ k) × (k ≤ i))
    frame_holds k = (inside k, from_there k)
