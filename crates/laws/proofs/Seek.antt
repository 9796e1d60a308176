-- The lowest by recursion meets the predicate, and one number only does. By the numbers below which it is sought.
use Rattle.std.specs.Prelude.{◌≡◌, ◌&&◌, ◌≤◌, ◌<◌}
use Rattle.laws.specs.Kit.{refl, sym, ◌∙◌, subst, Bool, true, false, not, and-false, ℕ, zero, suc, arith}
use Rattle.laws.specs.Kit.{not-suc-le-zero, eqb, ltb, ltb-true, ltb-false, lt-ltb, le-ltb, ne_eqb, not-true, not-false}
use Rattle.laws.specs.Choose.{pick}
use Rattle.laws.proofs.Choose.{false_true, up_to}
use Rattle.laws.specs.Seek.{Lowest, seek, hit}

pub lowest_unique : (p : ℕ → Bool) (m j k : ℕ) → Lowest p m j → Lowest p m k → j ≡ k
lowest_unique p m j k x y =
    let not_less : ¬ (j < k) = λ h. false_true (sym (y.before j h) ∙ x.here (omega (arith, y.within))) in
    let not_more : ¬ (k < j) = λ h. false_true (sym (x.before k h) ∙ y.here (omega (arith, x.within))) in
    omega arith

pub seek_is : (p : ℕ → Bool) (m : ℕ) → Lowest p m (seek p m)
unfolding seek
seek_is p zero = record { within = omega arith; before = λ i h. absurd (not-suc-le-zero h); here = λ h. absurd (not-suc-le-zero h) }
seek_is p (suc m) = go (ltb (seek p m) m) refl (p m) refl (seek_is p m)
  where
    go : (t : Bool) → ltb (seek p m) m ≡ t → (v : Bool) → p m ≡ v → Lowest p m (seek p m)
        → Lowest p (suc m) (pick t (seek p m) (pick v m (suc m)))
    go true e v f ih = record { within = omega (arith, ih.within); before = ih.before; here = λ h. ih.here (ltb-true (seek p m) m e) }
    go false e true f ih =
        let none_yet : seek p m ≡ m = omega (arith, ltb-false (seek p m) m e, ih.within) in
        record { within = omega arith; before = λ i h. ih.before i (omega arith); here = λ h. f }
    go false e false f ih =
        let none_yet : seek p m ≡ m = omega (arith, ltb-false (seek p m) m e, ih.within) in
        record {
          within = omega arith;
          before = up_to (λ k. p k ≡ false) m (λ k l. ih.before k (omega arith)) f;
          here = λ h. absurd
              (omega arith);
        }

-- two tests that agree below m have one lowest there
pub seek_same : (p q : ℕ → Bool) (m : ℕ) → ((i : ℕ) → i < m → p i ≡ q i) → seek p m ≡ seek q m
unfolding seek
seek_same p q zero h = refl
seek_same p q (suc m) h = rw (seek_same p q m (λ i l. h i (omega arith)), h m (omega arith))

-- ---- with 0 where none passes

-- where one does it is the lowest
pub hit_found : (p : ℕ → Bool) (m : ℕ) → seek p m < m → hit p m ≡ seek p m
hit_found p m l = rw (lt-ltb (seek p m) m l)

pub hit_none : (p : ℕ → Bool) (m : ℕ) → m ≤ seek p m → hit p m ≡ 0
hit_none p m l = rw (le-ltb (seek p m) m l)

pub hit_same : (p q : ℕ → Bool) (m : ℕ) → ((i : ℕ) → i < m → p i ≡ q i) → hit p m ≡ hit q m
hit_same p q m h = rw (seek_same p q m h)

-- one number more: it is the lowest where it passes and none did
pub hit_next : (p : ℕ → Bool) (m : ℕ) (none : Bool) → (none ≡ true → m ≤ seek p m) → (none ≡ false → seek p m < m)
    → hit p (suc m) ≡ pick (p m && none) m (hit p m)
unfolding seek
hit_next p m none clear found = go none (p m) refl refl
  where
    go : (n v : Bool) → none ≡ n → p m ≡ v → hit p (suc m) ≡ pick (v && n) m (hit p m)
    go true true e f =
        let l = clear e in
        rw (le-ltb (seek p m) m l, f, lt-ltb m (suc m) (omega arith))
    go true false e f =
        let l = clear e in
        rw (le-ltb (seek p m) m l, f, le-ltb (suc m) (suc m) (omega arith))
    go false v e f =
        let l = found e in
        rw (lt-ltb (seek p m) m l, and-false v, lt-ltb (seek p m) (suc m) (omega arith))

-- where 0 itself never passes, 0 tells that none does
module _ (p : ℕ → Bool) (m : ℕ) (zero_fails : p 0 ≡ false) where
  hit_some : seek p m < m → 0 < seek p m
  hit_some l =
      let no : ¬ (seek p m ≡ 0) = λ e. false_true (sym zero_fails ∙ subst (λ (j : ℕ). p j ≡ true) e ((seek_is p m).here l)) in
      omega arith

  pub hit_tells : eqb (hit p m) 0 ≡ not (ltb (seek p m) m)
  hit_tells = go (ltb (seek p m) m) refl
    where
      go : (t : Bool) → ltb (seek p m) m ≡ t → eqb (pick t (seek p m) 0) 0 ≡ not t
      go true e = ne_eqb (seek p m) 0 (λ z. omega (arith, hit_some (ltb-true (seek p m) m e)))
      go false e = refl

  -- so the step may ask what is kept
  pub hit_on : hit p (suc m) ≡ pick (p m && eqb (hit p m) 0) m (hit p m)
  hit_on = hit_next p m (eqb (hit p m) 0)
      (λ e. ltb-false (seek p m) m (not-true _ (sym hit_tells ∙ e))) (λ e. ltb-true (seek p m) m (not-false _ (sym hit_tells ∙ e)))
