-- Elements put into a list: some and then more behind them, a loop that puts one a turn, and a loop that has put some of a whole.
use Rattle.std.specs.Prelude.{◌≡◌, ◌∷◌, ◌++◌, ◌+◌, ◌≤◌, ◌<◌}
use Rattle.laws.specs.Kit.{refl, sym, ap, ◌∙◌, List, [], append_assoc, ℕ, suc, arith, add-zero}
use Rattle.laws.specs.Kit.{zero-add, length, take, drop, set, get_or, length-append, drop-cons, drop-length, drop_at, take_at, sets}
use Rattle.laws.specs.Kit.{sets-eq, length-sets}
use native.Mathlib.Numerals.{add-one}
use Rattle.laws.proofs.Unique.{one_answer}
use Rattle.laws.specs.Lay.{Put, Putting}

module _ {A : Type 0} where
  -- some, and then more behind them
  pub sets_join : (u v d : List A) (at : ℕ) → sets d at (u ++ v) ≡ sets (sets d at u) (at + length u) v
  sets_join [] v d at = rw (add-zero at)
  sets_join (b ∷ u) v d at =
      let e : suc at + length u ≡ at + suc (length u) = omega arith in
      sets_join u v (set d at b) (suc at) ∙ rw e

  -- from the front, where they fit: they, and what stood behind
  pub sets_front : (xs l : List A) → length xs ≤ length l → sets l 0 xs ≡ xs ++ drop (length xs) l
  sets_front xs l h = sets-eq xs l 0 (rw (zero-add (length xs)) h) ∙ ap (λ (n : ℕ). xs ++ drop n l) (zero-add (length xs))

  -- and a part of them stands behind those before it
  pub part_stands : (xs ys zs l : List A) → length (xs ++ (ys ++ zs)) ≤ length l
      → take (length ys) (drop (length xs) (sets l 0 (xs ++ (ys ++ zs)))) ≡ ys
  part_stands xs ys zs l h =
      let behind = drop (length (xs ++ (ys ++ zs))) l in
      rw (sets_front (xs ++ (ys ++ zs)) l h, append_assoc xs (ys ++ zs) behind, append_assoc ys zs behind)
      (ap (take (length ys)) (drop_at xs (ys ++ (zs ++ behind)) (length xs) refl) ∙ take_at ys (zs ++ behind) (length ys) refl)

  -- one turn of a loop that puts the elements of a list from k on
  pub sets_turn : (at k : ℕ) (xs l : List A) (d : A) → k < length xs
      → sets (set l (at + k) (get_or xs k d)) (at + (k + 1)) (drop (k + 1) xs) ≡ sets l (at + k) (drop k xs)
  sets_turn at k xs l d h =
      let next : at + (k + 1) ≡ suc (at + k) = omega arith in
      ap (λ (j : ℕ). sets (set l (at + k) (get_or xs k d)) j (drop (k + 1) xs)) next ∙ sym (rw (drop-cons xs k d h, add-one k))

  -- and its end: nothing is left to put
  pub sets_done : (at k : ℕ) (xs l : List A) {r : List A} → k ≡ length xs → sets l (at + k) (drop k xs) ≡ r → l ≡ r
  sets_done at k xs l e q = sym (rw (e, drop-length xs)) ∙ q

  pub put_length : {xs before after : List A} {at then : ℕ} → Put xs at before then after → length after ≡ length before
  put_length {xs} {before} {at = at} p = ap length p.there ∙ length-sets before at xs

  -- one place and one content meet it
  pub put_unique : {xs before p q : List A} {at a b : ℕ} → Put xs at before a p → Put xs at before b q → (a ≡ b) × (p ≡ q)
  put_unique x y = (one_answer x.next y.next, one_answer x.there y.there)

  pub put_none : (at : ℕ) (before : List A) → Put [] at before at before
  put_none at before = record { next = sym (add-zero at); there = refl }

  pub putting_begins : (whole : List A) (from : ℕ) (out : List A) → Putting whole from out whole from out
  putting_begins whole from out = record { place = refl; stored = refl; same_length = refl }

  module _ {whole out₀ out : List A} {from at : ℕ} where
    -- some more are put
    pub putting_on : {xs left out' : List A} {at' : ℕ} → Putting whole from out₀ (xs ++ left) at out → Put xs at out at' out'
        → Putting whole from out₀ left at' out'
    putting_on {xs} {left} {out'} {at'} k p = record {
      place = omega (arith, k.place, p.next, length-append xs left);
      stored = rw (p.there, p.next) (sym (sets_join xs left out at) ∙ k.stored);
      same_length = put_length p ∙ k.same_length;
    }

    -- nothing is left: the whole is put
    pub putting_ends : Putting whole from out₀ [] at out → Put whole from out₀ at out
    putting_ends k = record { next = sym (add-zero at) ∙ k.place; there = k.stored }
