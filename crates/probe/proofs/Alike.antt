-- The comparison of two lists, place by place from the front: it is true of equal lists and of no others.
use Rattle.std.specs.Prelude.{◌≡◌, ◌&&◌, ◌∷◌, ◌+◌, ◌<◌}
use Rattle.laws.specs.Kit.{refl, ap, Bool, true, false, List, [], ℕ, eqb, length, drop, get_or, drop-cons}
use Rattle.laws.specs.Kit.{drop-length, eq-eqb, ne_eqb, eqb-true}
use native.Mathlib.Numerals.{add-one}
use Rattle.laws.proofs.Choose.{false_true}
use Rattle.probe.specs.Words.{same}

pub alike : (a : List ℕ) → same a a ≡ true
unfolding same
alike [] = refl
alike (x ∷ a) = rw (eq-eqb x x refl) (alike a)

both : (s t : Bool) → (s && t) ≡ true → (s ≡ true) × (t ≡ true)
both true t e = (refl, e)
both false t e = absurd (false_true e)

pub alike_only : (a b : List ℕ) → same a b ≡ true → a ≡ b
unfolding same
alike_only [] [] e = refl
alike_only [] (y ∷ b) e = absurd (false_true e)
alike_only (x ∷ a) [] e = absurd (false_true e)
alike_only (x ∷ a) (y ∷ b) e =
    let q = both (eqb x y) (same a b) e in
    let here = eqb-true x y q.0 in
    let rest = alike_only a b q.1 in
    cc

pub unequal : (a b : List ℕ) → (length a ≡ length b → ⊥) → same a b ≡ false
unequal a b h = go (same a b) refl
  where
    go : (t : Bool) → same a b ≡ t → t ≡ false
    go true e = absurd (h (ap length (alike_only a b e)))
    go false e = refl

-- one turn of a loop over both
module _ (a b : List ℕ) (k : ℕ) (p : k < length a) (q : k < length b) where
  turn : same (drop k a) (drop k b) ≡ (eqb (get_or a k 0) (get_or b k 0) && same (drop (k + 1) a) (drop (k + 1) b))
  unfolding same
  turn = rw (drop-cons a k 0 p, drop-cons b k 0 q, add-one k)

  pub alike_here : get_or a k 0 ≡ get_or b k 0 → same (drop (k + 1) a) (drop (k + 1) b) ≡ same (drop k a) (drop k b)
  alike_here e = rw (turn, eq-eqb (get_or a k 0) (get_or b k 0) e)

  pub differ_here : (get_or a k 0 ≡ get_or b k 0 → ⊥) → same (drop k a) (drop k b) ≡ false
  differ_here n = rw (turn, ne_eqb (get_or a k 0) (get_or b k 0) n)

-- and its end
pub alike_ends : (a b : List ℕ) → length a ≡ length b → same (drop (length a) a) (drop (length a) b) ≡ true
unfolding same
alike_ends a b e = rw (drop-length a, e, drop-length b)
