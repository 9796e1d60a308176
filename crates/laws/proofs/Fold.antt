-- A list gone through from the left may be cut anywhere. By the list.
use Rattle.std.specs.Prelude.{◌≡◌, ◌∷◌, ◌++◌, ◌≤◌, ◌<◌}
use Rattle.laws.specs.Kit.{refl, ◌∙◌, List, [], ℕ, zero, suc, arith, length, take, get_or, take-suc}
use Rattle.laws.specs.Kit.{take-length}
use Rattle.laws.specs.Fold.{fold}

module _ {S A : Type 0} (step : S → A → S) where
  -- stepping through a list cut in two is stepping through the whole
  pub fold_cut : (s : S) (l m : List A) → fold step s (l ++ m) ≡ fold step (fold step s l) m
  unfolding fold
  fold_cut s [] m = refl
  fold_cut s (x ∷ l) m = fold_cut (step s x) l m

  -- one more of a list's first elements
  fold_take : (s : S) (l : List A) (d : A) (i : ℕ) → i < length l → fold step s (take (suc i) l) ≡ step (fold step s (take i l)) (get_or l i d)
  unfolding fold
  fold_take s l d i h = rw (take-suc l i d) (fold_cut s (take i l) (get_or l i d ∷ []))

  -- Z i is the state after the first i elements of l, if each step goes from one to the next
  module _ (l : List A) (d : A) (Z : ℕ → S) (up : (i : ℕ) → i < length l → step (Z i) (get_or l i d) ≡ Z (suc i)) where
    pub fold_up_to : (i : ℕ) → i ≤ length l → fold step (Z 0) (take i l) ≡ Z i
    unfolding fold
    fold_up_to zero h = refl
    fold_up_to (suc i) h = fold_take (Z 0) l d i h ∙ rw (fold_up_to i (omega arith)) (up i h)

    -- so at the end
    pub fold_states : fold step (Z 0) l ≡ Z (length l)
    fold_states = rw (take-length l) at (fold_up_to (length l) (omega arith))
