-- How rows are written, one row's behind the other's: as numbers, as bytes or as lines. A loop that measures packets is proved once for
-- every such way (Running).
use Rattle.std.specs.Prelude.{◌≡◌, ◌∷◌, ◌++◌}
use Rattle.laws.specs.Kit.{refl, sym, ap, ◌∙◌, List, [], append-nil, append_assoc, ℤ}
use Rattle.frame.specs.declared.Row.{Row}
use Rattle.frame.specs.Step.{numbers_of}
use Rattle.timing.specs.Step.{numbers}

pub record Sink (A : Type 0) : Type 0 where
  pub row : Row → List A
  pub write : List Row → List A
  pub none : write [] ≡ []
  pub more : (r : Row) (rs : List Row) → write (r ∷ rs) ≡ row r ++ write rs

module _ {A : Type 0} (w : Sink A) where
  pub one : (r : Row) → w.write (r ∷ []) ≡ w.row r
  one r = w.more r [] ∙ rw w.none (append-nil (w.row r))

  -- two lists of rows, one behind the other
  pub both : (l m : List Row) → w.write (l ++ m) ≡ w.write l ++ w.write m
  both [] m = rw w.none
  both (r ∷ l) m =
      w.more r (l ++ m)
      ∙ ap (λ (x : List A). w.row r ++ x) (both l m)
      ∙ sym (append_assoc (w.row r) (w.write l) (w.write m))
      ∙ sym (ap (λ (x : List A). x ++ w.write m) (w.more r l))

-- the rows' numbers
pub numbers_none : numbers [] ≡ []
unfolding numbers
numbers_none = refl

pub numbers_more : (r : Row) (rs : List Row) → numbers (r ∷ rs) ≡ numbers_of r ++ numbers rs
unfolding numbers
numbers_more r rs = refl

abbrev pub as_numbers : Sink ℤ
as_numbers = record { row = numbers_of; write = numbers; none = numbers_none; more = numbers_more }
