-- A list gone through from the left.
use Rattle.std.specs.Prelude.{◌∷◌}
use Rattle.laws.specs.Kit.{List, []}

module _ {S A : Type 0} (step : S → A → S) where
  unfoldable pub fold : S → List A → S
  fold s [] = s
  fold s (x ∷ xs) = fold (step s x) xs
