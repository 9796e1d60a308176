-- Elements put into a list from a place on, which is the kit's `sets`; and of a whole, what is left to put.
use Rattle.std.specs.Prelude.{◌≡◌, ◌+◌}
use Rattle.laws.specs.Kit.{List, ℕ}
use Rattle.laws.specs.Kit.{length, sets}

-- some put at a place: where the next go, and what stands there then
pub record Put {A : Type 0} (xs : List A) (at : ℕ) (before : List A) (then : ℕ) (after : List A) : Type 0 where
  pub next : then ≡ at + length xs
  pub there : after ≡ sets before at xs

-- of a whole that is put from a place on, so much is left to put, from another: putting that is putting the whole
pub record Putting {A : Type 0} (whole : List A) (from : ℕ) (out₀ left : List A) (at : ℕ) (out : List A) : Type 0 where
  pub place : at + length left ≡ from + length whole
  pub stored : sets out at left ≡ sets out₀ from whole
  pub same_length : length out ≡ length out₀
