-- The contract of the C call on a capture, a record of equations, admits one number and one content of the lent bytes. The other contracts
-- are equations, or what a run gives (timing's `ran_unique`).
use Rattle.std.specs.Prelude.{◌≡◌}
use Rattle.laws.specs.Kit.{List, ℕ}
use Rattle.laws.proofs.Unique.{one_answer}
use Rattle.timing.specs.declared.Stated.{Stated}
use Rattle.film.specs.Step.{CaptureGives}

pub captures_unique : (s : Stated) (port offset : ℕ) (capture out : List ℕ) (a b : ℕ) (p q : List ℕ)
    → CaptureGives s port offset capture out a p → CaptureGives s port offset capture out b q → (a ≡ b) × (p ≡ q)
captures_unique s port offset capture out a b p q x y =
    (one_answer x.number_is y.number_is, one_answer x.bytes_are y.bytes_are)
