-- The words of a call, one after the other: the number at a place stands there.
use Rattle.std.specs.Prelude.{◌≡◌, ◌+◌, ◌≤◌, ◌<◌, Result, Ok, Err, Some}
use Rattle.std.specs.Result.{IfOk, result_unwrap_or}
use Rattle.laws.specs.Kit.{List, ℕ, arith, get_or}
use Rattle.vcapture.specs.Asking.{StandsAt}

-- an answer of some bytes, or of none where there is no answer
pub within_or_none : {E : Type 0} (m k : ℕ) (r : Result ℕ E) → IfOk r (λ n. n ≤ m) → k ≡ result_unwrap_or r 0 → k ≤ m
within_or_none m k (Ok n) h e = omega (arith, h, e)
within_or_none m k (Err q) h e = omega (arith, e)

-- so many numbers stand at the first places
abbrev pub Stand : List ℕ → ℕ → Type 0
Stand numbers k = (j : ℕ) → j < k → StandsAt (j + 1) (Some (get_or numbers j 0))
