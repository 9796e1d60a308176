-- The rest of a slice as a part of it.
use Rattle.std.specs.Prelude.{◌≡◌, ◌-◌}
use Rattle.laws.specs.Kit.{List, ℕ, length, take, drop}
use Rattle.std.proofs.lemmas.List.{take_rest}

pub rest_all : (s : List ℕ) (at : ℕ) → take (length s - at) (drop at s) ≡ drop at s
rest_all s at = take_rest s at
