-- The count of instants: k is at most it exactly when instant k is at most e; and it never falls as time goes on.
use Rattle.std.specs.Prelude.{◌*◌, ◌≤◌, ◌<◌, ◌↔◌}
use Rattle.laws.specs.Kit.{ℕ, le-div_iff_mul-le, div-mul-le_self, le_trans, mul-le-mul_right}
use Rattle.grain.specs.Paper.{InstantBy, instants}

module _ (num den : ℕ) (p : 0 < num) where
  -- E1: as many as are up to e, with no fraction made
  pub instants_are : (k e : ℕ) → k ≤ instants e num den ↔ InstantBy num den k e
  instants_are k e = le-div_iff_mul-le p

  pub instants_grow : (e later : ℕ) → e ≤ later → instants e num den ≤ instants later num den
  instants_grow e later h = (le-div_iff_mul-le p).1 (le_trans (div-mul-le_self (e * den) num) (mul-le-mul_right den h))
