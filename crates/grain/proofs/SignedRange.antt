-- Signed 64-bit numbers that hold a difference of naturals: that it fits, and that it is read back as it was.
use Rattle.std.specs.Prelude.{◌-◌, ◌^◌, ◌≤◌, ◌<◌, ◌≡◌}
use Rattle.laws.specs.Kit.{ℕ, suc, sym, ap, ◌∙◌, subst, arith, true, false, le-ltb}
use Rattle.std.specs.Prelude.{◌-ℤ◌}
use Rattle.laws.specs.Kit.{leb-false, T, le_z, non_neg, mag, ℤ, pos, negsuc, sub_ℕ, nat_abs}
use mir.Syntax.{w64}
use mir.Val.{Fits, SFits, to_z, of_z}
use mir.Facts.{to_z-of_z, sfits_to_z, Fits-of_z}
use Rattle.laws.specs.Differ.{Differ}

pub not_below : (a b : ℕ) → b ≤ a → sub_ℕ a b ≡ pos (a - b)
not_below a b h = simp (le-ltb a b h)

-- a difference of two numbers below 2^63 fits
pub differ_fits : (z : ℤ) (a b : ℕ) → Differ z a b → a < 2 ^ 63 → b < 2 ^ 63 → SFits w64 z
differ_fits (pos n) a b d h k = record { sfits = omega arith }
differ_fits (negsuc n) a b d h k = record { sfits = omega arith }

-- what is read back of a difference of two numbers that were read back
module _ (a b : ℤ) (ha : SFits w64 a) (hb : SFits w64 b) where
  both_back : to_z w64 (of_z w64 a) -ℤ to_z w64 (of_z w64 b) ≡ a -ℤ b
  both_back = ap (λ (x : ℤ). x -ℤ to_z w64 (of_z w64 b)) (to_z-of_z ha) ∙ ap (λ (y : ℤ). a -ℤ y) (to_z-of_z hb)

  pub less_fits : SFits w64 (a -ℤ b) → SFits w64 (to_z w64 (of_z w64 a) -ℤ to_z w64 (of_z w64 b))
  less_fits h = rw both_back h

  pub less_is : SFits w64 (a -ℤ b) → to_z w64 (of_z w64 (to_z w64 (of_z w64 a) -ℤ to_z w64 (of_z w64 b))) ≡ a -ℤ b
  less_is h = ap (λ (z : ℤ). to_z w64 (of_z w64 z)) both_back ∙ to_z-of_z h

-- a number that was read back from its bits fits as it did
pub back_fits : {x : ℤ} → SFits w64 x → SFits w64 (to_z w64 (of_z w64 x))
back_fits f = sfits_to_z (Fits-of_z f)

-- one that is not below 0 is its own bits
pub plain_cast : (z : ℤ) → SFits w64 z → le_z (pos 0) z ≡ true → T (non_neg z) × Fits w64 (nat_abs z)
plain_cast (pos n) f h = (tt, record { fits = omega (arith, f.sfits) })
plain_cast (negsuc n) f h = let z : ◌≡◌ {A = ℕ} 0 1 = cc in absurd (omega arith)

-- of one below 0, −1 less it is what is left of the bits up to all ones
flipped : (z : ℤ) → le_z (pos 0) z ≡ false → negsuc 0 -ℤ z ≡ pos (mag z)
flipped (pos n) h = absurd (omega (arith, leb-false 0 n h))
flipped (negsuc n) h = not_below (suc n) 1 (omega arith) ∙ ap pos (omega arith)

module _ (z : ℤ) (f : SFits w64 z) (h : le_z (pos 0) z ≡ false) where
  pub flip_fits : SFits w64 (negsuc 0 -ℤ z)
  flip_fits = rw (flipped z h) (record { sfits = f.sfits })

  flip_back : to_z w64 (of_z w64 (negsuc 0 -ℤ z)) ≡ pos (mag z)
  flip_back = to_z-of_z flip_fits ∙ flipped z h

  pub flip_cast : T (non_neg (to_z w64 (of_z w64 (negsuc 0 -ℤ z)))) × Fits w64 (nat_abs (to_z w64 (of_z w64 (negsuc 0 -ℤ z))))
  flip_cast = subst (λ (y : ℤ). T (non_neg y) × Fits w64 (nat_abs y)) (sym flip_back) (tt, record { fits = omega (arith, f.sfits) })

  pub flip_size : nat_abs (to_z w64 (of_z w64 (negsuc 0 -ℤ z))) ≡ mag z
  flip_size = ap nat_abs flip_back
