-- Whole numbers that a double holds, by the two ends; and one that came back from its bits is itself.
use Rattle.std.specs.Prelude.{◌^◌, ◌≡◌, ◌≤◌, ◌&&◌}
use Rattle.laws.specs.Kit.{refl, sym, ap, ◌∙◌, subst, Bool, true, arith, le-leb, lt-ltb, T, ℤ}
use Rattle.laws.specs.Kit.{pos, negsuc, nat_abs, le_z}
use lib.Ieee.{binary64, in_float, of_int, of_bits}
use mir.Syntax.{w64}
use mir.Val.{SFits, to_z, of_z}
use mir.Facts.{to_z-of_z}

-- by the two ends
pub by_ends : (z : ℤ) → le_z (negsuc 9007199254740991) z && le_z z (pos 9007199254740992) ≡ in_float binary64 z
unfolding in_float
by_ends (pos n) = refl
by_ends (negsuc n) = grind arith

pub small_exact : (z : ℤ) → nat_abs z ≤ 9007199254740992 → in_float binary64 z ≡ true
unfolding in_float
small_exact (pos n) h = le-leb n (2 ^ 53) h
small_exact (negsuc n) h = lt-ltb n (2 ^ 53) (omega arith)

-- the literal 27000.0 is the double of 27000
pub divisor : of_bits binary64 4673150917443321856 ≡ of_int binary64 (pos 27000)
unfolding of_bits of_int
divisor = refl

pub back : {x : ℤ} {A : Type 0} (f : ℤ → A) → SFits w64 x → f (to_z w64 (of_z w64 x)) ≡ f x
back f h = ap f (to_z-of_z h)

pub holds : {b : Bool} → b ≡ true → T b
holds e = subst (λ (b : Bool). T b) (sym e) tt

-- what `is_exact` tells of a number that came to it as bits
pub told : {x : ℤ} {t b : Bool} → SFits w64 x → t ≡ in_float binary64 (to_z w64 (of_z w64 x)) → t ≡ b → in_float binary64 x ≡ b
told h e f = sym (back (in_float binary64) h) ∙ sym e ∙ f
