-- Where a text is a number or a word and then a space, both can be told: numbers and words hold no space, so in two equal texts they
-- end at the same byte.
use Rattle.std.specs.Prelude.{◌≡◌, ◌∷◌, ◌++◌, ◌≤◌, ◌<◌, ◌^◌}
use Rattle.laws.specs.Kit.{refl, List, [], ℕ, suc, arith, ℤ, pos, negsuc}
use Rattle.text.specs.Decimal.{digits, signed, Digits}
use Rattle.text.proofs.Read.{digits_are, digits_differ}

-- each byte is above the space
abbrev pub Solid : List ℕ → Type 0
Solid [] = Unit
Solid (d ∷ ds) = (32 < d) × Solid ds

-- the first byte, if any, is not
abbrev pub Stops : List ℕ → Type 0
Stops [] = Unit
Stops (d ∷ ds) = d ≤ 32

pub head_same : {a b : ℕ} {xs ys : List ℕ} → a ∷ xs ≡ b ∷ ys → a ≡ b
head_same e = cc

pub tail_same : {a b : ℕ} {xs ys : List ℕ} → a ∷ xs ≡ b ∷ ys → xs ≡ ys
tail_same e = cc

-- of two equal texts, each a solid part and then a stop, the solid parts are equal and so is what is behind them
pub part_same : (a b r s : List ℕ) → Solid a → Solid b → Stops r → Stops s → a ++ r ≡ b ++ s → (a ≡ b) × (r ≡ s)
part_same [] [] r s p q u v e = (refl, e)
part_same [] (y ∷ b) [] s p q u v e = let z : ◌≡◌ {A = ℕ} 0 1 = cc in absurd (omega arith)
part_same [] (y ∷ b) (x ∷ r) s p q u v e = absurd (omega (arith, head_same e, q.0))
part_same (x ∷ a) [] r [] p q u v e = let z : ◌≡◌ {A = ℕ} 0 1 = cc in absurd (omega arith)
part_same (x ∷ a) [] r (y ∷ s) p q u v e = absurd (omega (arith, head_same e, p.0))
part_same (x ∷ a) (y ∷ b) r s p q u v e =
    let rest = part_same a b r s p.1 q.1 u v (tail_same e) in
    let first : x ≡ y = head_same e in
    let behind : a ≡ b = rest.0 in
    (cc, rest.1)

-- one word before both falls away
pub after : (w r s : List ℕ) → w ++ r ≡ w ++ s → r ≡ s
after [] r s e = e
after (x ∷ w) r s e = after w r s (tail_same e)

digits_solid : (ds : List ℕ) → Digits ds → Solid ds
digits_solid [] p = tt
digits_solid (d ∷ ds) p = (omega (arith, p.0), digits_solid ds p.2)

number_solid : (x : ℕ) → Solid (digits x)
number_solid x = digits_solid (digits x) (digits_are x)

pub number_same : (x y : ℕ) (r s : List ℕ) → x < 10 ^ 20 → y < 10 ^ 20 → Stops r → Stops s → digits x ++ r ≡ digits y ++ s
    → (x ≡ y) × (r ≡ s)
number_same x y r s h k u v e =
    let both = part_same (digits x) (digits y) r s (number_solid x) (number_solid y) u v e in
    (digits_differ x y h k both.0, both.1)

pub signed_solid : (z : ℤ) → Solid (signed z)
signed_solid (pos n) = number_solid n
signed_solid (negsuc n) = (omega arith, number_solid (suc n))
