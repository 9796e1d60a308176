-- The digits of a number read back as the number, so two numbers never print alike; none but 0 leads with a 0.
-- By recursion on how many digits there may be: each step takes the last digit off.
use Rattle.std.specs.Prelude.{◌≡◌, ◌∷◌, ◌++◌, ◌+◌, ◌-◌, ◌*◌, ◌/◌, ◌%◌, ◌^◌}
use Rattle.laws.specs.Kit.{sym, ap, subst, ◌∙◌, Bool, true, false, List, [], ℕ, zero, suc}
use Rattle.std.specs.Prelude.{◌≤◌, ◌<◌}
use Rattle.laws.specs.Kit.{arith, div-add-mod', mod-lt, le-div_iff_mul-le, dec_lt, ltb, length, ℤ, pos, negsuc, nat_abs}
use Rattle.laws.specs.Fold.{fold}
use Rattle.laws.proofs.Fold.{fold_cut}
use Rattle.laws.specs.Choose.{pick}
use Rattle.text.specs.Decimal.{digits_of, digits, signed, value, Digits, Leads}
use Rattle.text.proofs.Digits.{tenth, one_digit, more_digits, digits_length}

value_more : (ds : List ℕ) (d : ℕ) → value (ds ++ (d ∷ [])) ≡ value ds * 10 + (d - 48)
unfolding fold
value_more ds d = fold_cut (λ x d. x * 10 + (d - 48)) 0 ds (d ∷ [])

value_one : (x : ℕ) → value ((48 + x) ∷ []) ≡ x
unfolding fold
value_one x = omega arith

read_back : (k x : ℕ) → x < 10 ^ suc k → value (digits_of (suc k) x) ≡ x
read_back zero x h = ap value (one_digit 0 x h) ∙ value_one x
read_back (suc k) x h = go (dec_lt x 10) (read_back k (x / 10) (tenth (suc k) x h))
  where
    go : Dec (x < 10) → value (digits_of (suc k) (x / 10)) ≡ x / 10 → value (digits_of (suc (suc k)) x) ≡ x
    go (yes l) ih = ap value (one_digit (suc k) x l) ∙ value_one x
    go (no g) ih =
        let last = value_more (digits_of (suc k) (x / 10)) (48 + x % 10) in
        ap value (more_digits (suc k) x (omega arith)) ∙ last ∙ omega (arith, ih, div-add-mod' x 10)

pub digits_read : (x : ℕ) → x < 10 ^ 20 → value (digits x) ≡ x
digits_read x h = read_back 19 x h

-- hence two numbers with the same digits are one
pub digits_differ : (x y : ℕ) → x < 10 ^ 20 → y < 10 ^ 20 → digits x ≡ digits y → x ≡ y
digits_differ x y h k e = sym (digits_read x h) ∙ ap value e ∙ digits_read y k

-- each byte is one of `0` to `9`
digits_append : (a b : List ℕ) → Digits a → Digits b → Digits (a ++ b)
digits_append [] b p q = q
digits_append (d ∷ ds) b p q = (p.0, p.1, digits_append ds b p.2 q)

all_digits : (k x : ℕ) → Digits (digits_of k x)
unfolding digits_of
all_digits zero x = tt
all_digits (suc k) x = digits_append (pick (ltb x 10) [] (digits_of k (x / 10))) ((48 + x % 10) ∷ []) (go (ltb x 10) (all_digits k (x / 10)))
    (omega arith, omega (arith, mod-lt x {m = 10} (omega arith)), tt)
  where
    go : (t : Bool) → Digits (digits_of k (x / 10)) → Digits (pick t [] (digits_of k (x / 10)))
    go true ih = tt
    go false ih = ih

pub digits_are : (x : ℕ) → Digits (digits x)
digits_are x = all_digits 20 x

-- the first is no `0`, but for the number 0
leads_append : (a b : List ℕ) → Leads a → Leads (a ++ b)
leads_append [] b p = absurd p
leads_append (d ∷ ds) b p = p

leads : (k x : ℕ) → 0 < x → x < 10 ^ suc k → Leads (digits_of (suc k) x)
leads zero x g h = subst Leads (sym (one_digit 0 x h)) (omega arith)
leads (suc k) x g h = go (dec_lt x 10) (λ m. leads k (x / 10) m (tenth (suc k) x h))
  where
    go : Dec (x < 10) → (0 < x / 10 → Leads (digits_of (suc k) (x / 10))) → Leads (digits_of (suc (suc k)) x)
    go (yes l) ih = subst Leads (sym (one_digit (suc k) x l)) (omega arith)
    go (no m) ih =
        let some : 0 < x / 10 = (le-div_iff_mul-le {k = 10} {x = 1} {y = x} (omega arith)).1 (omega arith) in
        subst Leads (sym (more_digits (suc k) x (omega arith))) (leads_append (digits_of (suc k) (x / 10)) ((48 + x % 10) ∷ []) (ih some))

pub digits_lead : (x : ℕ) → 0 < x → x < 10 ^ 20 → Leads (digits x)
digits_lead x g h = leads 19 x g h

-- and there are at most twenty
pub digits_twenty : (x : ℕ) → x < 2 ^ 64 → length (digits x) ≤ 20
digits_twenty x h = digits_length 20 19 x (omega arith)

-- two signed numbers that print alike are one: a minus sign is no digit
no_sign : (x : ℕ) (ds : List ℕ) → ¬ (digits x ≡ 45 ∷ ds)
no_sign x ds e = omega (arith, (subst Digits e (digits_are x)).0)

pub signed_differ : (z w : ℤ) → nat_abs z < 10 ^ 20 → nat_abs w < 10 ^ 20 → signed z ≡ signed w → z ≡ w
signed_differ (pos n) (pos m) h k e = ap pos (digits_differ n m h k e)
signed_differ (pos n) (negsuc m) h k e = absurd (no_sign n (digits (suc m)) e)
signed_differ (negsuc n) (pos m) h k e = absurd (no_sign m (digits (suc n)) (sym e))
signed_differ (negsuc n) (negsuc m) h k e =
    let same : digits (suc n) ≡ digits (suc m) = cc in
    ap negsuc (omega (arith, digits_differ (suc n) (suc m) h k same))
