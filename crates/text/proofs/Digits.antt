-- What the recursion of `put_number` puts is the number's digits: room for more digits than it has changes nothing.
-- By recursion on that room.
use Rattle.std.specs.Prelude.{◌≡◌, ◌∷◌, ◌++◌, ◌+◌, ◌/◌, ◌%◌, ◌^◌, ◌≤◌, ◌<◌}
use Rattle.laws.specs.Kit.{refl, sym, ap, ◌∙◌, Bool, true, false, List, [], ℕ, zero, suc}
use Rattle.laws.specs.Kit.{arith, pow-suc, div-lt_iff_lt-mul, mod-eq_of_lt, ltb, length, set, length-append, ltb-false, lt-ltb}
use Rattle.laws.specs.Kit.{le-ltb}
use Rattle.laws.specs.Choose.{pick}
use Rattle.text.specs.Decimal.{digits_by, digits_of, digits}
use Rattle.text.specs.Lines.{Part}
use Rattle.text.proofs.Parts.{part_then, part_is, part_kept, part_byte}

-- a tenth of a number has one digit less
pub tenth : (k x : ℕ) → x < 10 ^ suc k → x / 10 < 10 ^ k
tenth k x h = (div-lt_iff_lt-mul {k = 10} {x = x} {y = 10 ^ k} (omega arith)).1 (rw (pow-suc 10 k) at h)

-- with room for one digit more a number has the same
more_room : (k x : ℕ) → x < 10 ^ suc k → digits_of (suc (suc k)) x ≡ digits_of (suc k) x
unfolding digits_of
more_room zero x h = rw (lt-ltb x 10 h)
more_room (suc k) x h = ap (digits_by x) (more_room k (x / 10) (tenth (suc k) x h))

pub one_digit : (k x : ℕ) → x < 10 → digits_of (suc k) x ≡ (48 + x) ∷ []
unfolding digits_of
one_digit k x h = rw (lt-ltb x 10 h, mod-eq_of_lt h)

pub more_digits : (k x : ℕ) → 10 ≤ x → digits_of (suc k) x ≡ digits_of k (x / 10) ++ ((48 + x % 10) ∷ [])
unfolding digits_of
more_digits k x g = rw (le-ltb x 10 g)

pub digits_one : (x : ℕ) → x < 10 → digits x ≡ (48 + x) ∷ []
digits_one x h = one_digit 19 x h

pub digits_more : (x : ℕ) → 10 ≤ x → x < 10 ^ 20 → digits x ≡ digits (x / 10) ++ ((48 + x % 10) ∷ [])
digits_more x g h = more_digits 19 x g ∙ ap (λ (l : List ℕ). l ++ ((48 + x % 10) ∷ [])) (sym (more_room 18 (x / 10) (tenth 19 x h)))

-- a number below 10^k has at most k digits, and each number has one
pub digits_length : (most k x : ℕ) → x < 10 ^ suc k → length (digits_of most x) ≤ suc k
unfolding digits_of
digits_length zero k x h = omega arith
digits_length (suc most) k x h = go (ltb x 10) refl k h (digits_length most)
  where
    go : (t : Bool) → ltb x 10 ≡ t → (k : ℕ) → x < 10 ^ suc k
        → ((k y : ℕ) → y < 10 ^ suc k → length (digits_of most y) ≤ suc k)
        → length (pick t [] (digits_of most (x / 10)) ++ ((48 + x % 10) ∷ [])) ≤ suc k
    go true e k h ih = omega arith
    go false e zero h ih = absurd (omega (arith, ltb-false x 10 e))
    go false e (suc k) h ih =
        simp length-append (omega (arith, ih k (x / 10) (tenth (suc k) x h)))

-- what `put_number` does: one digit, or those of a tenth and then the last
pub number_one : (x at : ℕ) (before : List ℕ) → x < 10 → Part 20 (digits x) at before (at + 1) (set before at (48 + x))
number_one x at before h = rw (digits_one x h) (part_is (omega arith) refl (part_byte at (48 + x) before))

pub number_room : (x : ℕ) {at k : ℕ} {before between : List ℕ} → x < 2 ^ 64 → Part 20 (digits (x / 10)) at before k between
    → at + 20 ≤ length before → k < length between
number_room x h p r = omega (arith, digits_length 20 18 (x / 10) (tenth 19 x (omega arith)), part_kept p, p.put.next)

pub number_more : (x : ℕ) {at k : ℕ} {before between : List ℕ} → 10 ≤ x → x < 2 ^ 64 → Part 20 (digits (x / 10)) at before k between
    → Part 20 (digits x) at before (k + 1) (set between k (48 + x % 10))
number_more x {at} {k} {before} {between} g h p =
    let b = part_then p (part_byte k (48 + x % 10) between) in
    let same : digits (x / 10) ++ ((48 + x % 10) ∷ []) ≡ digits x = sym (digits_more x g (omega arith)) in
    let long : length (digits (x / 10) ++ ((48 + x % 10) ∷ [])) ≤ 20 = rw same (digits_length 20 19 x (omega arith)) in
    let all : Part 20 (digits (x / 10) ++ ((48 + x % 10) ∷ [])) at before (k + 1) (set between k (48 + x % 10)) =
    record { put = b.put; short = long } in
    rw same at all
