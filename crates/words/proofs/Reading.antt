-- One byte of a word after another: a digit goes on, another byte is the end, and k digits spell less than 10^k. By the word's first byte.
use Rattle.std.specs.Prelude.{◌≡◌, ◌+◌, ◌-◌, ◌*◌, ◌^◌, ◌≤◌, ◌<◌, None, Some}
use Rattle.laws.specs.Kit.{refl, true, false, List, ℕ, zero, suc, arith, pow-suc}
use native.Mathlib.Numerals.{add-one}
use Rattle.laws.specs.Kit.{leb, length, drop, get_or, drop-cons, drop_of_length-le, le-leb, lt-leb, leb-true}
use Rattle.laws.specs.Choose.{pick}
use Rattle.laws.specs.Fold.{fold}
use Rattle.laws.proofs.Every.{and_left, and_right}
use Rattle.words.specs.Paper.{Word, is_digit, is_all_digits, number_in, most_digits, word_of}

-- what is still to be read, after digits that spell x
unfoldable pub read_on : ℕ → List ℕ → Word
read_on x w = pick (is_all_digits w) (Some (fold (λ x c. x * 10 + (c - 48)) x w)) None

pub from_nothing : (w : List ℕ) → read_on 0 w ≡ number_in w
unfolding number_in read_on
from_nothing w = refl

pub goes_on : (w : List ℕ) (x k : ℕ) → k < length w → is_digit (get_or w k 0) ≡ true
    → read_on (x * 10 + (get_or w k 0 - 48)) (drop (k + 1) w) ≡ read_on x (drop k w)
unfolding read_on is_all_digits fold
goes_on w x k h e = rw (drop-cons w k 0 h, e, add-one)

pub stops : (w : List ℕ) (x k : ℕ) → k < length w → is_digit (get_or w k 0) ≡ false → read_on x (drop k w) ≡ None
unfolding read_on is_all_digits
stops w x k h e = rw (drop-cons w k 0 h, e)

pub ends : (w : List ℕ) (x k : ℕ) → length w ≤ k → read_on x (drop k w) ≡ Some x
unfolding read_on is_all_digits fold
ends w x k h = rw (drop_of_length-le w h)

pub digit_is : (c : ℕ) → is_digit c ≡ true → (48 ≤ c) × (c ≤ 57)
digit_is c e = (leb-true 48 c (and_left (leb 48 c) (leb c 57) e), leb-true c 57 (and_right (leb 48 c) (leb c 57) e))

-- one digit more
pub below_next : (x k c : ℕ) → x < 10 ^ k → c ≤ 57 → x * 10 + (c - 48) < 10 ^ (k + 1)
below_next x k c h e = rw (add-one k, pow-suc 10 k) (omega arith)

-- so nineteen spell less than 2^64
fewer : (j k : ℕ) → 10 ^ k ≤ 10 ^ (j + k)
fewer zero k = let same : 0 + k ≡ k = omega arith in rw same (omega arith)
fewer (suc j) k = let same : suc j + k ≡ suc (j + k) = omega arith in rw (same, pow-suc 10 (j + k)) (omega (arith, fewer j k))

pub below_all : (x k c : ℕ) → k < most_digits → x < 10 ^ k → c ≤ 57 → x * 10 + (c - 48) < 18446744073709551616
below_all x k c h l e =
    let whole : (most_digits - (k + 1)) + (k + 1) ≡ most_digits = omega arith in
    let most : 10 ^ (k + 1) ≤ 10 ^ most_digits = rw whole at (fewer (most_digits - (k + 1)) (k + 1)) in
    omega (arith, most, below_next x k c l e)

-- what the loop over a word's bytes rests on
pub ruleset bytes = (from_nothing, goes_on, stops, ends, below_next, below_all)

-- ---- each way out of the code

pub no_byte : (w : List ℕ) → length w ≡ 0 → word_of w ≡ None
unfolding word_of
no_byte w e = rw e

pub too_long : (w : List ℕ) → most_digits < length w → word_of w ≡ None
unfolding word_of
too_long w h = rw (le-leb 1 (length w) (omega arith), lt-leb (length w) most_digits h)

pub not_too_long : (w : List ℕ) → ¬ (length w ≡ 0) → length w ≤ most_digits → word_of w ≡ number_in w
unfolding word_of
not_too_long w f h = rw (le-leb 1 (length w) (omega arith), le-leb (length w) most_digits h)

pub ruleset ways_out = (no_byte, too_long, not_too_long)
