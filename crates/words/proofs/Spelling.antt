-- A word is a number exactly where it is 1 to 19 digits, and then the number that they spell; and the digits that the program writes for a
-- number of up to 19 are read back as that number. By the laws of the digits that are written.
use Rattle.std.specs.Prelude.{◌≡◌, ◌↔◌, ◌&&◌, ◌∷◌, ◌+◌, ◌%◌, ◌/◌, ◌^◌, ◌≤◌, ◌<◌, None, Some}
use Rattle.laws.specs.Kit.{refl, sym, ap, ◌∙◌, Bool, true, false, List, [], ℕ, arith}
use Rattle.laws.specs.Kit.{leb, ltb, length, length-append, le-leb, leb-true}
use Rattle.laws.specs.Choose.{pick}
use Rattle.laws.proofs.Every.{and_left, and_right}
use Rattle.text.specs.Decimal.{digits_of, digits, value, Digits}
use Rattle.text.proofs.Digits.{digits_length}
use Rattle.text.proofs.Read.{digits_read, digits_are}
use Rattle.words.specs.Paper.{is_digit, is_all_digits, number_in, most_digits, word_of, Spells}
use Rattle.words.proofs.Reading.{digit_is, not_too_long}

tests : (w : List ℕ) → Digits w → is_all_digits w ≡ true
unfolding is_all_digits
tests [] d = refl
tests (c ∷ cs) d = rw (le-leb 48 c d.0, le-leb c 57 d.1) (tests cs d.2)

facts : (w : List ℕ) → is_all_digits w ≡ true → Digits w
unfolding is_all_digits
facts [] e = tt
facts (c ∷ cs) e =
    let d = digit_is c (and_left (is_digit c) (is_all_digits cs) e) in
    (d.0, d.1, facts cs (and_right (is_digit c) (is_all_digits cs) e))

module _ (w : List ℕ) (n : ℕ) where
  number_when : Spells w n → word_of w ≡ Some n
  unfolding number_in
  number_when s =
      let long = s.some in
      not_too_long w (omega arith) s.few ∙ rw (tests w s.all_digits) (ap Some (sym s.number))

  only_then : word_of w ≡ Some n → Spells w n
  unfolding word_of number_in
  only_then e = go (leb 1 (length w)) (leb (length w) most_digits) (is_all_digits w) refl refl refl e
    where
      go : (t u v : Bool) → leb 1 (length w) ≡ t → leb (length w) most_digits ≡ u → is_all_digits w ≡ v
          → pick (t && u) (pick v (Some (value w)) None) None ≡ Some n → Spells w n
      go true true true f g h q =
          record { some = leb-true 1 (length w) f; few = leb-true (length w) most_digits g; all_digits = facts w h; number = cc }
      go true true false f g h q = let z : ◌≡◌ {A = ℕ} 0 1 = cc in absurd (omega arith)
      go true false v f g h q = let z : ◌≡◌ {A = ℕ} 0 1 = cc in absurd (omega arith)
      go false u v f g h q = let z : ◌≡◌ {A = ℕ} 0 1 = cc in absurd (omega arith)

  -- R18: the words that are a number, and which: no other word is one
  pub number_exactly : (word_of w ≡ Some n) ↔ Spells w n
  number_exactly = (only_then, number_when)

some_digit : (x : ℕ) → 1 ≤ length (digits x)
unfolding digits_of
some_digit x = rw (length-append (pick (ltb x 10) [] (digits_of 19 (x / 10))) ((48 + x % 10) ∷ [])) (omega arith)

-- what is printed of a number can be given as a word
pub printed_read : (x : ℕ) → x < 10 ^ most_digits → word_of (digits x) ≡ Some x
printed_read x h =
    (number_exactly (digits x) x).1
    (record { some = some_digit x; few = digits_length 20 18 x h; all_digits = digits_are x; number = sym (digits_read x (omega arith)) })
