-- The words of a call of the program for captures, as rule R18 has them: what number a word is, and what eleven numbers ask.
use Rattle.std.specs.Prelude.{◌≡◌, ◌&&◌, ◌∷◌, ◌≤◌, Option, Some, None}
use Rattle.laws.specs.Kit.{Bool, true, List, [], ℕ, leb, length}
use Rattle.laws.specs.Choose.{pick}
use Rattle.limits.specs.Paper.{within, given}
use Rattle.text.specs.Decimal.{value, Digits}
use Rattle.reel.specs.declared.Asked.{Asked}
use Rattle.words.specs.declared.Numbers.{Numbers}

-- one of `0` to `9`
abbrev pub is_digit : ℕ → Bool
is_digit c = within 48 57 c

unfoldable pub is_all_digits : List ℕ → Bool
is_all_digits [] = true
is_all_digits (c ∷ cs) = is_digit c && is_all_digits cs

-- the number that a word is, or none
abbrev pub Word : Type 0
Word = Option ℕ

-- what eleven numbers ask; or they are no call
abbrev pub Given : Type 0
Given = Option Asked

-- the number that digits spell in base ten, with or without leading zeros
unfoldable pub number_in : List ℕ → Word
number_in w = pick (is_all_digits w) (Some (value w)) None

-- every number of so many digits lies within 64 bits (below_all, proofs/Reading.antt)
abbrev pub most_digits : ℕ
most_digits = 19

-- R18: "A word that is no number": it is one if it has 1 to 19 bytes and each is a digit
unfoldable pub word_of : List ℕ → Word
word_of w = pick (within 1 most_digits (length w)) (number_in w) None

-- what it is that a word is a number, with no test; both ways: proofs/Spelling.antt
pub record Spells (w : List ℕ) (n : ℕ) : Type 0 where
  pub some : 1 ≤ length w
  pub few : length w ≤ most_digits
  pub all_digits : Digits w
  pub number : n ≡ value w

-- R18: "The program takes its numbers as they are given.": eleven whole numbers of any size, each where it belongs
abbrev pub as_given : Numbers → Asked
as_given x = record {
  stated = record {
    kind = x.profile;
    parameters = given x.rate x.schedule x.class x.height x.n x.maxudp x.tro;
    edition = x.edition;
  };
  port = x.port;
  offset = x.offset;
}

-- a number in a place that holds so much at most, and another instead of one that is too large for it
abbrev pub placed : (most instead x : ℕ) → ℕ
placed most instead x = pick (leb x most) x instead

-- no height is 0
abbrev pub instead_height : ℕ
instead_height = 0

-- the greatest TRO that is not the default
abbrev pub instead_tro : ℕ
instead_tro = 4294967294

-- R18: "One that is too large for its place, as a height of 65,536, is refused as set-up refuses such a number (1 to 8), or by 33.", and a profile by
-- 22: instead of it stands a number that fits and is refused alike (output_as_given, proofs/AsGiven.antt)
unfoldable pub asked_of : Numbers → Asked
asked_of x = record {
  stated = record {
    kind = placed 255 255 x.profile;
    parameters = given
        (placed 255 255 x.rate)
        (placed 255 255 x.schedule)
        (placed 255 255 x.class)
        (placed 65535 instead_height x.height)
        (placed 4294967295 4294967295 x.n)
        (placed 65535 65535 x.maxudp)
        (placed 4294967295 instead_tro x.tro);
    edition = placed 4294967295 4294967295 x.edition;
  };
  port = x.port;
  offset = placed 4294967295 4294967295 x.offset;
}

-- R18: ".. or a port above 65,535, is no call at all"
unfoldable pub given_of : Numbers → Given
given_of x = pick (leb x.port 65535) (Some (asked_of x)) None
