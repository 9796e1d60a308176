-- What the program was called with: the number that stands at a place, and what the eleven ask.
use Rattle.std.specs.Prelude.{◌≡◌, ◌≤◌, None, Some}
use Rattle.laws.specs.Kit.{List, ℕ}
use Rattle.window.specs.Said.{Argued}
use Rattle.words.specs.declared.Numbers.{Numbers}
use Rattle.words.specs.Paper.{Word, Given, word_of, given_of}

-- the word at a place is this number, or none
pub record StandsAt (place : ℕ) (r : Word) : Type 0 where
  pub word : List ℕ
  pub argued : Argued place word
  pub number : r ≡ word_of word

-- R17: "Eleven numbers are its arguments, in this order: port, offset, rate, schedule, class, height, n, MAXUDP, TRO, profile, edition."
pub record Numbered (x : Numbers) : Type 0 where
  pub port : StandsAt 1 (Some x.port)
  pub offset : StandsAt 2 (Some x.offset)
  pub rate : StandsAt 3 (Some x.rate)
  pub schedule : StandsAt 4 (Some x.schedule)
  pub class : StandsAt 5 (Some x.class)
  pub height : StandsAt 6 (Some x.height)
  pub n : StandsAt 7 (Some x.n)
  pub maxudp : StandsAt 8 (Some x.maxudp)
  pub tro : StandsAt 9 (Some x.tro)
  pub profile : StandsAt 10 (Some x.profile)
  pub edition : StandsAt 11 (Some x.edition)

-- R18: "A word that is no number [..] is no call at all"; else the eleven ask what they ask
pub data AskGives : Given → Type 0 where
  no_number : (place : ℕ) → 1 ≤ place → place ≤ 11 → StandsAt place None → AskGives None
  numbered : (x : Numbers) → Numbered x → AskGives (given_of x)
