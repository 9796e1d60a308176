-- How the rules tell an answer: by its number, which is 0 where nothing is refused, and by the place. What the contracts cite.
use Rattle.std.specs.Prelude.{ℕ, Result, Ok, Err}
use Rattle.refusal.specs.declared.Refusal.{Refusal}
use Rattle.refusal.specs.declared.Refused.{Refused}
use Rattle.refusal.specs.Refusal.{number}

-- a refusal as the rules tell it: its number, and its place
pub record Numbered : Type 0 where
  pub number : ℕ
  pub place : ℕ

-- the number of an answer that is fine or refused
abbrev pub number_in : {A : Type 0} → Result A Refusal → ℕ
number_in (Ok _) = 0
number_in (Err r) = number r

-- the answer itself, refused by a number
abbrev pub by_number : {A : Type 0} → Result A Refusal → Result A ℕ
by_number (Ok a) = Ok a
by_number (Err r) = Err (number r)

-- a refusal with its place
abbrev pub numbered : Refused → Numbered
numbered r = record { number = number r.refusal; place = r.place }

-- the answer itself, refused by a number at a place
abbrev pub told : {A : Type 0} → Result A Refused → Result A Numbered
told (Ok a) = Ok a
told (Err r) = Err (numbered r)
