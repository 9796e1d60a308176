-- What a place takes of a number. By whether it fits.
use Rattle.std.specs.Prelude.{◌≡◌, ◌+◌, ◌≤◌, ◌<◌, Result, Ok, Err, None, Some}
use Rattle.std.specs.Result.{OkIff, result_unwrap_or}
use Rattle.laws.specs.Kit.{◌∙◌, ℕ, arith, le-leb, lt-leb}
use Rattle.reel.specs.declared.Asked.{Asked}
use Rattle.words.specs.declared.Numbers.{Numbers}
use Rattle.words.specs.Paper.{placed, asked_of, given_of}

pub fits : (most instead x : ℕ) → x ≤ most → x ≡ placed most instead x
fits most instead x h = rw (le-leb x most h)

pub too_large : (most instead x : ℕ) → most < x → instead ≡ placed most instead x
too_large most instead x h = rw (lt-leb x most h)

-- what `try_from` and `unwrap_or` leave of a number in a place that holds so much at most
pub in_place : {E : Type 0} (most instead x y : ℕ) (r : Result ℕ E) → OkIff r (x < most + 1) x → y ≡ result_unwrap_or r instead
    → y ≡ placed most instead x
in_place most instead x y (Ok z) h e = e ∙ h.1 ∙ fits most instead x (omega (arith, h.0))
in_place most instead x y (Err q) h e = e ∙ too_large most instead x (omega (arith, h))

-- ---- each way out of the code

pub no_call : (x : Numbers) → ¬ (x.port < 65536) → None ≡ given_of x
unfolding given_of
no_call x h = rw (lt-leb x.port 65535 (omega (arith, h)))

pub a_call : (x : Numbers) {a : Asked} → x.port < 65536 → a ≡ asked_of x → Some a ≡ given_of x
unfolding given_of
a_call x h e = rw (le-leb x.port 65535 (omega arith), e)
