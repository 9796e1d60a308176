-- Two questions in a row, told by their numbers: the first that refuses decides, and where it is fine the second does.
use Rattle.std.specs.Prelude.{◌≡◌, ℕ, Result, Ok, Err}
use Rattle.std.specs.Result.{result_and}
use Rattle.laws.specs.Kit.{sym, ne_eqb}
use Rattle.laws.specs.Choose.{or_else}
use Rattle.refusal.specs.declared.Refusal.{Refusal}
use Rattle.refusal.specs.Refusal.{number}
use Rattle.refusal.specs.Told.{number_in}
use Rattle.refusal.proofs.Telling.{number_some}

pub stops_at : {a : ℕ} (b : ℕ) (r : Refusal) → number r ≡ a → number r ≡ or_else a b
stops_at b r e = rw (sym e) (sym (rw (ne_eqb (number r) 0 (number_some r))))

pub goes_on : {a b n : ℕ} → 0 ≡ a → n ≡ b → n ≡ or_else a b
goes_on e f = rw (sym e) f

-- both asked, and then joined
pub number_in_both : {A B : Type 0} {m n : ℕ} (a : Result A Refusal) (b : Result B Refusal) → number_in a ≡ m → number_in b ≡ n
    → number_in (result_and a b) ≡ or_else m n
number_in_both (Ok x) b e f = goes_on e f
number_in_both (Err r) b e f = stops_at _ r e
