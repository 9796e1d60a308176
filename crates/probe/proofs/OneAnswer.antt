-- Each contract here that is a record of equations admits one answer: what meets it is what it names.
use Rattle.std.specs.Prelude.{◌≡◌}
use Rattle.laws.specs.Kit.{List, ℕ, ℤ}
use Rattle.laws.proofs.Unique.{one_answer}
use Rattle.timing.specs.declared.Stated.{Stated}
use Rattle.probe.specs.Calls.{SetUpGives, CallOutcome, CallGives}

pub sets_up_unique : (x : Stated) (words : List ℕ) (a b : ℕ) (p q : List ℕ) → SetUpGives x words a p → SetUpGives x words b q
    → (a ≡ b) × (p ≡ q)
sets_up_unique x words a b p q u v = (one_answer u.number_is v.number_is, one_answer u.words_are v.words_are)

pub feeds_unique : (told : CallOutcome) (a b : ℕ) (p q : List ℕ) (r s : List ℤ) (o m : List ℕ) → CallGives told a p r o → CallGives told b q s m
    → (a ≡ b) × (p ≡ q) × (r ≡ s) × (o ≡ m)
feeds_unique told a b p q r s o m x y = (
  one_answer x.number_is y.number_is,
  one_answer x.words_are y.words_are,
  one_answer x.rows_are y.rows_are,
  one_answer x.out_is y.out_is,
)
