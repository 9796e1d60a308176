-- The contract of a call on a piece, a record of equations and a bound, admits one answer and one content of the lent bytes.
use Rattle.std.specs.Prelude.{◌≡◌}
use Rattle.laws.specs.Kit.{List, ℕ}
use Rattle.laws.proofs.Unique.{one_answer}
use Rattle.reel.specs.declared.TakeAnswer.{TakeAnswer}
use Rattle.reel.specs.Step.{TakeOutcome, TakeGives}

pub takes_unique : (k : TakeOutcome) (used written : ℕ) (before : List ℕ) (a b : TakeAnswer) (p q : List ℕ) → TakeGives k used written before a p
    → TakeGives k used written before b q → (a ≡ b) × (p ≡ q)
takes_unique k used written before a b p q x y = (
  λ j. record {
    reel = one_answer x.reel_is y.reel_is j;
    used = one_answer x.used_is y.used_is j;
    written = one_answer x.written_is y.written_is j;
    ended = one_answer x.ended_is y.ended_is j;
  },
  one_answer x.bytes y.bytes,
)
