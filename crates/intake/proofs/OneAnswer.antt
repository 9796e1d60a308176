-- The contract of a capture call, a record of equations, admits one answer and one content of the lent rows. The code's answer is told by its
-- number first, and two that are told alike are one.
use Rattle.std.specs.Prelude.{◌≡◌, Result, Ok, Err, refl}
use Rattle.laws.specs.Kit.{List, ℤ, sym, ◌∙◌}
use Rattle.laws.proofs.Unique.{one_answer}
use Rattle.refusal.proofs.Telling.{told_by, told_apart}
use Rattle.timing.specs.declared.RefusedCall.{RefusedCall}
use Rattle.timing.proofs.OneAnswer.{numbered_call, numbered_call_unique}
use Rattle.intake.specs.declared.AcceptedCall.{AcceptedCall}
use Rattle.intake.specs.Paper.{taken_told, Outcome, TakeGives}

pub taken_told_unique : (a b : Result AcceptedCall RefusedCall) → taken_told a ≡ taken_told b → a ≡ b
taken_told_unique a b e = told_apart numbered_call numbered_call_unique a b (as_told a ∙ e ∙ sym (as_told b))
  where
    as_told : (a : Result AcceptedCall RefusedCall) → told_by numbered_call a ≡ taken_told a
    as_told (Ok s) = refl
    as_told (Err r) = refl

pub takes_unique : (o : Outcome) (a b : Result AcceptedCall RefusedCall) (p q : List ℤ) → TakeGives o (taken_told a) p
    → TakeGives o (taken_told b) q → (a ≡ b) × (p ≡ q)
takes_unique o a b p q x y = (taken_told_unique a b (one_answer x.answer_is y.answer_is), one_answer x.rows_are y.rows_are)
