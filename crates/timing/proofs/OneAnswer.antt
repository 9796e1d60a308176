-- Each contract here that is a record of equations admits one answer: what meets it is what it names. The code's answer is told by its number
-- first, and two that are told alike are one.
use Rattle.std.specs.Prelude.{◌≡◌, Result, Ok, Err, refl}
use Rattle.laws.specs.Kit.{List, ℕ, ℤ, sym, ap, ◌∙◌}
use Rattle.laws.proofs.Unique.{one_answer}
use Rattle.refusal.specs.Refusal.{number}
use Rattle.refusal.proofs.Telling.{number_unique, told_by, told_apart}
use Rattle.packet.specs.declared.Packet.{Packet}
use Rattle.frame.specs.declared.Row.{Row}
use Rattle.timing.specs.declared.Rules.{Rules}
use Rattle.timing.specs.declared.State.{State}
use Rattle.timing.specs.declared.RefusedCall.{RefusedCall}
use Rattle.timing.specs.Feed.{NumberedCall, fed_told}
use Rattle.timing.specs.Feed.{RunGives, Outcome, FeedGives}

-- a refused call as it is told
abbrev pub numbered_call : RefusedCall → NumberedCall
numbered_call r = record { number = number r.refusal; place = r.place; state = r.state }

pub numbered_call_unique : (a b : RefusedCall) → numbered_call a ≡ numbered_call b → a ≡ b
numbered_call_unique a b e =
    let n = number_unique a.refusal b.refusal (ap (λ (x : NumberedCall). x.number) e) in
    let p = ap (λ (x : NumberedCall). x.place) e in
    let s = ap (λ (x : NumberedCall). x.state) e in
    let whole : ◌≡◌ {A = RefusedCall} (record { refusal = a.refusal; place = a.place; state = a.state }) b = rw (n, p, s) refl in
    whole

pub fed_told_unique : (a b : Result State RefusedCall) → fed_told a ≡ fed_told b → a ≡ b
fed_told_unique a b e = told_apart numbered_call numbered_call_unique a b (as_told a ∙ e ∙ sym (as_told b))
  where
    as_told : (a : Result State RefusedCall) → told_by numbered_call a ≡ fed_told a
    as_told (Ok s) = refl
    as_told (Err r) = refl

-- a call of `feed`: its answer and its rows
pub is_unique : (o : Outcome) (a b : Result State RefusedCall) (p q : List ℤ) → FeedGives o (fed_told a) p → FeedGives o (fed_told b) q
    → (a ≡ b) × (p ≡ q)
is_unique o a b p q x y = (fed_told_unique a b (one_answer x.answer_is y.answer_is), one_answer x.rows_are y.rows_are)

pub ran_unique : {A : Type 0} (w : List Row → List A) (rules : Rules) (s : State) (l : List Packet) (at : ℕ) (before : List A) (a b : State)
    (p q : List A) → RunGives w rules s l at before a p → RunGives w rules s l at before b q → (a ≡ b) × (p ≡ q)
ran_unique w rules s l at before a b p q x y = (one_answer x.state_is y.state_is, one_answer x.rows_are y.rows_are)
