-- What the code says of what lies ahead is told by its number first, and two answers that are told alike are one.
use Rattle.std.specs.Prelude.{◌≡◌, Result, Ok, Err, refl}
use Rattle.laws.specs.Kit.{sym, ap, ◌∙◌}
use Rattle.refusal.specs.Refusal.{number}
use Rattle.refusal.proofs.Telling.{number_unique, told_by, told_apart}
use Rattle.capture.specs.declared.Ahead.{Ahead}
use Rattle.capture.specs.declared.RefusedAhead.{RefusedAhead}
use Rattle.capture.specs.Step.{NumberedAhead, ahead_told}

-- a refusal that lies ahead as it is told
abbrev numbered_ahead : RefusedAhead → NumberedAhead
numbered_ahead r = record { number = number r.refusal; skipped = r.skipped }

numbered_ahead_unique : (a b : RefusedAhead) → numbered_ahead a ≡ numbered_ahead b → a ≡ b
numbered_ahead_unique a b e =
    let n = number_unique a.refusal b.refusal (ap (λ (x : NumberedAhead). x.number) e) in
    let s = ap (λ (x : NumberedAhead). x.skipped) e in
    let whole : ◌≡◌ {A = RefusedAhead} (record { refusal = a.refusal; skipped = a.skipped }) b = rw (n, s) refl in
    whole

pub ahead_told_unique : (a b : Result Ahead RefusedAhead) → ahead_told a ≡ ahead_told b → a ≡ b
ahead_told_unique a b e = told_apart numbered_ahead numbered_ahead_unique a b (as_told a ∙ e ∙ sym (as_told b))
  where
    as_told : (a : Result Ahead RefusedAhead) → told_by numbered_ahead a ≡ ahead_told a
    as_told (Ok x) = refl
    as_told (Err r) = refl
