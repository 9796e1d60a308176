-- The writer's contract, a record of two equations, admits one answer and one content of the lent bytes, and the reader's one answer. What the
-- code answers is told by its number first, and two answers that are told alike are one.
use Rattle.std.specs.Prelude.{◌≡◌, Result, Ok, Err, refl}
use Rattle.laws.specs.Kit.{sym, ap, ◌∙◌, List, ℕ}
use Rattle.laws.proofs.Unique.{one_answer}
use Rattle.refusal.specs.declared.Refused.{Refused}
use Rattle.refusal.specs.Refusal.{number}
use Rattle.refusal.specs.Told.{told}
use Rattle.refusal.proofs.Telling.{number_unique, told_by, told_apart, told_unique}
use Rattle.packet.specs.Paper.{packets}
use Rattle.record.specs.declared.Next.{Next}
use Rattle.record.specs.declared.RefusedRecord.{RefusedRecord}
use Rattle.record.specs.Paper.{Heading}
use Rattle.record.specs.Layout.{bytes_in}
use Rattle.record.specs.Step.{NumberedRecord, next_told}
use Rattle.record.specs.Write.{Written, left_by, WriteGives}

pub writes_unique : (s : Heading) (ts ss ms out : List ℕ) (a b : Result ℕ Refused) (p q : List ℕ) → WriteGives s ts ss ms out (told a) p
    → WriteGives s ts ss ms out (told b) q → (a ≡ b) × (p ≡ q)
writes_unique s ts ss ms out a b p q x y =
    let same = one_answer x.answered y.answered in
    (told_unique a b same, x.left ∙ ap (λ (w : Written). left_by w (bytes_in s (packets ts ss ms)) out) same ∙ sym y.left)

-- a refused record as it is told
abbrev numbered_record : RefusedRecord → NumberedRecord
numbered_record r = record { number = number r.refusal; offset = r.offset; size = r.size }

numbered_record_unique : (a b : RefusedRecord) → numbered_record a ≡ numbered_record b → a ≡ b
numbered_record_unique a b e =
    let n = number_unique a.refusal b.refusal (ap (λ (x : NumberedRecord). x.number) e) in
    let o = ap (λ (x : NumberedRecord). x.offset) e in
    let s = ap (λ (x : NumberedRecord). x.size) e in
    let whole : ◌≡◌ {A = RefusedRecord} (record { refusal = a.refusal; offset = a.offset; size = a.size }) b = rw (n, o, s) refl in
    whole

pub next_told_unique : (a b : Result Next RefusedRecord) → next_told a ≡ next_told b → a ≡ b
next_told_unique a b e = told_apart numbered_record numbered_record_unique a b (as_told a ∙ e ∙ sym (as_told b))
  where
    as_told : (a : Result Next RefusedRecord) → told_by numbered_record a ≡ next_told a
    as_told (Ok n) = refl
    as_told (Err r) = refl
