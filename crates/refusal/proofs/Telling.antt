-- No refusal has the number 0, and two that have one number are one: so an answer that is told by its number is one answer. By the table
-- read backwards: each number names one refusal or none.
use Rattle.std.specs.Prelude.{◌≡◌, ℕ, Some, None, Result, Ok, Err, refl}
use Rattle.std.specs.Prelude.{◌≤◌, ◌<◌, ◌+◌, ◌-◌, zero, suc}
use Rattle.std.proofs.Common.{ap, sym, ◌∙◌, arith}
use Rattle.std.proofs.Math.ListN.{get_or-eq_default}
use Rattle.std.specs.Prelude.{true, false}
use Rattle.std.specs.Result.{is_err}
use Rattle.refusal.specs.declared.Refusal.{Refusal}
use Rattle.refusal.specs.declared.Refused.{Refused}
use Rattle.refusal.specs.declared.Refusal.TheVariants.{Rate, Schedule, Class, Height, FramePackets, MaxUdp, Tro, Edition, State, Lengths}
use Rattle.refusal.specs.declared.Refusal.TheVariants.{Marker, Earlier, Late, Packets, Room, Figure, Version, Cut, Kind, Misplaced}
use Rattle.refusal.specs.declared.Refusal.TheVariants.{FileRoom, Header, CutCapture, SubSecond, Offset}
use Rattle.refusal.specs.Refusal.{number, named, table}
use Rattle.refusal.specs.Told.{Numbered, number_in, by_number, numbered, told}

named_back : (r : Refusal) → named (number r) ≡ Some r
named_back Rate = refl
named_back Schedule = refl
named_back Class = refl
named_back Height = refl
named_back FramePackets = refl
named_back MaxUdp = refl
named_back Tro = refl
named_back Edition = refl
named_back State = refl
named_back Lengths = refl
named_back Marker = refl
named_back Earlier = refl
named_back Late = refl
named_back Packets = refl
named_back Room = refl
named_back Figure = refl
named_back Version = refl
named_back Cut = refl
named_back Kind = refl
named_back Misplaced = refl
named_back FileRoom = refl
named_back Header = refl
named_back CutCapture = refl
named_back SubSecond = refl
named_back Offset = refl

-- no refusal has the number of an answer that is fine
pub number_some : (r : Refusal) → number r ≡ 0 → ⊥
number_some r e =
    let back : Some r ≡ None = sym (named_back r) ∙ ap named e in
    absurd (cc)

-- N1: no two refusals have one number
pub number_unique : (a b : Refusal) → number a ≡ number b → a ≡ b
number_unique a b e =
    let same : Some a ≡ Some b = sym (named_back a) ∙ ap named e ∙ named_back b in
    cc

-- so that what is told by its number is one refusal at one place, and one answer
pub numbered_unique : (a b : Refused) → numbered a ≡ numbered b → a ≡ b
numbered_unique a b e =
    let n = number_unique a.refusal b.refusal (ap (λ (x : Numbered). x.number) e) in
    let p = ap (λ (x : Numbered). x.place) e in
    let whole : ◌≡◌ {A = Refused} (record { refusal = a.refusal; place = a.place }) b = rw (n, p) refl in
    whole

-- an answer with its refusal told by what a telling makes of it
abbrev pub told_by : {A E N : Type 0} → (E → N) → Result A E → Result A N
told_by f (Ok a) = Ok a
told_by f (Err e) = Err (f e)

-- where the telling keeps refusals apart, two answers that are told alike are one
pub told_apart : {A E N : Type 0} (f : E → N) → ((a b : E) → f a ≡ f b → a ≡ b) → (a b : Result A E) → told_by f a ≡ told_by f b → a ≡ b
told_apart f g (Ok a) (Ok b) e = cc
told_apart f g (Ok a) (Err b) e = absurd (cc)
told_apart f g (Err a) (Ok b) e = absurd (cc)
told_apart f g (Err a) (Err b) e =
    let same : f a ≡ f b = cc in
    rw (g a b same)

-- so of a refusal with its place, of one without, and of an answer that holds nothing where it is fine
pub told_unique : {A : Type 0} → (a b : Result A Refused) → told a ≡ told b → a ≡ b
told_unique a b e = told_apart numbered numbered_unique a b (as_told a ∙ e ∙ sym (as_told b))
  where
    as_told : {A : Type 0} → (a : Result A Refused) → told_by numbered a ≡ told a
    as_told (Ok a) = refl
    as_told (Err r) = refl

pub by_number_unique : {A : Type 0} → (a b : Result A Refusal) → by_number a ≡ by_number b → a ≡ b
by_number_unique a b e = told_apart number number_unique a b (as_told a ∙ e ∙ sym (as_told b))
  where
    as_told : {A : Type 0} → (a : Result A Refusal) → told_by number a ≡ by_number a
    as_told (Ok a) = refl
    as_told (Err r) = refl

pub number_in_unique : (a b : Result Unit Refusal) → number_in a ≡ number_in b → a ≡ b
number_in_unique (Ok a) (Ok b) e = refl
number_in_unique (Ok a) (Err b) e = absurd (number_some b (sym e))
number_in_unique (Err a) (Ok b) e = absurd (number_some a e)
number_in_unique (Err a) (Err b) e = rw (number_unique a b e)

-- an answer is an error exactly where it has a number
pub number_of_err : {A : Type 0} → (a : Result A Refusal) → is_err a ≡ true → number_in a ≡ 0 → ⊥
number_of_err (Ok x) e n = absurd (cc)
number_of_err (Err r) e n = number_some r n

pub number_of_ok : {A : Type 0} → (a : Result A Refusal) → is_err a ≡ false → number_in a ≡ 0
number_of_ok (Ok x) e = refl
number_of_ok (Err r) e = absurd (cc)

-- the numbers that name nothing: two gaps, and those past the end of the table
in_gap : (start n : ℕ) → ((k : ℕ) → k < n → named (start + k) ≡ None) → (code : ℕ) → start ≤ code → code < start + n → named code ≡ None
in_gap start n f code h k =
    let at : named (start + (code - start)) ≡ None = f (code - start) (omega arith) in
    let same : start + (code - start) ≡ code = omega arith in
    rw same at at

pub from_17 : (code : ℕ) → 17 ≤ code → code ≤ 19 → named code ≡ None
from_17 code h k = in_gap 17 3 each code h (omega arith)
  where
    each : (k : ℕ) → k < 3 → named (17 + k) ≡ None
    each zero l = refl
    each (suc zero) l = refl
    each (suc (suc zero)) l = refl
    each (suc (suc (suc k))) l = absurd (omega arith)

pub from_25 : (code : ℕ) → 25 ≤ code → code ≤ 29 → named code ≡ None
from_25 code h k = in_gap 25 5 each code h (omega arith)
  where
    each : (k : ℕ) → k < 5 → named (25 + k) ≡ None
    each zero l = refl
    each (suc zero) l = refl
    each (suc (suc zero)) l = refl
    each (suc (suc (suc zero))) l = refl
    each (suc (suc (suc (suc zero)))) l = refl
    each (suc (suc (suc (suc (suc k))))) l = absurd (omega arith)

pub from_34 : (code : ℕ) → 34 ≤ code → named code ≡ None
from_34 code h = get_or-eq_default table None h

pub ruleset unused = (from_17, from_25, from_34)
