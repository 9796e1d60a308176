-- What a program's steps must keep for its runs to print the output, for any form of file; and that each kind of step keeps it, by its fields.
use Rattle.std.specs.Prelude.{◌≡◌, ◌++◌, ◌≤◌, ◌<◌}
use Rattle.laws.specs.Kit.{refl, sym, Bool, true, false, List, [], ℕ, arith, eqb, length, drop, eqb-true}
use Rattle.laws.proofs.Choose.{false_true}
use Rattle.window.specs.Step.{Did, Machine, waiting, refusing, going}
use Rattle.window.proofs.Showing.{Bytes}

-- whatever follows what is shown
abbrev pub Follows : Bool → (List ℕ → Type 0) → Type 0
Follows last P = (v : List ℕ) → (last ≡ true → v ≡ []) → P v

-- a step: the bytes used lie within what is shown; the text and what is still to be printed are what was still to be printed; more is wanted
-- only where more may come, and where what is shown leaves room for it in a window of `size` bytes. `line`: room enough for any line
pub record Kept {S : Type 0} (still : S → List ℕ → List ℕ) (Good : S → Type 0) (line size : ℕ) (s : S) (l : List ℕ) (last : Bool) (room : ℕ)
    (k : Did S) : Type 0 where
  pub inside : k.used ≤ length l
  pub good : Good k.stage
  pub goes : k.over ≡ false → Follows last (λ v. k.text ++ still k.stage (drop k.used l ++ v) ≡ still s (l ++ v))
  pub ends : k.over ≡ true → Follows last (λ v. k.text ≡ still s (l ++ v))
  pub waits : line ≤ room → k.over ≡ false → k.wants ≡ true → last ≡ false
  pub roomy : line ≤ room → Bytes l → size ≤ length l → k.over ≡ false → k.wants ≡ true → ⊥

-- all steps, from stages that a file leads to
pub record Keeps {S : Type 0} (m : Machine S) (line size : ℕ) : Type 1 where
  pub still : S → List ℕ → List ℕ
  pub Good : S → Type 0
  pub starts : Good m.start
  pub all : (l : List ℕ) → still m.start l ≡ m.output l
  pub steps : (s : S) (l : List ℕ) (last : Bool) (room : ℕ) → Good s → Kept still Good line size s l last room (m.step s l last room)

not_last : (last : Bool) → (last ≡ true → ⊥) → last ≡ false
not_last true n = absurd (n refl)
not_last false n = refl

-- a call that wants more where it has used no byte, and has used some
used_none : {n : ℕ} → eqb n 0 ≡ true → 0 < n → ⊥
used_none {n} e h = let z = eqb-true n 0 e in omega arith

-- ---- the four kinds of step

module _ {S : Type 0} (still : S → List ℕ → List ℕ) (Good : S → Type 0) (line size : ℕ) (s : S) (l : List ℕ) (last : Bool) (room : ℕ) where
  pub keeps_waiting : Good s → (last ≡ true → ⊥) → (Bytes l → size ≤ length l → ⊥) → Kept still Good line size s l last room (waiting s)
  keeps_waiting g a b = record {
    inside = omega arith;
    good = g;
    goes = λ f v q. refl;
    ends = λ f v q. absurd (false_true f);
    waits = λ r f h. not_last last a;
    roomy = λ r x n f h. b x n;
  }

  pub keeps_refusing : (text : List ℕ) → Good s → Follows last (λ v. still s (l ++ v) ≡ text)
      → Kept still Good line size s l last room (refusing s text)
  keeps_refusing text g t = record {
    inside = omega arith;
    good = g;
    goes = λ f v q. absurd (false_true (sym f));
    ends = λ f v q. sym (t v q);
    waits = λ r f h. absurd (false_true (sym f));
    roomy = λ r x n f h. false_true h;
  }

  pub keeps_going : (next : S) (bytes : ℕ) → bytes ≤ length l → Good next → Follows last (λ v. still s (l ++ v) ≡ still next (drop bytes l ++ v))
      → Kept still Good line size s l last room (going next bytes)
  keeps_going next bytes h g t = record {
    inside = h;
    good = g;
    goes = λ f v q. sym (t v q);
    ends = λ f v q. absurd (false_true f);
    waits = λ r f k. absurd (false_true k);
    roomy = λ r x n f k. false_true k;
  }

  -- a call that uses some bytes wherever it is the last, or is shown enough
  pub keeps_taken : (next : S) (used : ℕ) (text : List ℕ) (ended : Bool) → used ≤ length l → Good next
      → (ended ≡ false → Follows last (λ v. text ++ still next (drop used l ++ v) ≡ still s (l ++ v)))
      → (ended ≡ true → Follows last (λ v. text ≡ still s (l ++ v)))
      → (line ≤ room → ended ≡ false → last ≡ true → 0 < used)
      → (line ≤ room → ended ≡ false → Bytes l → size ≤ length l → 0 < used)
      → Kept still Good line size s l last room (record { stage = next; used = used; text = text; wants = eqb used 0; over = ended })
  keeps_taken next used text ended h g t e m n = record {
    inside = h;
    good = g;
    goes = t;
    ends = e;
    waits = λ r f k. not_last last (λ z. used_none k (m r f z));
    roomy = λ r x q f k. used_none k (n r f x q);
  }
