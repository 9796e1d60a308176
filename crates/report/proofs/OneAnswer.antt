-- Each contract here that is a record of equations admits one answer: what meets it is what it names. The other contracts are
-- equations, or what a run gives and what is put (timing's `ran_unique`, laws' `put_unique`).
use Rattle.record.specs.Paper.{Heading}
use Rattle.std.specs.Prelude.{◌≡◌}
use Rattle.laws.specs.Kit.{List, ℕ, ℤ}
use lib.Ieee.{Float}
use Rattle.laws.proofs.Unique.{one_answer}
use Rattle.timing.specs.declared.Stated.{Stated}
use Rattle.report.specs.Step.{CallGives, WriteGives, LimitsGives, NextReadGives, DrawGives}

-- ---- the C functions: the number, and what the lent slice holds then

pub measures_unique : (edition : ℕ) (s out : List ℕ) (a b : ℕ) (p q : List ℕ) → CallGives edition s out a p → CallGives edition s out b q
    → (a ≡ b) × (p ≡ q)
measures_unique edition s out a b p q x y = (one_answer x.number_is y.number_is, one_answer x.bytes_are y.bytes_are)

pub writes_unique : (s : Heading) (ts ss ms out : List ℕ) (a b : ℕ) (p q : List ℕ) → WriteGives s ts ss ms out a p
    → WriteGives s ts ss ms out b q → (a ≡ b) × (p ≡ q)
writes_unique s ts ss ms out a b p q x y = (one_answer x.number_is y.number_is, one_answer x.bytes_are y.bytes_are)

pub limits_unique : (x : Stated) (out : List ℕ) (a b : ℕ) (p q : List ℕ) → LimitsGives x out a p → LimitsGives x out b q → (a ≡ b) × (p ≡ q)
limits_unique x out a b p q y z = (one_answer y.number_is z.number_is, one_answer y.numbers_are z.numbers_are)

pub next_unique : (x : Stated) (first t : ℕ) (out : List ℕ) (a b : ℕ) (p q : List ℕ) → NextReadGives x first t out a p
    → NextReadGives x first t out b q → (a ≡ b) × (p ≡ q)
next_unique x first t out a b p q y z = (one_answer y.number_is z.number_is, one_answer y.numbers_are z.numbers_are)

pub draws_unique : (fpt margin latency : ℤ) (out : List Float) (a b : ℕ) (p q : List Float) → DrawGives fpt margin latency out a p
    → DrawGives fpt margin latency out b q → (a ≡ b) × (p ≡ q)
draws_unique fpt margin latency out a b p q x y =
    (one_answer x.number_is y.number_is, one_answer x.doubles_are y.doubles_are)
