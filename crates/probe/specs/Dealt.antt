-- C calls in a row: what each call lends, and what they do one after the other. What the theorem of the calls speaks of.
use Rattle.std.specs.Prelude.{◌≡◌, ◌∷◌, ◌++◌, ◌≤◌, ◌<◌}
use Rattle.laws.specs.Kit.{List, [], ℕ, ℤ, length, sets}
use Rattle.packet.specs.declared.Packet.{Packet}
use Rattle.packet.specs.Paper.{OneLength, packets}
use Rattle.timing.specs.declared.State.{State}
use Rattle.timing.specs.Answers.{summary_width}
use Rattle.timing.specs.Feed.{Call, writes}
use Rattle.probe.specs.Words.{Holds}
use Rattle.probe.specs.Calls.{CallOutcome, call_of}

-- each timestamp has 32 bits
unfoldable pub Stamped : List Packet → Type 0
Stamped [] = Unit
Stamped (p ∷ l) = (p.stamp < 4294967296) × Stamped l

-- what one call lends: three slices, row numbers, and numbers for the summary
pub record Lent : Type 0 where
  pub ts : List ℕ
  pub ss : List ℕ
  pub ms : List ℕ
  pub rows : List ℤ
  pub out : List ℕ

abbrev pub lent_packets : Lent → List Packet
lent_packets c = packets c.ts c.ss c.ms

-- the call that `feed` is given
abbrev pub as_call : Lent → Call
as_call c = record { packets = lent_packets c; rows = c.rows }

-- slices of one length, timestamps of 32 bits, nine numbers or more for the summary
pub record Whole (c : Lent) : Type 0 where
  pub one_length : OneLength c.ts c.ss c.ms
  pub stamped : Stamped (lent_packets c)
  pub nine : summary_width ≤ length c.out

unfoldable pub AllWhole : List Lent → Type 0
AllWhole [] = Unit
AllWhole (c ∷ cs) = Whole c × AllWhole cs

abbrev pub told : List ℕ → Lent → CallOutcome
told words c = call_of words c.rows c.out c.ts c.ss c.ms

-- D3a, X8: each call is accepted, on the words that the one before it left, which hold a state; it lays what it writes (`writes`) from the
-- front of its own rows, and what they write, one after the other, is at the end
pub data Dealt : List ℕ → List Lent → List ℕ → List ℤ → Type 0 where
  no_call : {words : List ℕ} → Dealt words [] words []
  one_call : {words end : List ℕ} {c : Lent} {cs : List Lent} {more : List ℤ} (s : State) → Holds words s
      → (told words c).number ≡ 0 → (told words c).rows ≡ sets c.rows 0 (writes s (as_call c))
      → Dealt (told words c).words cs end more → Dealt words (c ∷ cs) end (writes s (as_call c) ++ more)
