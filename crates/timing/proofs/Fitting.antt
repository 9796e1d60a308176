-- Every number that is reported of accepted packets fits 64 bits with its sign: the nine of a state in range, since none is above a
-- billion, and those of the rows, since each is made of a state in range (frame's RowsFit), packet by packet.
use Rattle.std.specs.Prelude.{◌≡◌, ◌&&◌, ◌∷◌, ◌++◌, ◌≤◌}
use Rattle.laws.specs.Kit.{sym, ap, subst, List, [], map, ℕ, arith, pos}
use mir.Syntax.{w64}
use mir.Val.{SFits}
use Rattle.laws.proofs.Choose.{pick_either}
use Rattle.packet.specs.declared.Past.{Past}
use Rattle.packet.specs.declared.Packet.{Packet}
use Rattle.packet.specs.Paper.{marked}
use Rattle.packet.specs.Step.{number_of}
use Rattle.bucket.specs.declared.Network.{Network}
use Rattle.bucket.specs.declared.Network.TheVariants as network
use Rattle.bucket.specs.Paper.{network_number}
use Rattle.frame.specs.declared.Buffer.{Buffer}
use Rattle.frame.specs.declared.Buffer.TheVariants as buffer
use Rattle.frame.specs.declared.Plan.{Plan}
use Rattle.frame.specs.declared.Frame.{Frame}
use Rattle.frame.specs.declared.Row.{Row}
use Rattle.frame.specs.Paper.{buffer_number}
use Rattle.frame.specs.Step as F
use Rattle.frame.specs.Range.{Planned, RowAsks}
use Rattle.frame.proofs.Ranges.{third_most}
use Rattle.frame.proofs.RowsFit.{AllFit, fit_append, small_fits, row_fits}
use Rattle.timing.specs.declared.Rules.{Rules}
use Rattle.timing.specs.declared.State.{State}
use Rattle.timing.specs.Step.{rules_of, arrive_of, step_of, rows_of, rows_after, numbers}
use Rattle.timing.specs.Answers.{summary_with, summary_of, AllRows}
use Rattle.timing.specs.Range.{Sound}
use Rattle.timing.specs.Feed.{Passes}
use Rattle.laws.proofs.Every.{and_right}
use Rattle.timing.proofs.Planning.{planned}
use Rattle.timing.proofs.Staying.{sound_step, rows_made}
use Rattle.timing.proofs.Running.{step_numbers, step_past}

-- ---- the nine numbers of a state

network_small : (v : Network) → network_number v ≤ 1000000000
network_small network.Pass = omega arith
network_small (network.Burst r) = omega arith

buffer_small : (b : Buffer) → buffer_number b ≤ 1000000000
buffer_small buffer.None = omega arith
buffer_small buffer.Pass = omega arith
buffer_small (buffer.Under p) = omega arith
buffer_small (buffer.Over p) = omega arith
buffer_small (buffer.Broken b) = omega arith

pub summary_fits : (s : State) → Sound s → AllFit (map pos (summary_of s))
unfolding summary_with
summary_fits s x =
    let packets = small_fits x.past.few in
    let closed = below x.frames.closed in
    let peak = below x.bucket.peak in
    let network = small_fits (network_small s.bucket.network) in
    let first = below x.bucket.run_first in
    let last = below x.bucket.run_last in
    let buffer = small_fits (buffer_small s.frames.buffer) in
    let frame = below x.frames.answered.frame in
    let place = small_fits (third_most x.frames.answered x.past.few (omega arith)) in
    (packets, (closed, (peak, (network, (first, (last, (buffer, (frame, (place, tt)))))))))
  where
    below : {m : ℕ} → m ≤ s.past.packets → SFits w64 (pos m)
    below h = small_fits (omega (arith, x.past.few))

-- ---- the rows

-- what holds of each row that is made of a state in range holds of each row that is written
module _ (P : Row → Type 0) (made : (plan : Plan) (number marked began : ℕ) (f : Frame) → Planned plan → RowAsks plan number marked began f
    → P (F.row_of plan number marked began f)) where
  -- of the row that one packet writes, if it writes one
  row_here : (s : State) (p : Packet) → Sound s → number_of s.past p ≡ 0 → AllRows P (rows_of (rules_of s.numbers) s p)
  unfolding F.rows_of arrive_of F.arrive_of
  row_here s p x e =
      pick_either (AllRows P) (marked p && s.frames.begun)
      (λ t. (
        made (rules_of s.numbers).plan s.frames.closed s.frames.marked _ _ (planned s.numbers x.accepted)
            (rows_made s p x e (and_right (marked p) s.frames.begun t)).row,
        tt,
      ))
      (λ t. tt)

  all_append : (a b : List Row) → AllRows P a → AllRows P b → AllRows P (a ++ b)
  all_append [] b h k = k
  all_append (r ∷ a) b h k = (h.0, all_append a b h.1 k)

  -- and of those of a list
  pub rows_hold : (l : List Packet) (s : State) → Sound s → Passes s.past l → AllRows P (rows_after (rules_of s.numbers) s l)
  unfolding rows_after Passes
  rows_hold [] s x pass = tt
  rows_hold (p ∷ l) s x pass =
      let rules = rules_of s.numbers in
      let same : rules_of (step_of rules s p).numbers ≡ rules = ap rules_of (step_numbers rules s p) in
      let others = rows_hold l (step_of rules s p) (sound_step s p x pass.0)
      (subst (λ (q : Past). Passes q l) (sym (step_past rules s p)) pass.1) in
      all_append (rows_of rules s p) _ (row_here s p x pass.0)
      (subst (λ (r : Rules). AllRows P (rows_after r (step_of rules s p) l)) same others)

rows_numbers : (rs : List Row) → AllRows (λ r. AllFit (F.numbers_of r)) rs → AllFit (numbers rs)
unfolding numbers
rows_numbers [] h = tt
rows_numbers (r ∷ rs) h = fit_append (F.numbers_of r) (numbers rs) h.0 (rows_numbers rs h.1)

pub rows_fit : (l : List Packet) (s : State) → Sound s → Passes s.past l → AllFit (numbers (rows_after (rules_of s.numbers) s l))
rows_fit l s x pass = rows_numbers (rows_after (rules_of s.numbers) s l) (rows_hold (λ r. AllFit (F.numbers_of r)) row_fits l s x pass)
