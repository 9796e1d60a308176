-- What a scan that refuses nothing tells of the run: every packet passes, and as many rows are written as it counted.
use Rattle.std.specs.Prelude.{◌≡◌, ◌&&◌, ◌||◌, ◌∷◌, ◌++◌, ◌+◌, ◌*◌, Err, Ok}
use Rattle.laws.specs.Kit.{refl, sym, subst, Bool, true, false, or-true, or-false, List, [], ℕ}
use Rattle.laws.specs.Kit.{arith, eqb, length, length-append, eqb-true}
use Rattle.laws.specs.Choose.{pick}
use Rattle.packet.specs.declared.Past.{Past}
use Rattle.packet.specs.declared.Packet.{Packet}
use Rattle.packet.specs.Paper.{marked}
use Rattle.packet.specs.Step.{number_of, next_of, closes, scan_of}
use Rattle.frame.specs.declared.Row.{Row}
use Rattle.frame.specs.Step as F
use Rattle.timing.specs.declared.Rules.{Rules}
use Rattle.timing.specs.declared.State.{State}
use Rattle.timing.specs.Step.{arrive_of, mark_of, step_of, rows_of, rows_after, numbers}
use Rattle.timing.specs.Feed.{Passes}
use Rattle.timing.proofs.Running.{step_past}

-- ten numbers a row
pub numbers_length : (l : List Row) → length (numbers l) ≡ length l * F.row_width
unfolding numbers
numbers_length [] = refl
numbers_length (r ∷ l) = omega (arith, length-append (F.numbers_of r) (numbers l), numbers_length l)

pub begun_step : (rules : Rules) (s : State) (p : Packet) → (step_of rules s p).frames.begun ≡ (s.frames.begun || marked p)
unfolding step_of arrive_of mark_of F.arrive_of F.close_of
begun_step rules s p = go (marked p)
  where
    go : (m : Bool) → (pick m (mark_of rules (arrive_of rules s p.time p.stamp) p.time) (arrive_of rules s p.time p.stamp)).frames.begun ≡ (s.frames.begun || m)
    go true = sym (or-true s.frames.begun)
    go false = sym (or-false s.frames.begun)

pub rows_count : (rules : Rules) (s : State) (p : Packet) → length (rows_of rules s p) ≡ closes s.frames.begun p
unfolding F.rows_of
rows_count rules s p = go _ (marked p && s.frames.begun)
  where
    go : (r : Row) (t : Bool) → length (pick t (r ∷ []) []) ≡ pick t 1 0
    go r true = refl
    go r false = refl

-- a scan of a packet and more that refuses nothing
fine_goes : (past : Past) (begun : Bool) (k n : ℕ) (p : Packet) (ps : List Packet) → scan_of past begun k (p ∷ ps) ≡ Ok n
    → (number_of past p ≡ 0) × (scan_of (next_of past p.time) (begun || marked p) (k + closes begun p) ps ≡ Ok n)
unfolding scan_of
fine_goes past begun k n p ps = go (eqb (number_of past p) 0) refl
  where
    go : (t : Bool) → eqb (number_of past p) 0 ≡ t
        → pick t (scan_of (next_of past p.time) (begun || marked p) (k + closes begun p) ps)
        (Err (record { number = number_of past p; place = past.packets })) ≡ Ok n
        → (number_of past p ≡ 0) × (scan_of (next_of past p.time) (begun || marked p) (k + closes begun p) ps ≡ Ok n)
    go true e f = (eqb-true (number_of past p) 0 e, f)
    go false e f = let z : ◌≡◌ {A = ℕ} 0 1 = cc in absurd (omega arith)

fine_none : (past : Past) (begun : Bool) (k n : ℕ) → scan_of past begun k [] ≡ Ok n → n ≡ k
unfolding scan_of
fine_none past begun k n e = cc

pub scan_runs : (l : List Packet) (rules : Rules) (s : State) (k n : ℕ) → scan_of s.past s.frames.begun k l ≡ Ok n
    → Passes s.past l × (n ≡ k + length (rows_after rules s l))
unfolding Passes rows_after
scan_runs [] rules s k n e = (tt, omega (arith, fine_none s.past s.frames.begun k n e))
scan_runs (p ∷ ps) rules s k n e =
    let g = fine_goes s.past s.frames.begun k n p ps e in
    let ih = scan_runs ps rules (step_of rules s p) (k + closes s.frames.begun p) n
    (rw (step_past rules s p, begun_step rules s p) g.1) in
    let both : length (rows_of rules s p ++ rows_after rules (step_of rules s p) ps)
    ≡ length (rows_of rules s p) + length (rows_after rules (step_of rules s p) ps) =
    length-append (rows_of rules s p) (rows_after rules (step_of rules s p) ps) in
    ((g.0, subst (λ (q : Past). Passes q ps) (step_past rules s p) ih.0), omega (arith, ih.1, rows_count rules s p))
