-- Where each frame's numbers stand among all that are written: the rows before it are as many as frames closed before, so all that is
-- written is cut before its row and behind it. By place.
use Rattle.std.specs.Prelude.{◌≡◌, ◌⊎◌, ◌∷◌, ◌++◌}
use Rattle.laws.specs.Kit.{refl, sym, ap, ◌∙◌, Bool, true, false, inl, inr, List, [], append_assoc, append-nil, ℕ}
use Rattle.std.specs.Prelude.{◌+◌, ◌*◌, ◌≤◌, ◌<◌}
use Rattle.laws.specs.Kit.{zero, suc, arith, le-suc_iff, ℤ, length, take, drop, length-append, sets}
use Rattle.laws.specs.Choose.{pick}
use Rattle.laws.specs.Count.{count}
use Rattle.laws.proofs.Lay.{part_stands}
use Rattle.packet.specs.declared.Packet.{Packet}
use Rattle.frame.specs.declared.Row.{Row}
use Rattle.frame.specs.Paper.{closes_at, number_at}
use Rattle.frame.specs.Step.{row_width, numbers_of}
use Rattle.frame.specs.ByPlace.{rows_at}
use Rattle.timing.specs.declared.StreamNumbers.{StreamNumbers}
use Rattle.timing.specs.Step.{rules_of, numbers}
use Rattle.timing.specs.History.{frame_history, rows_to}
use Rattle.timing.proofs.Sink.{both, as_numbers}
use Rattle.timing.proofs.Scanning.{numbers_length}

module _ (x : StreamNumbers) (l : List Packet) where
  rows_counted : (i : ℕ) → length (rows_to x l i) ≡ number_at (frame_history x l) i
  unfolding rows_to count
  rows_counted zero = refl
  rows_counted (suc i) =
      length-append (rows_to x l i) (rows_at (rules_of x).plan (frame_history x l) i)
      ∙ ap (λ (n : ℕ). n + length (rows_at (rules_of x).plan (frame_history x l) i)) (rows_counted i)
      ∙ ap (λ (n : ℕ). number_at (frame_history x l) i + n) (one _ (closes_at (frame_history x l) i))
    where
      one : (r : Row) (t : Bool) → length (pick t (r ∷ []) []) ≡ pick t 1 0
      one r true = refl
      one r false = refl

  -- the rows up to m are those up to i, that of place i, and more
  rows_from : (i m : ℕ) → i < m → (rest : List Row)
      × (rows_to x l m ≡ rows_to x l i ++ (rows_at (rules_of x).plan (frame_history x l) i ++ rest))
  unfolding rows_to
  rows_from i zero h = absurd (omega arith)
  rows_from i (suc m) h = go (rows_from i m) (le-suc_iff.0 h)
    where
      here : ℕ → List Row
      here k = rows_at (rules_of x).plan (frame_history x l) k

      go : (i < m → (rest : List Row) × (rows_to x l m ≡ rows_to x l i ++ (here i ++ rest))) → (suc i ≤ m) ⊎ (suc i ≡ suc m)
          → (rest : List Row) × (rows_to x l m ++ here m ≡ rows_to x l i ++ (here i ++ rest))
      go ih (inl less) =
          let w = ih less in (
            w.0 ++ here m,
            ap (λ (r : List Row). r ++ here m) w.1 ∙ append_assoc (rows_to x l i) (here i ++ w.0) (here m)
                ∙ ap (λ (r : List Row). rows_to x l i ++ r) (append_assoc (here i) w.0 (here m)),
          )
      go ih (inr e) =
          let same : m ≡ i = omega arith in
          ([], ap (λ (k : ℕ). rows_to x l k ++ here k) same ∙ ap (λ (r : List Row). rows_to x l i ++ r) (sym (append-nil (here i))))

  -- of all the numbers laid from the front of lent ones, ten for each frame closed before, and then ten of this
  pub numbers_of_frame : (i m : ℕ) (r : Row) (lent : List ℤ) → i < m → rows_at (rules_of x).plan (frame_history x l) i ≡ r ∷ []
      → length (numbers (rows_to x l m)) ≤ length lent
      → take row_width (drop (row_width * number_at (frame_history x l) i) (sets lent 0 (numbers (rows_to x l m)))) ≡ numbers_of r
  unfolding numbers
  numbers_of_frame i m r lent h e room =
      let w = rows_from i m h in
      let before = numbers (rows_to x l i) in
      let cut : numbers (rows_to x l m) ≡ before ++ (numbers_of r ++ numbers w.0) =
      ap numbers (w.1 ∙ ap (λ (q : List Row). rows_to x l i ++ (q ++ w.0)) e) ∙ both as_numbers (rows_to x l i) (r ∷ w.0) in
      let size : row_width * number_at (frame_history x l) i ≡ length before = omega (arith, numbers_length (rows_to x l i), rows_counted i) in
      rw (size, cut) (part_stands before (numbers_of r) (numbers w.0) lent (rw cut at room))
