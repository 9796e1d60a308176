-- A row written where a marker closes a frame, and nothing where it ends the lead-in, however rows are written.
use Rattle.std.specs.Prelude.{◌≡◌, ◌+◌, ◌≤◌}
use Rattle.laws.specs.Kit.{sym, ◌∙◌, true, false, List, ℕ, add-zero, length, sets}
use Rattle.laws.specs.Lay.{Put}
use Rattle.frame.specs.declared.Row.{Row}
use Rattle.timing.specs.declared.Rules.{Rules}
use Rattle.timing.specs.declared.State.{State}
use Rattle.timing.specs.Feed.{closed_row, closing, LayAsks}
use Rattle.timing.proofs.Sink.{Sink, one}

module _ {A : Type 0} (w : Sink A) (rules : Rules) (s : State) where
  one_row : s.frames.begun ≡ true → w.write (closing rules s) ≡ w.row (closed_row rules s)
  one_row e = rw e (one w (closed_row rules s))

  pub row_fits : {at room : ℕ} → s.frames.begun ≡ true → LayAsks w.write rules s at room → at + length (w.row (closed_row rules s)) ≤ room
  row_fits {at} {room} e l = rw (sym (one_row e)) l.fits

  module _ (at : ℕ) (before : List A) where
    pub puts_one : {after : List A} {then : ℕ} (r : Row) → s.frames.begun ≡ true → r ≡ closed_row rules s → then ≡ at + length (w.row r)
        → after ≡ sets before at (w.row r) → Put (w.write (closing rules s)) at before then after
    puts_one r e f n g = record { next = n ∙ rw (f, one_row e); there = g ∙ rw (f, one_row e) }

    pub puts_none : s.frames.begun ≡ false → Put (w.write (closing rules s)) at before at before
    puts_none e = record { next = rw (e, w.none) (sym (add-zero at)); there = rw (e, w.none) }
