-- What the code reads in the window that it lends, and the lines that it puts.
use Rattle.std.specs.Prelude.{◌≡◌, ◌-◌}
use Rattle.laws.specs.Kit.{sym, ap, subst, ◌∙◌, Bool, true, false, List, [], append-nil, ℕ, arith, length, take, drop}
use Rattle.frame.specs.declared.Row.{Row}
use Rattle.laws.proofs.Lay.{put_none}
use Rattle.text.specs.Lines.{Line, row_line}
use Rattle.record.specs.Step.{NextRead, next_piece}
use Rattle.record.proofs.Ways.{rest_all}
use Rattle.timing.specs.declared.Rules.{Rules}
use Rattle.timing.specs.declared.State.{State}
use Rattle.timing.specs.Feed.{closed_row, closing}
use Rattle.printer.specs.Paper.{row_lines}

pub read_rest : (w : List ℕ) (last : Bool) (at from : ℕ) {r : NextRead} → r ≡ next_piece at (take (length w - from) (drop from w)) last
    → next_piece at (drop from w) last ≡ r
read_rest w last at from f = sym (f ∙ ap (λ (l : List ℕ). next_piece at l last) (rest_all w from))

-- ---- lines put

pub line_is : {line other : List ℕ} {at next : ℕ} {before after : List ℕ} → line ≡ other → Line line at before next after
    → Line other at before next after
line_is {at = at} {next} {before} {after} e p = subst (λ (l : List ℕ). Line l at before next after) e p

pub line_none : {line : List ℕ} (at : ℕ) (before : List ℕ) → [] ≡ line → Line line at before at before
line_none at before e = line_is e (record { put = put_none at before; short = omega arith })

module _ (rules : Rules) (s : State) where
  pub row_line_lem : {row : Row} → s.frames.begun ≡ true → row ≡ closed_row rules s → row_line row ≡ row_lines (closing rules s)
  unfolding row_lines
  row_line_lem e f = rw (e, f) (sym (append-nil _))

  pub no_row : s.frames.begun ≡ false → [] ≡ row_lines (closing rules s)
  unfolding row_lines
  no_row e = rw e
