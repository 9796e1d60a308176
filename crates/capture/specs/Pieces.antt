-- A capture in pieces: what the reader's answer to a window says of the whole. `w` is the window, `v` whatever bytes follow it, and
-- `rest_from p c l` what the rest l of a capture holds for a reader that stands at c.
use Rattle.std.specs.Prelude.{◌≡◌, ◌++◌, ◌≤◌, ◌<◌, Ok, Err}
use Rattle.laws.specs.Kit.{List, ℕ, length, drop}
use Rattle.capture.specs.declared.Setting.{Setting}
use Rattle.capture.specs.declared.Cursor.{Cursor}
use Rattle.capture.specs.Step.{NextRead, rest_from}
use Rattle.capture.specs.declared.Next.TheVariants as next
use Rattle.capture.specs.Paper.{packet, skipped, done, stopped, none, more, records_in}

-- R14: however it is cut, that is what the whole gives: the record told comes next, and behind it the rest; or nothing is told yet, and
-- all of it is still to come; or the capture ends, or is refused, here
abbrev pub Keeps : Setting → Cursor → List ℕ → List ℕ → NextRead → Type 0
Keeps p c w v (Ok (next.Packet q used)) =
    (0 < used) × (used ≤ length w) × (rest_from p c (w ++ v) ≡ more (packet q) (records_in p (drop used w ++ v)))
Keeps p c w v (Ok (next.Skipped used)) =
    (0 < used) × (used ≤ length w) × (rest_from p c (w ++ v) ≡ more skipped (records_in p (drop used w ++ v)))
Keeps p c w v (Ok (next.More d used)) = (used ≤ length w) × (rest_from p c (w ++ v) ≡ rest_from p d (drop used w ++ v))
Keeps p c w v (Ok next.End) = rest_from p c (w ++ v) ≡ none done
Keeps p c w v (Err n) = rest_from p c (w ++ v) ≡ none (stopped n)
