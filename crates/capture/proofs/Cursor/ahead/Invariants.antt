-- The invariant: what lies ahead from here, with what was used and skipped so far, is what lies ahead of the whole window (Looking).
use Rattle.std.specs.Prelude.{◌≡◌, ◌-◌, ◌≤◌}
use Rattle.laws.specs.Kit.{length}
use Rattle.capture.specs.Step.{ahead_of}
use Rattle.capture.proofs.Looking.{ahead_from}
use Rattle.capture.proofs.Cursor.ahead.Given as goal

abbrev pub invariant-loop-next : goal.invariant-loop-next
invariant-loop-next l =
    (ahead_from l.setting l.last l.cursor l.window l.used l.skipped ≡ ahead_of l.setting l.initial.cursor l.window l.last)
    × (l.skipped ≤ l.used) × (l.used ≤ length l.window)

abbrev pub decreases-loop-next : goal.decreases-loop-next
decreases-loop-next l = length l.window - l.used
