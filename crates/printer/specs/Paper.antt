-- The program's whole output for a file, in document 01's words: what the file reads as, measured, line by line.
use Rattle.std.specs.Prelude.{◌∷◌, ◌++◌, Err, Ok}
use Rattle.laws.specs.Kit.{List, [], ℕ}
use Rattle.frame.specs.declared.Row.{Row}
use Rattle.text.specs.Lines.{row_line, summary_line, refusal_line}
use Rattle.record.specs.Paper.{Heading, resolved, Ending, done, stopped, Packets, packets_in, Reading, unread, read, reading_of}
use Rattle.timing.specs.declared.Rules.{Rules}
use Rattle.timing.specs.declared.State.{State}
use Rattle.timing.specs.Answers.{Judged, verdict_of}
use Rattle.limits.specs.Paper.{profile_of}
use Rattle.timing.specs.declared.StreamNumbers.{StreamNumbers}
use Rattle.timing.specs.Step.{of_profile, rules_of, fresh_of, state_after, rows_after}

-- L2: "It prints `frame` and the ten numbers of each row as it closes"
unfoldable pub row_lines : List Row → List ℕ
row_lines [] = []
row_lines (r ∷ rs) = row_line r ++ row_lines rs

-- L3: "then one last line: packets, frames closed, peak, verdicts"; a state that set-up and accepted packets lead to has a verdict
-- (proofs/Output.antt, last_line)
abbrev pub judged_line : State → Judged → List ℕ
judged_line s (Ok v) = summary_line s.past.packets s.frames.closed s.bucket.peak v.network v.buffer
judged_line s (Err number) = refusal_line number 0

abbrev pub sum_line : State → List ℕ
sum_line s = judged_line s (verdict_of s)

-- L4: "or, after the rows closed before a refusal, `refused`, number, offset."
abbrev pub last_line : State → Ending → List ℕ
last_line s done = sum_line s
last_line s (stopped number offset) = refusal_line number offset

-- the lines of packets that were read, from a state on
abbrev pub lines_of : Rules → State → Packets → List ℕ
lines_of rules s r = row_lines (rows_after rules s r.accepted) ++ last_line (state_after rules s r.accepted) r.ending

-- what is still to be printed of the rest of a file, which is read from an offset and measured from a state on
unfoldable pub rest_of : Rules → State → ℕ → List ℕ → List ℕ
rest_of rules s at l = lines_of rules s (packets_in s.past at l)

-- F11, F14: the stream numbers that a file sets up with, its profile among them; "`vtiming` [..] mean[s] edition 1"
abbrev pub stream_of : Heading → StreamNumbers
stream_of h = of_profile (profile_of h.kind) (resolved h)

abbrev pub output_by : Reading → List ℕ
output_by (unread number offset) = refusal_line number offset
output_by (read h r) = lines_of (rules_of (stream_of h)) (fresh_of (stream_of h)) r

-- L1: "`vtiming` reads a file on standard input": its whole output
unfoldable pub output_of : List ℕ → List ℕ
output_of file = output_by (reading_of file)
