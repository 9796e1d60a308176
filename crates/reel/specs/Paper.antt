-- The program's whole output for a capture, in the request's words: what the capture holds, measured, line by line.
use Rattle.std.specs.Prelude.{◌∷◌, ◌++◌, ◌+◌, ◌%◌, Err, Ok}
use Rattle.laws.specs.Kit.{List, [], ℕ, leb, eqb, length, take, drop}
use Rattle.laws.specs.Choose.{pick}
use Rattle.packet.specs.declared.Packet as packets
use Rattle.packet.specs.Paper.{Scanned}
use Rattle.packet.specs.Step.{number_of}
use Rattle.text.specs.Lines.{capture_line, refusal_line}
use Rattle.capture.specs.Paper.{header_bytes, Header, capture, unknown, header_of, Found, packet, skipped, Ending, done, stopped, Records, records_in}
use Rattle.capture.specs.Paper.{handed_on, skipped_in}
use Rattle.timing.specs.declared.Rules.{Rules}
use Rattle.timing.specs.declared.State.{State}
use Rattle.timing.specs.Answers.{Judged}
use Rattle.timing.specs.Answers.{verdict_of}
use Rattle.timing.specs.Step.{stated_of, stated_refusal, rules_of, fresh_of, step_of, rows_of, state_after, rows_after}
use Rattle.printer.specs.Paper.{row_lines}
use Rattle.reel.specs.declared.Asked.{Asked}

-- R18: the counts of records are kept in 64 bits
abbrev pub counted : ℕ → ℕ
counted n = n % 18446744073709551616

-- R17: "the last line goes on with `records R skipped S`"
abbrev pub judged_line : State → ℕ → ℕ → Judged → List ℕ
judged_line s records skips (Ok v) =
    capture_line s.past.packets s.frames.closed s.bucket.peak v.network v.buffer records skips
judged_line s records skips (Err number) = refusal_line number 0

unfoldable pub captured_line : State → ℕ → ℕ → List ℕ
captured_line s records skips = judged_line s records skips (verdict_of s)

-- R8, R17: "Lines as `vtiming` prints them, each row as it closes; the last line goes on with [..], or is `refused`, number, place": record by
-- record, from a state on, so many records having been read and skipped
unfoldable pub lines_from : Rules → State → ℕ → ℕ → List Found → Ending → List ℕ
lines_from rules s records skips [] done = captured_line s records skips
lines_from rules s records skips [] (stopped number) = refusal_line number records
lines_from rules s records skips (packet p ∷ xs) e =
    pick (eqb (number_of s.past p) 0)
    (row_lines (rows_of rules s p) ++ lines_from rules (step_of rules s p) (counted (records + 1)) skips xs e)
    (refusal_line (number_of s.past p) s.past.packets)
lines_from rules s records skips (skipped ∷ xs) e = lines_from rules s (counted (records + 1)) (counted (skips + 1)) xs e

abbrev pub lines_of : Rules → State → ℕ → ℕ → Records → List ℕ
lines_of rules s records skips r = lines_from rules s records skips r.found r.ending

abbrev pub output_by : Asked → Header → List ℕ → List ℕ
output_by a (capture f) file =
    lines_of (rules_of (stated_of a.stated)) (fresh_of (stated_of a.stated)) 0 0
    (records_in (record { format = f; port = a.port; offset = a.offset }) (drop header_bytes file))
output_by a unknown file = refusal_line 30 0

-- R15, R17: "1 to 7, then the order above", with 8 after 7: 33, 30, and then record by record
unfoldable pub output_of : Asked → List ℕ → List ℕ
output_of a file =
    pick (eqb (stated_refusal a.stated) 0)
    (pick (leb a.offset 99) (output_by a (header_of file) file) (refusal_line 33 0))
    (refusal_line (stated_refusal a.stated) 0)

-- ---- the same of the whole history: what the scan says of all packets, and how the records end (proofs/Wholly.antt: the two agree)

-- R17, L4: "after the rows closed before a refusal": the packets that are measured, all, or those before the refused one
abbrev pub measured : Scanned → List packets.Packet → List packets.Packet
measured (Ok closed) l = l
measured (Err r) l = take r.place l

-- R8, R9, R17: the last line: of the packet that is refused; else of the record at which the capture stops; else the verdict
abbrev pub last_by : Ending → State → ℕ → ℕ → List ℕ
last_by done s records skips = captured_line s records skips
last_by (stopped number) s records skips = refusal_line number records

abbrev pub last_of : Scanned → Ending → State → ℕ → ℕ → List ℕ
last_of (Ok closed) e s records skips = last_by e s records skips
last_of (Err r) e s records skips = refusal_line r.number r.place

abbrev pub printed_by : Scanned → Rules → State → Records → List ℕ
printed_by x rules s r =
    let l = measured x (handed_on r.found) in
    row_lines (rows_after rules s l)
    ++ last_of x r.ending (state_after rules s l) (counted (length r.found)) (counted (skipped_in r.found))
