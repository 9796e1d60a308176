-- The program's output. `output_of file` is what document 01 says is printed of a file (printer's Paper). First the lines themselves, then a
-- file in pieces through calls of `Walk::take` (`Prints`, printer's Drive), then any run of the program, whatever its reads bring (`RunEnds`,
-- window's Run): what it hands over to be written is that output, or a front of it where a read or a write failed.
use Rattle.std.specs.Prelude.{◌≡◌, ◌⊎◌, ◌++◌, ◌≤◌, ◌<◌, Ok, Err}
use Rattle.laws.specs.Kit.{Bool, true, false, List, [], ℕ, length}
use Rattle.laws.specs.Choose.{AllBelow}
use Rattle.frame.specs.declared.Row.{Row}
use Rattle.frame.specs.Step.{numbers_of}
use Rattle.limits.specs.declared.Parameters.{Parameters}
use Rattle.limits.specs.Steps.{ParametersHeld}
use Rattle.record.specs.Paper.{heading, resolved, is_parameters}
use Rattle.record.specs.Layout.{head_of}
use Rattle.record.specs.Step.{next_piece, next_more}
use Rattle.text.specs.Lines.{Sized, row_line, line_room, summary_line, refusal_line}
use Rattle.text.proofs.RowsApart.{rows_differ}
use Rattle.timing.specs.declared.State.{State}
use Rattle.timing.specs.Range.{Sound}
use Rattle.timing.specs.Answers.{answers_of}
use Rattle.printer.specs.declared.Walk.{Walk}
use Rattle.printer.specs.Paper.{sum_line, output_of}
use Rattle.printer.specs.Step.{opened_number, opened_offset, begin_of, take_of}
use Rattle.printer.specs.Drive.{Prints}
use Rattle.printer.proofs.Output as proved
use Rattle.window.specs.declared.BrokenOff.TheVariants.{Unread}
use Rattle.window.specs.Run.{Front, WholeOutput, End, RunEnds}
use Rattle.window.proofs.Running as running
use Rattle.pump.specs.Step.{machine}
use Rattle.pump.proofs.Stages.{size, keeps}

-- ---- a frame's line

-- L2, V1, V10: a line tells its row, all eleven numbers of it: two rows that print alike are one
pub rows_told : (x y : Row) → Sized (numbers_of x) → Sized (numbers_of y) → row_line x ≡ row_line y → x ≡ y
rows_told = rows_differ

-- ---- the last line

-- L3: "one last line: packets, frames closed, peak, verdicts", the state's own
pub last_line : (s : State) → Sound s → sum_line s
    ≡ summary_line s.past.packets s.frames.closed s.bucket.peak (answers_of s).network (answers_of s).buffer
last_line = proved.last_line

-- L4: "or, after the rows closed before a refusal, `refused`, number, offset": where the start of a file is refused, that is all that is
-- printed, whatever follows
pub start_refused : (w v : List ℕ) (last : Bool) → (last ≡ true → v ≡ []) → 0 < opened_number (begin_of w last)
    → output_of (w ++ v) ≡ refusal_line (opened_number (begin_of w last)) (opened_offset (begin_of w last))
start_refused = proved.start_refused

-- F11: "version 1 files keep 0 as wide": whatever bytes follow its head, a file of version 1 prints what the file of version 2 prints whose
-- class 0 is written as 3
pub version_one_printed : (kind : ℕ) (p : Parameters) (l : List ℕ) → is_parameters kind ≡ true → ParametersHeld p
    → output_of (head_of (heading 1 kind p) ++ l) ≡ output_of (head_of (heading 2 kind (resolved (heading 1 kind p))) ++ l)
version_one_printed = proved.first_printed

-- ---- a file in pieces, through calls

-- L1, X5: however a file is cut into pieces and whatever room each call has, the lines put together are its output
pub prints_output : {file text : List ℕ} → Prints file text → text ≡ output_of file
prints_output = proved.prints_output

-- L1, D1b: and every file comes to that
pub file_printed : (file : List ℕ) → Prints file (output_of file)
file_printed = proved.file_printed

-- X5: a call with room for a line goes on, at the end of the file or with a window of 65,537 bytes; one that does not had no room for a
-- line or wanted more bytes
pub moves_last : (walk : Walk) (w : List ℕ) (room : ℕ) → line_room ≤ room → (take_of walk w true room).ended ≡ false
    → 0 < (take_of walk w true room).used
moves_last = proved.moves_last

-- X5: or where its window has 65,537 bytes
pub moves_full : (walk : Walk) (w : List ℕ) (last : Bool) (room : ℕ) → line_room ≤ room → AllBelow 256 w → 65537 ≤ length w
    → (take_of walk w last room).ended ≡ false → 0 < (take_of walk w last room).used
moves_full = proved.moves_full

-- X5: a call that does not had no room for a line, or wanted more bytes
pub stuck_why : (walk : Walk) (w : List ℕ) (last : Bool) (room : ℕ) → (take_of walk w last room).ended ≡ false
    → (take_of walk w last room).used ≡ 0 → (room < line_room) ⊎ (next_piece walk.at.at w last ≡ next_more)
stuck_why = proved.stuck_why

-- ---- any run of the program

-- X10: whatever the reads brought, what was handed over is a front of the output of the file
pub ran_front : {room : ℕ} {last : Bool} {file text : List ℕ} {end : End} → RunEnds machine room last file text end
    → Front machine last file text
ran_front = running.ran_front machine line_room size keeps

-- X10: and all of it where the last line is out
pub ran_whole : {room : ℕ} {last : Bool} {file text : List ℕ} → RunEnds machine room last file text (Ok tt)
    → WholeOutput machine last file text
ran_whole = running.ran_whole machine line_room size keeps

-- X10: and where the file had ended no read has failed: the last line is out, or a write failed, or the turns were over
pub ran_ended : {room : ℕ} {last : Bool} {file text : List ℕ} {end : End} → RunEnds machine room last file text end → last ≡ true
    → end ≡ Err Unread → ⊥
ran_ended = running.ran_ended
