-- The C functions for a capture: the request's sentences, each above what renders it, on what the capture call (crate intake) says of its
-- bytes. This page is what a reader must believe of them.
use Rattle.std.specs.Prelude.{◌∷◌, ◌++◌, Ok, Err}
use Rattle.laws.specs.Kit.{false, List, [], map, ℕ, leb, eqb, pos, length, drop}
use Rattle.laws.specs.Choose.{pick}
use Rattle.packet.specs.Step.{nothing}
use Rattle.capture.specs.Paper.{Checked, checked_refused, seen_from, checked_of}
use Rattle.intake.specs.Paper.{records_of, packets_of, skipped_of}
use Rattle.timing.specs.declared.StreamNumbers.{StreamNumbers}
use Rattle.timing.specs.declared.Stated.{Stated}
use Rattle.timing.specs.Step.{stated_of, stated_refusal, numbers}
use Rattle.timing.specs.Answers.{summary_of}
use Rattle.report.specs.Paper.{state_of, rows_of, encoded, Answer, answer}

module _ (x : StreamNumbers) (port offset : ℕ) (b : List ℕ) where
  -- R15: "fills eleven numbers (the nine of `vtiming_measure`, then records read and records skipped)"
  abbrev pub eleven_of : List ℕ
  eleven_of = summary_of (state_of x (packets_of port offset b)) ++ (length (records_of port offset b).found ∷ skipped_of port offset b ∷ [])

  -- "and then the rows, in the same encoding"
  abbrev pub capture_bytes : List ℕ
  capture_bytes = encoded (map pos eleven_of ++ numbers (rows_of x (packets_of port offset b)))

module _ (t : Stated) (port offset : ℕ) (b : List ℕ) where
  abbrev x : StreamNumbers
  x = stated_of t

  -- R15, S12: "1 to 7, then the order above"; "`vtiming_capture` takes it too: 8 after 7"; and 22 before 1 for a kind that chooses no profile
  unfoldable pub capture_checked : Checked
  capture_checked =
      pick (eqb (stated_refusal t) 0) (checked_of port offset (seen_from nothing false) b) (checked_refused (stated_refusal t) 0)

  -- R9, R15, R16: "15 last", at the place of the first packet, which is 0
  abbrev pub answered_by : ℕ → Checked → Answer
  answered_by room (Ok y) = pick (leb (length (capture_bytes x port offset b)) room) (answer 0 0) (answer 15 0)
  answered_by room (Err r) = answer r.number r.place

  unfoldable pub capture_answer : ℕ → Answer
  capture_answer room = answered_by room capture_checked

  -- R15: "Refused, nothing is written."
  abbrev pub filled_from : List ℕ → Checked → List ℕ
  filled_from out (Ok y) =
      let bytes = capture_bytes x port offset b in
      pick (leb (length bytes) (length out)) (bytes ++ drop (length bytes) out) out
  filled_from out (Err r) = out

  unfoldable pub capture_filled : List ℕ → List ℕ
  capture_filled out = filled_from out capture_checked

  -- X13: how many lent bytes are enough
  abbrev pub room_by : Checked → ℕ
  room_by (Ok y) = length (capture_bytes x port offset b)
  room_by (Err r) = 0

  unfoldable pub capture_room : ℕ
  capture_room = room_by capture_checked
