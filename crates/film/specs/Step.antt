-- A capture measured part by part: what each part of the code asks and gives, in the words of Paper.
use Rattle.std.specs.Prelude.{◌≡◌, ◌+◌, ◌*◌, Result, Ok, Err}
use Rattle.laws.specs.Kit.{List, ℕ, leb, length}
use Rattle.laws.specs.Choose.{pick}
use Rattle.capture.specs.Paper.{Checked}
use Rattle.intake.specs.Paper.{packets_of}
use Rattle.timing.specs.declared.StreamNumbers.{StreamNumbers}
use Rattle.timing.specs.declared.State.{State}
use Rattle.timing.specs.declared.Stated.{Stated}
use Rattle.timing.specs.Step.{set_up_of, stated_of, rules_of, fresh_of}
use Rattle.timing.specs.Answers.{summary_width}
use Rattle.timing.specs.Feed.{RunAsks, RunGives}
use Rattle.report.specs.Paper.{row_bytes, number_bytes}
use Rattle.refusal.specs.Told.{Numbered}
use Rattle.film.specs.declared.Counts.{Counts}
use Rattle.film.specs.Paper.{capture_bytes, capture_checked, capture_answer, capture_filled}

-- the eleven numbers, and their bytes
abbrev pub eleven_width : ℕ
eleven_width = summary_width + 2

abbrev pub eleven_bytes : ℕ
eleven_bytes = number_bytes * eleven_width

-- what is asked of a capture: its records and those skipped, or the number and the place of its refusal
abbrev pub Weighed : Type 0
Weighed = Result Counts Numbered

abbrev pub weighed_as : ℕ → ℕ → Weighed
weighed_as records skipped = Ok (record { records = records; skipped = skipped })

abbrev pub not_weighed : ℕ → ℕ → Weighed
not_weighed number place = Err (record { number = number; place = place })

module _ (t : Stated) (port offset : ℕ) (b : List ℕ) where
  -- what is asked of a capture and so many lent bytes
  abbrev pub weighed_by : ℕ → Checked → Weighed
  weighed_by room (Ok y) =
      pick (leb (length (capture_bytes (stated_of t) port offset b)) room) (weighed_as y.records y.skipped) (not_weighed 15 0)
  weighed_by room (Err r) = Err r

  unfoldable pub weighed_of : ℕ → Weighed
  weighed_of room = weighed_by room (capture_checked t port offset b)

  pub record CaptureGives (out : List ℕ) (number : ℕ) (after : List ℕ) : Type 0 where
    pub number_is : number ≡ (capture_answer t port offset b (length out)).number
    pub bytes_are : after ≡ capture_filled t port offset b out

module _ (x : StreamNumbers) (port offset : ℕ) (b : List ℕ) where
  -- the packets of a capture that is fine, with room for their rows behind the eleven numbers
  pub record FilmAsks (room : ℕ) : Type 0 where
    pub set_up : set_up_of x ≡ 0
    pub runs : RunAsks row_bytes (rules_of x) (fresh_of x) (packets_of port offset b) eleven_bytes room

  -- and the rows put there
  abbrev pub FilmGives : List ℕ → State → List ℕ → Type 0
  FilmGives before state after = RunGives row_bytes (rules_of x) (fresh_of x) (packets_of port offset b) eleven_bytes before state after
