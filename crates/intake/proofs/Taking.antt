-- The whole call, case by case, each from what its branch of the code has found.
use Rattle.std.specs.Prelude.{◌≡◌, ◌-◌, ◌*◌, ◌/◌, ◌≤◌, ◌<◌, Ok}
use Rattle.laws.specs.Kit.{sym, ap, ◌∙◌, subst, true, false, List, ℕ, arith, le-div_iff_mul-le}
use Rattle.laws.specs.Kit.{div-lt_iff_lt-mul, ℤ, length, le-leb, lt-leb}
use Rattle.frame.specs.Step.{row_width}
use Rattle.capture.specs.declared.Seen.{Seen}
use Rattle.capture.specs.Paper.{Checked, checked_refused, seen_from, checked_of}
use Rattle.timing.specs.declared.State.{State}
use Rattle.timing.specs.declared.Rules.{Rules}
use Rattle.timing.specs.Step.{rules_of, rows_after, numbers}
use Rattle.timing.specs.Range.{in_range}
use Rattle.timing.specs.Feed.{RunAsks, RunGives}
use Rattle.timing.proofs.InRange.{sound_of}
use Rattle.timing.proofs.Scanning.{scan_runs, numbers_length}
use Rattle.intake.specs.Paper.{packets_of, skipped_of, Outcome, accepted_as, room_for, by_check, capture_of, TakeGives, taken_as, not_taken}
use Rattle.intake.proofs.Reading.{Read, checked_read, skipped_read, handed_read}

is : {o q : Outcome} → q ≡ o → TakeGives o q.answer q.rows
is e = record { answer_is = ap (λ (x : Outcome). x.answer) e; rows_are = ap (λ (x : Outcome). x.rows) e }

module _ (s : State) (rows : List ℤ) (port offset : ℕ) (b : List ℕ) where
  pub taken_9 : in_range s ≡ false → TakeGives (capture_of s rows port offset b) (not_taken 9 0 s) rows
  unfolding capture_of
  taken_9 e = is (rw e)

  module _ (e : in_range s ≡ true) where
    by_check_lem : (x : Checked) → x ≡ checked_of port offset (seen_from s.past s.frames.begun) b
        → by_check s rows x (packets_of port offset b) (skipped_of port offset b) ≡ capture_of s rows port offset b
    unfolding capture_of
    by_check_lem x f = rw (e, f)

    pub taken_refused : {number place : ℕ} → checked_refused number place ≡ checked_of port offset (seen_from s.past s.frames.begun) b
        → TakeGives (capture_of s rows port offset b) (not_taken number place s) rows
    taken_refused f = is (by_check_lem _ f)

    module _ {y : Seen} (f : Ok y ≡ checked_of port offset (seen_from s.past s.frames.begun) b) where
      room_for_lem : room_for s rows y.tally.closed (packets_of port offset b) (skipped_of port offset b) ≡ capture_of s rows port offset b
      room_for_lem = by_check_lem (Ok y) f

      pub taken_15 : length rows / row_width < y.tally.closed
          → TakeGives (capture_of s rows port offset b) (not_taken 15 s.past.packets s) rows
      taken_15 l =
          let n = y.tally.closed in
          let few : length rows < n * row_width = (div-lt_iff_lt-mul {k = row_width} {x = length rows} {y = n} (omega arith)).0 l in
          is (sym (rw (lt-leb (n * row_width) (length rows) few)) ∙ room_for_lem)

      pub was_read : Read port offset s.past s.frames.begun b y
      was_read = checked_read port offset s.past s.frames.begun b y (sym f)

      enough : y.tally.closed ≤ length rows / row_width → y.tally.closed * row_width ≤ length rows
      enough l = (le-div_iff_mul-le {k = row_width} {x = y.tally.closed} {y = length rows} (omega arith)).0 l

      -- as many packets were handed on as were not skipped
      pub counted : (y.skipped ≤ y.records) × (y.records - y.skipped ≡ length (packets_of port offset b))
      counted =
          let all = handed_read port offset s.past s.frames.begun b was_read in
          (omega arith, omega arith)

      -- the rules that the code has worked out
      module _ {q : Rules} (eq : q ≡ rules_of s.numbers) (l : y.tally.closed ≤ length rows / row_width) where
        pub runs : RunAsks numbers q s (packets_of port offset b) 0 (length rows)
        runs =
            let r = scan_runs (packets_of port offset b) q s 0 y.tally.closed was_read.fine in
            record {
              going = record { rules_are = eq; sound = sound_of s e };
              passes = r.0;
              fits = omega (arith, enough l, r.1, numbers_length (rows_after q s (packets_of port offset b)));
            }

        pub taken : {t : State} {after : List ℤ} → RunGives numbers q s (packets_of port offset b) 0 rows t after
            → TakeGives (capture_of s rows port offset b) (taken_as t (y.records - y.skipped) y.skipped) after
        taken {t} {after} ran =
            let r = subst (λ (x : Rules). RunGives numbers x s (packets_of port offset b) 0 rows t after) eq ran in
            let skips = skipped_read port offset s.past s.frames.begun b was_read in
            let o = is {q = accepted_as s rows (packets_of port offset b) (skipped_of port offset b)}
            (sym (rw (le-leb (y.tally.closed * row_width) (length rows) (enough l))) ∙ room_for_lem) in
            record { answer_is = rw (r.state_is, counted.1, skips) o.answer_is; rows_are = r.rows_are ∙ o.rows_are }

pub ruleset refusals = (taken_9, taken_refused, taken_15)
