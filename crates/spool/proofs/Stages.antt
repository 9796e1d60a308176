-- What a step of the program for captures keeps: the bytes used lie within what is shown; the text and what is still to be printed are the
-- output; and more is wanted only where more may come, with room for it in a window of 178 bytes. By the stage.
use Rattle.std.specs.Prelude.{◌≡◌, ◌+◌, ◌≤◌, Ok, Err, Some, None}
use Rattle.laws.specs.Kit.{refl, sym, ◌∙◌, Bool, true, List, [], ℕ, arith, length}
use Rattle.laws.proofs.Choose.{false_true}
use Rattle.headers.specs.Step.{matter}
use Rattle.text.specs.Lines.{line_room, refusal_line}
use Rattle.capture.specs.Paper.{header_bytes, record_bytes}
use Rattle.reel.specs.declared.Asked.{Asked}
use Rattle.reel.specs.declared.Reel.{Reel}
use Rattle.reel.specs.Step.{Threaded}
use Rattle.reel.specs.Paper.{output_of}
use Rattle.reel.specs.Step.{begin_of, take_of, rest_by, Stands}
use Rattle.reel.proofs.Beginning.{Tells, begin_tells, Answered, begin_answered}
use Rattle.reel.proofs.Output.{take_stands, take_ended, take_goes_on, take_inside, take_moves}
use Rattle.window.specs.Step.{Did}
use Rattle.window.proofs.Keeping.{Follows, Kept, Keeps, keeps_waiting, keeps_refusing, keeps_going, keeps_taken}
use Rattle.spool.specs.declared.Stage.{Stage}
use Rattle.spool.specs.declared.Stage.TheVariants.{Leader, Rolling}
use Rattle.spool.specs.Step.{lead_move, rolled_move, move_by, machine}

-- what is still to be printed of the rest of a capture, from a stage on
abbrev pub still : Stage → List ℕ → List ℕ
still (Leader asked) l = output_of asked l
still (Rolling reel) l = rest_by reel l

-- a stage that a capture can lead to
abbrev pub Good : Stage → Type 0
Good (Leader asked) = Unit
Good (Rolling reel) = Stands reel

-- a record's header and the bytes of a frame that can matter
abbrev pub size : ℕ
size = record_bytes + matter

abbrev KeptBy : Stage → List ℕ → Bool → ℕ → Did Stage → Type 0
KeptBy s l last room k = Kept still Good line_room size s l last room k

module _ (l : List ℕ) (last : Bool) (room : ℕ) where
  leads : (asked : Asked) (o : Threaded) → Follows last (λ v. Tells asked l v o) → (last ≡ true → Answered o)
      → (header_bytes ≤ length l → Answered o) → KeptBy (Leader asked) l last room (lead_move asked o)
  leads asked (Ok None) t a b = keeps_waiting still Good line_room size (Leader asked) l last room tt a (λ x n. b (omega arith))
  leads asked (Err r) t a b = keeps_refusing still Good line_room size (Leader asked) l last room (refusal_line r 0) tt t
  leads asked (Ok (Some r)) t a b =
      let first = t [] (λ z. refl) in
      keeps_going still Good line_room size (Leader asked) l last room (Rolling r) header_bytes first.1 first.0 (λ v q. (t v q).2)

  lead_keeps : (asked : Asked) → KeptBy (Leader asked) l last room (lead_move asked (begin_of asked l last))
  lead_keeps asked =
      leads asked (begin_of asked l last) (λ v q. begin_tells asked l v last q)
      (λ z. begin_answered asked l last (λ h. z)) (λ h. begin_answered asked l last (λ k. absurd (omega arith)))

  roll_keeps : (reel : Reel) → Stands reel → KeptBy (Rolling reel) l last room (rolled_move (take_of reel l last room))
  roll_keeps reel z =
      let k = take_of reel l last room in
      keeps_taken still Good line_room size (Rolling reel) l last room (Rolling k.reel) k.used k.text k.ended
      (take_inside reel l last room) (take_stands reel l [] last room z (λ e. refl))
      (λ f v q. take_goes_on reel l v last room z q f) (λ f v q. take_ended reel l v last room z q f)
      (λ r f q. take_moves reel l last room r (λ e. absurd (false_true (sym e ∙ q))) f) (λ r f b n. take_moves reel l last room r (λ e. n) f)

move_keeps : (s : Stage) (l : List ℕ) (last : Bool) (room : ℕ) → Good s → KeptBy s l last room (move_by s l last room)
unfolding move_by
move_keeps (Leader asked) l last room g = lead_keeps l last room asked
move_keeps (Rolling reel) l last room g = roll_keeps l last room reel g

pub keeps : (asked : Asked) → Keeps (machine asked) line_room size
keeps asked = record { still = still; Good = Good; starts = tt; all = λ l. refl; steps = move_keeps }
