-- What a step of the program for record files keeps: the bytes used lie within what is shown; the text and what is still to be printed are
-- the output; and more is wanted only where more may come, with room for it in a window of 65,538 bytes. By the stage.
use Rattle.std.specs.Prelude.{◌≡◌, ◌≤◌, ◌<◌, Ok, Err, Some, None}
use Rattle.laws.specs.Kit.{refl, sym, subst, Bool, true, false, List, [], ℕ, arith, length}
use Rattle.laws.proofs.Choose.{false_true}
use Rattle.record.specs.Paper.{head_bytes}
use Rattle.record.proofs.InPieces.{head_suffices}
use Rattle.text.specs.Lines.{line_room, refusal_line}
use Rattle.printer.specs.declared.Walk.{Walk}
use Rattle.printer.specs.Step.{Opened, begin_of, take_of, Headed}
use Rattle.printer.specs.Paper.{output_of}
use Rattle.printer.specs.Drive.{Stands, rest_from}
use Rattle.printer.proofs.Inside.{take_inside, begin_headed}
use Rattle.printer.proofs.Beginning.{Tells, begin_tells, Answered, head_answered, begin_answered}
use Rattle.printer.proofs.Output.{take_stands, take_ended, take_goes_on, moves_last, moves_full}
use Rattle.window.specs.Step.{Did}
use Rattle.window.proofs.Showing.{Bytes}
use Rattle.window.proofs.Keeping.{Follows, Kept, Keeps, keeps_waiting, keeps_refusing, keeps_going, keeps_taken}
use Rattle.pump.specs.declared.Stage.{Stage}
use Rattle.pump.specs.declared.Stage.TheVariants.{Head, Walking}
use Rattle.pump.specs.Step.{open_move, took_move, move_by, machine}

-- what is still to be printed of the rest of a file, from a stage on
abbrev pub still : Stage → List ℕ → List ℕ
still Head l = output_of l
still (Walking walk) l = rest_from walk l

-- a stage that a file can lead to
abbrev pub Good : Stage → Type 0
Good Head = Unit
Good (Walking walk) = Stands walk

abbrev pub size : ℕ
size = 65538

abbrev KeptBy : Stage → List ℕ → Bool → ℕ → Did Stage → Type 0
KeptBy s l last room k = Kept still Good line_room size s l last room k

module _ (l : List ℕ) (last : Bool) (room : ℕ) where
  opens : (o : Opened) → Headed o (length l) → Follows last (λ v. Tells l v o) → (last ≡ true → Answered o)
      → (Bytes l → size ≤ length l → Answered o) → KeptBy Head l last room (open_move o)
  opens (Ok None) h t a b = keeps_waiting still Good line_room size Head l last room tt a b
  opens (Err r) h t a b = keeps_refusing still Good line_room size Head l last room (refusal_line r.number r.place) tt t
  opens (Ok (Some walk)) h t a b =
      keeps_going still Good line_room size Head l last room (Walking walk) head_bytes h (t [] (λ z. refl)).0 (λ v q. (t v q).1)

  open_keeps : KeptBy Head l last room (open_move (begin_of l last))
  open_keeps =
      opens (begin_of l last) (begin_headed l last) (λ v q. begin_tells l v last q)
      (λ z. subst (λ (t : Bool). Answered (begin_of l t)) (sym z) (begin_answered l))
      (λ b n. head_answered l last (head_suffices l last b n))

  walk_keeps : (walk : Walk) → Stands walk → KeptBy (Walking walk) l last room (took_move (take_of walk l last room))
  walk_keeps walk z =
      let k = take_of walk l last room in
      keeps_taken still Good line_room size (Walking walk) l last room (Walking k.walk) k.used k.text k.ended
      (take_inside walk l last room) (take_stands walk l [] last room z (λ e. refl))
      (λ f v q. take_goes_on walk l v last room z q f) (λ f v q. take_ended walk l v last room z q f)
      (λ r f q. at_end last q r f) (λ r f b n. moves_full walk l last room r b (omega arith) f)
    where
      at_end : (t : Bool) → t ≡ true → line_room ≤ room → (take_of walk l t room).ended ≡ false → 0 < (take_of walk l t room).used
      at_end true q r f = moves_last walk l room r f
      at_end false q r f = absurd (false_true q)

move_keeps : (s : Stage) (l : List ℕ) (last : Bool) (room : ℕ) → Good s → KeptBy s l last room (move_by s l last room)
unfolding move_by
move_keeps Head l last room g = open_keeps l last room
move_keeps (Walking walk) l last room g = walk_keeps l last room walk g

pub keeps : Keeps machine line_room size
keeps = record { still = still; Good = Good; starts = tt; all = λ l. refl; steps = move_keeps }
