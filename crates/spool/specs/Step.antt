-- What a step of the program for captures does, by its stage: what the contracts cite, and the machine that the run is of.
use Rattle.std.specs.Prelude.{Ok, Err, Some, None}
use Rattle.laws.specs.Kit.{Bool, List, ℕ, eqb}
use Rattle.text.specs.Lines.{refusal_line}
use Rattle.capture.specs.Paper.{header_bytes}
use Rattle.reel.specs.declared.Asked.{Asked}
use Rattle.reel.specs.Step.{Threaded}
use Rattle.reel.specs.Paper.{output_of}
use Rattle.reel.specs.Step.{TakeOutcome, begin_of, take_of}
use Rattle.window.specs.Step.{Did, waiting, refusing, going, Machine}
use Rattle.spool.specs.declared.Stage.{Stage}
use Rattle.spool.specs.declared.Stage.TheVariants.{Leader, Rolling}

abbrev pub lead_move : Asked → Threaded → Did Stage
lead_move asked (Ok None) = waiting (Leader asked)
lead_move asked (Err r) = refusing (Leader asked) (refusal_line r 0)
lead_move asked (Ok (Some r)) = going (Rolling r) header_bytes

abbrev pub rolled_move : TakeOutcome → Did Stage
rolled_move k = record { stage = Rolling k.reel; used = k.used; text = k.text; wants = eqb k.used 0; over = k.ended }

unfoldable pub move_by : Stage → List ℕ → Bool → ℕ → Did Stage
move_by (Leader asked) l last room = lead_move asked (begin_of asked l last)
move_by (Rolling reel) l last room = rolled_move (take_of reel l last room)

-- R17: "The program `vcapture` reads a capture on standard input": from its start on, step by step, its output
abbrev pub machine : Asked → Machine Stage
machine asked = record { start = Leader asked; step = move_by; output = output_of asked }
