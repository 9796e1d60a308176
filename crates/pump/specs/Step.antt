-- What a step of the program for record files does, by its stage: what the contracts cite, and the machine that the run is of.
use Rattle.std.specs.Prelude.{Ok, Err, Some, None}
use Rattle.laws.specs.Kit.{Bool, List, ℕ, eqb}
use Rattle.record.specs.Paper.{head_bytes}
use Rattle.text.specs.Lines.{refusal_line}
use Rattle.printer.specs.Step.{Opened, TakeOutcome, begin_of, take_of}
use Rattle.printer.specs.Paper.{output_of}
use Rattle.window.specs.Step.{Did, waiting, refusing, going, Machine}
use Rattle.pump.specs.declared.Stage.{Stage}
use Rattle.pump.specs.declared.Stage.TheVariants.{Head, Walking}

abbrev pub open_move : Opened → Did Stage
open_move (Ok None) = waiting Head
open_move (Err r) = refusing Head (refusal_line r.number r.place)
open_move (Ok (Some walk)) = going (Walking walk) head_bytes

abbrev pub took_move : TakeOutcome → Did Stage
took_move k = record { stage = Walking k.walk; used = k.used; text = k.text; wants = eqb k.used 0; over = k.ended }

unfoldable pub move_by : Stage → List ℕ → Bool → ℕ → Did Stage
move_by Head l last room = open_move (begin_of l last)
move_by (Walking walk) l last room = took_move (take_of walk l last room)

-- L1, X10: from the start of the file on, step by step, its output
abbrev pub machine : Machine Stage
machine = record { start = Head; step = move_by; output = output_of }
