-- A call of the program: what its words ask, and the run of that.
use Rattle.std.specs.Prelude.{Option, Some, None}
use Rattle.laws.specs.Kit.{ℕ}
use Rattle.reel.specs.declared.Asked.{Asked}
use Rattle.window.specs.Run.{End, ProgramGives}
use Rattle.spool.specs.Step.{machine}
use Rattle.vcapture.specs.Asking.{AskGives}

-- how the run ended; or the words are no call
abbrev pub Answered : Type 0
Answered = Option End

-- R17, R18: no call at all; or the run whose output is that of what the ten numbers ask
pub data CallGives (room : ℕ) : Answered → Type 0 where
  no_call : AskGives None → CallGives room None
  ran : (asked : Asked) (end : End) → AskGives (Some asked) → ProgramGives (machine asked) room end → CallGives room (Some end)
