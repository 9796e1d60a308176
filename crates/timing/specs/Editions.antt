-- What an edition of the test plan can touch: the buffer answer, and nothing else of a state.
use Rattle.frame.specs.declared.Buffer.TheVariants.{None}
use Rattle.timing.specs.declared.State.{State}
use Rattle.timing.specs.Step.{of_profile, with_other}

-- V12: a state without its edition and its buffer answer: those of edition 1 before any frame stand instead
abbrev pub beside_buffer : State → State
beside_buffer s = with_other (of_profile s.numbers.profile s.numbers.parameters) s.frames.current None s
