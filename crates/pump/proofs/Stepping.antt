-- The parts of a step, over plain values: the walk's answer as the step's, and a step by its stage.
use Rattle.std.specs.Prelude.{◌≡◌}
use Rattle.laws.specs.Kit.{sym, ap, subst, List, ℕ, eqb}
use Rattle.printer.specs.declared.Walk.{Walk}
use Rattle.printer.specs.declared.TakeAnswer.{TakeAnswer}
use Rattle.printer.specs.Step.{TakeOutcome, TakeGives, begin_of, take_of}
use Rattle.window.specs.declared.Span.{Span}
use Rattle.window.specs.declared.Told.{Told}
use Rattle.window.specs.Step.{StepGives, onward}
use Rattle.window.proofs.Answering.{answers_taken}
use Rattle.pump.specs.declared.Stage.{Stage}
use Rattle.pump.specs.declared.Stage.TheVariants.{Head, Walking}
use Rattle.pump.specs.Step.{open_move, took_move, move_by}

pub walked_on : (h : Span) (k : TakeOutcome) (before : List ℕ) (r : TakeAnswer) (after : List ℕ) (span : Span) → TakeGives k 0 0 before r after
    → span ≡ onward h r.used
    → StepGives h (took_move k) (Walking r.walk) (record { span = span; written = r.written; wants = eqb r.used 0; over = r.ended }) after
walked_on h k before r after span t e =
    answers_taken h (Walking r.walk) (Walking k.walk) (ap Walking t.walk_is) k.text before after r.used r.written k.used
    r.ended k.ended t.used_is t.written_is t.ended_is t.bytes t.fits span e

module _ (h : Span) (s : Stage) (l : List ℕ) (room : ℕ) {next : Stage} {r : Told} {after : List ℕ} where
  step_by : (x : Stage) → s ≡ x → StepGives h (move_by x l h.last room) next r after → StepGives h (move_by s l h.last room) next r after
  step_by x e t = subst (λ (y : Stage). StepGives h (move_by y l h.last room) next r after) (sym e) t

  pub head_step : s ≡ Head → StepGives h (open_move (begin_of l h.last)) next r after → StepGives h (move_by s l h.last room) next r after
  unfolding move_by
  head_step e t = step_by Head e t

  pub walk_step : (walk : Walk) → s ≡ Walking walk → StepGives h (took_move (take_of walk l h.last room)) next r after
      → StepGives h (move_by s l h.last room) next r after
  unfolding move_by
  walk_step walk e t = step_by (Walking walk) e t
