-- The parts of a step, over plain values: the reel's answer as the step's, and a step by its stage.
use Rattle.std.specs.Prelude.{◌≡◌}
use Rattle.laws.specs.Kit.{sym, ap, subst, List, ℕ, eqb}
use Rattle.reel.specs.declared.Asked.{Asked}
use Rattle.reel.specs.declared.Reel.{Reel}
use Rattle.reel.specs.declared.TakeAnswer.{TakeAnswer}
use Rattle.reel.specs.Step.{TakeOutcome, TakeGives, begin_of, take_of}
use Rattle.window.specs.declared.Span.{Span}
use Rattle.window.specs.declared.Told.{Told}
use Rattle.window.specs.Step.{StepGives, onward}
use Rattle.window.proofs.Answering.{answers_taken}
use Rattle.spool.specs.declared.Stage.{Stage}
use Rattle.spool.specs.declared.Stage.TheVariants.{Leader, Rolling}
use Rattle.spool.specs.Step.{lead_move, rolled_move, move_by}

pub rolled_on : (h : Span) (k : TakeOutcome) (before : List ℕ) (r : TakeAnswer) (after : List ℕ) (span : Span) → TakeGives k 0 0 before r after
    → span ≡ onward h r.used
    → StepGives h (rolled_move k) (Rolling r.reel) (record { span = span; written = r.written; wants = eqb r.used 0; over = r.ended }) after
rolled_on h k before r after span t e =
    answers_taken h (Rolling r.reel) (Rolling k.reel) (ap Rolling t.reel_is) k.text before after r.used r.written k.used
    r.ended k.ended t.used_is t.written_is t.ended_is t.bytes t.fits span e

module _ (h : Span) (s : Stage) (l : List ℕ) (room : ℕ) {next : Stage} {r : Told} {after : List ℕ} where
  step_by : (x : Stage) → s ≡ x → StepGives h (move_by x l h.last room) next r after → StepGives h (move_by s l h.last room) next r after
  step_by x e t = subst (λ (y : Stage). StepGives h (move_by y l h.last room) next r after) (sym e) t

  pub lead_step : (asked : Asked) → s ≡ Leader asked → StepGives h (lead_move asked (begin_of asked l h.last)) next r after
      → StepGives h (move_by s l h.last room) next r after
  unfolding move_by
  lead_step asked e t = step_by (Leader asked) e t

  pub roll_step : (reel : Reel) → s ≡ Rolling reel → StepGives h (rolled_move (take_of reel l h.last room)) next r after
      → StepGives h (move_by s l h.last room) next r after
  unfolding move_by
  roll_step reel e t = step_by (Rolling reel) e t
