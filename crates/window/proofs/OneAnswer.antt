-- The contract of a step admits one answer, and one text at the front of the lent bytes; what lies behind the text is nobody's.
use Rattle.std.specs.Prelude.{◌≡◌}
use Rattle.laws.specs.Kit.{sym, ap, ◌∙◌, List, ℕ, length, take, length-take-le}
use Rattle.laws.proofs.Unique.{one_answer}
use Rattle.window.specs.declared.Span.{Span}
use Rattle.window.specs.declared.Told.{Told}
use Rattle.window.specs.Step.{Did, StepGives}

module _ {S : Type 0} (h : Span) (k : Did S) where
  -- as many bytes are to be written as the text has
  size : (s : S) (r : Told) (after : List ℕ) → StepGives h k s r after → r.written ≡ length k.text
  size s r after x = sym (length-take-le r.written after x.fits) ∙ ap length x.text_is

  pub steps_unique : (s t : S) (a b : Told) (p q : List ℕ) → StepGives h k s a p → StepGives h k t b q
      → (s ≡ t) × (a ≡ b) × (take a.written p ≡ take b.written q)
  steps_unique s t a b p q x y = (
    one_answer x.stage_is y.stage_is,
    λ j. record {
      span = one_answer x.span_is y.span_is j;
      written = one_answer (size s a p x) (size t b q y) j;
      wants = one_answer x.wants_is y.wants_is j;
      over = one_answer x.over_is y.over_is j;
    },
    one_answer x.text_is y.text_is,
  )
