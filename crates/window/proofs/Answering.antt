-- A step's answer, over plain values: the last line is put, or a text was laid. By the front of what is laid.
use Rattle.std.specs.Prelude.{◌≡◌, ◌+◌, ◌≤◌}
use Rattle.laws.specs.Kit.{refl, ap, subst, ◌∙◌, Bool, true, false, List, ℕ, arith, eqb, length, take, drop}
use Rattle.laws.specs.Kit.{sets, length-sets, take-append_seam}
use Rattle.laws.proofs.Lay.{sets_front}
use Rattle.laws.specs.Lay.{Put}
use Rattle.laws.proofs.Lay.{put_length}
use Rattle.window.specs.declared.Span.{Span}
use Rattle.window.specs.Step.{Did, StepGives, onward, refusing}

-- the front of what a text was laid into is the text
pub laid_front : (text before : List ℕ) → length text ≤ length before → take (length text) (sets before 0 text) ≡ text
laid_front text before h =
    ap (take (length text)) (sets_front text before h) ∙ take-append_seam text (drop (length text) before)

-- no byte further
stays : (h : Span) → h ≡ onward h 0
stays h = let none : h.from ≡ h.from + 0 = omega arith in λ j. record { from = none j; held = h.held; last = h.last }

module _ {S : Type 0} (h : Span) where
  pub answers_refusing : (s : S) {k : Did S} (line : List ℕ) (written : ℕ) (before after : List ℕ) → refusing s line ≡ k
      → length line ≤ length before → Put line 0 before written after
      → StepGives h k s (record { span = h; written = written; wants = false; over = true }) after
  answers_refusing s line written before after e q t =
      let size : written ≡ length line = omega (arith, t.next) in
      let long : length after ≡ length before = put_length t in
      subst (λ (k : Did S). StepGives h k s (record { span = h; written = written; wants = false; over = true }) after) e
      (record {
        stage_is = refl;
        span_is = stays h;
        wants_is = refl;
        over_is = refl;
        text_is = ap (λ (n : ℕ). take n after) size ∙ ap (take (length line)) t.there ∙ laid_front line before q;
        fits = omega (arith, size, long, q);
      })

  -- a call that used so many bytes and laid this text; it wants more where it used none
  module _ (stage after_stage : S) (same : stage ≡ after_stage) (text before after : List ℕ) (used written n : ℕ) (over ended : Bool) where
    pub answers_taken : used ≡ 0 + n → written ≡ 0 + length text → over ≡ ended → after ≡ sets before 0 text → written ≤ length before
        → (span : Span) → span ≡ onward h used
        → StepGives h (record { stage = after_stage; used = n; text = text; wants = eqb n 0; over = ended }) stage
        (record { span = span; written = written; wants = eqb used 0; over = over }) after
    answers_taken u l o b f span q =
        let used_is : used ≡ n = omega (arith, u) in
        let size : written ≡ length text = omega (arith, l) in
        let long : length after ≡ length before = ap length b ∙ length-sets before 0 text in
        record {
          stage_is = same;
          span_is = q ∙ ap (onward h) used_is;
          wants_is = ap (λ (m : ℕ). eqb m 0) used_is;
          over_is = o;
          text_is = ap (λ (m : ℕ). take m after) size ∙ ap (take (length text)) b ∙ laid_front text before (omega (arith, size, f));
          fits = omega (arith, long, f);
        }
