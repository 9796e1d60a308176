-- The verdict of a state in range is the state's two answers, and the nine numbers are laid; there is no other case (timing's Answering).
use Rattle.laws.specs.Kit.{sym, ap, ◌∙◌, List, ℕ, sets}
use Rattle.refusal.specs.Told.{by_number}
use Rattle.timing.specs.declared.Verdict.{Verdict}
use Rattle.timing.specs.Answers.{summary_with}
use Rattle.timing.proofs.Answering.{verdict_is, verdict_there}
use Rattle.probe.proofs.summarise.Goals as goal

pub returns-in-Ok : goal.returns-in-Ok
returns-in-Ok c =
    let given = sym c.verdict.ensures ∙ ap by_number c.in-Ok.is in
    let s = c.args.s in
    let own = verdict_is s _ c.requires.1 given in
    c.lay.ensures
    ∙ ap (λ (l : List ℕ). sets c.args.out.now 0 l)
    (c.summary-nine.ensures ∙ ap (λ (v : Verdict). summary_with s.past.packets s.frames.closed s.bucket.peak v) own)

pub returns-in_default : goal.returns-in_default
returns-in_default c = absurd (verdict_there c.args.s _ c.requires.1 (sym c.verdict.ensures ∙ ap by_number c.in_default.is))
