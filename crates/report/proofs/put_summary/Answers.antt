-- The verdict of a state in range is the state's two answers, and the nine numbers are stored; there is no other case (timing's Answering).
use Rattle.laws.specs.Kit.{sym, ap, ◌∙◌, List, ℕ, sets}
use Rattle.timing.specs.Answers.{summary_with}
use Rattle.timing.specs.declared.Verdict.{Verdict}
use Rattle.report.specs.Paper.{in_bytes}
use Rattle.timing.proofs.Answering.{verdict_is, verdict_there}
use Rattle.report.proofs.put_summary.Goals as goal

pub returns-in-Ok : goal.returns-in-Ok
returns-in-Ok c =
    let given = sym c.in-Ok.ensures in
    let s = c.args.s in
    let own = verdict_is s _ c.requires.1 given in
    c.put_nine.ensures
    ∙ ap (λ (l : List ℕ). sets c.args.out.now 0 (in_bytes l))
    (c.summary-summary.ensures ∙ ap (λ (v : Verdict). summary_with s.past.packets s.frames.closed s.bucket.peak v) own)

pub returns-in-Err : goal.returns-in-Err
returns-in-Err c =
    absurd (verdict_there c.args.s _ c.requires.1 (sym c.in-Err.ensures))
