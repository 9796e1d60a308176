-- Set-up's refusal, too few words, or the fresh state's words: one law each (Calls).
use Rattle.std.proofs.lemmas.Result.{err_from_is_err_and}
use Rattle.laws.specs.Kit.{sym, ap, ◌∙◌, arith}
use Rattle.refusal.proofs.Telling.{number_some}
use Rattle.timing.specs.Step.{fresh_of}
use Rattle.probe.proofs.Calls.{not_set_up, no_room, set_up}
use Rattle.probe.proofs.set_up.Goals as goal

pub returns-in_err-check : goal.returns-in_err-check
returns-in_err-check c =
    let p = err_from_is_err_and c.from_residual.result c.from_residual.ensures.1 in
    rw (p.1, p.2) (not_set_up _ _ _ (sym c.in_err-check.ensures) (omega (arith, number_some c.in_err-check.field-0.0)))

pub returns-then-state-lt-WORDS : goal.returns-then-state-lt-WORDS
returns-then-state-lt-WORDS c = no_room _ _ (sym c.in_ok-check.ensures) c.if-state-lt-WORDS.true

pub returns : goal.returns
returns c =
    set_up _ _ (sym c.in_ok-check.ensures) c.if-state-lt-WORDS.false
    (c.fresh.ensures ∙ ap fresh_of c.numbers.ensures)
    c.lay_words.ensures
