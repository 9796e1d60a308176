-- The kind's refusal first; else what the stream's numbers answer.
use Rattle.std.proofs.lemmas.Result.{err_from_is_err_and}
use Rattle.laws.specs.Kit.{sym, ap, ◌∙◌, eq-eqb, ne_eqb}
use Rattle.refusal.specs.Told.{number_in}
use Rattle.refusal.proofs.Telling.{number_some}
use Rattle.limits.proofs.Profiles.{profile_number, profile_chosen}
use Rattle.timing.specs.declared.StreamNumbers.{StreamNumbers}
use Rattle.timing.specs.Answers.{next_of, stated_next}
use Rattle.timing.proofs.Stated.next_read.Goals as goal

pub returns-in_err-try_from : goal.returns-in_err-try_from
unfolding stated_next
returns-in_err-try_from c =
    let p = err_from_is_err_and c.from_residual.result c.from_residual.ensures.1 in
    let e = sym (ap number_in c.in_err-try_from.was) ∙ profile_number _ _ c.try_from.ensures in
    rw (p.1, p.2, e) (rw (ne_eqb _ 0 (λ z. number_some c.in_err-try_from.field-0.0 (e ∙ z))))

pub returns : goal.returns
unfolding stated_next
returns c =
    let args = c.args in
    c.next_read.ensures
    ∙ ap (λ (x : StreamNumbers). next_of x args.first args.t) c.numbers.ensures
    ∙ rw (eq-eqb _ 0 (profile_chosen _ _ c.try_from.ensures _ c.in_ok-try_from.was))
