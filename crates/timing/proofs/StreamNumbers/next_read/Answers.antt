-- Set-up's refusal, then 12 or 13, then the frame's own answer: one law each (Awaiting).
use Rattle.std.proofs.lemmas.Result.{err_from_is_err_and}
use Rattle.laws.specs.Kit.{sym, subst}
use Rattle.refusal.proofs.Telling.{number_some}
use Rattle.frame.specs.Range.{Planned}
use Rattle.timing.specs.declared.Rules.{Rules}
use Rattle.timing.proofs.Planning.{planned}
use Rattle.timing.proofs.Awaiting.{apart_none, refused_first, refused_apart, as_told}
use Rattle.timing.proofs.StreamNumbers.next_read.Goals as goal

pub returns-in_err-check : goal.returns-in_err-check
returns-in_err-check c =
    let p = err_from_is_err_and c.from_residual.result c.from_residual.ensures.1 in
    rw (p.1, p.2) (refused_first _ _ _ c.in_err-check.ensures (number_some c.in_err-check.field-0.0))

pub returns-in_err-check_apart : goal.returns-in_err-check_apart
returns-in_err-check_apart c =
    let p = err_from_is_err_and c.from_residual-in_err-check_apart.result c.from_residual-in_err-check_apart.ensures.1 in
    rw (p.1, p.2) (refused_apart _ _ _ (sym c.in_ok-check.ensures) c.in_err-check_apart.ensures (number_some c.in_err-check_apart.field-0.0))

pub next_read-requires : goal.next_read-requires
next_read-requires c = (
  subst (λ (q : Rules). Planned q.plan) (sym c.rules.ensures) (planned _ (sym c.in_ok-check.ensures)),
  apart_none _ _ (sym c.in_ok-check_apart.ensures),
)

pub returns-in-Some : goal.returns-in-Some
returns-in-Some c =
    as_told _ _ _ (sym c.in_ok-check.ensures) (sym c.in_ok-check_apart.ensures) c.rules.ensures
    c.next_read.ensures c.in-Some.is

pub returns-in-None : goal.returns-in-None
returns-in-None c =
    as_told _ _ _ (sym c.in_ok-check.ensures) (sym c.in_ok-check_apart.ensures) c.rules.ensures
    c.next_read.ensures c.in-None.is
