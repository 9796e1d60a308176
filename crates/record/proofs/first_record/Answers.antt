-- Each return is one law, from the tests before it.
use Rattle.laws.specs.Kit.{sym, ◌∙◌, not-true, not-false}
use Rattle.record.proofs.Format.{parameter_room}
use Rattle.record.proofs.Ways.{first_22, first_23, first_ready}
use Rattle.record.proofs.first_record.Goals as goal

pub returns-then-body-kind_length : goal.returns-then-body-kind_length
returns-then-body-kind_length c = rw c.refused_at.ensures (sym (first_22 _ _ _ _ (λ e. c.if-body-kind_length.true (e ∙ sym c.kind_length.ensures))))

pub returns-then-not-is_parameters : goal.returns-then-not-is_parameters
returns-then-not-is_parameters c =
    let fits = c.if-body-kind_length.false ∙ c.kind_length.ensures in
    rw c.refused_at-then-not-is_parameters.ensures
    (sym (first_23 _ _ _ _ fits (sym c.is_parameters.ensures ∙ not-true _ c.if-not-is_parameters.true-raw)))

pub parameters_of-requires : goal.parameters_of-requires
parameters_of-requires c =
    let fits = c.if-body-kind_length.false ∙ c.kind_length.ensures in
    parameter_room c.requires fits (sym c.is_parameters.ensures ∙ not-false _ c.if-not-is_parameters.false-raw)

pub returns : goal.returns
returns c =
    let fits = c.if-body-kind_length.false ∙ c.kind_length.ensures in
    rw c.parameters_of.ensures (sym (first_ready _ _ _ _ fits (sym c.is_parameters.ensures ∙ not-false _ c.if-not-is_parameters.false-raw)))
