-- After one packet, the scan's own numbers.
use Rattle.laws.specs.Kit.{ap, ◌∙◌}
use Rattle.packet.specs.declared.Past.{Past}
use Rattle.packet.specs.Step.{next_of, refusal_of}
use Rattle.timing.proofs.Awaiting.{apart_is}
use Rattle.timing.proofs.check_apart.Goals as goal

pub returns : goal.returns
returns c =
    let a = c.args in
    c.admit.ensures
    ∙ ap (λ (p : Past). refusal_of p a.t 0) (c.next.ensures ∙ ap (λ (p : Past). next_of p a.first) c.none.ensures)
    ∙ apart_is a.first a.t
