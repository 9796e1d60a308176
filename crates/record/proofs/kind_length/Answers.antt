-- The length of each kind, by the two tests.
use Rattle.laws.specs.Kit.{sym, ◌∙◌}
use Rattle.record.proofs.Format.{length_14, length_16}
use Rattle.record.proofs.Ways.{length_none}
use Rattle.record.proofs.kind_length.Goals as goal

pub returns-then-is_parameters : goal.returns-then-is_parameters
returns-then-is_parameters c = rw c.from.ensures (sym (length_16 _ (sym c.is_parameters.ensures ∙ c.if-is_parameters.true)))

pub returns-then-kind-eq-PACKET : goal.returns-then-kind-eq-PACKET
returns-then-kind-eq-PACKET c = rw (c.from-then-kind-eq-PACKET.ensures, c.if-kind-eq-PACKET.true) (sym length_14)

pub returns : goal.returns
returns c = sym (length_none _ (sym c.is_parameters.ensures ∙ c.if-is_parameters.false) c.if-kind-eq-PACKET.false)
