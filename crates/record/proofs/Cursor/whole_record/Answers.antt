-- Each return is one law, from the tests before it.
use Rattle.laws.specs.Kit.{sym, ◌∙◌}
use Rattle.record.proofs.Format.{packet_room}
use Rattle.record.proofs.Ways.{whole_22, whole_23, whole_packet}
use Rattle.record.proofs.Cursor.whole_record.Goals as goal

pub returns-then-body-kind_length : goal.returns-then-body-kind_length
returns-then-body-kind_length c =
    rw (c.refused.ensures, c.from-size.ensures) (sym (whole_22 _ _ _ _ (λ e. c.if-body-kind_length.true (e ∙ sym c.kind_length.ensures))))

pub packet_of-requires : goal.packet_of-requires
packet_of-requires c =
    let fits = c.if-body-kind_length.false ∙ c.kind_length.ensures in
    packet_room c.requires fits (sym c.is_parameters-again.ensures ∙ c.if-again.false)

pub returns : goal.returns
returns c =
    let fits = c.if-body-kind_length.false ∙ c.kind_length.ensures in
    c.packet_of.ensures
    ∙ rw c.after_packet.ensures (sym (whole_packet _ _ _ _ fits (sym c.is_parameters-again.ensures ∙ c.if-again.false)))

pub returns-then-again : goal.returns-then-again
returns-then-again c =
    let fits = c.if-body-kind_length.false ∙ c.kind_length.ensures in
    rw (c.refused-then-again.ensures, c.from-size.ensures) (sym (whole_23 _ _ _ _ fits (sym c.is_parameters-again.ensures ∙ c.if-again.true)))
