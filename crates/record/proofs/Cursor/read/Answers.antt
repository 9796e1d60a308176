-- A packet's record that stands there is the answer (Standing); else any record is read, of the last window.
use Rattle.laws.specs.Kit.{sym, ap, ◌∙◌, arith, true, ℕ, List}
use Rattle.record.specs.Step.{next_piece}
use Rattle.record.proofs.Ways.{rest_all}
use Rattle.record.proofs.Standing.{stands, stands_packet}
use Rattle.record.proofs.Cursor.read.Goals as goal

pub packet_of-requires : goal.packet_of-requires
packet_of-requires c =
    let there = stands _ (sym c.packet_stands.ensures ∙ c.if-packet_stands.true) in
    record { inside = omega (arith, there.sixteen) }

pub returns-then-packet_stands : goal.returns-then-packet_stands
returns-then-packet_stands c =
    let there = stands _ (sym c.packet_stands.ensures ∙ c.if-packet_stands.true) in
    c.packet_of.ensures
    ∙ rw c.after_packet.ensures (stands_packet _ _ true there)
    ∙ ap (λ (l : List ℕ). next_piece c.args.self.at l true) (rest_all c.args.s.now c.args.self.at)
