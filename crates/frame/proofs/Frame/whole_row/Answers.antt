-- Each number is read back as it was made, since it fits.
use Rattle.std.specs.Prelude.{◌-◌}
use Rattle.laws.specs.Kit.{pos, ◌∙◌, arith}
use mir.Syntax.{w64}
use mir.Facts.{to_z_pos, to_z-of_z}
use Rattle.grain.specs.Paper.{grains}
use Rattle.grain.proofs.EncodedTime.{offset_made, offset_read}
use Rattle.frame.specs.Step.{whole_row}
use Rattle.frame.proofs.Frame.whole_row.Goals as goal

pub overflow_sub-offset : goal.overflow_sub-offset
overflow_sub-offset c = let a = c.args in
    let d = c.difference-fpt in
    let v = c.video_latency-latency in
    offset_made (grains a.self.first) a.self.stamp a.self.phase a.plan.period (omega arith) (omega arith)
    d.ensures v.ensures (record { sfits = d.type_inv }) (record { sfits = v.type_inv })

pub returns : goal.returns
unfolding whole_row
returns c = let a = c.args in
    let d = c.difference-fpt in
    let v = c.video_latency-latency in
    let m = c.difference in
    let fpt = to_z-of_z {w = w64} (record { sfits = d.type_inv }) ∙ d.ensures in
    let offset = offset_read (grains a.self.first) a.self.stamp a.self.phase a.plan.period (omega arith) (omega arith)
    d.ensures v.ensures (record { sfits = d.type_inv }) (record { sfits = v.type_inv }) in
    let latency = to_z-of_z {w = w64} (record { sfits = v.type_inv }) ∙ v.ensures in
    λ j. record {
      number = to_z_pos w64 {n = a.number} (omega arith) j;
      kind = pos 0;
      detail = pos 0;
      fpt = fpt j;
      offset = offset j;
      latency = latency j;
      margin = (to_z-of_z {w = w64} (record { sfits = m.type_inv }) ∙ m.ensures) j;
      gap = to_z_pos w64 {n = grains (a.self.first - a.marked)} (omega arith) j;
      peak = to_z_pos w64 {n = a.self.top} (omega arith) j;
      least = (to_z-of_z {w = w64} (record { sfits = c.difference-2.type_inv }) ∙ c.difference-2.ensures) j;
      began = to_z_pos w64 {n = a.began} (omega arith) j;
    }
