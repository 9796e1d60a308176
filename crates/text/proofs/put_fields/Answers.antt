use Rattle.laws.specs.Kit.{◌∙◌, refl, arith, pos}
use Rattle.std.proofs.Common.{rules}
use Rattle.text.proofs.Parts.{part_kept}
use Rattle.text.proofs.Fields.{no_fields, more_fields}
use Rattle.text.proofs.put_fields.Goals as goal

pub loop-number-init : goal.loop-number-init
loop-number-init c = record { put = no_fields _ _; kept = refl; all = refl; wide = search rules }

pub loop-number-preserved : goal.loop-number-preserved
loop-number-preserved c =
    let l = c.loop-number in
    record {
      put = more_fields _ l.number-index (pos 0) (omega arith) (search rules) l.invariant.put c.put_field-next.ensures;
      kept = part_kept c.put_field-next.ensures ∙ l.invariant.kept;
      all = refl;
      wide = l.invariant.wide;
    }
