-- What stands at the cursor, by the framing that was seen.
use Rattle.laws.specs.Kit.{◌∙◌}
use Rattle.record.proofs.Ways.{is_whole, next_framed}
use Rattle.record.proofs.Cursor.read_any.Goals as goal

pub whole_record-requires : goal.whole_record-requires
whole_record-requires c = is_whole _ _ c.frame-framed.ensures c.in-Whole.is

pub returns-in-Nothing : goal.returns-in-Nothing
returns-in-Nothing c = next_framed _ _ _ c.frame-framed.ensures c.in-Nothing.is

pub returns-in-Cut : goal.returns-in-Cut
returns-in-Cut c = rw c.refused.ensures (next_framed _ _ _ c.frame-framed.ensures c.in-Cut.is)

pub returns-in-Whole : goal.returns-in-Whole
returns-in-Whole c = c.whole_record.ensures ∙ next_framed _ _ _ c.frame-framed.ensures c.in-Whole.is

pub returns-in-More : goal.returns-in-More
returns-in-More c = next_framed _ _ _ c.frame-framed.ensures c.in-More.is
