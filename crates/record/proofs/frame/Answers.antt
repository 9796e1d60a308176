-- What stands in front of a window: each return is one law, from the tests before it.
use Rattle.laws.specs.Kit.{refl, sym, ◌∙◌, arith}
use Rattle.record.proofs.Format.{framed_scrap, framed_zero, framed_whole}
use Rattle.record.proofs.Ways.{short_cut, short_waits}
use Rattle.record.proofs.frame.Goals as goal

pub returns-then-window-lt2 : goal.returns-then-window-lt2
returns-then-window-lt2 c = c.scrap.ensures ∙ sym (framed_scrap _ _ (omega arith))

pub returns-then-body-eq0 : goal.returns-then-body-eq0
returns-then-body-eq0 c = sym (framed_zero _ _ (omega arith) (omega arith))

pub returns-then-last : goal.returns-then-last
returns-then-last c = sym (short_cut _ _ (omega arith) (omega arith) (omega arith) (cc))

pub returns-then-window-from : goal.returns-then-window-from
returns-then-window-from c = sym (short_waits _ _ (omega arith) (omega arith) (omega arith) (cc))

pub returns : goal.returns
returns c =
    sym (framed_whole _ _ (record {
      length_read = c.read16-body.ensures;
      kind_read = refl;
      some_body = omega arith;
      all_there = omega arith;
    }))
