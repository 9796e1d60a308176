-- Another version's class stays; version 1 reads 0 and 3 as wide, and keeps the others.
use Rattle.laws.specs.Kit.{inl}
use Rattle.record.proofs.Ways.{class_later, class_wide, class_kept}
use Rattle.record.proofs.class_in.Goals as goal

pub returns-then-later : goal.returns-then-later
returns-then-later c = class_later _ _ c.if-later.true

pub returns-in-0 : goal.returns-in-0
returns-in-0 c = class_wide _ _ c.if-later.false c.in-0.is

pub returns-in-1-to-2 : goal.returns-in-1-to-2
returns-in-1-to-2 c = class_kept _ _ c.if-later.false (λ e. c.in-1-to-2.in-1-to-2-own.rest.1 (inl e))
