-- The frame opened, all that goes by since one period before its start: the rule's answer is the paper's (NextReads).
use Rattle.laws.specs.Kit.{arith, ap, ◌∙◌}
use Rattle.grain.specs.declared.Reads.{Reads}
use Rattle.frame.proofs.NextReads.{opened_gone, opened_fits, opened_next}
use Rattle.frame.proofs.Plan.next_read.Goals as goal

pub overflow_add-gone : goal.overflow_add-gone
overflow_add-gone c = omega (arith, opened_gone _ _ _ c.requires.0 c.requires.1 c.empty.ensures c.opened-f.ensures)

pub overflow_mul-by : goal.overflow_mul-by
overflow_mul-by c = record { fits = omega (arith, (opened_fits _ _ _ c.requires.0 c.requires.1 c.empty.ensures c.opened-f.ensures).goes) }

pub reads_on-reads-requires : goal.reads_on-reads-requires
reads_on-reads-requires c = opened_fits _ _ _ c.requires.0 c.requires.1 c.empty.ensures c.opened-f.ensures

pub returns : goal.returns
returns c = ap (λ (r : Reads). r.next) c.reads_on-reads.ensures
    ∙ opened_next _ _ _ c.requires.0 c.requires.1 c.empty.ensures c.opened-f.ensures
