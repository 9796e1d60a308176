-- Where the lead-in is over the row is made and laid; else nothing is.
use Rattle.laws.specs.Kit.{refl, arith}
use Rattle.timing.proofs.Laying.{row_fits, puts_one, puts_none}
use Rattle.timing.proofs.Sink.{as_numbers}
use Rattle.timing.proofs.State.lay_row.Goals as goal

pub row-requires : goal.row-requires
row-requires c = (c.requires.makes.planned, c.requires.makes.made c.if-self.true)

pub put-requires : goal.put-requires
put-requires c =
    row_fits as_numbers c.args.rules c.args.self c.if-self.true c.requires

pub overflow_add-result : goal.overflow_add-result
overflow_add-result c = omega (arith, row_fits as_numbers c.args.rules c.args.self c.if-self.true c.requires)

pub returns-then-self : goal.returns-then-self
returns-then-self c = puts_one as_numbers c.args.rules c.args.self c.args.at _ c.row.result
    c.if-self.true
    c.row.ensures refl c.put.ensures

pub returns : goal.returns
returns c = puts_none as_numbers c.args.rules c.args.self c.args.at _ c.if-self.false
