-- Where the lead-in is over the row is made and stored; else nothing is.
use Rattle.std.specs.Prelude.{◌+◌}
use Rattle.laws.specs.Kit.{sym, ap, ℕ}
use Rattle.timing.proofs.Laying.{row_fits, puts_one, puts_none}
use Rattle.report.proofs.Bytes.{as_bytes, row_length}
use Rattle.report.proofs.put_closed.Goals as goal

pub put_row-requires : goal.put_row-requires
put_row-requires c =
    rw c.row.ensures (row_fits as_bytes c.args.rules c.args.s c.if-s.true c.requires)

pub returns-then-s : goal.returns-then-s
returns-then-s c =
    let row = c.row in
    puts_one as_bytes c.args.rules c.args.s c.args.at _ row.result
    c.if-s.true
    row.ensures (ap (λ (n : ℕ). c.args.at + n) (sym (row_length row.result))) c.put_row.ensures

pub returns : goal.returns
returns c = puts_none as_bytes c.args.rules c.args.s c.args.at _ c.if-s.false
