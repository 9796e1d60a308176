-- Where the lead-in is over the row is made and its line put; else nothing is.
use Rattle.printer.proofs.Answers.{line_is, line_none, row_line_lem, no_row}
use Rattle.printer.proofs.put_closed.Goals as goal

pub returns-then-s : goal.returns-then-s
returns-then-s c = line_is (row_line_lem c.args.rules c.args.s c.if-s.true c.row.ensures)
    c.put_row.ensures

pub returns : goal.returns
returns c = line_none _ _ (no_row c.args.rules c.args.s c.if-s.false)
