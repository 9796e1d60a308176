-- The start of the file by its answer.
use Rattle.std.specs.Prelude.{◌≡◌}
use Rattle.std.proofs.Common.{rules}
use Rattle.laws.specs.Kit.{sym, ap, subst, ◌∙◌, arith, length}
use Rattle.record.specs.Paper.{head_bytes}
use Rattle.text.specs.Lines.{refusal_line}
use Rattle.printer.specs.Step.{Opened, opened_ready, begin_of, Headed}
use Rattle.printer.proofs.Inside.{begin_headed}
use Rattle.window.specs.Step.{shown}
use Rattle.window.proofs.Showing.{used_fits}
use Rattle.window.proofs.Answering.{answers_refusing}
use Rattle.pump.specs.declared.Stage.TheVariants.{Head}
use Rattle.pump.specs.Step.{open_move}
use Rattle.pump.proofs.open.Goals as goal

pub past-requires : goal.past-requires
past-requires c = let l = shown c.args.span c.args.window.now in
    let begun : begin_of l c.args.span.last ≡ opened_ready c.in-Ok-Some.walk = sym c.begin.ensures ∙ (search rules) in
    let headed = begin_headed l c.args.span.last in
    used_fits c.args.span c.args.window.now head_bytes c.requires.0 (subst (λ (o : Opened). Headed o (length l)) begun headed)

pub returns-in-Err : goal.returns-in-Err
returns-in-Err c = let put = c.put_refusal in
    let short = put.ensures.short in
    answers_refusing c.args.span Head (refusal_line c.number.result c.in-Err.r.place) put.result c.args.out.now _
    (rw c.number.ensures (ap open_move c.in-Err.ensures)) (omega (arith, short, c.requires.1)) put.ensures.put
