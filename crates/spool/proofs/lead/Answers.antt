-- The start of the capture by its answer.
use Rattle.std.specs.Prelude.{◌≡◌}
use Rattle.std.proofs.Common.{rules}
use Rattle.laws.specs.Kit.{[], refl, sym, ap, subst, ◌∙◌, arith}
use Rattle.capture.specs.Paper.{header_bytes}
use Rattle.text.specs.Lines.{refusal_line}
use Rattle.reel.specs.Step.{begin_of, threaded_ready}
use Rattle.reel.proofs.Beginning.{Tells, begin_tells}
use Rattle.window.specs.Step.{shown}
use Rattle.window.proofs.Showing.{used_fits}
use Rattle.window.proofs.Answering.{answers_refusing}
use Rattle.spool.specs.declared.Stage.TheVariants.{Leader}
use Rattle.spool.specs.Step.{lead_move}
use Rattle.spool.proofs.lead.Goals as goal

pub past-requires : goal.past-requires
past-requires c = let l = shown c.args.span c.args.window.now in
    let ready : begin_of c.args.asked l c.args.span.last ≡ threaded_ready c.in-Ok-Some.reel = sym c.begin.ensures ∙ (search rules) in
    let tells = begin_tells c.args.asked l [] c.args.span.last (λ z. refl) in
    used_fits c.args.span c.args.window.now header_bytes c.requires.0
    (subst (Tells c.args.asked l []) ready tells).1

pub returns-in-Err : goal.returns-in-Err
returns-in-Err c = let put = c.put_refusal in
    let short = put.ensures.short in
    answers_refusing c.args.span (Leader c.args.asked) (refusal_line c.number.result 0) put.result c.args.out.now _
    (rw c.number.ensures (ap (lead_move c.args.asked) c.in-Err.ensures)) (omega (arith, short, c.requires.1)) put.ensures.put
