-- What is weighed decides: refused, nothing is stored; fine, the rows are stored, then the nine numbers and the two behind them (Filming).
use Rattle.laws.specs.Kit.{refl, sym, ap, ◌∙◌, arith, length, length-sets}
use Rattle.report.specs.Paper.{Answer}
use Rattle.film.proofs.Filming.{weighed_answer_lem, weighed_enough, enough_asks, enough_long, filmed_in_range, refused_leaves, film_filled}
use Rattle.film.proofs.Filming.{stated_asks, stated_gives}
use Rattle.film.proofs.vtiming_capture.Goals as goal

pub film-s-requires : goal.film-s-requires
film-s-requires c =
    let enough = weighed_enough _ _ _ _ _ c.in-Ok.ensures in
    stated_asks _ _ _ c.numbers.ensures (enough_asks _ _ _ _ _ enough)

pub put_summary-requires : goal.put_summary-requires
put_summary-requires c =
    let enough = weighed_enough _ _ _ _ _ c.in-Ok.ensures in
    let asks = enough_asks _ _ _ _ _ enough in
    (omega (arith, enough_long _ _ _ _ _ enough), filmed_in_range _ _ _ _ asks (stated_gives _ _ _ c.numbers.ensures c.film-s.ensures))

pub write64-requires : goal.write64-requires
write64-requires c =
    let enough = weighed_enough _ _ _ _ _ c.in-Ok.ensures in
    let one = simp length-sets at (ap length c.film-s.ensures.rows_are) in
    let two = simp length-sets at (ap length c.put_summary.ensures) in
    record { inside = omega (arith, enough_long _ _ _ _ _ enough, one, two) }

pub write64-requires-in-Ok : goal.write64-requires-in-Ok
write64-requires-in-Ok c =
    let enough = weighed_enough _ _ _ _ _ c.in-Ok.ensures in
    let one = simp length-sets at (ap length c.film-s.ensures.rows_are) in
    let two = simp length-sets at (ap length c.put_summary.ensures) in
    let three = simp length-sets at (ap length c.write64.ensures) in
    record { inside = omega (arith, enough_long _ _ _ _ _ enough, one, two, three) }

pub returns-in-Ok : goal.returns-in-Ok
returns-in-Ok c =
    let enough = weighed_enough _ _ _ _ _ c.in-Ok.ensures in
    record {
      number_is = sym (ap (λ (a : Answer). a.number) (weighed_answer_lem _ _ _ _ _ c.in-Ok.ensures refl));
      bytes_are = film_filled _ _ _ _ _ enough (stated_gives _ _ _ c.numbers.ensures c.film-s.ensures)
          c.put_summary.ensures c.write64.ensures c.write64-in-Ok.ensures;
    }

pub returns-in-Err : goal.returns-in-Err
returns-in-Err c =
    let w = c.in-Err.ensures in
    record {
      number_is = c.from.ensures ∙ c.number.ensures ∙ sym (ap (λ (a : Answer). a.number) (weighed_answer_lem _ _ _ _ _ w refl));
      bytes_are = refused_leaves _ _ _ _ _ w;
    }
