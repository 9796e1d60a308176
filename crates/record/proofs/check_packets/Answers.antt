-- The packets of a file: what a run that is admitted says, and else the walk over the records.
use Rattle.std.specs.Prelude.{◌≡◌, ◌+◌, ◌*◌, ◌≤◌, ◌<◌}
use Rattle.laws.specs.Kit.{sym, ap, subst, ◌∙◌, List, ℕ, arith, length, drop, length-drop}
use Rattle.record.specs.Paper.{packet_bytes}
use Rattle.record.specs.Walk.{records_left, checked_fine}
use Rattle.record.proofs.Ways.{rest_all}
use Rattle.record.proofs.Quickly.{left_fills, quick_finish}
use Rattle.record.proofs.check_packets.Goals as goal
use Rattle.record.proofs.check_packets.Goals.{Then-count-ne0}

-- where there are records, they fill the file
module _ (c : Then-count-ne0) where
  abbrev at : ℕ
  at = c.args.from.at

  abbrev file : List ℕ
  file = c.args.s.now

  fills : length (drop at file) ≡ packet_bytes * c.records_left-count.result
  fills =
      let many = c.records_left-count.ensures in
      let some : 0 < records_left (drop at file) = subst (λ (n : ℕ). 0 < n) many (omega arith) in
      left_fills (drop at file) some ∙ ap (λ (n : ℕ). packet_bytes * n) (sym many)

  some : 0 < c.records_left-count.result
  some = omega arith

  room : packet_bytes ≤ length (drop at file)
  room = omega (arith, fills, some)

  inside : at + packet_bytes * c.records_left-count.result ≤ length file
  inside = omega (arith, fills, length-drop at file)

pub returns-then-admits : goal.returns-then-admits
returns-then-admits c =
    let through = sym c.run_packets-ran.ensures ∙ c.in-Some.is in
    let fine = sym c.admits.ensures ∙ c.if-admits.true in
    let there = (goal.at.returns-then-admits c).Then-count-ne0 in
    ap (checked_fine c.args.numbers c.records_left-count.result) c.closed.ensures
    ∙ quick_finish _ (at there) (drop (at there) (file there)) _ (some there) (fills there) through
    (rw (c.none.ensures, c.packet_at-first.ensures, rest_all (file there) (at there)) at fine)
