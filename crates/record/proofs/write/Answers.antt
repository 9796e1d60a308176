-- The writer: refused, nothing is stored; else the stores are the whole file's, one after the other.
use Rattle.std.proofs.lemmas.Result.{err_from_is_err_and}
use Rattle.laws.specs.Kit.{refl, arith}
use Rattle.record.proofs.Writing.{same_slices, was_written, leaves_all, writes_file}
use Rattle.record.proofs.write.Goals as goal

pub returns-in_err-bytes : goal.returns-in_err-bytes
returns-in_err-bytes c =
    let p = err_from_is_err_and c.from_residual.result c.from_residual.ensures.1 in
    rw (p.1, p.2) (leaves_all _ _ _ _ _ c.in_err-bytes.ensures refl)

pub write_head-requires : goal.write_head-requires
write_head-requires c =
    let was = was_written _ _ _ _ _ _ c.in_ok-bytes.ensures in
    record { inside = omega (arith, was.enough) }

pub write_packets-requires : goal.write_packets-requires
write_packets-requires c =
    let was = was_written _ _ _ _ _ _ c.in_ok-bytes.ensures in
    record { same = same_slices _ _ _ was.scan_fine; room = omega (arith, was.enough) }

pub returns : goal.returns
returns c =
    let answered = c.in_ok-bytes.ensures in
    writes_file _ _ _ _ _ (was_written _ _ _ _ _ _ answered) answered (cc)
