-- Each number of an accepted file's report fits 64 bits with its sign, by the state's range (timing's Fitting), so that it is read back
-- from its 8 bytes as it is.
use Rattle.std.specs.Prelude.{◌≡◌, ◌∷◌, ◌++◌, ◌+◌, ◌*◌, ◌^◌, ◌<◌}
use Rattle.laws.specs.Kit.{sym, ap, ◌∙◌, List, [], map, ℕ, zero, suc, arith, ℤ, pos, length, take, drop}
use Rattle.laws.specs.Kit.{get_or, take_at, drop_at, drop-drop}
use mir.Syntax.{w64}
use mir.Val.{to_z}
use mir.Facts.{Fits-of_z, to_z-of_z}
use Rattle.endian.specs.Number.{number_of, bytes_of}
use Rattle.endian.proofs.Width.{length_bytes, number_of_its_bytes}
use Rattle.packet.specs.declared.Packet.{Packet}
use Rattle.frame.proofs.RowsFit.{AllFit, fit_append, fit_at}
use Rattle.timing.specs.Step.{rules_of, fresh_of}
use Rattle.timing.specs.Answers.{summary_of}
use Rattle.timing.proofs.InRange.{sound_fresh}
use Rattle.timing.proofs.Dealing.{sound_after}
use Rattle.timing.proofs.Scanning.{scan_runs}
use Rattle.timing.proofs.Fitting.{summary_fits, rows_fit}
use Rattle.limits.specs.Paper.{profile_of}
use Rattle.limits.proofs.Editions.{in_known}
use Rattle.record.specs.Paper.{Heading, resolved, file, file_in}
use Rattle.record.proofs.Editions.{accepted_edition}
use Rattle.report.proofs.Asking.{holds_in}
use Rattle.report.specs.Paper.{stream_of, number_bytes, state_of, report_of, signed, in_bytes, encoded}

-- ---- the numbers of a report

pub report_fits : (edition : ℕ) (s : List ℕ) (w : Heading) (ps : List Packet) → file_in edition s ≡ file w ps
    → AllFit (report_of (stream_of edition w) ps)
report_fits edition s w ps e =
    let x = stream_of edition w in
    let holds = holds_in edition s w ps e in
    let known = (accepted_edition edition s w ps e).0 in
    let sound = sound_fresh x (in_known (profile_of w.kind) (resolved w) edition known ∙ holds.set_up) in
    let passes = (scan_runs ps (rules_of x) (fresh_of x) 0 holds.closed holds.scan_fine).0 in
    fit_append (map pos (summary_of (state_of x ps))) _ (summary_fits (state_of x ps) (sound_after ps (fresh_of x) sound passes))
    (rows_fit ps (fresh_of x) sound passes)

-- ---- number k of what is encoded: its 64 bits, and so itself

bits_back : (zs : List ℤ) (k : ℕ) → k < length zs → signed (get_or zs k (pos 0)) < 256 ^ 8
    → number_of (take number_bytes (drop (number_bytes * k) (encoded zs))) ≡ signed (get_or zs k (pos 0))
unfolding in_bytes
bits_back [] k h f = absurd (omega arith)
bits_back (z ∷ zs) zero h f =
    ap number_of (take_at (bytes_of 8 (signed z)) (encoded zs) 8 (length_bytes 8 (signed z))) ∙ number_of_its_bytes 8 (signed z) f
bits_back (z ∷ zs) (suc k) h f =
    let eight : number_bytes * suc k ≡ number_bytes + number_bytes * k = omega arith in
    let further : drop (number_bytes * suc k) (bytes_of 8 (signed z) ++ encoded zs) ≡ drop (number_bytes * k) (encoded zs) =
    ap (λ (n : ℕ). drop n (bytes_of 8 (signed z) ++ encoded zs)) eight
    ∙ sym (drop-drop (number_bytes * k) 8 (bytes_of 8 (signed z) ++ encoded zs))
    ∙ ap (drop (number_bytes * k)) (drop_at (bytes_of 8 (signed z)) (encoded zs) 8 (length_bytes 8 (signed z))) in
    ap (λ (l : List ℕ). number_of (take number_bytes l)) further ∙ bits_back zs k (omega arith) f

pub number_back : (zs : List ℤ) (k : ℕ) → AllFit zs → k < length zs
    → to_z w64 (number_of (take number_bytes (drop (number_bytes * k) (encoded zs)))) ≡ get_or zs k (pos 0)
number_back zs k fit h =
    let here = fit_at zs k fit in
    ap (to_z w64) (bits_back zs k h (Fits-of_z here).fits) ∙ to_z-of_z here
