-- A capture call on the same capture with its words in the other byte order has the same outcome. By its records, which are the same.
use Rattle.std.specs.Prelude.{◌≡◌}
use Rattle.laws.specs.Kit.{List, ℕ, ℤ}
use Rattle.endian.specs.Number.{Bytes}
use Rattle.capture.specs.declared.Format.{Format}
use Rattle.capture.specs.declared.Setting.{Setting}
use Rattle.capture.specs.Paper.{capture, header_of, seen_from}
use Rattle.capture.specs.Swap.{word_at, swap_file}
use Rattle.capture.proofs.SwappedFile.{swapped_known, swapped_records, check_swapped}
use Rattle.timing.specs.declared.State.{State}
use Rattle.intake.specs.Paper.{records_of, capture_of}

-- R12: "a capture and the same capture in the other order have the same answer"
pub capture_swapped : (s : State) (rows : List ℤ) (port offset : ℕ) (f : Format) (b : List ℕ) → Bytes (word_at 0 b)
    → header_of b ≡ capture f
    → capture_of s rows port offset (swap_file f b) ≡ capture_of s rows port offset b
unfolding capture_of
capture_swapped s rows port offset f b k e =
    let p : Setting = record { format = f; port = port; offset = offset } in
    let same : records_of port offset (swap_file f b) ≡ records_of port offset b = rw (swapped_known f b k e, e, swapped_records p b e) in
    rw (check_swapped port offset (seen_from s.past s.frames.begun) f b k e, same)
