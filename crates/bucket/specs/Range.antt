-- The range of each number of the bucket, as docs/STATE.md gives it, by how many packets came: one table, and what it means.
use Rattle.std.specs.Prelude.{◌∷◌, ◌≤◌}
use Rattle.laws.specs.Kit.{List, [], ℕ}
use Rattle.laws.specs.Every.{Test, at_most, Entry, entry, tests}
use Rattle.bucket.specs.declared.Bucket.{Bucket}
use Rattle.bucket.specs.Paper.{network_number, network_first, network_last}

-- N4: it holds, began at, peaked at and names no more than the packets
abbrev pub table : Bucket → ℕ → List Entry
table b packets =
    entry b.level 8 (at_most b.level packets ∷ [])
    ∷ entry b.start 8 (at_most b.start packets ∷ [])
    ∷ entry b.peak 8 (at_most b.peak packets ∷ [])
    ∷ entry (network_number b.network) 1 []
    ∷ entry (network_first b.network) 8 (at_most (network_first b.network) packets ∷ [])
    ∷ entry (network_last b.network) 8 (at_most (network_last b.network) packets ∷ [])
    ∷ []

abbrev pub ranges : Bucket → ℕ → List Test
ranges b packets = tests (table b packets)

-- both ways: proofs/Ranging.antt
pub record Ranged (b : Bucket) (packets : ℕ) : Type 0 where
  pub level : b.level ≤ packets
  pub start : b.start ≤ packets
  pub peak : b.peak ≤ packets
  pub run_first : network_first b.network ≤ packets
  pub run_last : network_last b.network ≤ packets
