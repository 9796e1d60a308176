-- The range of each number of what came before, as docs/STATE.md gives it: one table, and what it means.
use Rattle.std.specs.Prelude.{◌∷◌, ◌≡◌, ◌-◌, ◌≤◌}
use Rattle.laws.specs.Kit.{List, []}
use Rattle.laws.specs.Every.{Test, at_most, same, where_so, Entry, entry, tests}
use Rattle.packet.specs.declared.Past.{Past}

-- N4: at most a billion packets, in order, within 600 s; nothing before the first
abbrev pub table : Past → List Entry
table past =
    entry past.packets 8 (at_most past.packets 1000000000 ∷ [])
    ∷ entry past.first 8 (where_so (same past.packets 0) (same past.first 0) ∷ [])
    ∷ entry past.last 8
    (where_so (same past.packets 0) (same past.last 0)
    ∷ at_most past.first past.last
    ∷ at_most (past.last - past.first) 600000000000
    ∷ [])
    ∷ []

abbrev pub ranges : Past → List Test
ranges past = tests (table past)

-- both ways: proofs/Ranging.antt
pub record Ranged (past : Past) : Type 0 where
  pub few : past.packets ≤ 1000000000
  pub first_none : past.packets ≡ 0 → past.first ≡ 0
  pub last_none : past.packets ≡ 0 → past.last ≡ 0
  pub order : past.first ≤ past.last
  pub near : past.last - past.first ≤ 600000000000
