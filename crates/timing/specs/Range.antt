-- The table of a state's numbers, as docs/STATE.md gives it: the stream numbers, and each part of what is kept by the table of its own
-- type. `in_range`: refusal 9 is for a state where it is false.
use Rattle.std.specs.Prelude.{◌∷◌, ◌++◌, ◌≡◌, ◌<◌}
use Rattle.laws.specs.Kit.{Bool, List, []}
use Rattle.laws.specs.Every.{below, same, after, every, Entry, entry, tests}
use Rattle.limits.specs.Paper.{profile_kind}
use Rattle.packet.specs.Range as P
use Rattle.bucket.specs.Range as B
use Rattle.frame.specs.Range as F
use Rattle.timing.specs.declared.State.{State}
use Rattle.timing.specs.Step.{set_up_of, rules_of}

module _ (s : State) where
  -- every number of a state, in the order of docs/STATE.md, with the bytes of its type and its range. The stream numbers are in range
  -- exactly where set-up accepts them, which is one test for all; any profile may stand, by its kind.
  abbrev pub stream_table : List Entry
  stream_table =
      entry s.numbers.parameters.rate 1 (same (set_up_of s.numbers) 0 ∷ [])
      ∷ entry s.numbers.parameters.schedule 1 []
      ∷ entry s.numbers.parameters.class 1 []
      ∷ entry s.numbers.parameters.height 2 []
      ∷ entry s.numbers.parameters.n 4 []
      ∷ entry s.numbers.parameters.maxudp 2 []
      ∷ entry s.numbers.parameters.tro 4 []
      ∷ entry s.numbers.edition 4 []
      ∷ entry (profile_kind s.numbers.profile) 1 []
      ∷ []

  abbrev pub rest_table : List Entry
  rest_table = entry s.rest 8 (below s.rest (rules_of s.numbers).drains.num ∷ []) ∷ []

  abbrev pub frames_table : List Entry
  frames_table = F.table (rules_of s.numbers).plan s.frames s.past.first s.past.last s.past.packets

  abbrev pub table : List Entry
  table = stream_table ++ (P.table s.past ++ (B.table s.bucket s.past.packets ++ (rest_table ++ frames_table)))

  -- N1, N4: "9 exactly a state whose stream numbers set-up refuses or with a number outside its range in docs/"
  unfoldable pub in_range : Bool
  unfolding after rules_of
  in_range = every (tests table)

-- N5: the same with no test and no list: what a state in range is known to be
pub record Sound (s : State) : Type 0 where
  pub accepted : set_up_of s.numbers ≡ 0
  pub past : P.Ranged s.past
  pub bucket : B.Ranged s.bucket s.past.packets
  pub rest : s.rest < (rules_of s.numbers).drains.num
  pub frames : F.Kept (rules_of s.numbers).plan s.frames s.past.first s.past.last s.past.packets
