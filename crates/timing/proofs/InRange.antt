-- A state is in range, by the tests of the code, exactly when each of its numbers is, as a fact; the fresh state of accepted numbers is.
-- Each part's table is one test (`by_parts`), which is the part's own fact (its Ranging).
use Rattle.std.specs.Prelude.{◌≡◌, ◌&&◌, ◌∷◌, ◌++◌}
use Rattle.laws.specs.Kit.{sym, ◌∙◌, true, List, [], eqb, ltb}
use Rattle.laws.specs.Every.{Test, below, same, is, after, every, All, tests}
use Rattle.laws.proofs.Every.{facts, of_facts, ◌and◌, after_front, after_all}
use Rattle.packet.specs.Range as P
use Rattle.packet.proofs.Ranging as PR
use Rattle.bucket.specs.Range as B
use Rattle.bucket.proofs.Ranging as BR
use Rattle.frame.proofs.Ranges as FR
use Rattle.timing.specs.declared.State.{State}
use Rattle.timing.specs.declared.StreamNumbers.{StreamNumbers}
use Rattle.timing.specs.Step.{set_up_of, rules_of, fresh_of}
use Rattle.timing.proofs.Planning.{spacing_some}
use Rattle.timing.specs.Range.{rest_table, frames_table, in_range, Sound}

module _ (s : State) where
  -- the table's tests, part by part, as the code asks them
  abbrev pub parts : List Test
  parts =
      same (set_up_of s.numbers) 0
      ∷ is (every (P.ranges s.past))
      ∷ is (every (B.ranges s.bucket s.past.packets))
      ∷ below s.rest (rules_of s.numbers).drains.num
      ∷ is (every (tests (frames_table s)))
      ∷ []

  pub by_parts : in_range s ≡ every parts
  unfolding in_range after
  by_parts =
      let past = P.ranges s.past in
      let bucket = B.ranges s.bucket s.past.packets in
      let frames = tests (frames_table s) in
      let a = eqb (set_up_of s.numbers) 0 in
      after_front a past (bucket ++ (tests (rest_table s) ++ frames))
      ∙ after_front (a && every past) bucket (tests (rest_table s) ++ frames)
      ∙ after_all (((a && every past) && every bucket) && ltb s.rest (rules_of s.numbers).drains.num) frames

  pub sound_of : in_range s ≡ true → Sound s
  sound_of e =
      let t = facts parts (sym by_parts ∙ e) in
      record {
        accepted = t 0;
        past = PR.ranged_of s.past (t 1);
        bucket = BR.ranged_of s.bucket s.past.packets (t 2);
        rest = t 3;
        frames = FR.kept_of (rules_of s.numbers).plan s.frames s.past.first s.past.last s.past.packets (t 4);
      }

  pub of_sound : Sound s → in_range s ≡ true
  unfolding All
  of_sound x =
      by_parts
      ∙ of_facts parts (x.accepted and PR.of_ranged s.past x.past and BR.of_ranged s.bucket s.past.packets x.bucket
      and x.rest and FR.of_kept (rules_of s.numbers).plan s.frames s.past.first s.past.last s.past.packets x.frames
      and tt)

-- the fresh state of accepted stream numbers
pub sound_fresh : (x : StreamNumbers) → set_up_of x ≡ 0 → Sound (fresh_of x)
sound_fresh x e = record {
  accepted = e;
  past = PR.ranged_none;
  bucket = BR.ranged_empty;
  rest = spacing_some x e;
  frames = FR.kept_none (rules_of x).plan;
}
