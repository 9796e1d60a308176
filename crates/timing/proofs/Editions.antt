-- Rows, bucket and counts do not depend on the edition. What a step leaves beside the buffer answer is made of what stood beside it, by the
-- rules of edition 1, whatever the edition; so a list of packets leaves the same in every edition, and writes the same rows.
use Rattle.std.specs.Prelude.{◌≡◌, ◌∷◌, ◌++◌}
use Rattle.laws.specs.Kit.{refl, sym, ap, ◌∙◌, Bool, true, false, List, [], ℕ}
use Rattle.laws.specs.Choose.{pick}
use Rattle.laws.specs.Fold.{fold}
use Rattle.limits.specs.declared.Parameters.{Parameters}
use Rattle.limits.specs.declared.Profile.{Profile}
use Rattle.packet.specs.declared.Packet.{Packet}
use Rattle.packet.specs.Paper.{marked}
use Rattle.frame.specs.declared.Row.{Row}
use Rattle.frame.specs.Step as F
use Rattle.timing.specs.declared.Rules.{Rules}
use Rattle.timing.specs.declared.State.{State}
use Rattle.timing.specs.Step.{stream_with, of_profile, rules_of, fresh_of, arrive_of, mark_of, step_of, rows_of, state_after, rows_after}
use Rattle.timing.specs.Editions.{beside_buffer}

-- a step whose packet is a marker or is not
abbrev stepped : Rules → State → Packet → Bool → State
stepped rules s q m =
    let arrived = arrive_of rules s q.time q.stamp in
    pick m (mark_of rules arrived q.time) arrived

module _ (profile : Profile) (p : Parameters) where
  -- one step, with no edition in it
  abbrev step_beside : State → Packet → State
  step_beside s q = beside_buffer (step_of (rules_of (of_profile profile p)) s q)

  -- the rows of a list, with no edition in them
  rows_beside : State → List Packet → List Row
  rows_beside s [] = []
  rows_beside s (q ∷ l) = rows_of (rules_of (of_profile profile p)) s q ++ rows_beside (step_beside s q) l

  module _ (edition : ℕ) where
    step_beside_lem : (s : State) (q : Packet) → beside_buffer (step_of (rules_of (stream_with profile edition p)) s q) ≡ step_beside (beside_buffer s) q
    unfolding step_of arrive_of mark_of rules_of F.arrive_of F.close_of F.opened_of F.counted_of F.ticked_of
    step_beside_lem s q = go (marked q)
      where
        go : (m : Bool)
            → beside_buffer (stepped (rules_of (stream_with profile edition p)) s q m)
            ≡ beside_buffer (stepped (rules_of (of_profile profile p)) (beside_buffer s) q m)
        go true = refl
        go false = refl

    rows_beside_lem : (s : State) (q : Packet)
        → rows_of (rules_of (stream_with profile edition p)) s q ≡ rows_of (rules_of (of_profile profile p)) (beside_buffer s) q
    unfolding rules_of F.rows_of F.arrive_of F.row_of F.whole_row F.kind_of F.opened_of F.counted_of F.ticked_of
    rows_beside_lem s q = refl

    after_beside : (s : State) (l : List Packet)
        → beside_buffer (state_after (rules_of (stream_with profile edition p)) s l) ≡ fold step_beside (beside_buffer s) l
    unfolding fold
    after_beside s [] = refl
    after_beside s (q ∷ l) =
        after_beside (step_of (rules_of (stream_with profile edition p)) s q) l ∙ ap (λ (t : State). fold step_beside t l) (step_beside_lem s q)

    all_rows_beside : (s : State) (l : List Packet) → rows_after (rules_of (stream_with profile edition p)) s l ≡ rows_beside (beside_buffer s) l
    unfolding rows_after rows_beside
    all_rows_beside s [] = refl
    all_rows_beside s (q ∷ l) =
        rw (rows_beside_lem s q, all_rows_beside (step_of (rules_of (stream_with profile edition p)) s q) l, step_beside_lem s q)

module _ (profile : Profile) (p : Parameters) (e f : ℕ) (l : List Packet) where
  -- V12: from set-up on, all that a state holds beside edition and buffer answer
  pub states_alike : beside_buffer (state_after (rules_of (stream_with profile e p)) (fresh_of (stream_with profile e p)) l)
      ≡ beside_buffer (state_after (rules_of (stream_with profile f p)) (fresh_of (stream_with profile f p)) l)
  states_alike = after_beside profile p e (fresh_of (stream_with profile e p)) l ∙ sym (after_beside profile p f (fresh_of (stream_with profile f p)) l)

  -- V12: and the rows
  pub rows_alike : rows_after (rules_of (stream_with profile e p)) (fresh_of (stream_with profile e p)) l
      ≡ rows_after (rules_of (stream_with profile f p)) (fresh_of (stream_with profile f p)) l
  rows_alike = all_rows_beside profile p e (fresh_of (stream_with profile e p)) l ∙ sym (all_rows_beside profile p f (fresh_of (stream_with profile f p)) l)
