-- From call to call: what an accepted call leaves are the words of the state that `feed` gives, and the next call reads that state. The
-- numbers that have fewer than 64 bits still fit: a packet changes the timestamp alone, and to its own.
use Rattle.std.specs.Prelude.{◌≡◌, ◌∷◌, ◌≤◌, ◌<◌, Some}
use Rattle.laws.specs.Kit.{sym, ap, ◌∙◌, subst, Bool, true, false, List, [], ℕ, arith, eqb, length, take, drop, sets}
use Rattle.laws.specs.Kit.{take_at}
use Rattle.laws.specs.Choose.{pick}
use Rattle.laws.specs.Fold.{fold}
use Rattle.laws.proofs.Choose.{pick_either}
use Rattle.laws.proofs.Lay.{sets_front}
use Rattle.packet.specs.declared.Packet.{Packet}
use Rattle.packet.specs.Paper.{marked}
use Rattle.frame.specs.declared.Frame.{Frame}
use Rattle.frame.specs.Step as F
use Rattle.timing.specs.declared.StreamNumbers.{StreamNumbers}
use Rattle.limits.specs.Steps.{ParametersHeld}
use Rattle.timing.specs.declared.Rules.{Rules}
use Rattle.timing.specs.declared.State.{State}
use Rattle.timing.specs.Step.{gone_of, arrive_of, mark_of, step_of, state_after}
use Rattle.timing.proofs.Running.{step_numbers}
use Rattle.probe.specs.Words.{state_words, words_of, state_held_by}
use Rattle.probe.specs.Dealt.{Stamped}
use Rattle.probe.proofs.RoundTrip.{Narrow, length_words, words_hold}

-- ---- what is narrow stays narrow

stamp_step : (rules : Rules) (s : State) (p : Packet) → p.stamp < 4294967296 → s.frames.current.stamp < 4294967296
    → (step_of rules s p).frames.current.stamp < 4294967296
unfolding step_of arrive_of mark_of F.arrive_of F.close_of F.opened_of F.counted_of F.ticked_of
stamp_step rules s p h k = go (marked p)
  where
    opened : (b : Bool) → pick b p.stamp s.frames.current.stamp < 4294967296
    opened true = h
    opened false = k

    pushed : (b : Bool)
        → (pick b (F.push_of rules.plan s.frames.current (gone_of s p.time) p.time p.stamp) s.frames.current).stamp
        < 4294967296
    pushed true =
        pick_either (λ (f : Frame). f.stamp < 4294967296) rules.plan.buffered (λ e. opened (eqb s.frames.current.held 0))
        (λ e. opened (eqb s.frames.current.held 0))
    pushed false = k

    go : (b : Bool) → (pick b (mark_of rules (arrive_of rules s p.time p.stamp) p.time) (arrive_of rules s p.time p.stamp)
        ).frames.current.stamp < 4294967296
    go true = omega arith
    go false = pushed s.frames.begun

pub narrow_step : (rules : Rules) (s : State) (p : Packet) → p.stamp < 4294967296 → Narrow s → Narrow (step_of rules s p)
narrow_step rules s p h f = record {
  numbers = subst (λ (x : StreamNumbers). ParametersHeld x.parameters) (sym (step_numbers rules s p)) f.numbers;
  edition = subst (λ (x : StreamNumbers). x.edition < 4294967296) (sym (step_numbers rules s p)) f.edition;
  stamp = stamp_step rules s p h f.stamp;
}

pub narrow_after : (l : List Packet) (rules : Rules) (s : State) → Stamped l → Narrow s → Narrow (state_after rules s l)
unfolding Stamped fold
narrow_after [] rules s h f = f
narrow_after (p ∷ l) rules s h f = narrow_after l rules (step_of rules s p) h.1 (narrow_step rules s p h.0 f)

-- ---- words that were laid in front are read again

pub laid_hold : (words : List ℕ) (s : State) → state_words ≤ length words → Narrow s → state_held_by (take state_words (sets words 0 (words_of s))) ≡ Some s
laid_hold words s h f =
    let long = length_words s in
    ap (λ (l : List ℕ). state_held_by (take state_words l)) (sets_front (words_of s) words (omega arith))
    ∙ ap state_held_by (take_at (words_of s) (drop (length (words_of s)) words) state_words long)
    ∙ words_hold s f
