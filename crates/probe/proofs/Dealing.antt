-- What the C functions over a state in words do: each from what `feed` does, by the words that carry its state.
use Rattle.std.specs.Prelude.{◌≡◌, ◌∷◌, ◌≤◌, Ok, Err, None, Some}
use Rattle.laws.specs.Kit.{refl, sym, ap, ◌∙◌, subst, Bool, true, false, List, [], map, ℕ, arith, leb, ℤ, length}
use Rattle.laws.specs.Kit.{take, sets, le-leb}
use Rattle.laws.specs.Choose.{pick}
use Rattle.limits.specs.Steps.{ParametersHeld}
use Rattle.limits.proofs.Editions.{in_fine}
use Rattle.timing.specs.declared.StreamNumbers.{StreamNumbers}
use Rattle.timing.specs.declared.Stated.{Stated}
use Rattle.timing.specs.declared.State.{State}
use Rattle.timing.specs.Feed.{Fed}
use Rattle.timing.specs.Step.{set_up_of, stated_of, stated_as, stated_refusal, rules_of, fresh_of, numbers}
use Rattle.timing.specs.History.{AcceptedHistory, reached, rows_of_all}
use Rattle.timing.specs.Answers.{summary_width, fed_number, fed_place}
use Rattle.timing.specs.Feed.{Outcome, feed_of, all_of, writes, Deals, none, call, Rooms}
use Rattle.timing.proofs.Stating.{stated_back, stated_as_lem, stated_fine}
use Rattle.timing.proofs.Feeding.{accepted_from, feed_slices}
use Rattle.timing.proofs.Accepting.{dealt}
use Rattle.probe.specs.Words.{Held, state_words, state_held_by, Holds, HoldNone}
use Rattle.probe.specs.Calls.{words_number, set_up_left, CallOutcome, refused, accepted, by_fed, by_held, call_of, Unchanged}
use Rattle.probe.specs.Dealt.{Lent, lent_packets, as_call, AllWhole, told, Dealt, no_call, one_call}
use Rattle.probe.proofs.RoundTrip.{Narrow}
use Rattle.probe.proofs.Calls.{words_fit, enough_words}
use Rattle.probe.proofs.Carrying.{narrow_after, laid_hold}

-- ---- set-up

-- an edition that set-up accepts fits, and so do the parameters' types
narrow_fresh : (x : StreamNumbers) → ParametersHeld x.parameters → set_up_of x ≡ 0 → Narrow (fresh_of x)
narrow_fresh x f e =
    record { numbers = f; edition = omega (arith, (in_fine x.profile x.parameters x.edition e).1.1); stamp = omega arith }

-- the words that set-up leaves hold the fresh state
pub set_up_holds : (x : Stated) (words : List ℕ) → ParametersHeld x.parameters → stated_refusal x ≡ 0 → state_words ≤ length words
    → (words_number x (length words) ≡ 0) × Holds (set_up_left x words) (fresh_of (stated_of x))
unfolding set_up_left
set_up_holds x words f e h =
    let fine : words_number x (length words) ≡ 0 = words_fit x words e h in
    let fresh = laid_hold words (fresh_of (stated_of x)) h (narrow_fresh (stated_of x) f (stated_fine x e).1) in
    (fine, rw fine fresh)

-- ---- one call

module _ (words : List ℕ) (rows : List ℤ) (out ts ss ms : List ℕ) where
  -- "A refused call [..] state and rows unchanged": whatever number but 0 is returned
  pub refused_changes_nothing : ((call_of words rows out ts ss ms).number ≡ 0 → ⊥) → Unchanged words rows out (call_of words rows out ts ss ms)
  unfolding call_of
  refused_changes_nothing = go (state_held_by (take state_words words))
    where
      room : (place : ℕ) (t : State) (after : List ℤ) (b : Bool)
          → ((pick b (accepted words rows out t after) (refused words rows out 15 place)).number ≡ 0 → ⊥)
          → Unchanged words rows out (pick b (accepted words rows out t after) (refused words rows out 15 place))
      room place t after true n = absurd (n refl)
      room place t after false n = (refl, refl, refl)

      fed : (s : State) (b : Fed) (after : List ℤ) → ((by_fed words rows out s b after).number ≡ 0 → ⊥)
          → Unchanged words rows out (by_fed words rows out s b after)
      fed s (Ok t) after n = room s.past.packets t after (leb summary_width (length out)) n
      fed s (Err r) after n = (refl, refl, refl)

      go : (h : Held) → ((by_held words rows out ts ss ms h).number ≡ 0 → ⊥) → Unchanged words rows out (by_held words rows out ts ss ms h)
      go (Some s) n = fed s (feed_of s rows ts ss ms).answer (feed_of s rows ts ss ms).rows n
      go None n = (refl, refl, refl)

  -- words that hold no state are 9 at place 0
  pub no_state_9 : HoldNone words
      → ((call_of words rows out ts ss ms).number ≡ 9) × ((call_of words rows out ts ss ms).place ≡ 0)
  unfolding call_of
  no_state_9 e = rw e (refl, refl)

  module _ (s : State) (e : Holds words s) (nine : summary_width ≤ length out) where
    -- with room for the summary, number and place are those of `feed` from the state that the words hold
    pub as_fed : ((call_of words rows out ts ss ms).number ≡ fed_number (feed_of s rows ts ss ms).answer)
        × ((call_of words rows out ts ss ms).place ≡ fed_place (feed_of s rows ts ss ms).answer)
    unfolding call_of
    as_fed = rw e (go (feed_of s rows ts ss ms).answer (feed_of s rows ts ss ms).rows)
      where
        go : (b : Fed) (after : List ℤ) → ((by_fed words rows out s b after).number ≡ fed_number b)
            × ((by_fed words rows out s b after).place ≡ fed_place b)
        go (Ok t) after = rw (le-leb summary_width (length out) nine) (refl, refl)
        go (Err r) after = (refl, refl)

    -- and where it accepts: its state's words, its rows, and the nine numbers of that state
    pub as_accepted : (t : State) (after : List ℤ) → feed_of s rows ts ss ms ≡ record { answer = Ok t; rows = after }
        → call_of words rows out ts ss ms ≡ accepted words rows out t after
    unfolding call_of
    as_accepted t after f = rw (e, f, le-leb summary_width (length out) nine)

-- ---- call after call

-- words that hold s carry it through the calls
carried : (cs : List Lent) (s t : State) (words : List ℕ) (written : List ℤ) → Deals s (map as_call cs) t written → AllWhole cs → Narrow s
    → Holds words s
    → (end : List ℕ) × Dealt words cs end written × Holds end t
unfolding AllWhole
carried [] s t words written none w f e = (words, no_call, e)
carried (c ∷ cs) s t words written (call {t = mid} {more = more} g rest) w f e =
    let from = accepted_from s mid c.rows (lent_packets c) (ap (λ (o : Outcome). o.answer) g) in
    let narrow = subst Narrow (sym from.state) (narrow_after (lent_packets c) (rules_of s.numbers) s w.0.stamped f) in
    let fed = feed_slices s c.rows c.ts c.ss c.ms w.0.one_length ∙ g in
    let after = sets c.rows 0 (writes s (as_call c)) in
    let now = as_accepted words c.rows c.out c.ts c.ss c.ms s e w.0.nine mid after fed in
    let left = ap (λ (x : CallOutcome). x.words) now in
    let holds = ap (λ (l : List ℕ). state_held_by (take state_words l)) left ∙ laid_hold words mid (enough_words words refl e) narrow in
    let on = carried cs mid t (told words c).words more rest w.1 narrow holds in
    (on.0, one_call s e (ap (λ (x : CallOutcome). x.number) now) (ap (λ (x : CallOutcome). x.rows) now) on.1, on.2)

-- "An accepted list of packets dealt out in order over any calls gives the rows, end state and verdicts of one call with the whole list.":
-- from the words that set-up leaves, each call is accepted, what they write to the rows is the one call's, and the words at the end hold
-- its state
pub dealt_over_c_calls : (h : AcceptedHistory) → ParametersHeld h.stream.parameters → (words : List ℕ) → state_words ≤ length words
    → (cs : List Lent) → AllWhole cs → all_of (map as_call cs) ≡ h.packets → Rooms (fresh_of h.stream) (map as_call cs)
    → (end : List ℕ) × Dealt (set_up_left (stated_as h.stream) words) cs end (numbers (rows_of_all h)) × Holds end (reached h)
dealt_over_c_calls h f words enough cs w all room =
    let begun = set_up_holds (stated_as h.stream) words f (stated_as_lem h.stream ∙ h.set_up) enough in
    carried cs (fresh_of h.stream) _ (set_up_left (stated_as h.stream) words) _ (dealt h (map as_call cs) all room) w
    (narrow_fresh h.stream f h.set_up)
    (begun.1 ∙ ap (λ (x : StreamNumbers). Some (fresh_of x)) (stated_back h.stream))
