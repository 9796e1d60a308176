-- The first refused call of any cutting names what the whole list names: by the calls, with the packets accepted so far in front.
use Rattle.std.specs.Prelude.{◌≡◌, ◌∷◌, ◌++◌, Err, Ok}
use Rattle.laws.specs.Kit.{refl, sym, ap, ◌∙◌, subst, false, List, [], append_assoc, append-nil, ℕ}
use Rattle.laws.specs.Count.{count}
use Rattle.laws.specs.Seek.{seek}
use Rattle.laws.specs.Fold.{fold}
use Rattle.laws.proofs.Fold.{fold_cut}
use Rattle.refusal.specs.Told.{Numbered}
use Rattle.packet.specs.Paper.{Scanned}
use Rattle.packet.specs.declared.Packet.{Packet}
use Rattle.packet.specs.Paper.{declared}
use Rattle.packet.specs.Step.{nothing, scan_of}
use Rattle.packet.specs.Calls.{past_after_packets, begun_after, and_then}
use Rattle.packet.proofs.Cutting.{scan_cut}
use Rattle.packet.proofs.Declared.{scan_declared}
use Rattle.packet.proofs.Turn.{fine_refused}
use Rattle.timing.specs.declared.StreamNumbers.{StreamNumbers}
use Rattle.timing.specs.declared.State.{State}
use Rattle.timing.specs.declared.Rules.{Rules}
use Rattle.timing.specs.Step.{set_up_of, rules_of, fresh_of, step_of, state_after}
use Rattle.timing.specs.Range.{Sound}
use Rattle.timing.specs.Feed.{Passes, Call, all_of, Rooms, Stops, here, later}
use Rattle.timing.proofs.InRange.{sound_fresh, of_sound}
use Rattle.timing.proofs.Scanning.{scan_runs}
use Rattle.timing.proofs.Feeding.{refused_call}
use Rattle.timing.proofs.Declared.{arrivals_climb, scan_of_call}
use Rattle.timing.proofs.Dealing.{sound_after, accepts, passes_cut, numbers_after}

-- what a front part is refused by, the whole is
refused_on : (l m : List Packet) (r : Numbered) → declared l ≡ Err r → declared (l ++ m) ≡ Err r
refused_on l m r e =
    sym (scan_declared (l ++ m)) ∙ scan_cut nothing false 0 l m
    ∙ ap (λ (s : Scanned). and_then s (λ n. scan_of (past_after_packets nothing l) (begun_after false l) n m)) (scan_declared l ∙ e)

none_refused : declared [] ≡ Ok 0
unfolding declared seek count
none_refused = refl

module _ (x : StreamNumbers) (set_up : set_up_of x ≡ 0) where
  abbrev reached : List Packet → State
  reached h = state_after (rules_of x) (fresh_of x) h

  pub passes : (h : List Packet) (closed : ℕ) → declared h ≡ Ok closed → Passes nothing h
  passes h closed e = (scan_runs h (rules_of x) (fresh_of x) 0 closed (scan_declared h ∙ e)).0

  pub sound_reached : (h : List Packet) (closed : ℕ) → declared h ≡ Ok closed → Sound (reached h)
  sound_reached h closed e = sound_after h (fresh_of x) (sound_fresh x set_up) (passes h closed e)

  pub stops : (calls : List Call) (h : List Packet) (closed : ℕ) (r : Numbered) → declared h ≡ Ok closed
      → declared (h ++ all_of calls) ≡ Err r → Rooms (reached h) calls → Stops (reached h) calls r.number r.place
  unfolding all_of Rooms
  stops [] h closed r e f room = absurd (fine_refused closed r (sym e ∙ ap declared (sym (append-nil h)) ∙ f))
  stops (c ∷ cs) h closed r e f room = go (declared (h ++ c.packets)) refl (λ n q g. stops cs (h ++ c.packets) n r q g)
    where
      whole : declared ((h ++ c.packets) ++ all_of cs) ≡ Err r
      whole = ap declared (append_assoc h c.packets (all_of cs)) ∙ f

      same : rules_of (reached h).numbers ≡ rules_of x
      same = ap rules_of (numbers_after (rules_of x) (fresh_of x) h)

      next : state_after (rules_of (reached h).numbers) (reached h) c.packets ≡ reached (h ++ c.packets)
      next =
          ap (λ (q : Rules). state_after q (reached h) c.packets) same
          ∙ sym (fold_cut (step_of (rules_of x)) (fresh_of x) h c.packets)

      go : (d : Scanned) → declared (h ++ c.packets) ≡ d
          → ((n : ℕ) → declared (h ++ c.packets) ≡ Ok n → declared ((h ++ c.packets) ++ all_of cs) ≡ Err r
          → Rooms (reached (h ++ c.packets)) cs → Stops (reached (h ++ c.packets)) cs r.number r.place)
          → Stops (reached h) (c ∷ cs) r.number r.place
      go (Ok n) q ih =
          let p = passes_cut (rules_of x) (fresh_of x) h c.packets (passes (h ++ c.packets) n q) in
          let rest = ih n q whole (subst (λ (t : State). Rooms t cs) next room.1) in
          later (accepts (reached h) c.rows c.packets (sound_reached h closed e) p.1 room.0)
          (subst (λ (t : State). Stops t cs r.number r.place) (sym next) rest)
      go (Err w) q ih =
          let same_one : Err w ≡ Err r = sym (refused_on (h ++ c.packets) (all_of cs) w q) ∙ whole in
          here (refused_call (reached h) c.rows c.packets r (of_sound (reached h) (sound_reached h closed e))
          (scan_of_call x set_up h (arrivals_climb h closed e) c.packets closed r e (q ∙ same_one)))

  -- from set-up on
  pub all_stop : (l : List Packet) (r : Numbered) → declared l ≡ Err r → (calls : List Call) → all_of calls ≡ l
      → Rooms (fresh_of x) calls → Stops (fresh_of x) calls r.number r.place
  unfolding fold
  all_stop l r e calls whole room = stops calls [] 0 r none_refused (ap declared whole ∙ e) room
