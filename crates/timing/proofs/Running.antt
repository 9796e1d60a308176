-- The one loop over packets, however rows are written (Sink): the code's turn is one step, its row is put behind those before, and what
-- the rest of the run needs still holds. Each loop of the code adds how it reads its packets.
use Rattle.std.specs.Prelude.{◌≡◌, ◌∷◌, ◌++◌, ◌+◌, ◌≤◌}
use Rattle.laws.specs.Kit.{refl, sym, ap, ◌∙◌, subst, true, false, List, [], ℕ, arith, length, length-append}
use Rattle.laws.specs.Kit.{eq-eqb, ne_eqb}
use Rattle.laws.proofs.Choose.{pick_either}
use Rattle.laws.specs.Fold.{fold}
use Rattle.laws.specs.Lay.{Put, Putting}
use Rattle.laws.proofs.Lay.{put_none, putting_begins, putting_on, putting_ends}
use Rattle.packet.specs.declared.Packet.{Packet}
use Rattle.packet.specs.Paper.{marked}
use Rattle.packet.specs.Step.{number_of, next_of}
use Rattle.frame.specs.declared.Row.{Row}
use Rattle.frame.specs.Step as F
use Rattle.timing.specs.declared.Rules.{Rules}
use Rattle.timing.specs.declared.State.{State}
use Rattle.timing.specs.Step.{rules_of, arrive_of, mark_of, step_of, rows_of, state_after, rows_after}
use Rattle.timing.specs.Range.{Sound}
use Rattle.timing.specs.Feed.{ArriveAsks, MakeAsks, LayAsks, closing, Passes, Going, RunAsks, RunGives}
use Rattle.timing.proofs.Planning.{planned}
use Rattle.timing.proofs.Sink.{Sink, both}
use Rattle.timing.proofs.Staying.{arrives, few_closed, sound_step, rows_made}

-- a step leaves the stream numbers and goes on to the next past
pub step_numbers : (rules : Rules) (s : State) (p : Packet) → (step_of rules s p).numbers ≡ s.numbers
unfolding step_of arrive_of mark_of
step_numbers rules s p = pick_either (λ (z : State). z.numbers ≡ s.numbers) (marked p) (λ e. refl) (λ e. refl)

pub step_past : (rules : Rules) (s : State) (p : Packet) → (step_of rules s p).past ≡ next_of s.past p.time
unfolding step_of arrive_of mark_of
step_past rules s p = pick_either (λ (z : State). z.past ≡ next_of s.past p.time) (marked p) (λ e. refl) (λ e. refl)

-- what a marker closes after the packet has arrived is what the packet writes
pub closes_rows : (rules : Rules) (s : State) (p : Packet) → marked p ≡ true → closing rules (arrive_of rules s p.time p.stamp)
    ≡ rows_of rules s p
unfolding arrive_of F.arrive_of F.rows_of
closes_rows rules s p e = rw e

-- ---- a packet that passes, where the state goes on

module _ {rules : Rules} {s : State} (g : Going rules s) (p : Packet) (passed : number_of s.past p ≡ 0) where
  -- what holds of the stream's own rules holds of these
  by_rules : (P : Rules → Type 0) → P (rules_of s.numbers) → P rules
  by_rules P h = subst P (sym g.rules_are) h

  pub going_arrives : ArriveAsks rules s p.time
  going_arrives = by_rules (λ q. ArriveAsks q s p.time) (arrives s p g.sound passed)

  pub going_closed : (arrive_of rules s p.time p.stamp).frames.closed ≤ 1000000000
  going_closed = by_rules (λ q. (arrive_of q s p.time p.stamp).frames.closed ≤ 1000000000) (few_closed s p g.sound passed)

  pub going_makes : MakeAsks rules (arrive_of rules s p.time p.stamp)
  going_makes = by_rules (λ q. MakeAsks q (arrive_of q s p.time p.stamp))
      (record { planned = planned s.numbers g.sound.accepted; made = rows_made s p g.sound passed })

  pub going_next : Going rules (step_of rules s p)
  going_next = record {
    rules_are = g.rules_are ∙ sym (ap rules_of (step_numbers rules s p));
    sound = by_rules (λ q. Sound (step_of q s p)) (sound_step s p g.sound passed);
  }

module _ {A : Type 0} (w : Sink A) where
  -- ---- one turn of a loop

  pub record Turn (rules : Rules) (s : State) (p : Packet) (at : ℕ) (out : List A) (s' : State) (at' : ℕ) (out' : List A) : Type 0 where
    pub state : s' ≡ step_of rules s p
    pub put : Put (w.write (rows_of rules s p)) at out at' out'

  module _ (rules : Rules) (s : State) (p : Packet) (at : ℕ) (out : List A) {a : State} (ea : a ≡ arrive_of rules s p.time p.stamp)
    where
      pub turn_marked : {s' : State} {at' : ℕ} {out' : List A} → p.marker ≡ 1 → s' ≡ mark_of rules a p.time
          → Put (w.write (closing rules a)) at out at' out' → Turn rules s p at out s' at' out'
      unfolding step_of
      turn_marked {s'} {at'} {out'} m es l =
          let e : marked p ≡ true = eq-eqb p.marker 1 m in
          let c : closing rules a ≡ rows_of rules s p = ap (closing rules) ea ∙ closes_rows rules s p e in
          record { state = es ∙ rw (ea, e); put = subst (λ (r : List Row). Put (w.write r) at out at' out') c l }

      pub turn_plain : (p.marker ≡ 1 → ⊥) → Turn rules s p at out a at out
      unfolding step_of F.rows_of
      turn_plain m =
          let e : marked p ≡ false = ne_eqb p.marker 1 m in
          record { state = ea ∙ rw e; put = rw (e, w.none) (put_none at out) }

  -- ---- the loop: what is left of the list, from the state and the rows so far, gives what the whole gives

  pub record Loop (rules : Rules) (s₀ : State) (l : List Packet) (from : ℕ) (out₀ : List A) (s : State) (rest : List Packet) (at : ℕ)
      (out : List A) : Type 0 where
    pub state : state_after rules s rest ≡ state_after rules s₀ l
    pub putting : Putting (w.write (rows_after rules s₀ l)) from out₀ (w.write (rows_after rules s rest)) at out
    pub runs : RunAsks w.write rules s rest at (length out)

  pub loop_begins : {rules : Rules} {s₀ : State} {l : List Packet} {from : ℕ} (out₀ : List A)
      → RunAsks w.write rules s₀ l from (length out₀) → Loop rules s₀ l from out₀ s₀ l from out₀
  loop_begins out₀ r = record { state = refl; putting = putting_begins _ _ out₀; runs = r }

  module _ {rules : Rules} {s₀ : State} {l : List Packet} {from : ℕ} {out₀ : List A} {s : State} where
    module _ {p : Packet} {rest ps : List Packet} {at : ℕ} {out : List A} (c : rest ≡ p ∷ ps)
        (k : Loop rules s₀ l from out₀ s rest at out) where
      these : Loop rules s₀ l from out₀ s (p ∷ ps) at out
      these = subst (λ (x : List Packet). Loop rules s₀ l from out₀ s x at out) c k

      passed : number_of s.past p ≡ 0
      unfolding Passes
      passed = these.runs.passes.0

      -- the rows that the packet writes, and then the rest
      abbrev first : List A
      first = w.write (rows_of rules s p)

      abbrev others : List A
      others = w.write (rows_after rules (step_of rules s p) ps)

      cut : w.write (rows_after rules s (p ∷ ps)) ≡ first ++ others
      unfolding rows_after
      cut = both w (rows_of rules s p) (rows_after rules (step_of rules s p) ps)

      rest_fits : at + (length first + length others) ≤ length out
      rest_fits = omega (arith, these.runs.fits, ap length cut, length-append first others)

      pub loop_arrives : ArriveAsks rules s p.time
      loop_arrives = going_arrives these.runs.going p passed

      pub loop_closed : (arrive_of rules s p.time p.stamp).frames.closed ≤ 1000000000
      loop_closed = going_closed these.runs.going p passed

      pub loop_lays : p.marker ≡ 1 → LayAsks w.write rules (arrive_of rules s p.time p.stamp) at (length out)
      loop_lays m =
          let same = ap (λ (r : List Row). length (w.write r)) (closes_rows rules s p (eq-eqb p.marker 1 m)) in
          record { makes = going_makes these.runs.going p passed; fits = omega (arith, rest_fits, same) }

      pub loop_next : {s' : State} {at' : ℕ} {out' : List A} → Turn rules s p at out s' at' out'
          → Loop rules s₀ l from out₀ s' ps at' out'
      unfolding fold Passes
      loop_next {s'} {at'} {out'} t =
          let more = subst (λ (x : List A). Putting (w.write (rows_after rules s₀ l)) from out₀ x at out) cut these.putting in
          let next = putting_on more t.put in
          let same : length out' ≡ length out = omega (arith, next.same_length, k.putting.same_length) in
          rw t.state (record {
            state = these.state;
            putting = next;
            runs = record {
              going = going_next these.runs.going p passed;
              passes = rw (step_past rules s p) these.runs.passes.1;
              fits = omega (arith, rest_fits, t.put.next, same);
            };
          })

    pub loop_ends : {rest : List Packet} {at : ℕ} {out : List A} → rest ≡ [] → Loop rules s₀ l from out₀ s rest at out
        → RunGives w.write rules s₀ l from out₀ s out
    unfolding fold rows_after
    loop_ends {rest} {at} {out} c k =
        let none = subst (λ (x : List Packet). Loop rules s₀ l from out₀ s x at out) c k in
        let end = subst (λ (x : List A). Putting (w.write (rows_after rules s₀ l)) from out₀ x at out) w.none none.putting in
        record { state_is = none.state; rows_are = (putting_ends end).there }
