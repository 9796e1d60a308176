-- The program's output, call by call: from a reel that a capture leads to, a call writes the front of what is still to be printed, and all
-- of it where it ends; it uses bytes of its window only, and some where it has room for a line and a window that is the last or shows 178.
use Rattle.std.specs.Prelude.{◌≡◌, ◌++◌, ◌+◌, ◌-◌, ◌≤◌, ◌<◌, Ok, Err}
use Rattle.laws.specs.Kit.{sym, ap, ◌∙◌, Bool, true, false, List, [], append-nil, ℕ, zero, suc, arith}
use Rattle.laws.specs.Kit.{eqb, ltb, length, drop, length-drop, ltb-true, ℕ_discrete}
use Rattle.laws.specs.Choose.{pick}
use Rattle.laws.proofs.Choose.{pick_either, false_true}
use Rattle.headers.specs.Step.{matter}
use Rattle.packet.specs.Step.{number_of}
use Rattle.text.specs.Lines.{line_room}
use Rattle.capture.specs.Step.{AheadRead}
use Rattle.capture.specs.declared.Ahead.TheVariants.{Packet, Wait, End}
use Rattle.capture.specs.Paper.{record_bytes}
use Rattle.capture.specs.Step.{ahead_of}
use Rattle.timing.specs.declared.Rules.{Rules}
use Rattle.timing.specs.Step.{rules_of}
use Rattle.timing.specs.Range.{in_range}
use Rattle.reel.specs.declared.Reel.{Reel}
use Rattle.reel.specs.Step.{TakeOutcome, ahead_by, roll_by, take_of, at_packet, lines_at, rest_of, rest_by, Stands}
use Rattle.reel.proofs.Shown.{Inside, ahead_inside, Wanting, ahead_wants}
use Rattle.reel.proofs.Carrying.{take_carries}

module _ (reel : Reel) (w v : List ℕ) (last : Bool) (room : ℕ) (z : Stands reel) (l : last ≡ true → v ≡ []) where
  -- it leads to such a reel again
  pub take_stands : Stands (take_of reel w last room).reel
  take_stands = (take_carries reel w v last room l z).1

  -- where it ended, it wrote all that was still to be printed
  pub take_ended : (take_of reel w last room).ended ≡ true → (take_of reel w last room).text ≡ rest_by reel (w ++ v)
  take_ended e =
      let k = take_of reel w last room in
      let after = rest_of (rules_of reel.state.numbers) k.reel (drop k.used w ++ v) in
      sym ((take_carries reel w v last room l z).0 ∙ ap (λ (t : Bool). k.text ++ pick t [] after) e ∙ append-nil k.text)

  -- where it did not, it wrote the front of that, and the rest is still to be printed from the reel that it leads to
  pub take_goes_on : (take_of reel w last room).ended ≡ false
      → (take_of reel w last room).text ++ rest_by (take_of reel w last room).reel (drop (take_of reel w last room).used w ++ v)
      ≡ rest_by reel (w ++ v)
  take_goes_on e =
      let k = take_of reel w last room in
      let c = take_carries reel w v last room l z in
      let after = rest_of (rules_of reel.state.numbers) k.reel (drop k.used w ++ v) in
      sym (c.0 ∙ ap (λ (t : Bool). k.text ++ pick t [] after) e
      ∙ ap (λ r. k.text ++ rest_of r k.reel (drop k.used w ++ v)) c.2)

-- ---- what is used lies within the window

abbrev Used : List ℕ → TakeOutcome → Type 0
Used w k = k.used ≤ length w

roll_inside : (k : ℕ) (rules : Rules) (reel : Reel) (w : List ℕ) (last : Bool) (room : ℕ) → Used w (roll_by k rules reel w last room)
unfolding roll_by
roll_inside zero rules reel w last room = omega arith
roll_inside (suc k) rules reel w last room =
    pick_either (Used w) (ltb room line_room) (λ e. omega arith)
    (λ e. go (ahead_of reel.setting reel.cursor w last) (ahead_inside reel.setting reel.cursor w last)
    (λ next n left. roll_inside k rules next (drop n w) last left))
  where
    go : (r : AheadRead) → Inside w r → ((next : Reel) (n left : ℕ) → Used (drop n w) (roll_by k rules next (drop n w) last left))
        → Used w (ahead_by rules reel room (λ next n left. roll_by k rules next (drop n w) last left) r)
    go (Ok (Packet p m n)) s ih =
        pick_either (Used w) (eqb (number_of reel.state.past p) 0)
        (λ e. omega (arith, ih (at_packet rules reel p m) n (room - length (lines_at rules reel p)), length-drop n w, s.1))
        (λ e. omega arith)
    go (Ok (Wait d m n)) s ih = s
    go (Ok (End m)) s ih = omega arith
    go (Err r) s ih = omega arith

pub take_inside : (reel : Reel) (w : List ℕ) (last : Bool) (room : ℕ) → (take_of reel w last room).used ≤ length w
unfolding take_of
take_inside reel w last room =
    let rules = rules_of reel.state.numbers in
    pick_either (Used w) (ltb room line_room) (λ e. omega arith)
    (λ e. pick_either (Used w) (in_range reel.state) (λ f. roll_inside (suc (length w)) rules reel w last room) (λ f. omega arith))

-- ---- and some of it

module _ (reel : Reel) (w : List ℕ) (last : Bool) (room : ℕ) (h : line_room ≤ room) (full : last ≡ false → record_bytes + matter ≤ length w) where
  Moves : TakeOutcome → Type 0
  Moves k = k.ended ≡ false → 0 < k.used

  moves_ahead : (rules : Rules) (on : Reel → ℕ → ℕ → TakeOutcome) (r : AheadRead) → Inside w r → Wanting w last r
      → Moves (ahead_by rules reel room on r)
  unfolding Moves
  moves_ahead rules on (Ok (Packet p m n)) s t f =
      pick_either Moves (eqb (number_of reel.state.past p) 0) (λ e g. omega (arith, s.0)) (λ e g. absurd (false_true (sym g))) f
  moves_ahead rules on (Ok (Wait d m n)) s t f = go (ℕ_discrete n 0)
    where
      go : Dec (n ≡ 0) → 0 < n
      go (yes e) = absurd (omega (arith, t.1 e, full t.0))
      go (no k) = omega arith
  moves_ahead rules on (Ok (End m)) s t f = absurd (false_true (sym f))
  moves_ahead rules on (Err r) s t f = absurd (false_true (sym f))

  pub take_moves : (take_of reel w last room).ended ≡ false → 0 < (take_of reel w last room).used
  unfolding Moves take_of roll_by
  take_moves =
      let rules = rules_of reel.state.numbers in
      pick_either Moves (ltb room line_room) (λ e f. absurd (omega (arith, ltb-true room line_room e)))
      (λ e. pick_either Moves (in_range reel.state)
      (λ g. pick_either Moves (ltb room line_room) (λ i f. absurd (omega (arith, ltb-true room line_room i)))
      (λ i. moves_ahead rules (λ next n left. roll_by (length w) rules next (drop n w) last left)
      (ahead_of reel.setting reel.cursor w last) (ahead_inside reel.setting reel.cursor w last)
      (ahead_wants reel.setting last reel.cursor w)))
      (λ g f. absurd (false_true (sym f))))
