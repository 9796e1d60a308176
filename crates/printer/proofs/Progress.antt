-- A call that neither ended nor used a byte had no room for a line, or wanted more bytes: every other answer ends it or takes a record.
use Rattle.std.specs.Prelude.{◌≡◌, ◌⊎◌, ◌/◌, ◌≤◌, ◌<◌, Ok, Err}
use Rattle.laws.specs.Kit.{refl, sym, ap, ◌∙◌, inl, inr, Bool, false, List, ℕ, arith, ℕ_discrete, eqb, ltb, length, drop, ltb-true}
use Rattle.laws.proofs.Choose.{pick_either, false_true}
use Rattle.packet.specs.Step.{number_of}
use Rattle.record.specs.Step.{NextRead, next_more, next_piece}
use Rattle.record.specs.declared.Next.TheVariants.{Packet, End, More}
use Rattle.record.specs.Paper.{packet_bytes}
use Rattle.text.specs.Lines.{line_room}
use Rattle.record.specs.Pieces.{wants_more}
use Rattle.timing.specs.declared.Rules.{Rules}
use Rattle.timing.specs.Step.{rules_of}
use Rattle.timing.specs.Range.{in_range}
use Rattle.printer.specs.declared.Walk.{Walk}
use Rattle.printer.specs.Step.{TakeOutcome, item_by, walk_by, take_of}

module _ (walk : Walk) (w : List ℕ) (last : Bool) (room : ℕ) where
  Stuck : TakeOutcome → Type 0
  Stuck k = k.ended ≡ false → k.used ≡ 0 → (room < line_room) ⊎ (next_piece walk.at.at w last ≡ next_more)

  stuck_item : (rules : Rules) (on : Walk → ℕ → TakeOutcome) (r : NextRead) → next_piece walk.at.at w last ≡ r → Stuck (item_by rules walk room on r)
  unfolding Stuck
  stuck_item rules on (Ok (Packet p c)) e f u =
      pick_either Stuck (eqb (number_of walk.state.past p) 0) (λ g h y. absurd (omega arith))
      (λ g h y. absurd (false_true (sym h))) f u
  stuck_item rules on (Ok End) e f u = absurd (false_true (sym f))
  stuck_item rules on (Ok More) e f u = inr e
  stuck_item rules on (Err r) e f u = absurd (false_true (sym f))

  pub take_stuck : (take_of walk w last room).ended ≡ false → (take_of walk w last room).used ≡ 0
      → (room < line_room) ⊎ (next_piece walk.at.at w last ≡ next_more)
  unfolding Stuck take_of walk_by
  take_stuck =
      let rules = rules_of walk.state.numbers in
      pick_either Stuck (ltb room line_room) (λ e f u. inl (ltb-true room line_room e))
      (λ e. pick_either Stuck (in_range walk.state)
      (λ g. pick_either Stuck (ltb room line_room) (λ h f u. inl (ltb-true room line_room h))
      (λ h. stuck_item rules (λ next left. walk_by (length w / packet_bytes) rules next (drop packet_bytes w) last left)
      (next_piece walk.at.at w last) refl))
      (λ g f u. absurd (false_true (sym f))))

  -- so with room for a line, and a window that is not answered More, it goes on
  pub take_moves : line_room ≤ room → wants_more (next_piece walk.at.at w last) ≡ false → (take_of walk w last room).ended ≡ false
      → 0 < (take_of walk w last room).used
  take_moves h m e = go (ℕ_discrete (take_of walk w last room).used 0)
    where
      stops : (room < line_room) ⊎ (next_piece walk.at.at w last ≡ next_more) → ⊥
      stops (inl l) = omega arith
      stops (inr l) = false_true (sym m ∙ ap wants_more l)

      go : Dec ((take_of walk w last room).used ≡ 0) → 0 < (take_of walk w last room).used
      go (yes u) = absurd (stops (take_stuck e u))
      go (no n) = omega arith
