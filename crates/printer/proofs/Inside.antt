-- What is used of a window lies within it: a record for each packet that was shown, and the head before the first. By the turns still allowed.
use Rattle.std.specs.Prelude.{◌≡◌, ◌-◌, ◌≤◌, Err, Ok, Some, None}
use Rattle.laws.specs.Kit.{refl, sym, ap, subst, ◌∙◌, Bool, List, ℕ, zero, suc, arith, eqb, ltb, length, drop, length-drop}
use Rattle.laws.proofs.Choose.{pick_either}
use Rattle.packet.specs.Step.{number_of}
use Rattle.record.specs.declared.Cursor.{Cursor}
use Rattle.record.specs.Step.{NextRead, HeadRead, head_piece, next_piece}
use Rattle.record.specs.declared.Next.TheVariants.{Packet, End, More}
use Rattle.record.specs.declared.FileNumbers.{FileNumbers}
use Rattle.record.specs.Paper.{heading, packet_bytes, head_bytes}
use Rattle.record.specs.Walk.{numbers_of}
use Rattle.text.specs.Lines.{line_room}
use Rattle.record.specs.Pieces.{head_waits}
use Rattle.record.proofs.Saying.{SaysHead, head_says}
use Rattle.record.proofs.InPieces.{head_alone}
use Rattle.timing.specs.declared.Rules.{Rules}
use Rattle.timing.specs.Answers.{SetUp, set_up_as}
use Rattle.timing.specs.Step.{of_profile, rules_of}
use Rattle.timing.specs.Range.{in_range}
use Rattle.printer.specs.declared.Walk.{Walk}
use Rattle.printer.specs.Step.{TakeOutcome, ready_by, ready_of, head_by, begin_of, Headed, stepped, lines_at, item_by, walk_by, take_of}
use Rattle.printer.proofs.Turning.{piece_sixteen}

abbrev Inside : List ℕ → TakeOutcome → Type 0
Inside w k = k.used ≤ length w

walk_inside : (k : ℕ) (rules : Rules) (walk : Walk) (w : List ℕ) (last : Bool) (room : ℕ) → Inside w (walk_by k rules walk w last room)
unfolding walk_by
walk_inside zero rules walk w last room = omega arith
walk_inside (suc k) rules walk w last room =
    pick_either (Inside w) (ltb room line_room) (λ e. omega arith)
    (λ e. go (next_piece walk.at.at w last) refl (λ next left. walk_inside k rules next (drop packet_bytes w) last left))
  where
    go : (r : NextRead) → next_piece walk.at.at w last ≡ r
        → ((next : Walk) (left : ℕ) → Inside (drop packet_bytes w) (walk_by k rules next (drop packet_bytes w) last left))
        → Inside w (item_by rules walk room (λ next left. walk_by k rules next (drop packet_bytes w) last left) r)
    go (Ok (Packet p c)) e ih =
        pick_either (Inside w) (eqb (number_of walk.state.past p) 0)
        (λ f. omega (
          arith,
          ih (stepped rules walk p c) (room - length (lines_at rules walk p)),
          piece_sixteen walk.at.at w last e,
          length-drop packet_bytes w,
        ))
        (λ f. omega arith)
    go (Ok End) e ih = omega arith
    go (Ok More) e ih = omega arith
    go (Err r) e ih = omega arith

pub take_inside : (walk : Walk) (w : List ℕ) (last : Bool) (room : ℕ) → (take_of walk w last room).used ≤ length w
unfolding take_of
take_inside walk w last room =
    pick_either (Inside w) (ltb room line_room) (λ e. omega arith)
    (λ e. pick_either (Inside w) (in_range walk.state)
    (λ f. walk_inside _ (rules_of walk.state.numbers) walk w last room) (λ f. omega arith))

-- a walk begins where the window shows the version byte and the parameters

ready_headed : (x : FileNumbers) (c : Cursor) (bytes : ℕ) → head_bytes ≤ bytes → Headed (ready_of x c) bytes
unfolding ready_of
ready_headed x c bytes h = go (set_up_as (of_profile x.profile x.parameters))
  where
    go : (a : SetUp) → Headed (ready_by a c) bytes
    go (Ok s) = h
    go (Err n) = tt

pub begin_headed : (w : List ℕ) (last : Bool) → Headed (begin_of w last) (length w)
unfolding begin_of
begin_headed w last = go (head_piece w last) refl
  where
    go : (h : HeadRead) → head_piece w last ≡ h → Headed (head_by h) (length w)
    go (Ok (Some r)) e =
        let alone = sym (head_alone w last (ap head_waits e)) ∙ e in
        ready_headed (numbers_of (heading r.version r.kind r.parameters)) r.next (length w) (subst (SaysHead w) alone (head_says w)).nineteen
    go (Ok None) e = tt
    go (Err r) e = tt
