-- The numbers that the answers stand for: by the tests that each answer goes by.
use Rattle.std.specs.Prelude.{◌≡◌, ◌&&◌, ◌*◌, ◌≤◌, ◌<◌, Err, Ok}
use Rattle.laws.specs.Kit.{refl, sym, ◌∙◌, Bool, true, false, List, ℕ, arith, eqb, leb, ℤ, length, eqb-true}
use Rattle.laws.specs.Kit.{ne_eqb, le-leb, lt-leb}
use lib.Ieee.{binary64, in_float}
use Rattle.laws.specs.Choose.{pick, or_else}
use Rattle.laws.proofs.Choose.{pick_either}
use Rattle.packet.specs.Paper.{Scanned}
use Rattle.refusal.specs.Told.{Numbered}
use Rattle.packet.specs.Paper.{packets}
use Rattle.packet.specs.Step.{scanned_of, scanned_number, scanned_place, scanned_closed}
use Rattle.packet.proofs.Turn.{scanned_some}
use Rattle.frame.specs.Step.{row_width}
use Rattle.timing.specs.declared.StreamNumbers.{StreamNumbers}
use Rattle.timing.specs.declared.State.{State}
use Rattle.timing.specs.Answers.{SetUp}
use Rattle.timing.specs.declared.Verdict.{Verdict}
use Rattle.timing.specs.declared.Graph.{Graph}
use Rattle.timing.specs.Step.{set_up_of}
use Rattle.timing.specs.Range.{in_range}
use Rattle.timing.specs.Answers.{set_up_as, answers_of, verdict_of, graph_of, graph_number, set_up_number, judged_number, drawn_number}
use Rattle.timing.specs.Feed.{refused_by, by_scan, feed_of, range_number, fed_refusal, first_of, refusals}

pub set_up_numbered : (x : StreamNumbers) → set_up_number (set_up_as x) ≡ set_up_of x
unfolding set_up_as
set_up_numbered x =
    pick_either (λ (a : SetUp). set_up_number a ≡ set_up_of x) (eqb (set_up_of x) 0) (λ e. sym (eqb-true (set_up_of x) 0 e)) (λ e. refl)

-- set-up's number, and then 15 where there is less room than is needed
module _ (refused need room : ℕ) where
  abbrev pub room_number : ℕ
  room_number = or_else refused (pick (leb need room) 0 15)

  pub set_up_first : {n : ℕ} → refused ≡ n → 0 < n → room_number ≡ n
  set_up_first {n} e p = rw (e, ne_eqb n 0 (λ z. omega arith))

  pub room_short : refused ≡ 0 → room < need → room_number ≡ 15
  room_short e h = rw (e, lt-leb need room h)

  pub room_there : refused ≡ 0 → need ≤ room → room_number ≡ 0
  room_there e h = rw (e, le-leb need room h)

-- a state in range has a verdict, and it is the state's own
pub verdict_is : (s : State) (v : Verdict) → in_range s ≡ true → verdict_of s ≡ Ok v → v ≡ answers_of s
unfolding verdict_of
verdict_is s v e f = let g : Ok (answers_of s) ≡ Ok v = sym (rw e) ∙ f in cc

pub verdict_there : (s : State) (n : ℕ) → in_range s ≡ true → verdict_of s ≡ Err n → ⊥
unfolding verdict_of
verdict_there s n e f =
    let g : Ok (answers_of s) ≡ Err n = sym (rw e) ∙ f in
    let z : ◌≡◌ {A = ℕ} 0 1 = cc in
    omega arith

pub verdict_numbered : (s : State) → judged_number (verdict_of s) ≡ range_number s
unfolding verdict_of
verdict_numbered s = go _ (in_range s)
  where
    go : (v : Verdict) (t : Bool) → judged_number (pick t (Ok v) (Err 9)) ≡ pick t 0 9
    go v true = refl
    go v false = refl

pub graph_numbered : (fpt margin latency : ℤ)
    → drawn_number (graph_of fpt margin latency) ≡ graph_number fpt margin latency
unfolding graph_of
graph_numbered fpt margin latency = go _ (in_float binary64 fpt) (in_float binary64 margin) (in_float binary64 latency)
  where
    go : (g : Graph) (a b c : Bool)
        → drawn_number (pick a (pick b (pick c (Ok g) (Err 16)) (Err 16)) (Err 16)) ≡ pick (a && (b && c)) 0 16
    go g true true true = refl
    go g true true false = refl
    go g true false c = refl
    go g false b c = refl

-- ---- a call: 9, then the scan's number, then 15

module _ (s : State) (rows : List ℤ) (ts ss ms : List ℕ) where
  abbrev scanned : Scanned
  scanned = scanned_of s.past s.frames.begun ts ss ms

  abbrev room : Scanned → ℕ
  room x = pick (leb (scanned_closed x * row_width) (length rows)) 0 15

  abbrev none : Numbered
  none = record { number = 0; place = 0 }

  by_room : (n : ℕ) (t : Bool) → leb (n * row_width) (length rows) ≡ t
      → fed_refusal (by_scan s rows (Ok n) (packets ts ss ms)).answer
      ≡ pick (eqb (pick t 0 15) 0) none (record { number = pick t 0 15; place = s.past.packets })
  by_room n true e = rw e
  by_room n false e = rw e

  by_scanned : (x : Scanned) → scanned ≡ x → fed_refusal (by_scan s rows x (packets ts ss ms)).answer
      ≡ pick (eqb (scanned_number x) 0)
      (pick (eqb (room x) 0) none (record { number = room x; place = s.past.packets }))
      (record { number = scanned_number x; place = scanned_place x })
  by_scanned (Ok n) e = by_room n (leb (n * row_width) (length rows)) refl
  by_scanned (Err r) e = sym (rw (ne_eqb r.number 0 (scanned_some s.past s.frames.begun ts ss ms r e)))

  -- number and place are those of the first refusal that there is
  pub first_refused : fed_refusal (feed_of s rows ts ss ms).answer ≡ first_of (refusals s rows ts ss ms)
  unfolding feed_of
  first_refused = go (in_range s)
    where
      go : (t : Bool) → fed_refusal (pick t (by_scan s rows scanned (packets ts ss ms)) (refused_by s rows 9 0)).answer
          ≡ pick (eqb (pick t 0 9) 0)
          (pick (eqb (scanned_number scanned) 0)
          (pick (eqb (room scanned) 0) none (record { number = room scanned; place = s.past.packets }))
          (record { number = scanned_number scanned; place = scanned_place scanned }))
          (record { number = pick t 0 9; place = 0 })
      go true = by_scanned scanned refl
      go false = refl
