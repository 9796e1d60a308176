-- The whole call, case by case, each from what its branch of the code has found.
use Rattle.std.specs.Prelude.{◌≡◌, ◌*◌, ◌/◌, ◌≤◌, ◌<◌, Err, Ok}
use Rattle.laws.specs.Kit.{refl, sym, ap, ◌∙◌, subst, Bool, true, false, List, [], ℕ, arith, le-div_iff_mul-le}
use Rattle.laws.specs.Kit.{div-lt_iff_lt-mul, leb, ℤ, length, le-leb, lt-leb}
use Rattle.refusal.specs.Told.{Numbered}
use Rattle.packet.specs.Paper.{Scanned}
use Rattle.packet.specs.declared.Packet.{Packet}
use Rattle.packet.specs.Paper.{OneLength, packets}
use Rattle.packet.specs.Step.{scan_of, scanned_of}
use Rattle.packet.proofs.Turn.{scanned_fine, lengths_same}
use Rattle.laws.specs.Choose.{pick}
use Rattle.laws.specs.Fold.{fold}
use Rattle.frame.specs.Step.{row_width}
use Rattle.timing.specs.declared.State.{State}
use Rattle.timing.specs.declared.Rules.{Rules}
use Rattle.timing.specs.Step.{rules_of, state_after, rows_after, numbers}
use Rattle.timing.specs.Range.{in_range}
use Rattle.timing.specs.Feed.{Fed, Passes, RunAsks, RunGives, Outcome, refused_by, accepted_as, room_for, by_scan, feed_all, feed_of, FeedGives, not_fed}
use Rattle.timing.proofs.InRange.{sound_of}
use Rattle.timing.proofs.Scanning.{scan_runs, numbers_length}

is : {o q : Outcome} → q ≡ o → FeedGives o q.answer q.rows
is e = record { answer_is = ap (λ (x : Outcome). x.answer) e; rows_are = ap (λ (x : Outcome). x.rows) e }

module _ (s : State) (rows : List ℤ) (ts ss ms : List ℕ) where
  pub fed_9 : in_range s ≡ false → FeedGives (feed_of s rows ts ss ms) (not_fed 9 0 s) rows
  unfolding feed_of
  fed_9 e = is (rw e)

  module _ (e : in_range s ≡ true) where
    by_scan_lem : (x : Scanned) → x ≡ scanned_of s.past s.frames.begun ts ss ms → by_scan s rows x (packets ts ss ms)
        ≡ feed_of s rows ts ss ms
    unfolding feed_of
    by_scan_lem x f = rw (e, f)

    pub fed_refused : {x : Scanned} {r : Numbered} → x ≡ scanned_of s.past s.frames.begun ts ss ms → x ≡ Err r
        → FeedGives (feed_of s rows ts ss ms) (not_fed r.number r.place s) rows
    fed_refused {x} f g = is (ap (λ (y : Scanned). by_scan s rows y (packets ts ss ms)) (sym g) ∙ by_scan_lem x f)

    module _ {x : Scanned} {n : ℕ} (f : x ≡ scanned_of s.past s.frames.begun ts ss ms) (g : x ≡ Ok n) where
      room_for_lem : room_for s rows n (packets ts ss ms) ≡ feed_of s rows ts ss ms
      room_for_lem = ap (λ (y : Scanned). by_scan s rows y (packets ts ss ms)) (sym g) ∙ by_scan_lem x f

      pub fed_15 : length rows / row_width < n → FeedGives (feed_of s rows ts ss ms) (not_fed 15 s.past.packets s) rows
      fed_15 l =
          let few : length rows < n * row_width = (div-lt_iff_lt-mul {k = row_width} {x = length rows} {y = n} (omega arith)).0 l in
          is (sym (rw (lt-leb (n * row_width) (length rows) few)) ∙ room_for_lem)

      fine : OneLength ts ss ms × (scan_of s.past s.frames.begun 0 (packets ts ss ms) ≡ Ok n)
      fine = scanned_fine s.past s.frames.begun ts ss ms n (sym f ∙ g)

      pub one_length : OneLength ts ss ms
      one_length = fine.0

      enough : n ≤ length rows / row_width → n * row_width ≤ length rows
      enough l = (le-div_iff_mul-le {k = row_width} {x = n} {y = length rows} (omega arith)).0 l

      -- the rules that the code has worked out
      module _ {q : Rules} (eq : q ≡ rules_of s.numbers) (l : n ≤ length rows / row_width) where
        pub runs : RunAsks numbers q s (packets ts ss ms) 0 (length rows)
        runs =
            let r = scan_runs (packets ts ss ms) q s 0 n fine.1 in
            record {
              going = record { rules_are = eq; sound = sound_of s e };
              passes = r.0;
              fits = omega (arith, enough l, r.1, numbers_length (rows_after q s (packets ts ss ms)));
            }

        pub fed : {t : State} {after : List ℤ} → RunGives numbers q s (packets ts ss ms) 0 rows t after → FeedGives (feed_of s rows ts ss ms) (Ok t) after
        fed {t} {after} ran =
            let r = subst (λ (x : Rules). RunGives numbers x s (packets ts ss ms) 0 rows t after) eq ran in
            let o = is {q = accepted_as s rows (packets ts ss ms)} (sym (rw (le-leb (n * row_width) (length rows) (enough l))) ∙ room_for_lem) in
            record { answer_is = ap Ok r.state_is ∙ o.answer_is; rows_are = r.rows_are ∙ o.rows_are }

-- ---- what an answer tells

-- the state that it hands back
abbrev state_in : Fed → State
state_in (Ok s) = s
state_in (Err r) = r.state

-- a refusal leaves state and rows
refused_room : (s t : State) (rows : List ℤ) (n k p : ℕ) (l : List Packet) → (room_for s rows n l).answer ≡ not_fed k p t → (t ≡ s)
    × ((room_for s rows n l).rows ≡ rows)
refused_room s t rows n k p l = go (leb (n * row_width) (length rows))
  where
    go : (b : Bool) → (pick b (accepted_as s rows l) (refused_by s rows 15 s.past.packets)).answer ≡ not_fed k p t
        → (t ≡ s) × ((pick b (accepted_as s rows l) (refused_by s rows 15 s.past.packets)).rows ≡ rows)
    go true e = let z : ◌≡◌ {A = ℕ} 0 1 = cc in absurd (omega arith)
    go false e = (sym (ap state_in e), refl)

refused_scan : (s t : State) (rows : List ℤ) (x : Scanned) (k p : ℕ) (l : List Packet) → (by_scan s rows x l).answer ≡ not_fed k p t
    → (t ≡ s) × ((by_scan s rows x l).rows ≡ rows)
refused_scan s t rows (Ok n) k p l e = refused_room s t rows n k p l e
refused_scan s t rows (Err r) k p l e = (sym (ap state_in e), refl)

pub refused_stays : (s t : State) (rows : List ℤ) (ts ss ms : List ℕ) (k p : ℕ) → (feed_of s rows ts ss ms).answer ≡ not_fed k p t
    → (t ≡ s) × ((feed_of s rows ts ss ms).rows ≡ rows)
unfolding feed_of
refused_stays s t rows ts ss ms k p = go (in_range s)
  where
    go : (b : Bool) → (pick b (by_scan s rows (scanned_of s.past s.frames.begun ts ss ms) (packets ts ss ms))
        (refused_by s rows 9 0)).answer ≡ not_fed k p t
        → (t ≡ s) × ((pick b (by_scan s rows (scanned_of s.past s.frames.begun ts ss ms) (packets ts ss ms))
        (refused_by s rows 9 0)).rows ≡ rows)
    go true e = refused_scan s t rows (scanned_of s.past s.frames.begun ts ss ms) k p (packets ts ss ms) e
    go false e = (sym (ap state_in e), refl)

-- an acceptance comes from a state in range, packets that pass and the declared end state
pub record From (s t : State) (l : List Packet) : Type 0 where
  pub start_in_range : in_range s ≡ true
  pub passes : Passes s.past l
  pub state : t ≡ state_after (rules_of s.numbers) s l

accepted_room : (s t : State) (rows : List ℤ) (n : ℕ) (l : List Packet) → (room_for s rows n l).answer ≡ Ok t → t
    ≡ state_after (rules_of s.numbers) s l
accepted_room s t rows n l = go (leb (n * row_width) (length rows))
  where
    go : (b : Bool) → (pick b (accepted_as s rows l) (refused_by s rows 15 s.past.packets)).answer ≡ Ok t → t
        ≡ state_after (rules_of s.numbers) s l
    go true e = cc
    go false e = let z : ◌≡◌ {A = ℕ} 0 1 = cc in absurd (omega arith)

pub accepted_from : (s t : State) (rows : List ℤ) (l : List Packet) → (feed_all s rows l).answer ≡ Ok t → From s t l
unfolding feed_all
accepted_from s t rows l = go (in_range s) refl (scan_of s.past s.frames.begun 0 l) refl
  where
    go : (b : Bool) → in_range s ≡ b → (x : Scanned) → scan_of s.past s.frames.begun 0 l ≡ x
        → (pick b (by_scan s rows x l) (refused_by s rows 9 0)).answer ≡ Ok t → From s t l
    go true e (Ok n) f g = record
        { start_in_range = e; passes = (scan_runs l (rules_of s.numbers) s 0 n f).0; state = accepted_room s t rows n l g }
    go true e (Err r) f g = let z : ◌≡◌ {A = ℕ} 0 1 = cc in absurd (omega arith)
    go false e x f g = let z : ◌≡◌ {A = ℕ} 0 1 = cc in absurd (omega arith)

pub nothing_fed : (s : State) (rows : List ℤ) → in_range s ≡ true → feed_all s rows [] ≡ record { answer = Ok s; rows = rows }
unfolding feed_all scan_of fold rows_after numbers
nothing_fed s rows e = rw e (rw (le-leb 0 (length rows) (omega arith)))

-- slices of one length are their packets
pub feed_slices : (s : State) (rows : List ℤ) (ts ss ms : List ℕ) → OneLength ts ss ms → feed_of s rows ts ss ms
    ≡ feed_all s rows (packets ts ss ms)
unfolding feed_of feed_all
feed_slices s rows ts ss ms o = rw (lengths_same s.past s.frames.begun ts ss ms o)

-- a scan's refusal is the call's
pub refused_call : (s : State) (rows : List ℤ) (l : List Packet) (r : Numbered) → in_range s ≡ true
    → scan_of s.past s.frames.begun 0 l ≡ Err r
    → feed_all s rows l ≡ refused_by s rows r.number r.place
unfolding feed_all
refused_call s rows l r e f = rw (e, f)
