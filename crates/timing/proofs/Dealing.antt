-- A list dealt out over any calls: each call is accepted, and states and rows are those of one call with the
-- whole list. The idea: an accepted list is one whose packets all pass, and passing may be cut anywhere.
use Rattle.std.specs.Prelude.{◌≡◌, ◌∷◌, ◌++◌, ◌+◌, ◌*◌, ◌≤◌, Err, Ok}
use Rattle.laws.specs.Kit.{refl, sym, ap, ◌∙◌, subst, Bool, true, false, List, [], ℕ, arith, ℤ, length}
use Rattle.laws.specs.Kit.{length-append, le-leb, eq-eqb}
use Rattle.laws.specs.Choose.{pick}
use Rattle.laws.specs.Fold.{fold}
use Rattle.laws.proofs.Fold.{fold_cut}
use Rattle.packet.specs.declared.Past.{Past}
use Rattle.packet.specs.Paper.{Scanned}
use Rattle.packet.specs.declared.Packet.{Packet}
use Rattle.packet.specs.Paper.{packets}
use Rattle.packet.specs.Step.{number_of, next_of, closes, scan_of, scanned_of}
use Rattle.packet.proofs.Turn.{scanned_fine}
use Rattle.frame.specs.Step.{row_width}
use Rattle.timing.specs.declared.Rules.{Rules}
use Rattle.timing.specs.declared.State.{State}
use Rattle.timing.specs.Step.{rules_of, step_of, rows_of, state_after, rows_after, numbers}
use Rattle.timing.specs.Range.{in_range, Sound}
use Rattle.timing.specs.Feed.{Passes, Outcome, refused_by, accepted_as, by_scan, feed_all, feed_of, Call, all_of, Deals, none, call, Rooms}
use Rattle.timing.proofs.InRange.{of_sound, sound_of}
use Rattle.timing.proofs.Feeding.{accepted_from, feed_slices}
use Rattle.timing.proofs.Staying.{sound_step}
use Rattle.timing.proofs.Running.{step_numbers, step_past}
use Rattle.timing.proofs.Sink.{both, as_numbers}
use Rattle.timing.proofs.Scanning.{begun_step, rows_count}
use Rattle.timing.proofs.Declared.{rows_cut}

-- the stream numbers stay
pub numbers_after : (rules : Rules) (s : State) (l : List Packet) → (state_after rules s l).numbers ≡ s.numbers
unfolding fold
numbers_after rules s [] = refl
numbers_after rules s (p ∷ l) = numbers_after rules (step_of rules s p) l ∙ step_numbers rules s p

-- packets that pass keep the state in range
pub sound_after : (l : List Packet) (s : State) → Sound s → Passes s.past l → Sound (state_after (rules_of s.numbers) s l)
unfolding fold Passes
sound_after [] s x p = x
sound_after (q ∷ l) s x p =
    let rules = rules_of s.numbers in
    let same : rules_of (step_of rules s q).numbers ≡ rules = ap rules_of (step_numbers rules s q) in
    subst (λ (r : Rules). Sound (state_after r (step_of rules s q) l)) same
    (sound_after l (step_of rules s q) (sound_step s q x p.0) (subst (λ (y : Past). Passes y l) (sym (step_past rules s q)) p.1))

-- packets that pass are scanned with nothing to refuse
passes_scan : (l : List Packet) (rules : Rules) (s : State) (k : ℕ) → Passes s.past l → scan_of s.past s.frames.begun k l
    ≡ Ok (k + length (rows_after rules s l))
unfolding Passes scan_of rows_after
passes_scan [] rules s k p = ap Ok (omega arith)
passes_scan (q ∷ l) rules s k p =
    let next = subst (λ (y : Past). Passes y l) (sym (step_past rules s q)) p.1 in
    let ih = passes_scan l rules (step_of rules s q) (k + closes s.frames.begun q) next in
    let here = subst (λ (y : Past). scan_of y (step_of rules s q).frames.begun (k + closes s.frames.begun q) l
    ≡ Ok (k + closes s.frames.begun q + length (rows_after rules (step_of rules s q) l))) (step_past rules s q) ih in
    let there = subst (λ (b : Bool). scan_of (next_of s.past q.time) b (k + closes s.frames.begun q) l
    ≡ Ok (k + closes s.frames.begun q + length (rows_after rules (step_of rules s q) l))) (begun_step rules s q) here in
    let count : k + closes s.frames.begun q + length (rows_after rules (step_of rules s q) l)
    ≡ k + length (rows_of rules s q ++ rows_after rules (step_of rules s q) l) =
    omega (arith, length-append (rows_of rules s q) (rows_after rules (step_of rules s q) l), rows_count rules s q) in
    rw (eq-eqb (number_of s.past q) 0 p.0) (there ∙ ap Ok count)

-- one call of packets that pass, with room
pub accepts : (s : State) (rows : List ℤ) (l : List Packet) → Sound s → Passes s.past l
    → length (rows_after (rules_of s.numbers) s l) * row_width ≤ length rows
    → feed_all s rows l ≡ accepted_as s rows l
unfolding feed_all
accepts s rows l x p room =
    rw (of_sound s x, passes_scan l (rules_of s.numbers) s 0 p)
    (rw (le-leb ((0 + length (rows_after (rules_of s.numbers) s l)) * row_width) (length rows) (omega arith)))

-- passing may be cut
pub passes_cut : (rules : Rules) (s : State) (l m : List Packet) → Passes s.past (l ++ m) → Passes s.past l
    × Passes (state_after rules s l).past m
unfolding Passes fold
passes_cut rules s [] m p = (tt, p)
passes_cut rules s (q ∷ l) m p =
    let next = subst (λ (y : Past). Passes y (l ++ m)) (sym (step_past rules s q)) p.1 in
    let ih = passes_cut rules (step_of rules s q) l m next in
    ((p.0, subst (λ (y : Past). Passes y l) (step_past rules s q) ih.0), ih.1)

-- the list dealt out
pub deals : (calls : List Call) (s : State) → Sound s → Passes s.past (all_of calls) → Rooms s calls
    → Deals s calls (state_after (rules_of s.numbers) s (all_of calls)) (numbers (rows_after (rules_of s.numbers) s (all_of calls)))
unfolding all_of Rooms fold rows_after numbers
deals [] s x p r = none
deals (c ∷ cs) s x p r =
    let rules = rules_of s.numbers in
    let l = c.packets in
    let m = all_of cs in
    let t = state_after rules s l in
    let cut = passes_cut rules s l m p in
    let same : rules_of t.numbers ≡ rules = ap rules_of (numbers_after rules s l) in
    let rest = subst (λ (q : Rules). Deals t cs (state_after q t m) (numbers (rows_after q t m))) same
    (deals cs t (sound_after l s x cut.0) cut.1 r.1) in
    let all = call (accepts s c.rows l x cut.0 r.0) rest in
    let states : state_after rules t m ≡ state_after rules s (l ++ m) = sym (fold_cut (step_of rules) s l m) in
    let rows : numbers (rows_after rules s l) ++ numbers (rows_after rules t m) ≡ numbers (rows_after rules s (l ++ m)) =
    sym (both as_numbers (rows_after rules s l) (rows_after rules t m)) ∙ ap numbers (sym (rows_cut rules s l m)) in
    subst (λ (u : State). Deals s (c ∷ cs) u (numbers (rows_after rules s (l ++ m)))) states
    (subst (λ (o : List ℤ). Deals s (c ∷ cs) (state_after rules t m) o) rows all)

-- ---- the state of an accepted call is in range

pub stays_in_range : (s t : State) (rows : List ℤ) (l : List Packet) → (feed_all s rows l).answer ≡ Ok t → in_range t ≡ true
stays_in_range s t rows l e =
    let a = accepted_from s t rows l e in
    of_sound t (subst Sound (sym a.state) (sound_after l s (sound_of s a.start_in_range) a.passes))

-- and so it is where slices are lent: none of unequal length are accepted
pub fed_in_range : (s t : State) (rows : List ℤ) (ts ss ms : List ℕ) → (feed_of s rows ts ss ms).answer ≡ Ok t → in_range t ≡ true
unfolding feed_of
fed_in_range s t rows ts ss ms e = go (scanned_of s.past s.frames.begun ts ss ms) refl (in_range s) e
  where
    go : (x : Scanned) → scanned_of s.past s.frames.begun ts ss ms ≡ x → (b : Bool)
        → (pick b (by_scan s rows x (packets ts ss ms)) (refused_by s rows 9 0)).answer ≡ Ok t → in_range t ≡ true
    go (Ok n) f b g =
        let same = (scanned_fine s.past s.frames.begun ts ss ms n f).0 in
        stays_in_range s t rows (packets ts ss ms) (ap (λ (o : Outcome). o.answer) (sym (feed_slices s rows ts ss ms same)) ∙ e)
    go (Err r) f true g = let z : ◌≡◌ {A = ℕ} 0 1 = cc in absurd (omega arith)
    go (Err r) f false g = let z : ◌≡◌ {A = ℕ} 0 1 = cc in absurd (omega arith)
