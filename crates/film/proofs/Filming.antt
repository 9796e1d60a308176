-- A capture in lent bytes: the count of frames that its check gives tells how long its report is, so that what is weighed decides the number,
-- the place and the bytes; the rows are stored behind, and then the eleven numbers in front. By what the check says.
use Rattle.std.specs.Prelude.{◌≡◌, ◌∷◌, ◌++◌, ◌*◌, ◌≤◌, Ok, Err}
use Rattle.laws.specs.Kit.{refl, sym, ap, subst, ◌∙◌, Bool, true, false, List, [], map, append-nil, ℕ}
use Rattle.laws.specs.Kit.{arith, leb, pos, length, drop, length-append, sets, le-leb, leb-true, eq-eqb, ne_eqb, ℕ_discrete}
use Rattle.laws.specs.Choose.{pick}
use Rattle.laws.specs.Fold.{fold}
use Rattle.laws.proofs.Lay.{sets_join}
use Rattle.laws.proofs.Count.{count_le}
use Rattle.endian.specs.Number.{bytes_of}
use Rattle.endian.proofs.Width.{length_bytes}
use Rattle.packet.specs.declared.Packet.{Packet}
use Rattle.packet.specs.Paper.{closes_at}
use Rattle.packet.specs.Step.{nothing}
use Rattle.packet.proofs.Declared.{scan_declared, fine_few, fine_count}
use Rattle.frame.specs.Step.{row_width}
use Rattle.refusal.specs.Told.{Numbered}
use Rattle.capture.specs.declared.Seen.{Seen}
use Rattle.capture.specs.Paper.{Checked, checked_refused}
use Rattle.intake.specs.Paper.{records_of, packets_of, skipped_of}
use Rattle.intake.proofs.Reading.{Read, checked_read, records_read, skipped_read}
use Rattle.timing.specs.declared.StreamNumbers.{StreamNumbers}
use Rattle.timing.specs.declared.Rules.{Rules}
use Rattle.timing.specs.declared.State.{State}
use Rattle.timing.specs.declared.Stated.{Stated}
use Rattle.timing.specs.Step.{set_up_of, stated_of, stated_refusal, rules_of, fresh_of, rows_after, numbers}
use Rattle.timing.specs.Answers.{summary_of}
use Rattle.timing.specs.Feed.{RunAsks, RunGives}
use Rattle.timing.specs.Range.{in_range, Sound}
use Rattle.timing.proofs.Stating.{stated_fine}
use Rattle.timing.proofs.InRange.{sound_fresh, of_sound}
use Rattle.timing.proofs.Dealing.{sound_after}
use Rattle.timing.proofs.Scanning.{scan_runs, numbers_length}
use Rattle.film.specs.declared.Counts.{Counts}
use Rattle.film.specs.Step.{Weighed, weighed_as, not_weighed, eleven_width, eleven_bytes, weighed_by, weighed_of, FilmAsks, FilmGives}
use Rattle.report.specs.Paper.{state_of, rows_of, in_bytes, row_bytes, number_bytes, Answer, answer}
use Rattle.report.specs.Step.{needed_behind}
use Rattle.film.specs.Paper.{eleven_of, capture_bytes, capture_checked, answered_by, capture_answer, filled_from, capture_filled}
use Rattle.film.specs.Paper.{capture_room}
use Rattle.report.proofs.Bytes.{nine, length_stored, stored_append, length_encoded, encoded_append, naturals, front_last}

-- one answer has one pair of counts
told_counts : {k m : Counts} → ◌≡◌ {A = Weighed} (Ok k) (Ok m) → k ≡ m
told_counts e = cc

module _ (t : Stated) (port offset : ℕ) (b : List ℕ) where
  -- the stream that is stated
  abbrev x : StreamNumbers
  x = stated_of t

  -- a capture that is fine
  pub record Filmed (y : Seen) : Type 0 where
    pub set_up : set_up_of x ≡ 0
    pub read : Read port offset nothing false b y

  pub checked_fine : (y : Seen) → capture_checked t port offset b ≡ Ok y → Filmed y
  unfolding capture_checked
  checked_fine y e = go (ℕ_discrete (stated_refusal t) 0)
    where
      go : Dec (stated_refusal t ≡ 0) → Filmed y
      go (yes z) = record { set_up = (stated_fine t z).1; read = checked_read port offset nothing false b y (rw (eq-eqb (stated_refusal t) 0 z) at e) }
      go (no n) =
          let f : checked_refused (stated_refusal t) 0 ≡ Ok y = rw (ne_eqb (stated_refusal t) 0 n) at e in
          let z : ◌≡◌ {A = ℕ} 0 1 = cc in
          absurd (omega arith)

  -- ---- how long its report is

  eleven : length (eleven_of x port offset b) ≡ eleven_width
  eleven =
      length-append (summary_of (state_of x (packets_of port offset b))) _ ∙ rw (nine (state_of x (packets_of port offset b)))

  pub whole : capture_bytes x port offset b
      ≡ in_bytes (eleven_of x port offset b) ++ row_bytes (rows_of x (packets_of port offset b))
  whole =
      encoded_append (map pos (eleven_of x port offset b)) (numbers (rows_of x (packets_of port offset b)))
      ∙ ap (λ (l : List ℕ). in_bytes l ++ row_bytes (rows_of x (packets_of port offset b))) (naturals (eleven_of x port offset b))

  front_long : length (in_bytes (eleven_of x port offset b)) ≡ eleven_bytes
  front_long = length_stored (eleven_of x port offset b) ∙ ap (λ (n : ℕ). number_bytes * n) eleven

  module _ {y : Seen} (f : Filmed y) where
    rows_closed : length (rows_of x (packets_of port offset b)) ≡ y.tally.closed
    rows_closed =
        let runs = scan_runs (packets_of port offset b) (rules_of x) (fresh_of x) 0 y.tally.closed f.read.fine in
        omega (arith, runs.1)

    rows_long : length (row_bytes (rows_of x (packets_of port offset b))) ≡ number_bytes * (y.tally.closed * row_width)
    rows_long =
        length_encoded (numbers (rows_of x (packets_of port offset b)))
        ∙ rw (numbers_length (rows_of x (packets_of port offset b)), rows_closed)

    pub film_long : length (capture_bytes x port offset b) ≡ needed_behind eleven_width y.tally.closed
    film_long =
        let both = length-append (in_bytes (eleven_of x port offset b)) (row_bytes (rows_of x (packets_of port offset b))) in
        omega (arith, ap length whole, both, front_long, rows_long)

    -- no more frames than packets, of which there are at most 1,000,000,000
    film_few : y.tally.closed ≤ 1000000000
    film_few =
        let ps = packets_of port offset b in
        let fine = sym (scan_declared ps) ∙ f.read.fine in
        omega (arith, fine_few ps y.tally.closed fine, fine_count ps y.tally.closed fine, count_le (closes_at ps) (length ps))

    -- its packets can be measured, where there is room
    pub film_asks : (room : ℕ) → length (capture_bytes x port offset b) ≤ room → FilmAsks x port offset b room
    film_asks room h =
        let runs = scan_runs (packets_of port offset b) (rules_of x) (fresh_of x) 0 y.tally.closed f.read.fine in
        record {
          set_up = f.set_up;
          runs = record {
            going = record { rules_are = refl; sound = sound_fresh x f.set_up };
            passes = runs.0;
            fits = omega (arith, film_long, rows_long);
          };
        }

  -- the state is in range, so that it has a verdict
  pub filmed_in_range : {room : ℕ} {before after : List ℕ} {s : State} → FilmAsks x port offset b room
      → FilmGives x port offset b before s after → in_range s ≡ true
  filmed_in_range {s = s} a g =
      of_sound s (subst Sound (sym g.state_is)
      (sound_after (packets_of port offset b) (fresh_of x) (sound_fresh x a.set_up) a.runs.passes))

  -- ---- what is weighed

  module _ (room : ℕ) where
    pub weighed_refused : {r : Checked} {n place : ℕ} → r ≡ capture_checked t port offset b → r ≡ checked_refused n place
        → not_weighed n place ≡ weighed_of t port offset b room
    unfolding weighed_of
    weighed_refused e f = rw (← e, f)

    module _ {r : Checked} {y : Seen} (e : r ≡ capture_checked t port offset b) (f : r ≡ Ok y) where
      fine : Filmed y
      fine = checked_fine y (sym e ∙ f)

      pub weighed_fine : leb (needed_behind eleven_width y.tally.closed) room ≡ true
          → weighed_as y.records y.skipped ≡ weighed_of t port offset b room
      unfolding weighed_of
      weighed_fine t = rw (← e, f, film_long fine, t)

      pub weighed_15 : leb (needed_behind eleven_width y.tally.closed) room ≡ false
          → not_weighed 15 0 ≡ weighed_of t port offset b room
      unfolding weighed_of
      weighed_15 t = rw (← e, f, film_long fine, t)

    -- the number and the place are what is weighed
    abbrev pub weighed_answer : Weighed → Answer
    weighed_answer (Ok r) = answer 0 0
    weighed_answer (Err r) = answer r.number r.place

    own_answer : capture_answer t port offset b room ≡ weighed_answer (weighed_of t port offset b room)
    unfolding capture_answer weighed_of
    own_answer = go (capture_checked t port offset b)
      where
        go : (r : Checked) → answered_by t port offset b room r ≡ weighed_answer (weighed_by t port offset b room r)
        go (Err r) = refl
        go (Ok y) = by (leb (length (capture_bytes x port offset b)) room)
          where
            by : (u : Bool) → pick u (answer 0 0) (answer 15 0)
                ≡ weighed_answer (pick u (weighed_as y.records y.skipped) (not_weighed 15 0))
            by true = refl
            by false = refl

    pub weighed_answer_lem : {w v : Weighed} → w ≡ weighed_of t port offset b room → w ≡ v → capture_answer t port offset b room ≡ weighed_answer v
    weighed_answer_lem e f = own_answer ∙ ap weighed_answer (sym e ∙ f)

    -- fine: there is room, and every record is counted
    pub record Enough (records skipped : ℕ) : Type 0 where
      pub seen : Seen
      pub is_fine : capture_checked t port offset b ≡ Ok seen
      pub enough : length (capture_bytes x port offset b) ≤ room
      pub all : records ≡ length (records_of port offset b).found
      pub skips : skipped ≡ skipped_of port offset b

    pub weighed_enough : {k : Counts} → Ok k ≡ weighed_of t port offset b room → Enough k.records k.skipped
    unfolding weighed_of
    weighed_enough {k = counts} = go (capture_checked t port offset b) refl
      where
        go : (r : Checked) → capture_checked t port offset b ≡ r → Ok counts ≡ weighed_by t port offset b room r
            → Enough counts.records counts.skipped
        go (Err r) k g = let z : ◌≡◌ {A = ℕ} 0 1 = cc in absurd (omega arith)
        go (Ok y) k g = by (leb (length (capture_bytes x port offset b)) room) refl g
          where
            by : (u : Bool) → leb (length (capture_bytes x port offset b)) room ≡ u
                → Ok counts ≡ pick u (weighed_as y.records y.skipped) (not_weighed 15 0)
                → Enough counts.records counts.skipped
            by true q g =
                let read = (checked_fine y k).read in
                let same : counts ≡ record { records = y.records; skipped = y.skipped } = told_counts g in
                let one : counts.records ≡ y.records = ap (λ (k : Counts). k.records) same in
                let two : counts.skipped ≡ y.skipped = ap (λ (k : Counts). k.skipped) same in
                record {
                  seen = y;
                  is_fine = k;
                  enough = leb-true _ _ q;
                  all = one ∙ records_read port offset nothing false b read;
                  skips = two ∙ skipped_read port offset nothing false b read;
                }
            by false q g = let z : ◌≡◌ {A = ℕ} 0 1 = cc in absurd (omega arith)

    pub enough_asks : {records skipped : ℕ} → Enough records skipped → FilmAsks x port offset b room
    enough_asks h = film_asks (checked_fine h.seen h.is_fine) room h.enough

    -- the eleven numbers have room
    pub enough_long : {records skipped : ℕ} → Enough records skipped → eleven_bytes ≤ room
    enough_long h = omega (arith, h.enough, film_long (checked_fine h.seen h.is_fine))

  -- ---- the lent bytes

  pub refused_leaves : (out : List ℕ) {n : Numbered} → Err n ≡ weighed_of t port offset b (length out)
      → out ≡ capture_filled t port offset b out
  unfolding weighed_of capture_filled
  refused_leaves out {n} = go (capture_checked t port offset b)
    where
      go : (r : Checked) → Err n ≡ weighed_by t port offset b (length out) r → out ≡ filled_from t port offset b out r
      go (Err r) g = refl
      go (Ok y) g = by (leb (length (capture_bytes x port offset b)) (length out)) g
        where
          by : (u : Bool) → Err n ≡ pick u (weighed_as y.records y.skipped) (not_weighed 15 0)
              → out ≡ pick u (capture_bytes x port offset b ++ drop (length (capture_bytes x port offset b)) out) out
          by true g = let z : ◌≡◌ {A = ℕ} 0 1 = cc in absurd (omega arith)
          by false g = refl

  -- nine numbers and two behind them are the eleven
  eleven_stored : (d : List ℕ) (records skipped : ℕ)
      → sets (sets (sets d 0 (in_bytes (summary_of (state_of x (packets_of port offset b))))) 72 (bytes_of 8 records)) 80 (bytes_of 8 skipped)
      ≡ sets d 0 (in_bytes (summary_of (state_of x (packets_of port offset b)) ++ (records ∷ skipped ∷ [])))
  unfolding in_bytes
  eleven_stored d records skipped =
      let front = in_bytes (summary_of (state_of x (packets_of port offset b))) in
      let nine_long : length front ≡ 72 =
      length_stored (summary_of (state_of x (packets_of port offset b))) ∙ rw (nine (state_of x (packets_of port offset b))) in
      let first : sets d 0 (front ++ (bytes_of 8 records ++ bytes_of 8 skipped))
      ≡ sets (sets d 0 front) 72 (bytes_of 8 records ++ bytes_of 8 skipped) =
      sets_join front (bytes_of 8 records ++ bytes_of 8 skipped) d 0 ∙ rw nine_long in
      let second : sets (sets d 0 front) 72 (bytes_of 8 records ++ bytes_of 8 skipped)
      ≡ sets (sets (sets d 0 front) 72 (bytes_of 8 records)) 80 (bytes_of 8 skipped) =
      sets_join (bytes_of 8 records) (bytes_of 8 skipped) (sets d 0 front) 72 ∙ rw (length_bytes 8 records) in
      let eleven : in_bytes (summary_of (state_of x (packets_of port offset b)) ++ (records ∷ skipped ∷ []))
      ≡ front ++ (bytes_of 8 records ++ bytes_of 8 skipped) =
      stored_append (summary_of (state_of x (packets_of port offset b))) (records ∷ skipped ∷ []) ∙ rw (append-nil (bytes_of 8 skipped)) in
      sym (ap (sets d 0) eleven ∙ first ∙ second)

  pub film_filled : (out : List ℕ) {state : State} {rows nine_in ten_in after : List ℕ} {records skipped : ℕ}
      → Enough (length out) records skipped → FilmGives x port offset b out state rows
      → nine_in ≡ sets rows 0 (in_bytes (summary_of state)) → ten_in ≡ sets nine_in 72 (bytes_of 8 records)
      → after ≡ sets ten_in 80 (bytes_of 8 skipped) → after ≡ capture_filled t port offset b out
  unfolding capture_filled
  film_filled out {state} {rows} {nine_in} {ten_in} {after} {records} {skipped} h g e1 e2 e3 =
      let front = in_bytes (eleven_of x port offset b) in
      let behind = row_bytes (rows_of x (packets_of port offset b)) in
      let both = length-append front behind in
      let size = ap length whole in
      let stored : after ≡ sets (sets out eleven_bytes behind) 0 front =
      rw (e3, e2, e1, g.state_is, g.rows_are, h.all, h.skips)
      (eleven_stored (sets out eleven_bytes behind) (length (records_of port offset b).found) (skipped_of port offset b)) in
      stored
      ∙ ap (λ (k : ℕ). sets (sets out k behind) 0 front) (sym front_long)
      ∙ front_last front behind out (omega (arith, h.enough))
      ∙ sym (ap (filled_from t port offset b out) h.is_fine ∙ rw (le-leb _ (length out) h.enough, whole))

  -- ---- the room

  pub room_refused : {r : Checked} {n place : ℕ} → r ≡ capture_checked t port offset b → r ≡ checked_refused n place
      → 0 ≡ capture_room t port offset b
  unfolding capture_room
  room_refused e f = rw (← e, f)

  pub room_fine : {r : Checked} {y : Seen} → r ≡ capture_checked t port offset b → r ≡ Ok y
      → needed_behind eleven_width y.tally.closed ≡ capture_room t port offset b
  unfolding capture_room
  room_fine {y = y} e f = rw (← e, f) (sym (film_long (checked_fine y (sym e ∙ f))))

  pub few_closed : {r : Checked} {y : Seen} → r ≡ capture_checked t port offset b → r ≡ Ok y → y.tally.closed ≤ 1000000000
  few_closed {y = y} e f = film_few (checked_fine y (sym e ∙ f))

-- ---- the stream as the code has it

module _ (port offset : ℕ) (b : List ℕ) {x y : StreamNumbers} (e : y ≡ x) where
  pub stated_asks : {room : ℕ} → FilmAsks x port offset b room → FilmAsks y port offset b room
  stated_asks a = rw e a

  pub stated_gives : {before after : List ℕ} {s : State} → FilmGives y port offset b before s after → FilmGives x port offset b before s after
  stated_gives g = rw (← e) g

-- ---- the loop, with the rules and the fresh state that the code has worked out

module _ {x : StreamNumbers} {rules : Rules} {s : State} {l : List Packet} {at : ℕ} (er : rules ≡ rules_of x) (es : s ≡ fresh_of x) where
  pub film_begins : {room : ℕ} → RunAsks row_bytes (rules_of x) (fresh_of x) l at room → RunAsks row_bytes rules s l at room
  film_begins a = rw (er, es) a

  pub film_ends : {before after : List ℕ} {t : State} → RunGives row_bytes rules s l at before t after
      → RunGives row_bytes (rules_of x) (fresh_of x) l at before t after
  film_ends g = rw (← er, ← es) g

-- no packets leave the fresh state and the bytes
pub film_none : {x : StreamNumbers} {s : State} (l : List Packet) (at : ℕ) (out : List ℕ) → s ≡ fresh_of x → l ≡ []
    → RunGives row_bytes (rules_of x) (fresh_of x) l at out s out
unfolding fold rows_after numbers in_bytes
film_none l at out es e = rw (es, e) (record { state_is = refl; rows_are = refl })

pub ruleset weighing = (weighed_refused, weighed_fine, weighed_15)

pub ruleset room_laws = (room_refused, room_fine, few_closed)
