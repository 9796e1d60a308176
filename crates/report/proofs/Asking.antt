-- A file is asked for and the room after it: the count of frames that the check gives tells how long the report is. So what is asked
-- decides the number, the offset and the bytes, and a file that is fine can be measured.
use Rattle.std.specs.Prelude.{◌≡◌, ◌++◌, ◌+◌, ◌-◌, ◌*◌, ◌/◌, ◌≤◌, ◌<◌, Ok}
use Rattle.laws.specs.Kit.{refl, sym, ap, subst, ◌∙◌, Bool, true, false, List, map, ℕ, arith}
use Rattle.laws.specs.Kit.{leb, pos, length, drop, length-append, length-map, sets, le-leb, lt-leb, leb-true, leb-false}
use Rattle.laws.specs.Choose.{pick}
use Rattle.laws.specs.Count.{count}
use Rattle.laws.proofs.Count.{count_le}
use Rattle.endian.specs.Number.{Bytes}
use Rattle.packet.specs.declared.Packet.{Packet}
use Rattle.packet.specs.Paper.{closes_at}
use Rattle.packet.specs.Step.{nothing, scan_of}
use Rattle.packet.proofs.Declared.{scan_declared, fine_few, fine_count}
use Rattle.timing.specs.declared.StreamNumbers.{StreamNumbers}
use Rattle.timing.specs.declared.State.{State}
use Rattle.frame.specs.Step.{row_width}
use Rattle.timing.specs.Step.{rules_of, fresh_of, numbers}
use Rattle.timing.specs.Answers.{summary_width, summary_of}
use Rattle.timing.proofs.Scanning.{numbers_length, scan_runs}
use Rattle.record.specs.declared.FileNumbers.{FileNumbers}
use Rattle.record.specs.Paper.{resolved, Heading, Packets, File, file, refused, file_of, file_in}
use Rattle.record.specs.declared.CheckedFile.{CheckedFile}
use Rattle.record.specs.Walk.{numbers_of, as_checked, checked_of, checked_fine, checked_refused, Checked}
use Rattle.record.specs.Write.{file_length}
use Rattle.record.proofs.Writing.{length_file}
use Rattle.record.proofs.Editions.{known_edition, accepted_edition}
use Rattle.limits.specs.Paper.{profile_of}
use Rattle.limits.proofs.Editions.{in_known}
use Rattle.record.proofs.ReadWrite.{FileHolds, file_holds, file_again}
use Rattle.report.specs.Step.{Asked, not_asked}
use Rattle.report.specs.Paper.{stream_of, state_of, rows_of, report_of, in_bytes, encoded, bytes_for, answer, answered, answer_of}
use Rattle.report.specs.Paper.{number_bytes, room_for, room_of, filled, filled_by}
use Rattle.report.specs.Step.{needed_behind, needed, stream_in, as_asked, asked_of, asked_number, asked_offset, packets_of, MeasureAsks, MeasureGives}
use Rattle.report.proofs.Bytes.{nine, length_stored, length_encoded, encoded_append, naturals, front_last}

-- the room, divided: too few numbers for those in front; then the rows
pub too_few : (front closed room : ℕ) → room / number_bytes < front → false ≡ leb (needed_behind front closed) room
too_few front closed room h = sym (lt-leb (needed_behind front closed) room (omega arith))

pub enough_or_not : (front closed room : ℕ) → front ≤ room / number_bytes
    → leb closed ((room / number_bytes - front) / row_width) ≡ leb (needed_behind front closed) room
enough_or_not front closed room h = go (leb closed ((room / number_bytes - front) / row_width)) refl
  where
    go : (t : Bool) → leb closed ((room / number_bytes - front) / row_width) ≡ t → t ≡ leb (needed_behind front closed) room
    go true e = sym (le-leb (needed_behind front closed) room (omega (arith, leb-true closed ((room / number_bytes - front) / row_width) e)))
    go false e = sym (lt-leb (needed_behind front closed) room (omega (arith, leb-false closed ((room / number_bytes - front) / row_width) e)))

-- ---- how long a report is

length_naturals : (xs : List ℕ) → length (map pos xs) ≡ length xs
length_naturals xs = length-map xs pos

length_report : (x : StreamNumbers) (ps : List Packet)
    → length (encoded (report_of x ps)) ≡ number_bytes * (summary_width + length (numbers (rows_of x ps)))
length_report x ps =
    length_encoded (report_of x ps)
    ∙ ap (λ (n : ℕ). number_bytes * n)
    (length-append (map pos (summary_of (state_of x ps))) (numbers (rows_of x ps))
    ∙ rw (length_naturals (summary_of (state_of x ps)), nine (state_of x ps)))

-- as many rows as frames are counted
rows_closed : (x : StreamNumbers) (ps : List Packet) (n : ℕ) → scan_of nothing false 0 ps ≡ Ok n
    → length (rows_of x ps) ≡ count (closes_at ps) (length ps)
rows_closed x ps n e =
    let runs = scan_runs ps (rules_of x) (fresh_of x) 0 n e in
    omega (arith, runs.1, fine_count ps n (sym (scan_declared ps) ∙ e))

-- whatever the edition
pub length_needed : (edition : ℕ) (s : List ℕ) (x : Heading) (ps : List Packet) → FileHolds s x ps
    → length (bytes_for edition x ps) ≡ needed (count (closes_at ps) (length ps))
length_needed edition s x ps h =
    let y = stream_of edition x in
    length_report y ps ∙ rw (numbers_length (rows_of y ps), rows_closed y ps h.closed h.scan_fine)

-- X1: the bytes of the nine numbers, and of a row for each packet that closes a frame
pub room_counted : (s : List ℕ) (x : Heading) (ps : List Packet) → file_of s ≡ file x ps
    → room_of s ≡ needed (count (closes_at ps) (length ps))
unfolding room_of
room_counted s x ps e = ap room_for e ∙ length_needed 1 s x ps (file_holds s x ps e)

-- X12: a frame that closes takes a row, and at least one packet's bytes of the file: so six times the file is always enough
pub room_at_most : (s : List ℕ) → Bytes s → room_of s ≤ 6 * length s
unfolding room_of
room_at_most s b = go (file_of s) refl
  where
    go : (f : File) → file_of s ≡ f → room_for f ≤ 6 * length s
    go (refused n o) e = omega arith
    go (file w ps) e =
        let size : file_length (length ps) ≡ length s = sym (length_file w ps) ∙ ap length (file_again s b w ps e) in
        omega (arith, length_needed 1 s w ps (file_holds s w ps e), size, count_le (closes_at ps) (length ps))

-- ---- the check's answer

-- a file that the check finds fine with an edition beside it, and the frames that it counts
pub record FineFile (edition : ℕ) (s : List ℕ) (x : FileNumbers) (closed : ℕ) : Type 0 where
  pub told : Heading
  pub ps : List Packet
  pub is_file : file_in edition s ≡ file told ps
  pub resolves : numbers_of told ≡ x
  pub as_many : count (closes_at ps) (length ps) ≡ closed

-- two files that are fine alike are alike
ok_same : {a b : CheckedFile} → ◌≡◌ {A = Checked} (Ok a) (Ok b) → a ≡ b
ok_same e = cc

module _ (edition : ℕ) (s : List ℕ) where
  checked_file : (x : FileNumbers) (packets closed : ℕ) → checked_of edition s ≡ checked_fine x packets closed → FineFile edition s x closed
  unfolding checked_of
  checked_file x packets closed e = go (file_in edition s) refl e
    where
      go : (f : File) → file_in edition s ≡ f → as_checked f ≡ checked_fine x packets closed → FineFile edition s x closed
      go (refused m p) g e = let z : ◌≡◌ {A = ℕ} 0 1 = cc in absurd (omega arith)
      go (file y ps) g e =
          let same = ok_same e in
          record { told = y; ps = ps; is_file = g; resolves = ap (λ (c : CheckedFile). c.numbers) same; as_many = ap (λ (c : CheckedFile). c.closed) same }

  -- what is known of a file that an edition leaves accepted
  pub holds_in : (y : Heading) (ps : List Packet) → file_in edition s ≡ file y ps → FileHolds s y ps
  holds_in y ps e = file_holds s y ps (accepted_edition edition s y ps e).1

  module _ (x : FileNumbers) (closed : ℕ) (f : FineFile edition s x closed) where
    fine_long : length (bytes_for edition f.told f.ps) ≡ needed closed
    fine_long = length_needed edition s f.told f.ps (holds_in f.told f.ps f.is_file) ∙ ap needed f.as_many

    -- no more frames than packets, of which there are at most 1,000,000,000
    fine_closed : closed ≤ 1000000000
    fine_closed =
        let holds = holds_in f.told f.ps f.is_file in
        let few = fine_few f.ps holds.closed (sym (scan_declared f.ps) ∙ holds.scan_fine) in
        omega (arith, few, f.as_many, count_le (closes_at f.ps) (length f.ps))

-- ---- the room, by the check's answer in edition 1

module _ (s : List ℕ) where
  first_known : file_in 1 s ≡ file_of s
  first_known = known_edition 1 s (omega arith, omega arith)

  pub room_fine : (x : FileNumbers) (packets closed : ℕ) → checked_of 1 s ≡ checked_fine x packets closed → needed closed ≡ room_of s
  unfolding room_of
  room_fine x packets closed e =
      let f = checked_file 1 s x packets closed e in
      sym (ap room_for (sym first_known ∙ f.is_file) ∙ fine_long 1 s x closed f)

  pub few_closed : (x : FileNumbers) (packets closed : ℕ) → checked_of 1 s ≡ checked_fine x packets closed → closed ≤ 1000000000
  few_closed x packets closed e = fine_closed 1 s x closed (checked_file 1 s x packets closed e)

  pub room_refused : (n o : ℕ) → checked_of 1 s ≡ checked_refused n o → 0 ≡ room_of s
  unfolding checked_of room_of
  room_refused n o e = go (file_of s) (ap as_checked (sym first_known) ∙ e)
    where
      go : (f : File) → as_checked f ≡ checked_refused n o → 0 ≡ room_for f
      go (file x ps) e = let z : ◌≡◌ {A = ℕ} 0 1 = cc in absurd (omega arith)
      go (refused m p) e = refl

-- X1: a report by any edition is as long
pub room_is : (edition : ℕ) (s : List ℕ) (w : Heading) (ps : List Packet) → file_in edition s ≡ file w ps
    → room_of s ≡ length (bytes_for edition w ps)
room_is edition s w ps e =
    let holds = holds_in edition s w ps e in
    room_counted s w ps (accepted_edition edition s w ps e).1 ∙ sym (length_needed edition s w ps holds)

-- ---- what is asked

module _ (edition : ℕ) (s : List ℕ) (room : ℕ) where
  pub asked_refused : (n o : ℕ) → checked_of edition s ≡ checked_refused n o → not_asked n o ≡ asked_of edition s room
  unfolding checked_of asked_of
  asked_refused n o e = go (file_in edition s) e
    where
      go : (f : File) → as_checked f ≡ checked_refused n o → not_asked n o ≡ as_asked edition (length s) room f
      go (file x ps) e = let z : ◌≡◌ {A = ℕ} 0 1 = cc in absurd (omega arith)
      go (refused m p) e = cc

  asked_by : (x : FileNumbers) (packets closed : ℕ) → checked_of edition s ≡ checked_fine x packets closed
      → pick (leb (needed closed) room) (Ok (stream_in edition x)) (not_asked 15 (length s)) ≡ asked_of edition s room
  unfolding asked_of
  asked_by x packets closed e =
      let f = checked_file edition s x packets closed e in
      sym (ap (as_asked edition (length s) room) f.is_file ∙ rw (fine_long edition s x closed f)
      (ap (λ (y : FileNumbers). pick (leb (needed closed) room) (Ok (stream_in edition y)) (not_asked 15 (length s))) f.resolves))

  pub asked_room : (x : FileNumbers) (packets closed : ℕ) → checked_of edition s ≡ checked_fine x packets closed → leb (needed closed) room ≡ true
      → Ok (stream_in edition x) ≡ asked_of edition s room
  asked_room x packets closed e t = sym (rw t) ∙ asked_by x packets closed e

  pub asked_15 : (x : FileNumbers) (packets closed : ℕ) → checked_of edition s ≡ checked_fine x packets closed → leb (needed closed) room ≡ false
      → not_asked 15 (length s) ≡ asked_of edition s room
  asked_15 x packets closed e t = sym (rw t) ∙ asked_by x packets closed e

  -- a file that is fine, with room for its report
  pub record Fits (x : StreamNumbers) : Type 0 where
    pub written : Heading
    pub ps : List Packet
    pub is_file : file_in edition s ≡ file written ps
    pub enough : length (bytes_for edition written ps) ≤ room
    pub stream : stream_of edition written ≡ x

  pub asked_fine : (x : StreamNumbers) → asked_of edition s room ≡ Ok x → Fits x
  unfolding asked_of
  asked_fine x e = go (file_in edition s) refl e
    where
      go : (f : File) → file_in edition s ≡ f → as_asked edition (length s) room f ≡ Ok x → Fits x
      go (refused m p) g e = let z : ◌≡◌ {A = ℕ} 0 1 = cc in absurd (omega arith)
      go (file y ps) g e = by (leb (length (bytes_for edition y ps)) room) refl e
        where
          by : (t : Bool) → leb (length (bytes_for edition y ps)) room ≡ t
              → pick t (Ok (stream_of edition y)) (not_asked 15 (length s)) ≡ Ok x → Fits x
          by true q e = record { written = y; ps = ps; is_file = g; enough = leb-true _ _ q; stream = cc }
          by false q e = let z : ◌≡◌ {A = ℕ} 0 1 = cc in absurd (omega arith)

  -- the answer is what is asked, as a number and an offset
  own_answer : answer_of edition s room ≡ answer (asked_number (asked_of edition s room)) (asked_offset (asked_of edition s room))
  unfolding asked_of answer_of
  own_answer = go (file_in edition s)
    where
      go : (f : File) → answered edition (length s) room f
          ≡ answer (asked_number (as_asked edition (length s) room f)) (asked_offset (as_asked edition (length s) room f))
      go (refused m p) = refl
      go (file y ps) = by (leb (length (bytes_for edition y ps)) room)
        where
          by : (t : Bool) → pick t (answer 0 0) (answer 15 (length s))
              ≡ answer (asked_number (pick t (Ok (stream_of edition y)) (not_asked 15 (length s))))
              (asked_offset (pick t (Ok (stream_of edition y)) (not_asked 15 (length s))))
          by true = refl
          by false = refl

  pub asked_answer : (a : Asked) → asked_of edition s room ≡ a → answer_of edition s room ≡ answer (asked_number a) (asked_offset a)
  asked_answer a e = subst (λ (b : Asked). answer_of edition s room ≡ answer (asked_number b) (asked_offset b)) e own_answer

  pub fits_packets : (x : StreamNumbers) (h : Fits x) → packets_of s ≡ h.ps
  fits_packets x h = ap (λ (r : Packets). r.accepted) (holds_in edition s h.written h.ps h.is_file).all_read

  pub fits_measurable : (x : StreamNumbers) → Fits x → MeasureAsks x s room
  fits_measurable x h =
      let holds = holds_in edition s h.written h.ps h.is_file in
      let known = (accepted_edition edition s h.written h.ps h.is_file).0 in
      let long = length_report (stream_of edition h.written) h.ps in
      record {
        set_up = rw (← h.stream) (in_known (profile_of h.written.kind) (resolved h.written) edition known ∙ holds.set_up);
        whole = ap (λ (r : Packets). r.ending) holds.all_read;
        fits = rw (← h.stream, fits_packets x h)
            (omega (arith, h.enough, long, length_encoded (numbers (rows_of (stream_of edition h.written) h.ps))));
      }

-- ---- the lent bytes

pub refused_leaves : (edition : ℕ) (s out : List ℕ) (n o : ℕ) → asked_of edition s (length out) ≡ not_asked n o → out ≡ filled_by edition s out
unfolding asked_of filled_by
refused_leaves edition s out n o e = go (file_in edition s) e
  where
    go : (f : File) → as_asked edition (length s) (length out) f ≡ not_asked n o → out ≡ filled edition out f
    go (refused m p) e = refl
    go (file y ps) e = by (leb (length (bytes_for edition y ps)) (length out)) e
      where
        by : (t : Bool) → pick t (Ok (stream_of edition y)) (not_asked 15 (length s)) ≡ not_asked n o
            → out ≡ pick t (bytes_for edition y ps ++ drop (length (bytes_for edition y ps)) out) out
        by true e = let z : ◌≡◌ {A = ℕ} 0 1 = cc in absurd (omega arith)
        by false e = refl

-- the rows behind, and then the nine numbers in front, are the report
pub report_filled : (edition : ℕ) (s out : List ℕ) (x : StreamNumbers) {state : State} {rows after : List ℕ} → Fits edition s (length out) x
    → MeasureGives x s out state rows → after ≡ sets rows 0 (in_bytes (summary_of state)) → after ≡ filled_by edition s out
unfolding filled_by
report_filled edition s out x {state} {rows} {after} h m e =
    let y = stream_of edition h.written in
    let front = in_bytes (summary_of (state_of y h.ps)) in
    let behind = encoded (numbers (rows_of y h.ps)) in
    let whole : bytes_for edition h.written h.ps ≡ front ++ behind =
    encoded_append (map pos (summary_of (state_of y h.ps))) (numbers (rows_of y h.ps))
    ∙ ap (λ (l : List ℕ). in_bytes l ++ behind) (naturals (summary_of (state_of y h.ps))) in
    let long : length front ≡ 72 = length_stored (summary_of (state_of y h.ps)) ∙ rw (nine (state_of y h.ps)) in
    let both = length-append front behind in
    let size = ap length whole in
    let stored : after ≡ sets (sets out 72 behind) 0 front =
    e ∙ rw (m.state_is, m.rows_are, fits_packets edition s (length out) x h, ← h.stream) in
    stored
    ∙ ap (λ (k : ℕ). sets (sets out k behind) 0 front) (sym long)
    ∙ front_last front behind out (omega (arith, h.enough))
    ∙ sym (ap (filled edition out) h.is_file ∙ rw (le-leb _ (length out) h.enough, whole))
