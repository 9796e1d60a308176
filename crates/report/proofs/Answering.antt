-- What the C calls do with a file and lent bytes: by cases on what the file reads as.
use Rattle.std.specs.Prelude.{◌≡◌, ◌++◌, ◌*◌, ◌≤◌, Ok}
use Rattle.laws.specs.Kit.{refl, sym, ap, ◌∙◌, Bool, true, false, List, map, append-nil, ℕ, arith, leb}
use Rattle.laws.specs.Kit.{ℤ, pos, length, take, drop, sets, drop-length, length-append, le-leb, eqb}
use Rattle.laws.specs.Choose.{pick}
use Rattle.laws.proofs.Lay.{sets_front}
use Rattle.packet.specs.declared.Packet.{Packet}
use Rattle.timing.specs.declared.State.{State}
use Rattle.frame.specs.Step.{row_width}
use Rattle.timing.specs.Step.{stream_with, rules_of, fresh_of, numbers}
use Rattle.timing.specs.Answers.{summary_with, summary_of}
use Rattle.timing.specs.Feed.{feed_all}
use Rattle.timing.proofs.Editions.{states_alike, rows_alike}
use Rattle.timing.proofs.InRange.{sound_fresh, of_sound}
use Rattle.timing.proofs.Scanning.{numbers_length, scan_runs}
use Rattle.record.specs.Paper.{Heading, File, file, refused, resolved, Ending, done, stopped, Packets, unread, read, as_file, heading}
use Rattle.record.specs.Paper.{first_class, class_in, is_parameters, beside_edition, file_in}
use Rattle.record.specs.declared.FileNumbers.{FileNumbers}
use Rattle.record.specs.Walk.{numbers_of, as_checked, checked_of, checked_number, checked_offset}
use Rattle.record.proofs.Editions.{accepted_edition}
use Rattle.report.proofs.Asking.{holds_in}
use Rattle.report.specs.Paper.{stream_of, state_of, rows_of, encoded, bytes_for, answer, answered, answer_of}
use Rattle.report.specs.Paper.{Answer, report_of, filled, filled_by}
use Rattle.record.specs.Layout.{head_of}
use Rattle.record.proofs.Writing.{length_head}
use Rattle.record.proofs.Versions.{Held, Untold, read_alike, first_held, second_held, first_as_second}
use Rattle.limits.specs.declared.Parameters.{Parameters}
use Rattle.limits.specs.Paper.{edition_refusal, profile_of, given}
use Rattle.report.specs.Step.{stream_in}
use Rattle.limits.proofs.Editions.{in_known}
use Rattle.limits.specs.Steps.{ParametersHeld}

module _ (edition : ℕ) (s : List ℕ) where
  -- a refusal is the check's own, for each number that it gives
  pub refused_as_checked : (room : ℕ) → (checked_number (checked_of edition s) ≡ 0 → ⊥)
      → answer_of edition s room ≡ answer (checked_number (checked_of edition s)) (checked_offset (checked_of edition s))
  unfolding answer_of checked_of
  refused_as_checked room n = go (file_in edition s) n
    where
      go : (f : File) → (checked_number (as_checked f) ≡ 0 → ⊥)
          → answered edition (length s) room f ≡ answer (checked_number (as_checked f)) (checked_offset (as_checked f))
      go (refused number offset) n = refl
      go (file w ps) n = absurd (n refl)

  -- "refused, it writes nothing": whatever number but 0 is returned
  pub refused_writes_nothing : (out : List ℕ) → ((answer_of edition s (length out)).number ≡ 0 → ⊥) → filled_by edition s out ≡ out
  unfolding answer_of filled_by
  refused_writes_nothing out n = go (file_in edition s) n
    where
      go : (f : File) → ((answered edition (length s) (length out) f).number ≡ 0 → ⊥) → filled edition out f ≡ out
      go (refused number offset) n = refl
      go (file w ps) n = by (leb (length (bytes_for edition w ps)) (length out)) n
        where
          by : (t : Bool) → ((pick t (answer 0 0) (answer 15 (length s))).number ≡ 0 → ⊥)
              → pick t (bytes_for edition w ps ++ drop (length (bytes_for edition w ps)) out) out ≡ out
          by true n = absurd (n refl)
          by false n = refl

-- the numbers are those of the measurement: one call of `feed` with the file's packets, from the fresh state and with just enough row
-- numbers lent, is accepted, and the bytes are the nine numbers of its state and the row numbers that it wrote
pub as_fed : (edition : ℕ) (s : List ℕ) (w : Heading) (ps : List Packet) → file_in edition s ≡ file w ps → (rows : List ℤ)
    → length rows ≡ length (numbers (rows_of (stream_of edition w) ps))
    → (state : State) × (written : List ℤ)
    × (feed_all (fresh_of (stream_of edition w)) rows ps ≡ record { answer = Ok state; rows = written })
    × (bytes_for edition w ps ≡ encoded (map pos (summary_of state) ++ written))
unfolding feed_all
as_fed edition s w ps e rows same =
    let x = stream_of edition w in
    let all = numbers (rows_of x ps) in
    let holds = holds_in edition s w ps e in
    let known = (accepted_edition edition s w ps e).0 in
    let counted = (scan_runs ps (rules_of x) (fresh_of x) 0 holds.closed holds.scan_fine).1 in
    let room : holds.closed * row_width ≤ length rows = omega (arith, counted, numbers_length (rows_of x ps)) in
    let in_order : sets rows 0 all ≡ all =
    sets_front all rows (omega arith) ∙ ap (λ (l : List ℤ). all ++ l) (ap (λ (n : ℕ). drop n rows) (sym same) ∙ drop-length rows)
    ∙ append-nil all in (
      state_of x ps,
      all,
      rw (
        of_sound (fresh_of x) (sound_fresh x (in_known (profile_of w.kind) (resolved w) edition known ∙ holds.set_up)),
        holds.scan_fine,
        le-leb (holds.closed * row_width) (length rows) room,
        in_order,
      ),
      refl,
    )

-- two files that set up alike are answered alike, whatever bytes follow their heads
module _ (edition : ℕ) (h k : Heading) (e : numbers_of h ≡ numbers_of k) where
  file_untold : {A : Type 0} (g : File → A) → ((ps : List Packet) → g (file h ps) ≡ g (file k ps)) → Untold h k e (λ r. g (as_file (beside_edition edition r)))
  file_untold g same r = go r.ending (eqb (edition_refusal edition) 0)
    where
      ended : Ending → Packets
      ended d = record { accepted = r.accepted; ending = d }

      go : (d : Ending) (t : Bool) → g (as_file (pick t (read h (ended d)) (unread (edition_refusal edition) 1)))
          ≡ g (as_file (pick t (read k (ended d)) (unread (edition_refusal edition) 1)))
      go done true = same r.accepted
      go (stopped n o) true = refl
      go d false = refl

  bytes_alike : (ps : List Packet) → bytes_for edition h ps ≡ bytes_for edition k ps
  bytes_alike ps = ap (λ (x : FileNumbers). encoded (report_of (stream_in edition x) ps)) e

  module _ (l : List ℕ) (a : Held h) (b : Held k) where
    -- F11: the same number and offset
    pub answers_alike : (room : ℕ) → answer_of edition (head_of h ++ l) room ≡ answer_of edition (head_of k ++ l) room
    unfolding answer_of
    answers_alike room =
        let long : length (head_of h ++ l) ≡ length (head_of k ++ l) =
        length-append (head_of h) l ∙ rw (length_head h, ← length_head k) (sym (length-append (head_of k) l)) in
        let by : File → Answer = answered edition (length (head_of h ++ l)) room in
        read_alike h k e (λ r. by (as_file (beside_edition edition r))) (file_untold by (λ ps. rw (bytes_alike ps))) l a b
        ∙ ap (λ (n : ℕ). answered edition n room (file_in edition (head_of k ++ l))) long

    -- F11: and the same bytes
    pub filled_alike : (out : List ℕ) → filled_by edition (head_of h ++ l) out ≡ filled_by edition (head_of k ++ l) out
    unfolding filled_by
    filled_alike out =
        read_alike h k e (λ r. filled edition out (as_file (beside_edition edition r))) (file_untold (filled edition out) (λ ps. rw (bytes_alike ps))) l a b

-- F11: a file of version 1, and that of version 2 whose class 0 is written as 3
pub first_measured : (edition : ℕ) (w : Heading) (ps : List Packet) → w.version ≡ 1 → let p = w.parameters in
    let wide = given p.rate p.schedule (first_class p.class) p.height p.n p.maxudp p.tro in
    bytes_for edition w ps ≡ encoded (report_of (stream_with (profile_of w.kind) edition wide) ps)
unfolding class_in
first_measured edition w ps e = rw e

pub first_answered : (edition kind : ℕ) (p : Parameters) (l out : List ℕ) → is_parameters kind ≡ true → ParametersHeld p
    → let s = head_of (heading 1 kind p) ++ l in
    let t = head_of (heading 2 kind (resolved (heading 1 kind p))) ++ l in
    (answer_of edition s (length out) ≡ answer_of edition t (length out)) × (filled_by edition s out ≡ filled_by edition t out)
first_answered edition kind p l out holds held =
    let q = resolved (heading 1 kind p) in
    let same = first_as_second kind p in
    let a = first_held kind p holds held in
    let b = second_held kind p holds held in (
      answers_alike edition (heading 1 kind p) (heading 2 kind q) same l a b (length out),
      filled_alike edition (heading 1 kind p) (heading 2 kind q) same l a b out,
    )

-- ---- two editions

-- V12: of their reports the first six numbers, and all from the tenth on
pub reports_alike : (e f : ℕ) (w : Heading) (ps : List Packet)
    → (take 6 (report_of (stream_of e w) ps) ≡ take 6 (report_of (stream_of f w) ps))
    × (drop 9 (report_of (stream_of e w) ps) ≡ drop 9 (report_of (stream_of f w) ps))
unfolding summary_with
reports_alike e f w ps =
    let profile = profile_of w.kind in
    let p = resolved w in (
      ap (λ (s : State). take 6 (map pos (summary_of s))) (states_alike profile p e f ps),
      ap numbers (rows_alike profile p e f ps),
    )
