-- One turn of the check of a whole capture, by what stands in front: a record is refused or counted, and anything else ends it. By what
-- was told.
use Rattle.std.specs.Prelude.{◌≡◌, ◌+◌, ◌-◌, ◌≤◌, ◌<◌, Option, Some, None, Result, Err, Ok}
use Rattle.laws.specs.Kit.{refl, sym, ap, subst, ◌∙◌, Bool, true, false, List, ℕ, arith}
use Rattle.std.proofs.lemmas.List.{take_rest}
use Rattle.laws.specs.Kit.{length, take, drop, drop-drop, length-drop, ltb, eq-eqb, ne_eqb, lt-leb, le-leb, ltb-false, ℕ_discrete}
use Rattle.laws.specs.Choose.{pick}
use Rattle.packet.specs.declared.Packet as packet
use Rattle.packet.specs.Step.{number_of, Countable}
use Rattle.packet.proofs.Refusals.{accepted}
use Rattle.packet.proofs.Turn.{tally_keeps}
use Rattle.endian.specs.declared.Order.TheVariants.{Big, Little}
use Rattle.capture.specs.declared.Setting.{Setting}
use Rattle.capture.specs.declared.Format.{Format}
use Rattle.refusal.specs.declared.Refusal.{Refusal}
use Rattle.refusal.specs.Refusal.{number}
use Rattle.refusal.specs.Told.{Numbered, number_in}
use Rattle.refusal.proofs.Telling.{number_some}
use Rattle.capture.specs.Step.{format_in, front_record, FrontRead}
use Rattle.capture.specs.declared.Told.{Told}
use Rattle.capture.specs.declared.Told.TheVariants.{Packet, Skipped, Late}
use Rattle.capture.specs.declared.Front.{Front}
use Rattle.capture.specs.declared.Front.TheVariants as front
use Rattle.capture.specs.declared.Seen.{Seen}
use Rattle.capture.specs.Paper.{header_bytes, record_bytes, Header, capture, unknown, header_of, magic_by, checked_of, checked_refused}
use Rattle.capture.specs.Paper.{Records, records_in, check_all, check_records}
use Rattle.capture.specs.Step.{front_of, tell_by, refusal_of, refused_at, admitted_of, seen_of, Room}
use Rattle.capture.proofs.Records.{Says, front_says, records_end, whole_size, whole_record}

-- ---- whether a record is accepted

module _ (y : Seen) {told : Told} where
  pub admit_packet : {p : packet.Packet} {r : Result Unit Refusal} → told ≡ Packet p → number_in r ≡ number_of y.tally.past p → r ≡ Ok tt
      → Ok tt ≡ admitted_of y told
  unfolding admitted_of refusal_of
  admit_packet {p} e f g = rw e (rw (eq-eqb (number_of y.tally.past p) 0 (sym f ∙ rw g refl)))

  pub admit_stops : {p : packet.Packet} {r : Result Unit Refusal} {x : Refusal} → told ≡ Packet p → number_in r ≡ number_of y.tally.past p
      → r ≡ Err x → Err (record { number = number x; place = y.tally.past.packets }) ≡ admitted_of y told
  unfolding admitted_of refusal_of refused_at
  admit_stops {p} {r} {x} e f g =
      let same : number x ≡ number_of y.tally.past p = sym (ap number_in g) ∙ f in
      rw e (rw (ne_eqb (number_of y.tally.past p) 0 (λ z. number_some x (same ∙ z)), same))

  pub admit_skipped : told ≡ Skipped → Ok tt ≡ admitted_of y told
  unfolding admitted_of refusal_of
  admit_skipped e = rw e refl

  pub admit_late : told ≡ Late → Err (record { number = 32; place = y.records }) ≡ admitted_of y told
  unfolding admitted_of refusal_of refused_at
  admit_late e = rw e refl

pub ruleset admitting = (admit_packet, admit_stops, admit_skipped, admit_late)

pub admitted_fine : (y : Seen) (told : Told) → Ok tt ≡ admitted_of y told → refusal_of y told ≡ 0
unfolding admitted_of
admitted_fine y told e = go (ℕ_discrete (refusal_of y told) 0)
  where
    go : Dec (refusal_of y told ≡ 0) → refusal_of y told ≡ 0
    go (yes z) = z
    go (no n) =
        let f : ◌≡◌ {A = Result Unit Numbered} (Ok tt) (Err (record { number = refusal_of y told; place = refused_at y told })) =
        rw (ne_eqb (refusal_of y told) 0 n) at e in
        let z : ◌≡◌ {A = ℕ} 0 1 = cc in
        absurd (omega arith)

-- a record that is refused
pub check_refused : (y : Seen) (told : Told) (r : Records) {x : Numbered} → Err x ≡ admitted_of y told
    → Err x ≡ check_records y (tell_by told r)
unfolding admitted_of refusal_of refused_at check_all
check_refused y (Packet p) r {x} e = go (ℕ_discrete (number_of y.tally.past p) 0)
  where
    go : Dec (number_of y.tally.past p ≡ 0) → Err x ≡ check_records y (tell_by (Packet p) r)
    go (yes z) =
        let f : ◌≡◌ {A = Result Unit Numbered} (Err x) (Ok tt) = rw (eq-eqb (number_of y.tally.past p) 0 z) at e in
        let z : ◌≡◌ {A = ℕ} 0 1 = cc in
        absurd (omega arith)
    go (no n) =
        let f : ◌≡◌ {A = Result Unit Numbered} (Err x) (Err (record { number = number_of y.tally.past p; place = y.tally.past.packets })) =
        rw (ne_eqb (number_of y.tally.past p) 0 n) at e in
        let same : x ≡ record { number = number_of y.tally.past p; place = y.tally.past.packets } = cc in
        rw (ne_eqb (number_of y.tally.past p) 0 n, same)
check_refused y Skipped r e = let z : ◌≡◌ {A = ℕ} 0 1 = cc in absurd (omega arith)
check_refused y Late r {x} e =
    let same : x ≡ record { number = 32; place = y.records } = cc in
    rw same

-- and one that is not
pub check_goes : (y : Seen) (told : Told) (r : Records) → refusal_of y told ≡ 0
    → check_records y (tell_by told r) ≡ check_records (seen_of y told) r
unfolding refusal_of seen_of check_all
check_goes y (Packet p) r e = rw (eq-eqb (number_of y.tally.past p) 0 e)
check_goes y Skipped r e = refl
check_goes y Late r e = absurd (omega arith)

-- where no record stands: at the end, or where the file is cut short
module _ (p : Setting) (y : Seen) (l : List ℕ) where
  pub check_stops : (f : Front) → ((told : Told) (size : ℕ) → f ≡ front.Record told size → ⊥) → front_of p l true ≡ Ok f
      → Ok y ≡ check_records y (records_in p l)
  unfolding check_all
  check_stops f k e = go f k (subst (Says p l true) e (front_says p l true))
    where
      go : (f : Front) → ((told : Told) (size : ℕ) → f ≡ front.Record told size → ⊥) → Says p l true (Ok f)
          → Ok y ≡ check_records y (records_in p l)
      go (front.Record told size) k s = absurd (k told size refl)
      go front.End k s = rw (records_end p l s.1)
      go front.More k s = let z : ◌≡◌ {A = ℕ} 0 1 = (let t = s.0 in cc) in absurd (omega arith)

  check_cut : {n : ℕ} → front_of p l true ≡ Err n → checked_refused n y.records ≡ check_records y (records_in p l)
  unfolding check_all
  check_cut e = let s = subst (Says p l true) e (front_says p l true) in rw s.1

-- ---- what is counted

pub told_countable : (y : Seen) (told : Told) (p : packet.Packet) → told ≡ Packet p → refusal_of y told ≡ 0 → Room y → Countable y.tally
unfolding refusal_of
told_countable y told p e z room =
    record { few = (accepted y.tally.past p.time p.marker (rw e at z)).few; no_more = room.closed }

pub record Kept (y : Seen) (told : Told) : Type 0 where
  pub records : (seen_of y told).records ≤ y.records + 1
  pub no_more : (seen_of y told).skipped ≤ (seen_of y told).records
  pub closed : (seen_of y told).tally.closed ≤ (seen_of y told).tally.past.packets

pub seen_keeps : (y : Seen) (told : Told) → y.skipped ≤ y.records → y.tally.closed ≤ y.tally.past.packets → Kept y told
unfolding seen_of
seen_keeps y (Packet p) h k = record { records = omega arith; no_more = omega arith; closed = tally_keeps y.tally p k }
seen_keeps y Skipped h k = record { records = omega arith; no_more = omega arith; closed = k }
seen_keeps y Late h k = record { records = omega arith; no_more = h; closed = k }

-- ---- the loop: going through what is left, from where it is, gives what going through the whole gives

pub record Loop (p : Setting) (s : List ℕ) (whole y : Seen) (at : ℕ) : Type 0 where
  pub same : check_records y (records_in p (drop at s)) ≡ check_records whole (records_in p (drop header_bytes s))
  pub within : at ≤ length s
  -- each record takes bytes, so that none is too many to be counted
  pub counted : y.records + header_bytes ≤ at
  pub no_more : y.skipped ≤ y.records
  pub closed : y.tally.closed ≤ y.tally.past.packets

module _ {p : Setting} {s : List ℕ} {whole y : Seen} {at : ℕ} (i : Loop p s whole y at) where
  pub loop_room : length s < 18446744073709551616 → Room y
  loop_room h = record { few = omega (arith, i.within, i.counted); no_more = i.no_more; closed = i.closed }

  -- by what stands in front of the rest of the file
  in_front : {f : FrontRead} → f ≡ front_of p (take (length s - at) (drop at s)) true → front_of p (drop at s) true ≡ f
  in_front e = sym (e ∙ rw (take_rest s at))

  pub loop_cut : {n : ℕ} → Err n ≡ front_of p (take (length s - at) (drop at s)) true
      → checked_refused n y.records ≡ check_records whole (records_in p (drop header_bytes s))
  loop_cut e = check_cut p y (drop at s) (in_front e) ∙ i.same

  module _ {f : Front} (e : Ok f ≡ front_of p (take (length s - at) (drop at s)) true) where
    pub loop_stops : ((told : Told) (size : ℕ) → f ≡ front.Record told size → ⊥)
        → Ok y ≡ check_records whole (records_in p (drop header_bytes s))
    loop_stops k = check_stops p y (drop at s) f k (in_front e) ∙ i.same

    module _ {told : Told} {size : ℕ} (is_record : f ≡ front.Record told size) where
      here : front_of p (drop at s) true ≡ front_record told size
      here = in_front e ∙ rw is_record

      pub size_within : (record_bytes ≤ size) × (at + size ≤ length s)
      size_within = let w = whole_size p (drop at s) here in (w.0, omega (arith, w.1, length-drop at s, i.within))

      pub loop_refused : {r : Numbered} → Err r ≡ admitted_of y told → Err r ≡ check_records whole (records_in p (drop header_bytes s))
      loop_refused {r} n =
          check_refused y told (records_in p (drop size (drop at s))) n
          ∙ ap (check_records y) (sym (whole_record p (drop at s) here))
          ∙ i.same

      counts_on : refusal_of y told ≡ 0 → Loop p s whole (seen_of y told) (at + size)
      counts_on z =
          let kept = seen_keeps y told i.no_more i.closed in
          record {
            same =
                rw (← drop-drop size at s)
                (sym (check_goes y told (records_in p (drop size (drop at s))) z)
                ∙ ap (check_records y) (sym (whole_record p (drop at s) here)) ∙ i.same);
            within = size_within.1;
            counted = omega (arith, kept.records, size_within.0, i.counted);
            no_more = kept.no_more;
            closed = kept.closed;
          }

      pub loop_next : {z : Seen} → Ok tt ≡ admitted_of y told → z ≡ seen_of y told → Loop p s whole z (at + size)
      loop_next a q = rw q (counts_on (admitted_fine y told a))

-- the loop begins behind the header
pub loop_begins : (p : Setting) (s : List ℕ) (y : Seen) → header_bytes ≤ length s → y.records ≡ 0 → Room y → Loop p s y y header_bytes
loop_begins p s y h z room =
    record { same = refl; within = h; counted = omega (arith, z); no_more = room.no_more; closed = room.closed }

pub ruleset loop_laws = (loop_begins, loop_room, loop_cut, loop_stops, size_within, loop_refused, loop_next, admitted_fine)

-- ---- the whole capture, by its header

-- what was read is what the header says
module _ (s : List ℕ) {r : Option Format} (e : r ≡ format_in (header_of s)) where
  pub header_known : {f : Format} → r ≡ Some f → header_of s ≡ capture f
  header_known {f} g = go (header_of s) (sym g ∙ e)
    where
      go : (header : Header) → Some f ≡ format_in header → header ≡ capture f
      go (capture k) q = let same : f ≡ k = cc in rw same
      go unknown q = let z : ◌≡◌ {A = ℕ} 0 1 = cc in absurd (omega arith)

  pub header_unknown : r ≡ None → header_of s ≡ unknown
  header_unknown g = go (header_of s) (sym g ∙ e)
    where
      go : (header : Header) → None ≡ format_in header → header ≡ unknown
      go (capture f) q = let z : ◌≡◌ {A = ℕ} 0 1 = cc in absurd (omega arith)
      go unknown q = refl

module _ (port offset : ℕ) (y : Seen) (s : List ℕ) where
  pub check_offset : 99 < offset → checked_refused 33 0 ≡ checked_of port offset y s
  unfolding checked_of
  check_offset h = rw (lt-leb offset 99 h)

  module _ (h : offset ≤ 99) where
    pub check_unknown : header_of s ≡ unknown → checked_refused 30 0 ≡ checked_of port offset y s
    unfolding checked_of
    check_unknown e = rw (le-leb offset 99 h, e)

    pub check_capture : {f : Format} → header_of s ≡ capture f
        → check_records y (records_in (record { format = f; port = port; offset = offset }) (drop header_bytes s)) ≡ checked_of port offset y s
    unfolding checked_of
    check_capture e = rw (le-leb offset 99 h, e)

-- a capture has its header
pub capture_long : (s : List ℕ) {r : Option Format} {f : Format} → r ≡ format_in (header_of s) → r ≡ Some f → header_bytes ≤ length s
unfolding header_of
capture_long s {r} {f} e g = go (ltb (length s) header_bytes) refl (sym g ∙ e)
  where
    go : (t : Bool) → ltb (length s) header_bytes ≡ t → Some f ≡ format_in (pick t unknown (magic_by Big s (magic_by Little s unknown)))
        → header_bytes ≤ length s
    go true q z = let y : ◌≡◌ {A = ℕ} 0 1 = cc in absurd (omega arith)
    go false q z = ltb-false (length s) header_bytes q

pub ruleset opening = (header_known, header_unknown, capture_long)
