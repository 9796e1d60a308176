-- The writer's answers, one law for each way out, and what it leaves in the lent bytes: the file, and beyond it what was there.
use Rattle.std.specs.Prelude.{◌≡◌, ◌∷◌, ◌++◌, ◌*◌, ◌≤◌, ◌<◌, Err, Ok}
use Rattle.laws.specs.Kit.{refl, sym, ap, ◌∙◌, true, false, List, [], ℕ, suc, arith, zero-add, length, take}
use Rattle.laws.specs.Kit.{drop, get_or, length-append, sets, sets-eq, take_at, leb, eqb, eq-eqb, ne_eqb, le-leb, lt-leb, leb-true}
use Rattle.laws.specs.Kit.{eqb-true}
use Rattle.laws.specs.Choose.{pick, or_else}
use Rattle.laws.proofs.Choose.{pick_either, neither}
use Rattle.packet.specs.declared.Past.{Past}
use Rattle.refusal.specs.Told.{Numbered}
use Rattle.packet.specs.Paper.{Scanned}
use Rattle.packet.specs.declared.Packet.{Packet}
use Rattle.packet.specs.Paper.{packets, OneLength}
use Rattle.packet.specs.Step.{nothing, scanned_of}
use Rattle.packet.proofs.Lent.{packets_length}
use Rattle.packet.proofs.Turn.{scanned_fine}
use Rattle.packet.proofs.Declared.{scan_declared, fine_few}
use Rattle.endian.specs.Fields.{field_bytes}
use Rattle.laws.proofs.Lay.{sets_join}
use Rattle.endian.proofs.Width.{length_bytes}
use Rattle.limits.specs.declared.Parameters.{Parameters}
use Rattle.limits.specs.declared.Profile.{Profile}
use Rattle.limits.specs.Paper.{set_up_refusal, profile_of, profile_refusal}
use Rattle.limits.proofs.Profiles.{profile_fine, profile_known, profile_22}
use Rattle.record.specs.Write.{Written, written_refused}
use Rattle.record.specs.Layout.{packet_record, head_of, records_of, bytes_in, PacketsHeld}
use Rattle.record.specs.Write.{file_length, version_refusal, heading_refusal, scanning, written_of, WriteGives}
use Rattle.record.proofs.Stores.{length_packet}
use Rattle.record.specs.Paper.{packet_bytes, head_bytes, version_known, Heading, heading, resolved, is_parameters, numbers_refusal}

pub length_head : (s : Heading) → length (head_of s) ≡ head_bytes
unfolding field_bytes
length_head s = simp (length-append, length_bytes)

pub length_records : (ps : List Packet) → length (records_of ps) ≡ packet_bytes * length ps
unfolding records_of
length_records [] = refl
length_records (p ∷ ps) =
    rw (length-append (packet_record p) (records_of ps), length_packet p, length_records ps) (omega arith)

-- F1: 19 bytes, and 16 for each packet
pub length_file : (s : Heading) (ps : List Packet) → length (bytes_in s ps) ≡ file_length (length ps)
unfolding bytes_in
length_file s ps = rw (length-append (head_of s) (records_of ps), length_head s, length_records ps)

one_run : (s : Heading) (ps : List Packet) (d : List ℕ) → sets (sets d 0 (head_of s)) head_bytes (records_of ps) ≡ sets d 0 (bytes_in s ps)
unfolding bytes_in
one_run s ps d = sym (sets_join (head_of s) (records_of ps) d 0 ∙ rw (length_head s))

-- the head stored, and the records after it, are the file stored: it stands in front of what was there
pub file_stored : (s : Heading) (ps : List Packet) (d : List ℕ) → file_length (length ps) ≤ length d
    → sets (sets d 0 (head_of s)) head_bytes (records_of ps) ≡ bytes_in s ps ++ drop (file_length (length ps)) d
file_stored s ps d h =
    one_run s ps d ∙ sets-eq (bytes_in s ps) d 0 (omega (arith, length_file s ps)) ∙ rw (zero-add (length (bytes_in s ps)), length_file s ps)

-- the scan from the start
pub scan_of : (ts ss ms : List ℕ) {past : Past} {a : Scanned} → past ≡ nothing → a ≡ scanned_of past false ts ss ms
    → scanned_of nothing false ts ss ms ≡ a
scan_of ts ss ms e f = sym (f ∙ ap (λ p. scanned_of p false ts ss ms) e)

-- the version first of all, then the kind, then what set-up refuses
module _ (version kind : ℕ) (s : Parameters) where
  pub heading_20 : version_known version ≡ false → 20 ≡ heading_refusal (heading version kind s)
  unfolding heading_refusal version_refusal
  heading_20 e = sym (rw e)

  -- F14: 22 where the version is known
  pub heading_22 : version_known version ≡ true → is_parameters kind ≡ false → 22 ≡ heading_refusal (heading version kind s)
  unfolding heading_refusal version_refusal is_parameters
  heading_22 e k = sym (rw (e, (profile_22 kind).1 k))

  pub heading_set_up : version_known version ≡ true → is_parameters kind ≡ true
      → numbers_refusal (heading version kind s) ≡ heading_refusal (heading version kind s)
  unfolding heading_refusal version_refusal is_parameters
  heading_set_up e k = sym (rw (e, profile_known kind k))

  -- the three numbers as the code finds them
  pub heading_all : {a b c : ℕ} {numbers : Parameters} {profile : Profile} → a ≡ version_refusal version → b ≡ profile_refusal kind
      → numbers ≡ resolved (heading version kind s) → profile ≡ profile_of kind → c ≡ set_up_refusal profile numbers
      → or_else a (or_else b c) ≡ heading_refusal (heading version kind s)
  unfolding heading_refusal
  heading_all e k q o f = rw (e, k, f, q, o)

-- a heading that is not refused
pub record Fine (s : Heading) : Type 0 where
  pub known : version_known s.version ≡ true
  pub kind : is_parameters s.kind ≡ true
  pub set_up : numbers_refusal s ≡ 0

version_fine : (version : ℕ) → version_refusal version ≡ 0 → version_known version ≡ true
unfolding version_refusal
version_fine version =
    pick_either (λ n. n ≡ 0 → version_known version ≡ true) (version_known version) (λ v e. v) (λ v e. absurd (omega arith))

pub heading_fine : (s : Heading) → heading_refusal s ≡ 0 → Fine s
unfolding heading_refusal is_parameters
heading_fine s e =
    let first = neither _ _ e in
    let rest = neither _ _ first.1 in
    record { known = version_fine s.version first.0; kind = profile_fine s.kind rest.0; set_up = rest.1 }

-- the answer, for so many lent bytes
module _ (s : Heading) (ts ss ms : List ℕ) (room : ℕ) where
  pub answers_set_up : (n : ℕ) → heading_refusal s ≡ n → 0 < n → written_refused n 0 ≡ written_of s ts ss ms room
  unfolding written_of
  answers_set_up n e p = rw (e, ne_eqb n 0 (λ z. omega arith))

  module _ (fine : heading_refusal s ≡ 0) where
    scanned : {a : Scanned} → scanned_of nothing false ts ss ms ≡ a
        → written_of s ts ss ms room ≡ scanning a (file_length (length ts)) room
    unfolding written_of
    scanned e = rw (eq-eqb (heading_refusal s) 0 fine, e)

    pub answers_scan : {r : Numbered} {w : Written} → scanned_of nothing false ts ss ms ≡ Err r → w ≡ written_refused r.number r.place
        → w ≡ written_of s ts ss ms room
    answers_scan e f = f ∙ sym (scanned e)

    module _ {closed : ℕ} (e : scanned_of nothing false ts ss ms ≡ Ok closed) where
      pub answers_24 : room < file_length (length ts) → written_refused 24 0 ≡ written_of s ts ss ms room
      answers_24 h = sym (scanned e ∙ rw (lt-leb (file_length (length ts)) room h))

      pub answers_done : file_length (length ts) ≤ room → Ok (file_length (length ts)) ≡ written_of s ts ss ms room
      answers_done h = sym (scanned e ∙ rw (le-leb (file_length (length ts)) room h))

-- a scan that is fine: slices of one length, and by 14 at most 1,000,000,000 packets
module _ (ts ss ms : List ℕ) {closed : ℕ} (e : scanned_of nothing false ts ss ms ≡ Ok closed) where
  pub same_slices : OneLength ts ss ms
  same_slices = (scanned_fine nothing false ts ss ms closed e).0

  as_many : length (packets ts ss ms) ≡ length ts
  as_many = packets_length ts ss ms same_slices

  pub few_packets : length ts ≤ 1000000000
  few_packets =
      let l = packets ts ss ms in
      let all = sym (scan_declared l) ∙ (scanned_fine nothing false ts ss ms closed e).1 in
      omega (arith, as_many, fine_few l closed all)

-- what an answer of done says

done_refused : (n m o : ℕ) → Ok n ≡ written_refused m o → ⊥
done_refused n m o e = let z : ◌≡◌ {A = ℕ} 0 1 = cc in omega arith

fitting_done : (needed room n : ℕ) → Ok n ≡ pick (leb needed room) (Ok needed) (written_refused 24 0) → (needed ≤ room) × (n ≡ needed)
fitting_done needed room n =
    pick_either (λ w. Ok n ≡ w → (needed ≤ room) × (n ≡ needed)) (leb needed room)
    (λ t e. (leb-true needed room t, cc)) (λ t e. absurd (done_refused n 24 0 e))

pub record WasWritten (s : Heading) (ts ss ms : List ℕ) (room n : ℕ) : Type 0 where
  pub set_up : heading_refusal s ≡ 0
  pub closed : ℕ
  pub scan_fine : scanned_of nothing false ts ss ms ≡ Ok closed
  pub enough : file_length (length ts) ≤ room
  pub size : n ≡ file_length (length ts)

pub was_written : (s : Heading) (ts ss ms : List ℕ) (room n : ℕ) → Ok n ≡ written_of s ts ss ms room → WasWritten s ts ss ms room n
unfolding written_of
was_written s ts ss ms room n =
    pick_either (λ (w : Written). Ok n ≡ w → WasWritten s ts ss ms room n) (eqb (heading_refusal s) 0)
    (λ t e. go (scanned_of nothing false ts ss ms) refl (eqb-true (heading_refusal s) 0 t) e) (λ t e. absurd (done_refused n _ 0 e))
  where
    go : (a : Scanned) → scanned_of nothing false ts ss ms ≡ a → heading_refusal s ≡ 0
        → Ok n ≡ scanning a (file_length (length ts)) room → WasWritten s ts ss ms room n
    go (Ok k) f u e =
        let d = fitting_done (file_length (length ts)) room n e in
        record { set_up = u; closed = k; scan_fine = f; enough = d.0; size = d.1 }
    go (Err r) f u e = absurd (done_refused n _ _ e)

-- refused, the lent bytes stay; else they are the file and what was beyond it
pub leaves_all : (s : Heading) (ts ss ms out : List ℕ) {w : Written} {n o : ℕ} → w ≡ written_of s ts ss ms (length out) → w ≡ written_refused n o
    → WriteGives s ts ss ms out w out
leaves_all s ts ss ms out e f = record { answered = e; left = rw f refl }

pub writes_file : (s : Heading) (ts ss ms out : List ℕ) {after : List ℕ} {n : ℕ} → WasWritten s ts ss ms (length out) n
    → Ok n ≡ written_of s ts ss ms (length out)
    → after ≡ sets (sets out 0 (head_of s)) head_bytes (records_of (packets ts ss ms)) → WriteGives s ts ss ms out (Ok n) after
writes_file s ts ss ms out w e g =
    let many = as_many ts ss ms w.scan_fine in
    record {
      answered = e;
      left = g ∙ rw w.size (rw many at (file_stored s (packets ts ss ms) out (rw many w.enough)));
    }

-- then the file stands in front
pub writes_done : (s : Heading) (ts ss ms out after : List ℕ) (n : ℕ) → WriteGives s ts ss ms out (Ok n) after
    → take n after ≡ bytes_in s (packets ts ss ms)
writes_done s ts ss ms out after n w =
    let was = was_written s ts ss ms (length out) n w.answered in
    let same = (scanned_fine nothing false ts ss ms was.closed was.scan_fine).0 in
    let file = bytes_in s (packets ts ss ms) in
    let long : length file ≡ n =
    length_file s (packets ts ss ms) ∙ ap file_length (packets_length ts ss ms same) ∙ sym was.size in
    ap (take n) w.left ∙ take_at file (drop n out) n long

-- what lent slices hold, their packets hold
pub packets_held : (ts ss ms : List ℕ) → ((i : ℕ) → get_or ts i 0 < 18446744073709551616) → ((i : ℕ) → get_or ss i 0 < 4294967296)
    → PacketsHeld (packets ts ss ms)
unfolding packets
packets_held [] ss ms ht hs = tt
packets_held (t ∷ ts) [] ms ht hs = tt
packets_held (t ∷ ts) (s ∷ ss) [] ht hs = tt
packets_held (t ∷ ts) (s ∷ ss) (m ∷ ms) ht hs = (ht 0, hs 0, packets_held ts ss ms (λ i. ht (suc i)) (λ i. hs (suc i)))
