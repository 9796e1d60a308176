-- Writing what was read: each accepted record is the bytes of its own fields, and the rest follows. By how many bytes there are.
use Rattle.std.specs.Prelude.{◌≡◌, ◌||◌, ◌∷◌, ◌++◌, ◌+◌, ◌≤◌, Ok}
use Rattle.laws.specs.Kit.{refl, sym, ap, subst, ◌∙◌, Bool, true, false, List, [], ℕ, zero, suc, arith}
use Rattle.laws.specs.Kit.{ℕ_discrete, length, take, drop, length-drop, drop-drop}
use Rattle.laws.proofs.Choose.{neither}
use Rattle.endian.specs.Number.{Bytes}
use Rattle.endian.proofs.Width.{bytes_drop}
use Rattle.packet.specs.declared.Past.{Past}
use Rattle.packet.specs.declared.Packet.{Packet}
use Rattle.packet.specs.Paper.{marked, packets, OneLength}
use Rattle.packet.specs.Step.{nothing, number_of, next_of, closes, scan_of}
use Rattle.packet.proofs.Lent.{packets_length}
use Rattle.packet.proofs.Turn.{scan_ends, scan_goes, lengths_same}
use Rattle.record.specs.Write.{Written}
use Rattle.record.specs.Write.{file_length, heading_refusal, WriteGives}
use Rattle.record.specs.Paper.{parameters_bytes, packet_bytes, head_bytes, numbers_refusal}
use Rattle.record.specs.Paper.{version_of, version_fits, kind_of, parameters_at, packet_at, Heading, format_refusal, parameters_refusal}
use Rattle.record.specs.Paper.{packet_refusal}
use Rattle.record.specs.Paper.{Ending, done, stopped, Packets, packets_in, file, refused, ended_file, as_file, file_of}
use Rattle.record.specs.Layout.{head_of, records_of, bytes_in}
use Rattle.record.proofs.Writing.{length_file, heading_set_up, answers_done, writes_done}
use Rattle.record.proofs.Reading.{packet_here, parameters_here, packets_end, packets_stop, packets_go}
use Rattle.record.proofs.Reading.{heading_of, reading_20, reading_stop, reading_go}
use Rattle.record.proofs.Fields.{packet_again, parameters_again}

stopped_done : (n o : ℕ) → stopped n o ≡ done → ⊥
stopped_done n o e = let z : ◌≡◌ {A = ℕ} 0 1 = cc in omega arith

pub refused_file : (n o : ℕ) (s : Heading) (ps : List Packet) → refused n o ≡ file s ps → ⊥
refused_file n o s ps e = let z : ◌≡◌ {A = ℕ} 0 1 = cc in omega arith

empty : (l : List ℕ) → length l ≡ 0 → l ≡ []
empty [] e = refl
empty (b ∷ l) e = absurd (omega arith)

-- packets that were all read are the bytes that they were read from
pub packets_again : (k : ℕ) (past : Past) (at : ℕ) (l : List ℕ) → length l ≤ k → Bytes l
    → (packets_in past at l).ending ≡ done → records_of (packets_in past at l).accepted ≡ l
unfolding records_of
packets_again zero past at l h b e = rw (packets_end past at l (omega arith)) (sym (empty l (omega arith)))
packets_again (suc k) past at l h b e =
    go (ℕ_discrete (length l) 0) (ℕ_discrete (packet_refusal past l) 0)
    (packets_again k (next_of past (packet_at l).time) (at + packet_bytes) (drop packet_bytes l))
  where
    next : Packets
    next = packets_in (next_of past (packet_at l).time) (at + packet_bytes) (drop packet_bytes l)

    go : Dec (length l ≡ 0) → Dec (packet_refusal past l ≡ 0)
        → (length (drop packet_bytes l) ≤ k → Bytes (drop packet_bytes l) → next.ending ≡ done → records_of next.accepted ≡ drop packet_bytes l)
        → records_of (packets_in past at l).accepted ≡ l
    go (yes z) d rest = rw (packets_end past at l z) (sym (empty l z))
    go (no n) (no r) rest =
        absurd (stopped_done _ _ (sym (ap (λ p. p.ending) (packets_stop past at l _ (omega arith) refl (omega arith))) ∙ e))
    go (no n) (yes r) rest =
        let here = packet_here l (neither _ _ r).0 in
        let goes = packets_go past at l r in
        rw (goes, rest (rw length-drop (omega arith)) (bytes_drop packet_bytes l b) (sym (ap (λ p. p.ending) goes) ∙ e))
        (packet_again l b here.sixteen here.body_14 here.kind_is_2)

-- and the scan refuses none of them
pub packets_scan : (k : ℕ) (past : Past) (begun : Bool) (closed at : ℕ) (l : List ℕ) → length l ≤ k
    → (packets_in past at l).ending ≡ done → (n : ℕ) × (scan_of past begun closed (packets_in past at l).accepted ≡ Ok n)
packets_scan zero past begun closed at l h e =
    (closed, scan_ends past begun closed (ap (λ p. p.accepted) (packets_end past at l (omega arith))))
packets_scan (suc k) past begun closed at l h e =
    go (ℕ_discrete (length l) 0) (ℕ_discrete (packet_refusal past l) 0)
    (packets_scan k (next_of past p_time) (begun || marked (packet_at l)) (closed + closes begun (packet_at l))
    (at + packet_bytes) (drop packet_bytes l))
  where
    p_time : ℕ
    p_time = (packet_at l).time

    next : Packets
    next = packets_in (next_of past p_time) (at + packet_bytes) (drop packet_bytes l)

    go : Dec (length l ≡ 0) → Dec (packet_refusal past l ≡ 0)
        → (length (drop packet_bytes l) ≤ k → next.ending ≡ done
        → (n : ℕ)
        × (scan_of (next_of past p_time) (begun || marked (packet_at l)) (closed + closes begun (packet_at l)) next.accepted ≡ Ok n))
        → (n : ℕ) × (scan_of past begun closed (packets_in past at l).accepted ≡ Ok n)
    go (yes z) d rest = (closed, scan_ends past begun closed (ap (λ p. p.accepted) (packets_end past at l z)))
    go (no n) (no r) rest =
        absurd (stopped_done _ _ (sym (ap (λ p. p.ending) (packets_stop past at l _ (omega arith) refl (omega arith))) ∙ e))
    go (no n) (yes r) rest =
        let goes = packets_go past at l r in
        let more = rest (rw length-drop (omega arith)) (sym (ap (λ p. p.ending) goes) ∙ e) in
        let fine = (neither (format_refusal false l) (number_of past (packet_at l)) r).1 in
        (more.0, scan_goes past begun closed (ap (λ p. p.accepted) goes) fine ∙ more.1)

version_again : (s : List ℕ) → head_bytes ≤ length s → version_of s ∷ drop 1 s ≡ s
version_again [] h = absurd (omega arith)
version_again (b ∷ s) h = refl

-- what an accepted file holds: its heading and its packets, all accepted
pub record FileHolds (s : List ℕ) (h : Heading) (ps : List Packet) : Type 0 where
  pub version_is_known : version_fits s ≡ true
  pub parameters_fine : parameters_refusal (version_of s) (drop 1 s) ≡ 0
  pub heading_is : heading_of s ≡ h
  pub set_up : numbers_refusal h ≡ 0
  pub writable : heading_refusal h ≡ 0
  pub all_read : packets_in nothing head_bytes (drop head_bytes s) ≡ record { accepted = ps; ending = done }
  pub closed : ℕ
  pub scan_fine : scan_of nothing false 0 ps ≡ Ok closed

pub file_holds : (s : List ℕ) (h : Heading) (ps : List Packet) → file_of s ≡ file h ps → FileHolds s h ps
file_holds s h ps e = go (version_fits s) refl (ℕ_discrete (parameters_refusal (version_of s) (drop 1 s)) 0)
  where
    r : Packets
    r = packets_in nothing head_bytes (drop head_bytes s)

    ends : (d : Ending) → r.ending ≡ d → ended_file (heading_of s) r.accepted d ≡ file h ps
        → version_fits s ≡ true → parameters_refusal (version_of s) (drop 1 s) ≡ 0 → FileHolds s h ps
    ends (stopped n o) q f v z = absurd (refused_file n o h ps f)
    ends done q f v z =
        let e_heading : heading_of s ≡ h = cc in
        let e_packets : r.accepted ≡ ps = cc in
        let scans = packets_scan (length (drop head_bytes s)) nothing false 0 head_bytes (drop head_bytes s) (omega arith) q in
        let both = neither (format_refusal true (drop 1 s)) (numbers_refusal (heading_of s)) z in
        let kind = (parameters_here (drop 1 s) both.0).kind_holds in
        let fine = both.1 in
        record {
          version_is_known = v;
          parameters_fine = z;
          heading_is = e_heading;
          set_up = sym (ap numbers_refusal e_heading) ∙ fine;
          writable = sym (ap heading_refusal e_heading) ∙ sym (heading_set_up (version_of s) (kind_of (drop 1 s)) (parameters_at (drop 1 s)) v kind) ∙ fine;
          all_read = λ j. record { accepted = e_packets j; ending = q j };
          closed = scans.0;
          scan_fine = sym (ap (scan_of nothing false 0) e_packets) ∙ scans.1;
        }

    go : (t : Bool) → version_fits s ≡ t → Dec (parameters_refusal (version_of s) (drop 1 s) ≡ 0) → FileHolds s h ps
    go false v d = absurd (refused_file 20 0 h ps (sym (ap as_file (reading_20 s v)) ∙ e))
    go true v (no n) =
        absurd (refused_file _ 1 h ps (sym (ap as_file (reading_stop s _ v refl (omega arith))) ∙ e))
    go true v (yes z) = ends r.ending refl (sym (ap as_file (reading_go s v z)) ∙ e) v z

-- and so is a whole file
module _ (s : List ℕ) (b : Bytes s) where
  head_again : parameters_refusal (version_of s) (drop 1 s) ≡ 0 → head_of (heading_of s) ++ drop head_bytes s ≡ s
  head_again e =
      let l = drop 1 s in
      let here = parameters_here l (neither _ _ e).0 in
      let again = parameters_again l (bytes_drop 1 s b) here.eighteen here.body_16 in
      let size = length-drop 1 s in
      rw (← drop-drop parameters_bytes 1 s, again) (version_again s (omega (arith, here.eighteen)))

  pub file_again : (h : Heading) (ps : List Packet) → file_of s ≡ file h ps → bytes_in h ps ≡ s
  unfolding bytes_in
  file_again h ps e =
      let holds = file_holds s h ps e in
      let l = drop head_bytes s in
      let read_all : (packets_in nothing head_bytes l).ending ≡ done = ap (λ r. r.ending) holds.all_read in
      let again = packets_again (length l) nothing head_bytes l (omega arith) (bytes_drop head_bytes s b) read_all in
      let same : records_of ps ≡ l = sym (ap (λ r. records_of r.accepted) holds.all_read) ∙ again in
      rw (← holds.heading_is, same) (head_again holds.parameters_fine)

  -- the writer, given room for the file, writes it again
  pub writer_again : (h : Heading) (ts ss ms out after : List ℕ) (w : Written) → OneLength ts ss ms
      → file_of s ≡ file h (packets ts ss ms) → length s ≤ length out → WriteGives h ts ss ms out w after
      → (w ≡ Ok (length s)) × (take (length s) after ≡ s)
  writer_again h ts ss ms out after w same e room gives =
      let ps = packets ts ss ms in
      let again = file_again h ps e in
      let holds = file_holds s h ps e in
      let size : file_length (length ts) ≡ length s =
      sym (length_file h ps ∙ ap file_length (packets_length ts ss ms same)) ∙ ap length again in
      let scanned = lengths_same nothing false ts ss ms same ∙ holds.scan_fine in
      let done_so : w ≡ Ok (length s) =
      gives.answered ∙ sym (answers_done h ts ss ms (length out) holds.writable scanned (omega arith)) ∙ ap Ok size in
      let wrote = subst (λ v. WriteGives h ts ss ms out v after) done_so gives in
      (done_so, writes_done h ts ss ms out after (length s) wrote ∙ again)
