-- Reading what was written: each record stands at the front with its own fields, is accepted as it was, and the rest follows.
-- By the list of packets.
use Rattle.std.specs.Prelude.{◌≡◌, ◌||◌, ◌∷◌, ◌++◌, ◌+◌, ◌<◌, Ok}
use Rattle.laws.specs.Kit.{refl, sym, ap, ◌∙◌, Bool, false, List, [], ℕ, arith, length, take, drop}
use Rattle.laws.specs.Kit.{length-append, drop_at, eq-eqb}
use Rattle.laws.specs.Choose.{AllBelow}
use Rattle.laws.proofs.Choose.{second}
use Rattle.packet.specs.declared.Past.{Past}
use Rattle.packet.specs.declared.Packet.{Packet}
use Rattle.packet.specs.Paper.{marked, packets}
use Rattle.packet.specs.Step.{nothing, number_of, next_of, closes, scan_of}
use Rattle.packet.proofs.Refusals.{accepted}
use Rattle.packet.proofs.Turn.{scan_goes, ready_accepted, fine_ready, scanned_fine}
use Rattle.record.specs.Paper.{packet_length, packet_bytes, head_bytes, numbers_refusal}
use Rattle.record.specs.Paper.{packet_at, Heading, format_refusal, packet_refusal}
use Rattle.record.specs.Paper.{done, Packets, more, packets_in, read, reading_of, file, as_file, file_of}
use Rattle.endian.specs.Fields.{Fit}
use Rattle.record.specs.Layout.{packet_widths, packet_fields, packet_record, records_of, bytes_in}
use Rattle.record.specs.Layout.{PacketsHeld}
use Rattle.limits.specs.Steps.{ParametersHeld}
use Rattle.record.specs.Write.{heading_refusal, WriteGives}
use Rattle.record.specs.Step.{Whole}
use Rattle.record.proofs.Format.{packet_2, length_14, there}
use Rattle.record.proofs.Reading.{packets_end, packets_go}
use Rattle.record.proofs.Stores.{length_packet}
use Rattle.record.proofs.Writing.{heading_fine, was_written, writes_done, packets_held}
use Rattle.record.proofs.Fields.{packet_back}
use Rattle.record.proofs.Versions.{reading_headed}

-- all of some packets
abbrev pub every : List Packet → Packets
every ps = record { accepted = ps; ending = done }

fits : (past : Past) (p : Packet) → p.time < 18446744073709551616 → p.stamp < 4294967296 → number_of past p ≡ 0
    → Fit packet_widths (packet_fields p)
fits past p ht hs e =
    (omega arith, (omega arith, (ht, (hs, (omega (arith, (accepted past p.time p.marker e).marker_small), tt)))))

-- a packet's record in front of anything is accepted as that packet
packet_format : (p : Packet) (rest : List ℕ) → Fit packet_widths (packet_fields p) → format_refusal false (packet_record p ++ rest) ≡ 0
packet_format p rest f =
    let l = packet_record p ++ rest in
    let back = packet_back p rest f in
    let long : length l ≡ packet_bytes + length rest = length-append (packet_record p) rest ∙ rw (length_packet p) in
    let here : Whole packet_length 2 l = record {
      length_read = sym back.body_14;
      kind_read = sym back.kind_2;
      some_body = omega arith;
      all_there = omega arith;
    } in
    there false l here ∙ rw (length_14, packet_2)

pub packets_written : (ps : List Packet) (past : Past) (begun : Bool) (closed n at : ℕ) → PacketsHeld ps
    → scan_of past begun closed ps ≡ Ok n → packets_in past at (records_of ps) ≡ every ps
unfolding records_of
packets_written [] past begun closed n at held e = packets_end past at [] refl
packets_written (p ∷ ps) past begun closed n at held e =
    let l = packet_record p ++ records_of ps in
    let ok = ready_accepted past begun closed {p = p} {l = p ∷ ps} {ps = ps} refl n (fine_ready _ n n e (omega arith)) in
    let f = fits past p held.0 held.1 ok in
    let back = packet_back p (records_of ps) f in
    let go = sym (scan_goes past begun closed {p = p} {l = p ∷ ps} {ps = ps} refl ok) ∙ e in
    let fine : packet_refusal past l ≡ 0 =
    second _ _ (packet_format p (records_of ps) f) ∙ ap (number_of past) back.same ∙ ok in
    let then =
    packets_written ps (next_of past p.time) (begun || marked p) (closed + closes begun p) n (at + packet_bytes) held.2 go in
    let rest : packets_in (next_of past (packet_at l).time) (at + packet_bytes) (drop packet_bytes l) ≡ every ps =
    ap (λ q. packets_in (next_of past q.time) (at + packet_bytes) (drop packet_bytes l)) back.same
    ∙ ap (packets_in (next_of past p.time) (at + packet_bytes)) (drop_at (packet_record p) (records_of ps) packet_bytes (length_packet p))
    ∙ then in
    packets_go past at l fine ∙ ap (more (packet_at l)) rest ∙ ap (λ q. more q (every ps)) back.same

-- the whole file
pub file_written : (s : Heading) (ps : List Packet) (n : ℕ) → ParametersHeld s.parameters → PacketsHeld ps
    → heading_refusal s ≡ 0 → scan_of nothing false 0 ps ≡ Ok n → reading_of (bytes_in s ps) ≡ read s (every ps)
unfolding bytes_in
file_written s ps n hs hp e f =
    let fine = heading_fine s e in
    reading_headed s (records_of ps) (record { fields = hs; known = fine.known; kind = fine.kind })
    ∙ rw (eq-eqb (numbers_refusal s) 0 fine.set_up, packets_written ps nothing false 0 n head_bytes hp f)

-- what the writer writes reads as what it was given
pub written_reads : (s : Heading) (ts ss ms out after : List ℕ) (n : ℕ) → ParametersHeld s.parameters
    → AllBelow 18446744073709551616 ts → AllBelow 4294967296 ss
    → WriteGives s ts ss ms out (Ok n) after → file_of (take n after) ≡ file s (packets ts ss ms)
written_reads s ts ss ms out after n hs ht hm w =
    let was = was_written s ts ss ms (length out) n w.answered in
    let scanned = scanned_fine nothing false ts ss ms was.closed was.scan_fine in
    ap file_of (writes_done s ts ss ms out after n w)
    ∙ ap as_file (file_written s (packets ts ss ms) was.closed hs (packets_held ts ss ms ht hm) was.set_up scanned.1)
