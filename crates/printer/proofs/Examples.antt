-- Document 01's own file and its whole output, and the empty file's: the definitions compute to the lines as they are printed there. And the
-- same file as a compressed stream's, and a file of class 0 in both versions.
use Rattle.std.specs.Prelude.{◌≡◌, ◌∷◌, ◌++◌}
use Rattle.laws.specs.Kit.{refl, List, [], ℕ}
use Prim.Native.String.{String}
use Rattle.laws.specs.Count.{count}
use Rattle.laws.specs.Fold.{fold}
use Rattle.grain.specs.Paper.{nearest, phase, latency}
use Rattle.limits.specs.Fraction.{int}
use Rattle.limits.specs.Paper.{strict_on, rate_of, frame_length, active_ratio, class_of, c_max, vrx_full, default_tro, tro_grains, packets_fit, tro_fits}
use Rattle.limits.specs.Paper.{first_no, set_up_refusal, edition_refusal, set_up_in, is_profile, profile_of}
use Rattle.packet.specs.Step.{refusal_of}
use Rattle.bucket.specs.Step as B
use Rattle.frame.specs.Step as F
use Rattle.endian.specs.Number.{number_of}
use Rattle.text.specs.Decimal.{codes, digits_of}
use Rattle.text.specs.Lines.{fields, row_line, summary_line, refusal_line}
use Rattle.record.specs.Paper.{version_known, class_in, is_parameters, kind_length, format_refusal, packets_by, reading_of}
use Rattle.timing.specs.Answers.{verdict_of}
use Rattle.timing.specs.Range.{in_range}
use Rattle.timing.specs.Step.{rules_of, arrive_of, mark_of, step_of, rows_after}
use Rattle.printer.specs.Paper.{row_lines, output_of}

-- the version byte, and in a record of a kind the parameters 6, 0, 1, height 1080, n 4, 1460, default TRO
abbrev head : ℕ → List ℕ
head kind = 1 ∷ 0 ∷ 16 ∷ kind ∷ 6 ∷ 0 ∷ 1 ∷ 4 ∷ 56 ∷ 0 ∷ 0 ∷ 0 ∷ 4 ∷ 5 ∷ 180 ∷ 255 ∷ 255 ∷ 255 ∷ 255 ∷ []

-- five packets: 19000000 0 1; 20700000 1800 0; 25500000 1800 0; 30300000 1800 0; 35100000 1800 1
abbrev packets : List ℕ
packets =
    0 ∷ 14 ∷ 2 ∷ 0 ∷ 0 ∷ 0 ∷ 0 ∷ 1 ∷ 33 ∷ 234 ∷ 192 ∷ 0 ∷ 0 ∷ 0 ∷ 0 ∷ 1
    ∷ 0 ∷ 14 ∷ 2 ∷ 0 ∷ 0 ∷ 0 ∷ 0 ∷ 1 ∷ 59 ∷ 219 ∷ 96 ∷ 0 ∷ 0 ∷ 7 ∷ 8 ∷ 0
    ∷ 0 ∷ 14 ∷ 2 ∷ 0 ∷ 0 ∷ 0 ∷ 0 ∷ 1 ∷ 133 ∷ 25 ∷ 96 ∷ 0 ∷ 0 ∷ 7 ∷ 8 ∷ 0
    ∷ 0 ∷ 14 ∷ 2 ∷ 0 ∷ 0 ∷ 0 ∷ 0 ∷ 1 ∷ 206 ∷ 87 ∷ 96 ∷ 0 ∷ 0 ∷ 7 ∷ 8 ∷ 0
    ∷ 0 ∷ 14 ∷ 2 ∷ 0 ∷ 0 ∷ 0 ∷ 0 ∷ 2 ∷ 23 ∷ 149 ∷ 96 ∷ 0 ∷ 0 ∷ 7 ∷ 8 ∷ 1
    ∷ []

-- L5: the whole output, computed from the bytes of the file
pub file_output : output_of (head 1 ++ packets)
    ≡ codes "frame 0 0 0 18900000 0 18900000 1740000 45900000 1 0 1\npackets 5 frames 1 peak 2 network pass buffer pass\n"
unfolding output_of row_lines row_line fields digits_of summary_line refusal_line set_up_in edition_refusal set_up_refusal first_no packets_fit tro_fits
    rate_of frame_length active_ratio class_of c_max vrx_full int tro_grains default_tro nearest phase latency count fold rules_of arrive_of mark_of
    step_of rows_after B.step_of F.opened_of F.counted_of F.kind_of F.whole_row F.row_of F.judged_of F.answer_of F.joined F.arrive_of F.close_of F.rows_of
    reading_of packets_by format_refusal version_known class_in is_profile profile_of is_parameters kind_length number_of refusal_of verdict_of in_range
file_output = refl

-- V13, F14: and of the same file with its parameters in a record of kind 3
pub compressed_output : output_of (head 3 ++ packets)
    ≡ codes "frame 0 0 0 18900000 0 18900000 1740000 45900000 0 0 1\npackets 5 frames 1 peak 2 network pass buffer none\n"
unfolding output_of row_lines row_line fields digits_of summary_line refusal_line set_up_in edition_refusal set_up_refusal first_no packets_fit tro_fits
    rate_of frame_length active_ratio class_of c_max vrx_full int tro_grains default_tro nearest phase latency count fold rules_of arrive_of mark_of
    step_of rows_after B.step_of F.opened_of F.ticked_of F.kind_of F.whole_row F.row_of F.answer_of F.joined F.arrive_of F.close_of F.rows_of
    reading_of packets_by format_refusal version_known class_in is_profile profile_of is_parameters kind_length number_of refusal_of verdict_of in_range
compressed_output = refl

-- the head of an interlaced stream: rate 3, n 8, TRO 764 in a record of kind 4
abbrev fields_head : List ℕ
fields_head = 1 ∷ 0 ∷ 16 ∷ 4 ∷ 3 ∷ 0 ∷ 1 ∷ 4 ∷ 56 ∷ 0 ∷ 0 ∷ 0 ∷ 8 ∷ 5 ∷ 180 ∷ 0 ∷ 0 ∷ 2 ∷ 252 ∷ []

-- P24, F14: the same packets as a field of it, whose period is as long as that frame
pub interlaced_output : output_of (fields_head ++ packets)
    ≡ codes "frame 0 0 0 18900000 0 18900000 1728000 45900000 1 0 1\npackets 5 frames 1 peak 2 network pass buffer pass\n"
unfolding output_of row_lines row_line fields digits_of summary_line refusal_line set_up_in edition_refusal set_up_refusal first_no packets_fit tro_fits
    rate_of frame_length active_ratio class_of c_max vrx_full int tro_grains default_tro nearest phase latency count fold rules_of arrive_of mark_of
    step_of rows_after B.step_of F.opened_of F.counted_of F.kind_of F.whole_row F.row_of F.judged_of F.answer_of F.joined F.arrive_of F.close_of F.rows_of
    reading_of packets_by format_refusal version_known class_in is_profile profile_of is_parameters kind_length number_of refusal_of verdict_of in_range
interlaced_output = refl

-- S13: and a default TRO is refused there
pub no_default : output_of (head 4 ++ packets) ≡ codes "refused 7 1\n"
unfolding output_of refusal_line digits_of set_up_refusal first_no packets_fit tro_fits rate_of frame_length class_of reading_of format_refusal version_known
    class_in is_profile profile_of is_parameters kind_length number_of
no_default = refl

-- a frame sent at once, with class 0: what follows the version byte of examples/class-0-version-1.rec and -2.rec
abbrev at_once : List ℕ
at_once =
    0 ∷ 16 ∷ 1 ∷ 6 ∷ 0 ∷ 0 ∷ 4 ∷ 56 ∷ 0 ∷ 0 ∷ 0 ∷ 4 ∷ 5 ∷ 180 ∷ 255 ∷ 255 ∷ 255 ∷ 255
    ∷ 0 ∷ 14 ∷ 2 ∷ 0 ∷ 0 ∷ 0 ∷ 0 ∷ 1 ∷ 33 ∷ 234 ∷ 192 ∷ 0 ∷ 0 ∷ 0 ∷ 0 ∷ 1
    ∷ 0 ∷ 14 ∷ 2 ∷ 0 ∷ 0 ∷ 0 ∷ 0 ∷ 1 ∷ 59 ∷ 219 ∷ 96 ∷ 0 ∷ 0 ∷ 7 ∷ 8 ∷ 0
    ∷ 0 ∷ 14 ∷ 2 ∷ 0 ∷ 0 ∷ 0 ∷ 0 ∷ 1 ∷ 59 ∷ 219 ∷ 96 ∷ 0 ∷ 0 ∷ 7 ∷ 8 ∷ 0
    ∷ 0 ∷ 14 ∷ 2 ∷ 0 ∷ 0 ∷ 0 ∷ 0 ∷ 1 ∷ 59 ∷ 219 ∷ 96 ∷ 0 ∷ 0 ∷ 7 ∷ 8 ∷ 0
    ∷ 0 ∷ 14 ∷ 2 ∷ 0 ∷ 0 ∷ 0 ∷ 0 ∷ 1 ∷ 59 ∷ 219 ∷ 96 ∷ 0 ∷ 0 ∷ 7 ∷ 8 ∷ 1
    ∷ []

-- the lines of it with this network answer
abbrev told : String → List ℕ
told network =
    codes "frame 0 0 0 18900000 0 18900000 1740000 45900000 4 0 1\npackets 5 frames 1 peak 5 network " ++ codes network ++ codes " buffer pass\n"

-- F11: the same bytes but the version: wide in version 1, narrow in version 2
pub wide_then_strict : (output_of (1 ∷ at_once) ≡ told "pass") × (output_of (2 ∷ at_once) ≡ told "burst 0 4")
unfolding output_of row_lines row_line fields digits_of summary_line refusal_line set_up_in edition_refusal set_up_refusal first_no packets_fit tro_fits
    rate_of frame_length active_ratio strict_on class_of c_max vrx_full int tro_grains default_tro nearest phase latency count fold rules_of arrive_of mark_of
    step_of rows_after B.step_of F.opened_of F.counted_of F.kind_of F.whole_row F.row_of F.judged_of F.answer_of F.joined F.arrive_of F.close_of F.rows_of
    reading_of packets_by format_refusal version_known class_in is_profile profile_of is_parameters kind_length number_of refusal_of verdict_of in_range
wide_then_strict = (refl, refl)

pub empty_output : output_of [] ≡ codes "refused 20 0\n"
unfolding output_of version_known reading_of refusal_line digits_of
empty_output = refl
