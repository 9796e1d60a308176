-- "Both sides of each limit": the twelve cases of document 01 as one list under one claim, that what the definitions give
-- is what document 01 gives; and a list of the same kind for fields (document 02, ix). Each case stands under its words. Numbers of any
-- kind are written as integers, one list a side.
use Rattle.std.specs.Prelude.{◌≡◌, ◌∷◌}
use Rattle.laws.specs.Kit.{refl, List, [], map, ℕ, ℤ, pos, neg_ℤ}
use Rattle.laws.specs.Choose.{pick}
use Rattle.laws.specs.Count.{count}
use Rattle.laws.specs.Fold.{fold}
use Rattle.grain.specs.Paper.{grains, nearest, phase, first_packet_time, latency}
use Rattle.limits.specs.Fraction.{int}
use Rattle.limits.specs.Paper.{rate_of, frame_length, active_ratio, class_of, c_max, vrx_full, default_tro, tro_grains, packets_fit, tro_fits, first_no}
use Rattle.limits.specs.Paper.{per_period, set_up_refusal, is_profile, profile_of, given}
use Rattle.limits.specs.declared.Profile.TheVariants.{Video, Interlaced}
use Rattle.packet.specs.declared.Packet.{Packet}
use Rattle.packet.specs.Step.{refusal_of}
use Rattle.bucket.specs.Paper.{network_number, network_first, network_last}
use Rattle.bucket.specs.Step as B
use Rattle.frame.specs.Paper.{since, late, level_of}
use Rattle.frame.specs.Step as F
use Rattle.endian.specs.Number.{number_of}
use Rattle.record.specs.Paper.{version_known, class_in, is_parameters, kind_length, format_refusal, packets_by, reading_of, File, file, refused, file_of}
use Rattle.report.specs.Paper.{stream_of, report_of}
use Rattle.timing.specs.declared.StreamNumbers.{StreamNumbers}
use Rattle.timing.specs.declared.State.{State}
use Rattle.timing.specs.Step.{of_parameters, of_profile, rules_of, fresh_of, arrive_of, mark_of, step_of, state_after, rows_after, numbers}
use Rattle.timing.specs.Answers.{summary_with}
use Rattle.timing.specs.History.{frame_history}

pub record Case : Type 0 where
  pub got : List ℤ
  pub want : List ℤ

infix 4 ◌gives◌
abbrev pub ◌gives◌ : List ℤ → List ℤ → Case
a gives b = record { got = a; want = b }

-- one number
abbrev one : ℕ → List ℤ
one n = pos n ∷ []

-- ---- what is measured of a stream

abbrev packet : ℕ → ℕ → ℕ → Packet
packet t stamp marker = record { time = t; stamp = stamp; marker = marker }

-- rate 6 gapped narrow, height 1080, 1460, with n and TRO
abbrev rate6 : ℕ → ℕ → StreamNumbers
rate6 n tro = of_parameters (given 6 0 1 1080 n 1460 tro)

abbrev network : State → List ℤ
network s = pos (network_number s.bucket.network) ∷ pos (network_first s.bucket.network) ∷ pos (network_last s.bucket.network) ∷ []

abbrev after : StreamNumbers → List Packet → State
after x l = state_after (rules_of x) (fresh_of x) l

abbrev rows : StreamNumbers → List Packet → List ℤ
rows x l = numbers (rows_after (rules_of x) (fresh_of x) l)

-- a frame whose first packet comes so many nanoseconds after T_CF, at 20 ms, and whose other three come at their reads
abbrev late_by : ℕ → List Packet
late_by t = packet 19000000 0 1 ∷ packet t 1800 0 ∷ packet 25500000 1800 0 ∷ packet 30300000 1800 0 ∷ packet 35100000 1800 1 ∷ []

-- whether packet j of that frame is late, 1 or 0, and the level just after it
abbrev late_then_level : List Packet → ℕ → List ℤ
late_then_level l j =
    let plan = (rules_of (rate6 4 700)).plan in
    let h = frame_history (rate6 4 700) l in
    pos (pick (late plan h 1 j) 1 0) ∷ level_of plan h 1 j ∷ []

-- which of the other three are late
abbrev others_late : List Packet → List ℤ
others_late l =
    let late_one : ℕ → ℤ = λ j. pos (pick (late (rules_of (rate6 4 700)).plan (frame_history (rate6 4 700) l) 1 j) 1 0) in
    late_one 1 ∷ late_one 2 ∷ late_one 3 ∷ []

-- a whole file: the nine numbers and the rows of the C call, or the refusal's number and offset
abbrev measured : File → List ℤ
measured (file h l) = report_of (stream_of 1 h) l
measured (refused number offset) = pos number ∷ pos offset ∷ []

-- L5: "parameters 6, 0, 1, height 1080, n 4, 1460, default TRO and five packets (nanoseconds, timestamp,
-- marker): 19000000 0 1; 20700000 1800 0; 25500000 1800 0; 30300000 1800 0; 35100000 1800 1"
abbrev the_file : List ℕ
the_file =
    1
    ∷ 0 ∷ 16 ∷ 1 ∷ 6 ∷ 0 ∷ 1 ∷ 4 ∷ 56 ∷ 0 ∷ 0 ∷ 0 ∷ 4 ∷ 5 ∷ 180 ∷ 255 ∷ 255 ∷ 255 ∷ 255
    ∷ 0 ∷ 14 ∷ 2 ∷ 0 ∷ 0 ∷ 0 ∷ 0 ∷ 1 ∷ 33 ∷ 234 ∷ 192 ∷ 0 ∷ 0 ∷ 0 ∷ 0 ∷ 1
    ∷ 0 ∷ 14 ∷ 2 ∷ 0 ∷ 0 ∷ 0 ∷ 0 ∷ 1 ∷ 59 ∷ 219 ∷ 96 ∷ 0 ∷ 0 ∷ 7 ∷ 8 ∷ 0
    ∷ 0 ∷ 14 ∷ 2 ∷ 0 ∷ 0 ∷ 0 ∷ 0 ∷ 1 ∷ 133 ∷ 25 ∷ 96 ∷ 0 ∷ 0 ∷ 7 ∷ 8 ∷ 0
    ∷ 0 ∷ 14 ∷ 2 ∷ 0 ∷ 0 ∷ 0 ∷ 0 ∷ 1 ∷ 206 ∷ 87 ∷ 96 ∷ 0 ∷ 0 ∷ 7 ∷ 8 ∷ 0
    ∷ 0 ∷ 14 ∷ 2 ∷ 0 ∷ 0 ∷ 0 ∷ 0 ∷ 2 ∷ 23 ∷ 149 ∷ 96 ∷ 0 ∷ 0 ∷ 7 ∷ 8 ∷ 1
    ∷ []

-- ---- the list

unfoldable pub cases : List Case
cases =
    -- K1: "Rate 6: TRO 19,999 accepted, 20,000 refused."
    (one (set_up_refusal Video (given 6 0 1 1080 4320 1460 19999)) gives one 0)
    ∷ (one (set_up_refusal Video (given 6 0 1 1080 4320 1460 20000)) gives one 7)
    -- K2: "Rate 7: 16,683 accepted, 16,684 refused."
    ∷ (one (set_up_refusal Video (given 7 0 1 1080 4320 1460 16683)) gives one 0)
    ∷ (one (set_up_refusal Video (given 7 0 1 1080 4320 1460 16684)) gives one 7)
    -- K3: "Rate 6 narrow: n 4147 gives C_MAX 4, 4148 gives 5."
    ∷ (one (c_max (class_of 1 0) 0 (frame_length 6) 4147) gives one 4)
    ∷ (one (c_max (class_of 1 0) 0 (frame_length 6) 4148) gives one 5)
    -- K4: "Rate 6 narrow, 1460: n 4859 gives VRX_FULL 8, 4860 gives 9."
    ∷ (one (vrx_full (class_of 1 0) 1460 (frame_length 6) 4859) gives one 8)
    ∷ (one (vrx_full (class_of 1 0) 1460 (frame_length 6) 4860) gives one 9)
    -- K5, K6: "Rate 6: t 10,000,000 gives FPT −270,000,000." "t 9,999,999 gives 269,999,973."
    ∷ ((first_packet_time (grains 10000000) (frame_length 6) ∷ []) gives (neg_ℤ (pos 270000000) ∷ []))
    ∷ ((first_packet_time (grains 9999999) (frame_length 6) ∷ []) gives (pos 269999973 ∷ []))
    -- K7: "Rate 6, n 4, TRO 700: a first packet 700,000 ns after T_CF is in time, level 1."
    ∷ (late_then_level (late_by 20700000) 0 gives (pos 0 ∷ pos 1 ∷ []))
    -- K8: "At 700,001 it is late, level 0, and least −1 with the other three in time."
    ∷ (late_then_level (late_by 20700001) 0 gives (pos 1 ∷ pos 0 ∷ []))
    ∷ (others_late (late_by 20700001) gives (pos 0 ∷ pos 0 ∷ pos 0 ∷ []))
    ∷ (rows (rate6 4 700) (late_by 20700001)
    gives (pos 0 ∷ pos 0 ∷ pos 0 ∷ pos 18900027 ∷ pos 0 ∷ pos 18900027 ∷ neg_ℤ (pos 27) ∷ pos 45900027 ∷ pos 1 ∷ neg_ℤ (pos 1) ∷ pos 1 ∷ []))
    -- K9: "Five packets at one instant, C_MAX 4: burst 0 4."
    ∷ (one (rules_of (rate6 4 700)).limit gives one 4)
    ∷ (network (after (rate6 4 700) (packet 5 0 0 ∷ packet 5 0 0 ∷ packet 5 0 0 ∷ packet 5 0 0 ∷ packet 5 0 0 ∷ []))
    gives (pos 1 ∷ pos 0 ∷ pos 4 ∷ []))
    -- K10: "t 47,721,858,844,445 with timestamp 4,294,967,295": VL, which "becomes 300,015"; and at rate 6 its row: FPT −31,199,985,
    -- RTP_OFFSET −31,500,000
    ∷ ((latency (grains 47721858844445) 4294967295 ∷ []) gives (pos 300015 ∷ []))
    ∷ (rows (rate6 1 700) (packet 47721857844445 0 1 ∷ packet 47721858844445 4294967295 1 ∷ [])
    gives (pos 0 ∷ pos 0 ∷ pos 0 ∷ neg_ℤ (pos 31199985) ∷ neg_ℤ (pos 31500000) ∷ pos 300015 ∷ pos 50099985 ∷ pos 27000000 ∷ pos 1 ∷ pos 0 ∷ pos 1
    ∷ []))
    -- K11: "The file above.": its row, which "ends [..] with 1", and packets 5, frames 1, peak 2, network pass, buffer pass
    ∷ (measured (file_of the_file)
    gives (pos 5 ∷ pos 1 ∷ pos 2 ∷ pos 0 ∷ pos 0 ∷ pos 0 ∷ pos 1 ∷ pos 0 ∷ pos 0
    ∷ pos 0 ∷ pos 0 ∷ pos 0 ∷ pos 18900000 ∷ pos 0 ∷ pos 18900000 ∷ pos 1740000 ∷ pos 45900000 ∷ pos 1 ∷ pos 0 ∷ pos 1 ∷ []))
    -- K12: "The empty file: 20.", at offset 0
    ∷ (measured (file_of []) gives (pos 20 ∷ pos 0 ∷ []))
    ∷ []

-- K1, K2, K3, K4, K5, K6, K7, K8, K9, K10, K11, K12: what the definitions give is what document 01 gives
pub cases_hold : map (λ c. c.got) cases ≡ map (λ c. c.want) cases
unfolding cases set_up_refusal first_no packets_fit tro_fits rate_of frame_length active_ratio class_of c_max vrx_full int tro_grains default_tro
    nearest phase latency
    count fold rules_of arrive_of mark_of step_of rows_after numbers summary_with B.step_of F.opened_of F.counted_of F.kind_of F.whole_row
    F.row_of F.judged_of F.answer_of F.joined F.arrive_of F.close_of F.rows_of since reading_of packets_by format_refusal version_known class_in
    is_profile profile_of is_parameters kind_length number_of refusal_of
cases_hold = refl

-- ---- fields

-- what set-up refuses of an interlaced stream of a rate, with n and TRO
abbrev fields : ℕ → ℕ → ℕ → ℕ
fields rate n tro = set_up_refusal Interlaced (given rate 0 1 1080 n 1460 tro)

-- of eight TROs, one a rate, in the order of the codes
abbrev by_rate : (a b c d e f g h : ℕ) → List ℤ
by_rate a b c d e f g h =
    map pos
    (fields 1 4320 a
    ∷ fields 2 4320 b
    ∷ fields 3 4320 c
    ∷ fields 4 4320 d
    ∷ fields 5 4320 e
    ∷ fields 6 4320 f
    ∷ fields 7 4320 g
    ∷ fields 8 4320 h
    ∷ [])

abbrev eight : ℕ → List ℤ
eight n = pos n ∷ pos n ∷ pos n ∷ pos n ∷ pos n ∷ pos n ∷ pos n ∷ pos n ∷ []

-- half a frame at rate 6, 10 ms
abbrev half : ℕ
half = per_period Interlaced (frame_length 6)

-- a field of two packets in the period from 10 ms on, whose reads lie 4.8 ms apart from 19 ms on: the second packet and its read come after the next
-- period has begun
abbrev field : ℕ → List Packet
field second = packet 9000000 0 1 ∷ packet 10700000 900 0 ∷ packet second 900 1 ∷ []

unfoldable pub field_cases : List Case
field_cases =
    -- K13: "TRO must be given"; "7 also for a default TRO or one of F/2 and above": the last that is accepted at each rate, and one more
    (by_rate 20854 20833 19999 16683 16666 9999 8341 8333 gives eight 0)
    ∷ (by_rate 20855 20834 20000 16684 16667 10000 8342 8334 gives eight 7)
    ∷ (one (fields 6 4320 4294967295) gives one 7)
    -- K14: "5 also for odd n here": the least is 2
    ∷ (one (fields 6 1 700) gives one 5)
    ∷ (one (fields 6 2 700) gives one 0)
    ∷ (one (fields 6 4319 700) gives one 5)
    ∷ (one (fields 6 20000 700) gives one 0)
    -- K15: "FPT is at least −F/4 and below F/4": at rate 6 a quarter of a frame is 5 ms
    ∷ ((first_packet_time (grains 5000000) half ∷ []) gives (neg_ℤ (pos 135000000) ∷ []))
    ∷ ((first_packet_time (grains 4999999) half ∷ []) gives (pos 134999973 ∷ []))
    -- K16: "reads are spaced R·F/n apart from the field's own first read": of n 4 and TRO 9,000 read 1 is at 23.8 ms, and a packet then is in time
    ∷ (rows (of_profile Interlaced (given 6 0 1 1080 4 1460 9000)) (field 23800000)
    gives (pos 0 ∷ pos 0 ∷ pos 0 ∷ pos 18900000 ∷ pos 0 ∷ pos 18900000 ∷ pos 224100000 ∷ pos 45900000 ∷ pos 1 ∷ pos 0 ∷ pos 1 ∷ []))
    -- and one nanosecond later the field runs dry
    ∷ (rows (of_profile Interlaced (given 6 0 1 1080 4 1460 9000)) (field 23800001)
    gives (pos 0 ∷ pos 0 ∷ pos 0 ∷ pos 18900000 ∷ pos 0 ∷ pos 18900000 ∷ pos 224100000 ∷ pos 45900000 ∷ pos 1 ∷ neg_ℤ (pos 1) ∷ pos 1 ∷ []))
    ∷ []

-- K13, K14, K15, K16: what the definitions give is what the request gives
pub field_cases_hold : map (λ c. c.got) field_cases ≡ map (λ c. c.want) field_cases
unfolding field_cases set_up_refusal first_no packets_fit tro_fits rate_of frame_length active_ratio class_of c_max vrx_full int tro_grains default_tro nearest
    phase latency count fold rules_of arrive_of mark_of step_of rows_after numbers B.step_of F.opened_of F.counted_of F.kind_of F.whole_row F.row_of F.judged_of
    F.answer_of F.joined F.arrive_of F.close_of F.rows_of since
field_cases_hold = refl
