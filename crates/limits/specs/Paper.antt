-- The numbers that a stream is set up with, and the limits that follow from them, each under its sentence of document 01.
use Rattle.std.specs.Prelude.{◌&&◌, ◌||◌, ◌∷◌, ◌*◌, ◌/◌, ◌%◌, Result, Ok, Err}
use Rattle.laws.specs.Kit.{Bool, true, false, List, [], ℕ, zero, suc, max, ltb, leb, eqb, get_or}
use Rattle.laws.specs.Choose.{pick, or_else}
use Rattle.grain.specs.Paper.{grains}
use Rattle.limits.specs.Fraction.{Fraction, whole, ◌over◌, ◌·◌, ◌÷◌, int}
use Rattle.limits.specs.declared.Class.{Class}
use Rattle.limits.specs.declared.Parameters.{Parameters}
use Rattle.limits.specs.declared.Profile.{Profile}
use Rattle.limits.specs.declared.Profile.TheVariants.{Video, Compressed, Interlaced}
use Rattle.limits.specs.declared.Class.TheVariants.{Narrow, NarrowLinear, Wide, Unknown}

-- G1: "Every duration is a whole number of grains; 27 grains are one nanosecond."
abbrev pub microsecond : ℕ
microsecond = grains 1000

abbrev pub second : ℕ
second = grains 1000000000

-- G3: the rate of each code, 1 to 8, in frames a second: a numerator over a denominator
abbrev pub rates : List Fraction
rates =
    24000 over 1001 ∷ 24 over 1 ∷ 25 over 1 ∷ 30000 over 1001 ∷ 30 over 1 ∷ 50 over 1 ∷ 60000 over 1001 ∷ 60 over 1 ∷ []

-- a code outside of the table, which set-up refuses, has none: one frame in no time stands for it, so that its length is 0
abbrev pub no_rate : Fraction
no_rate = 1 over 0

unfoldable pub rate_of : ℕ → Fraction
rate_of code = get_or (no_rate ∷ rates) code no_rate

-- G3: "27,000,000,000 times the rate's denominator over its numerator" (document 02, iv), in grains. That nothing is left over, and that the
-- eight lengths are those of document 01: proofs/Rates.antt, proofs/EightLengths.antt.
abbrev pub length_at : Fraction → ℕ
length_at rate = second * rate.den / rate.num

unfoldable pub frame_length : ℕ → ℕ
frame_length code = length_at (rate_of code)

-- S8: "With T the frame in seconds"
abbrev pub seconds : ℕ → Fraction
seconds F = whole F ÷ whole second

-- S1: "Schedule: 0 gapped (R = 24/25, from 1080/1125), 1 linear (R = 1)."; a code above 1, which set-up refuses, goes with 1
unfoldable pub active_ratio : ℕ → Fraction
active_ratio zero = whole 24 ÷ whole 25
active_ratio (suc schedule) = whole 1

-- S2: "0 means narrow on a gapped schedule and narrow linear on a linear one" (document 02, viii); a schedule above 1, which set-up
-- refuses, goes with 1
unfoldable pub strict_on : ℕ → Class
strict_on zero = Narrow
strict_on (suc schedule) = NarrowLinear

-- S2: "Class: 1 narrow (gapped only), 2 narrow linear (linear only), 3 wide (either)."
abbrev pub classes : ℕ → List Class
classes schedule = strict_on schedule ∷ Narrow ∷ NarrowLinear ∷ Wide ∷ []

-- S2: what a class number means on a schedule
unfoldable pub class_of : ℕ → ℕ → Class
class_of class schedule = get_or (classes schedule) class Unknown

abbrev pub sender_class : Parameters → Class
sender_class p = class_of p.class p.schedule

-- The six formulas, for any frame length F. A class that set-up refuses has 0, which no sentence of document 01 speaks of.

-- S9: "C_MAX: narrow MAX(4, INT(n/(43200·R·T))); narrow linear MAX(4, INT(n/(43200·T))); wide MAX(16, INT(n/(21600·T)))."
unfoldable pub c_max : Class → ℕ → ℕ → ℕ → ℕ
c_max Narrow schedule F n = max 4 (int (whole n ÷ (whole 43200 · active_ratio schedule · seconds F)))
c_max NarrowLinear schedule F n = max 4 (int (whole n ÷ (whole 43200 · seconds F)))
c_max Wide schedule F n = max 16 (int (whole n ÷ (whole 21600 · seconds F)))
c_max Unknown schedule F n = 0

-- S10: "VRX_FULL: narrow and narrow linear MAX(INT(12000/MAXUDP), INT(n/(27000·T))); wide MAX(INT(1080000/MAXUDP), INT(n/(300·T)))."
unfoldable pub vrx_full : Class → ℕ → ℕ → ℕ → ℕ
vrx_full Narrow maxudp F n = max (int (whole 12000 ÷ whole maxudp)) (int (whole n ÷ (whole 27000 · seconds F)))
vrx_full NarrowLinear maxudp F n = max (int (whole 12000 ÷ whole maxudp)) (int (whole n ÷ (whole 27000 · seconds F)))
vrx_full Wide maxudp F n = max (int (whole 1080000 ÷ whole maxudp)) (int (whole n ÷ (whole 300 · seconds F)))
vrx_full Unknown maxudp F n = 0

-- S6, F3: "TRO (4; all ones is default)"
abbrev pub all_ones : ℕ
all_ones = 4294967295

-- S7: "or default: 43F/1125 for height 1080 and up, else 28F/750"
unfoldable pub default_tro : ℕ → ℕ → Fraction
default_tro F height = pick (leb 1080 height) (whole 43 · whole F ÷ whole 1125) (whole 28 · whole F ÷ whole 750)

-- S6: "TRO: given in whole microseconds, .. or default"
unfoldable pub tro_grains : ℕ → ℕ → ℕ → ℕ
tro_grains F height tro = pick (eqb tro all_ones) (int (default_tro F height)) (microsecond * tro)

-- P14: "Read j (0 to n−1) is at T_CF + TRO + j·R·F/n, kept as a fraction."
abbrev pub read_spacing : ℕ → ℕ → ℕ → Fraction
read_spacing schedule F n = active_ratio schedule · whole F ÷ whole n

-- the same spacing as the code keeps it: a numerator that depends on F, a denominator that depends on n (proofs/Facts.antt: `spacing`)
abbrev pub read_num : ℕ → ℕ → ℕ
read_num schedule F = (active_ratio schedule).num * F

abbrev pub read_den : ℕ → ℕ → ℕ
read_den schedule n = (active_ratio schedule).den * n

-- The profile of a stream. It is told by a number, the kind of its parameter record.

-- S12: "ST 2110-22 senders, to which the receiver buffer model does not apply" (document 02, vii)
abbrev pub has_buffer : Profile → Bool
has_buffer Video = true
has_buffer Compressed = false
has_buffer Interlaced = true

-- S13: "each marker closes a field. [..] field periods start at multiples of F/2, the field has n/2 packets" (document 02, ix): how many
-- periods a frame has, each with a marker of its own
abbrev pub periods : Profile → ℕ
periods Video = 1
periods Compressed = 1
periods Interlaced = 2

-- P24: what one period has of a frame's grains, and of its packets: F and n; of an interlaced stream F/2 and n/2. Nothing is left over:
-- `period_whole` and `packets_whole` in proofs/Periods.antt
abbrev pub per_period : Profile → ℕ → ℕ
per_period profile all = all / periods profile

-- S13: "TRO must be given.", for fields
abbrev pub has_default : Profile → Bool
has_default Video = true
has_default Compressed = true
has_default Interlaced = false

-- S12, S13: "a parameter record of kind 3, laid out as kind 1, chooses it", and "of kind 4"
abbrev pub profile_kind : Profile → ℕ
profile_kind Video = 1
profile_kind Compressed = 3
profile_kind Interlaced = 4

-- S12, S13: the kinds that choose a profile. Both ways: proofs/Profiles.antt
unfoldable pub is_profile : ℕ → Bool
is_profile kind = eqb kind 1 || (eqb kind 3 || eqb kind 4)

-- S12, S13: and the one that they choose; a kind that chooses none, which is refused before, goes with video
unfoldable pub profile_of : ℕ → Profile
profile_of kind = pick (eqb kind 3) Compressed (pick (eqb kind 4) Interlaced Video)

-- S12, S13, N1: the profile that a kind chooses, or "22 unknown kind"
abbrev pub profile_in : ℕ → Result Profile ℕ
profile_in kind = pick (is_profile kind) (Ok (profile_of kind)) (Err 22)

-- N1: "22 unknown kind": a profile has no refusal number of its own
unfoldable pub profile_refusal : ℕ → ℕ
profile_refusal kind = pick (is_profile kind) 0 22

-- The seven questions of set-up, each true where its number may stand.

abbrev pub within : ℕ → ℕ → ℕ → Bool
within low high x = leb low x && leb x high

-- N2: "class (unknown or against the schedule)"
abbrev pub class_fits : Class → ℕ → Bool
class_fits Narrow schedule = eqb schedule 0
class_fits NarrowLinear schedule = eqb schedule 1
class_fits Wide schedule = true
class_fits Unknown schedule = false

-- S5: "MAXUDP 1460 or 8960."
abbrev pub maxudp_known : ℕ → Bool
maxudp_known maxudp = eqb maxudp 1460 || eqb maxudp 8960

-- S4, S13: "Packets per frame n, 1 to 20,000."; "5 also for odd n here": the periods of a frame have equally many
unfoldable pub packets_fit : Profile → ℕ → Bool
packets_fit profile n = within 1 20000 n && eqb (n % periods profile) 0

-- S6, S13: "TRO: given in whole microseconds, below one frame, or default"; "7 also for a default TRO or one of F/2 and above": below one
-- period, in exact fractions
unfoldable pub tro_fits : Profile → ℕ → ℕ → Bool
tro_fits profile F tro = (has_default profile && eqb tro all_ones) || ltb (periods profile * (microsecond * tro)) F

-- N1, N2, S3, S4: "set-up, in this order: rate, schedule, class (unknown or against the schedule), height, n, MAXUDP, TRO"
-- "Height 1 to 65,535."
abbrev pub questions : Profile → Parameters → List Bool
questions profile p =
    within 1 8 p.rate
    ∷ within 0 1 p.schedule
    ∷ class_fits (sender_class p) p.schedule
    ∷ within 1 65535 p.height
    ∷ packets_fit profile p.n
    ∷ maxudp_known p.maxudp
    ∷ tro_fits profile (frame_length p.rate) p.tro
    ∷ []

-- the number, counted from k, of the first question that is answered no; 0 where there is none
unfoldable pub first_no : ℕ → List Bool → ℕ
first_no k [] = 0
first_no k (answer ∷ more) = pick answer (first_no (suc k) more) k

-- N2: the refusals 1 to 7 of set-up, and 0 for what is accepted, by the profile
unfoldable pub set_up_refusal : Profile → Parameters → ℕ
set_up_refusal profile p = first_no 1 (questions profile p)

-- The edition of the test plan, which set-up is told beside the parameters.

-- S11: "an edition other than 1 or 2" is refused by 8 (document 02, vi)
unfoldable pub edition_refusal : ℕ → ℕ
edition_refusal edition = pick (within 1 2 edition) 0 8

-- N1, N2: "8 for an edition other than 1 or 2, after 7"
unfoldable pub set_up_in : Profile → Parameters → ℕ → ℕ
set_up_in profile p edition = or_else (set_up_refusal profile p) (edition_refusal edition)

-- the seven numbers put together, as a call that is given each by itself does
abbrev pub given : (rate schedule class height n maxudp tro : ℕ) → Parameters
given rate schedule class height n maxudp tro = record {
  rate = rate;
  schedule = schedule;
  class = class;
  height = height;
  n = n;
  maxudp = maxudp;
  tro = tro;
}
