-- Words and numbers, computed: the rule's own height of 65,536, and the greatest and the shortest of what is a number.
use Rattle.std.specs.Prelude.{◌≡◌, None, Some}
use Rattle.laws.specs.Kit.{refl, [], ℕ}
use Rattle.laws.specs.Fold.{fold}
use Rattle.limits.specs.Paper.{rate_of, frame_length, class_of, packets_fit, tro_fits, first_no, set_up_refusal, edition_refusal, set_up_in, profile_of}
use Rattle.timing.specs.Step.{stated_refusal}
use Rattle.limits.specs.Paper.{is_profile, profile_refusal}
use Rattle.text.specs.Decimal.{codes}
use Rattle.words.specs.declared.Numbers.{Numbers}
use Rattle.words.specs.Paper.{is_all_digits, number_in, word_of, asked_of}

pub greatest : word_of (codes "9999999999999999999") ≡ Some 9999999999999999999
unfolding word_of number_in is_all_digits fold
greatest = refl

pub zeros_lead : word_of (codes "007") ≡ Some 7
unfolding word_of number_in is_all_digits fold
zeros_lead = refl

pub twenty : word_of (codes "10000000000000000000") ≡ None
unfolding word_of
twenty = refl

pub none : word_of [] ≡ None
unfolding word_of
none = refl

pub a_point : word_of (codes "1.5") ≡ None
unfolding word_of number_in is_all_digits
a_point = refl

-- 1080p50, gapped and narrow, but for its height, its TRO, its profile and the edition
abbrev of_height : ℕ → ℕ → ℕ → ℕ → Numbers
of_height height tro profile edition = record {
  port = 20000;
  offset = 37;
  rate = 6;
  schedule = 0;
  class = 1;
  height = height;
  n = 4;
  maxudp = 1460;
  tro = tro;
  profile = profile;
  edition = edition;
}

-- R18: "as a height of 65,536, is refused as set-up refuses such a number"
pub too_high : stated_refusal (asked_of (of_height 65536 4294967295 1 1)).stated ≡ 4
unfolding asked_of stated_refusal profile_refusal is_profile profile_of set_up_in edition_refusal set_up_refusal first_no class_of packets_fit tro_fits
    frame_length rate_of
too_high = refl

pub too_late : stated_refusal (asked_of (of_height 1080 4294967296 1 1)).stated ≡ 7
unfolding asked_of stated_refusal profile_refusal is_profile profile_of set_up_in edition_refusal set_up_refusal first_no class_of packets_fit tro_fits
    frame_length rate_of
too_late = refl

-- R18: an edition of 2^32 + 2 is not taken for 2
pub no_edition : stated_refusal (asked_of (of_height 1080 4294967295 3 4294967298)).stated ≡ 8
unfolding asked_of stated_refusal profile_refusal is_profile profile_of set_up_in edition_refusal set_up_refusal first_no class_of packets_fit tro_fits
    frame_length rate_of
no_edition = refl

-- S12: nor is a profile of 256 + 3 taken for 3, and 22 comes first
pub no_profile : stated_refusal (asked_of (of_height 65536 4294967296 259 3)).stated ≡ 22
unfolding asked_of stated_refusal profile_refusal is_profile profile_of set_up_in edition_refusal set_up_refusal first_no class_of packets_fit tro_fits
    frame_length rate_of
no_profile = refl

pub measured : stated_refusal (asked_of (of_height 1080 4294967295 3 2)).stated ≡ 0
unfolding asked_of stated_refusal profile_refusal is_profile profile_of set_up_in edition_refusal set_up_refusal first_no class_of packets_fit tro_fits
    frame_length rate_of
measured = refl
