-- Eleven numbers put in their places are refused, and measured, as they are given, whatever their size: set-up, the offset's test and so the
-- whole output are the same. By one law: what cannot tell a number too large from what stands instead of it cannot tell it from the number.
use Rattle.std.specs.Prelude.{◌≡◌, ◌⊎◌, ◌∷◌, ◌*◌, ◌≤◌}
use Rattle.laws.specs.Kit.{refl, sym, ap, ◌∙◌, inl, inr, Bool, true, false, and-false, List, [], ℕ, zero, suc}
use Rattle.std.specs.Prelude.{◌<◌}
use Rattle.laws.specs.Kit.{arith, mul-le-mul_right}
use Rattle.laws.specs.Kit.{leb, eqb, leb-false, leb-true, lt-leb, le-ltb, ne_eqb, eqb-true}
use Rattle.laws.specs.Choose.{pick}
use Rattle.laws.proofs.Choose.{false_true}
use Rattle.limits.specs.declared.Class.{Class}
use Rattle.limits.specs.declared.Class.TheVariants.{Narrow, NarrowLinear, Wide, Unknown}
use Rattle.limits.specs.Paper.{microsecond, frame_length, strict_on, class_of, all_ones, within, class_fits, maxudp_known, packets_fit, tro_fits, first_no}
use Rattle.limits.specs.Paper.{set_up_refusal, edition_refusal, set_up_in}
use Rattle.limits.proofs.Laws.{past_rates, past_classes}
use Rattle.limits.proofs.Rates.{frame_most}
use Rattle.limits.proofs.Accepting.{accepted}
use Rattle.limits.proofs.Editions.{in_fine}
use Rattle.limits.specs.declared.Profile.{Profile}
use Rattle.limits.specs.Paper.{is_profile, profile_of, profile_refusal, periods, has_default}
use Rattle.limits.proofs.Profiles.{kind_most, no_other, neither_of}
use Rattle.limits.proofs.Periods.{periods_some}
use Rattle.timing.specs.Step.{stated_refusal}
use Rattle.timing.proofs.Stating.{stated_fine}
use Rattle.capture.specs.Paper.{header_of}
use Rattle.text.specs.Lines.{refusal_line}
use Rattle.reel.specs.declared.Asked.{Asked}
use Rattle.reel.specs.Paper.{output_by, output_of}
use Rattle.words.specs.declared.Numbers.{Numbers}
use Rattle.words.specs.Paper.{placed, instead_height, instead_tro, as_given, asked_of}
use Rattle.words.proofs.Placing.{fits}

alike : {A : Type 0} (f : ℕ → A) (most instead : ℕ) → ((x : ℕ) → most < x → f instead ≡ f x) → (x : ℕ) → f (placed most instead x) ≡ f x
alike f most instead same x = go (leb x most) refl
  where
    go : (t : Bool) → leb x most ≡ t → f (pick t x instead) ≡ f x
    go true e = refl
    go false e = same x (leb-false x most e)

-- ---- the seven questions, each of its number

above : (low high x : ℕ) → high < x → false ≡ within low high x
above low high x h = rw (lt-leb x high h, and-false (leb low x))

rate_alike : (x : ℕ) → within 1 8 (placed 255 255 x) ≡ within 1 8 x
rate_alike = alike (within 1 8) 255 255 (λ x h. above 1 8 x (omega arith))

schedule_alike : (x : ℕ) → within 0 1 (placed 255 255 x) ≡ within 0 1 x
schedule_alike = alike (within 0 1) 255 255 (λ x h. above 0 1 x (omega arith))

class_alike : (s x : ℕ) → class_of (placed 255 255 x) s ≡ class_of x s
class_alike s =
    alike (λ (x : ℕ). class_of x s) 255 255 (λ x h. sym (past_classes 255 s (omega arith)) ∙ past_classes x s (omega arith))

-- no class means another thing on another schedule above 0
same_class : (x a b : ℕ) → 0 < a → 0 < b → class_of x a ≡ class_of x b
unfolding class_of strict_on
same_class x zero b h k = absurd (omega arith)
same_class x (suc a) zero h k = absurd (omega arith)
same_class x (suc a) (suc b) h k = refl

against_alike : (x y : ℕ) → class_fits (class_of x (placed 255 255 y)) (placed 255 255 y) ≡ class_fits (class_of x y) y
against_alike x =
    alike (λ (y : ℕ). class_fits (class_of x y) y) 255 255
    (λ y h. go (class_of x 255) y h ∙ ap (λ (k : Class). class_fits k y) (same_class x 255 y (omega arith) (omega arith)))
  where
    go : (k : Class) (y : ℕ) → 255 < y → class_fits k 255 ≡ class_fits k y
    go Narrow y h = sym (ne_eqb y 0 (omega arith))
    go NarrowLinear y h = sym (ne_eqb y 1 (omega arith))
    go Wide y h = refl
    go Unknown y h = refl

class_fits_alike : (x y : ℕ) → class_fits (class_of (placed 255 255 x) (placed 255 255 y)) (placed 255 255 y) ≡ class_fits (class_of x y) y
class_fits_alike x y =
    ap (λ (k : Class). class_fits k (placed 255 255 y)) (class_alike (placed 255 255 y) x) ∙ against_alike x y

height_alike : (x : ℕ) → within 1 65535 (placed 65535 instead_height x) ≡ within 1 65535 x
height_alike = alike (within 1 65535) 65535 instead_height (λ x h. above 1 65535 x h)

-- so many packets no frame has, whatever its periods
too_many : (profile : Profile) (x : ℕ) → 4294967295 ≤ x → false ≡ packets_fit profile x
unfolding packets_fit
too_many profile x h = rw (← above 1 20000 x (omega arith))

n_alike : (profile : Profile) (x : ℕ) → packets_fit profile (placed 4294967295 4294967295 x) ≡ packets_fit profile x
n_alike profile =
    alike (packets_fit profile) 4294967295 4294967295
    (λ x h. sym (too_many profile 4294967295 (omega arith)) ∙ too_many profile x (omega arith))

maxudp_alike : (x : ℕ) → maxudp_known (placed 65535 65535 x) ≡ maxudp_known x
maxudp_alike = alike maxudp_known 65535 65535 (λ x h. rw (ne_eqb x 1460 (omega arith), ne_eqb x 8960 (omega arith)))

frame_alike : (x : ℕ) → frame_length (placed 255 255 x) ≡ frame_length x
frame_alike = alike frame_length 255 255 (λ x h. sym (past_rates 255 (omega arith)) ∙ past_rates x (omega arith))

-- no frame is as long as 4,294,967,294 microseconds, and only one more is the default
module _ (profile : Profile) where
  tro_too_long : (code x : ℕ) → 4294967294 ≤ x → ¬ (x ≡ all_ones) → false ≡ tro_fits profile (frame_length code) x
  unfolding tro_fits
  tro_too_long code x h other =
      let long = mul-le-mul_right (microsecond * x) (periods_some profile) in
      rw (
        ne_eqb x all_ones other,
        and-false (has_default profile),
        le-ltb (periods profile * (microsecond * x)) (frame_length code) (omega (arith, long, frame_most code)),
      )

  tro_alike : (code x : ℕ) → tro_fits profile (frame_length code) (placed 4294967295 instead_tro x) ≡ tro_fits profile (frame_length code) x
  tro_alike code =
      alike (tro_fits profile (frame_length code)) 4294967295 instead_tro
      (λ x h. sym (tro_too_long code instead_tro (omega arith) (omega arith)) ∙ tro_too_long code x (omega arith) (omega arith))

  tro_fits_alike : (x y : ℕ)
      → tro_fits profile (frame_length (placed 255 255 x)) (placed 4294967295 instead_tro y) ≡ tro_fits profile (frame_length x) y
  tro_fits_alike x y = ap (λ (F : ℕ). tro_fits profile F (placed 4294967295 instead_tro y)) (frame_alike x) ∙ tro_alike x y

offset_alike : (x : ℕ) → leb (placed 4294967295 4294967295 x) 99 ≡ leb x 99
offset_alike = alike (λ (x : ℕ). leb x 99) 4294967295 4294967295 (λ x h. sym (lt-leb x 99 (omega arith)))

edition_alike : (x : ℕ) → edition_refusal (placed 4294967295 4294967295 x) ≡ edition_refusal x
unfolding edition_refusal
edition_alike = alike edition_refusal 4294967295 4294967295 (λ x h. rw (← above 1 2 x (omega arith)))

-- S12: no kind of a profile is as large as 255
profile_too_large : (x : ℕ) → 255 ≤ x → false ≡ is_profile x
profile_too_large x h = no_other x (λ e. omega arith) (λ e. omega arith) (λ e. omega arith)

profile_of_alike : (x : ℕ) → profile_of (placed 255 255 x) ≡ profile_of x
profile_of_alike =
    alike profile_of 255 255
    (λ x h. sym (neither_of 255 (λ e. omega arith) (λ e. omega arith)) ∙ neither_of x (λ e. omega arith) (λ e. omega arith))

profile_alike : (x : ℕ) → profile_refusal (placed 255 255 x) ≡ profile_refusal x
unfolding profile_refusal
profile_alike =
    alike profile_refusal 255 255 (λ x h. rw (← profile_too_large 255 (omega arith), ← profile_too_large x (omega arith)))

-- ---- set-up, and the output

module _ (x : Numbers) where
  -- R18: "One that is too large for its place, as a height of 65,536, is refused as set-up refuses such a number (1 to 8)", and a profile by 22
  parameters_as_given : (profile : Profile) → set_up_refusal profile (asked_of x).stated.parameters ≡ set_up_refusal profile (as_given x).stated.parameters
  unfolding asked_of set_up_refusal
  parameters_as_given profile =
      ap (first_no 1)
      (λ j.
      rate_alike x.rate j
      ∷ schedule_alike x.schedule j
      ∷ class_fits_alike x.class x.schedule j
      ∷ height_alike x.height j
      ∷ n_alike profile x.n j
      ∷ maxudp_alike x.maxudp j
      ∷ tro_fits_alike profile x.rate x.tro j
      ∷ [])

  pub set_up_as_given : stated_refusal (asked_of x).stated ≡ stated_refusal (as_given x).stated
  unfolding asked_of stated_refusal set_up_in
  set_up_as_given =
      let profile = profile_of x.profile in
      rw (profile_alike x.profile, profile_of_alike x.profile, parameters_as_given profile, edition_alike x.edition)

  -- R18: ".. or by 33"
  pub offset_as_given : leb (asked_of x).offset 99 ≡ leb (as_given x).offset 99
  unfolding asked_of
  offset_as_given = offset_alike x.offset

  -- where nothing is refused, each number fits in its place
  class_small : class_fits (class_of x.class x.schedule) x.schedule ≡ true → x.class ≤ 255
  class_small e = go (leb x.class 255) refl
    where
      go : (t : Bool) → leb x.class 255 ≡ t → x.class ≤ 255
      go true f = leb-true x.class 255 f
      go false f =
          let past = past_classes x.class x.schedule (omega (arith, leb-false x.class 255 f)) in
          absurd (false_true (ap (λ (k : Class). class_fits k x.schedule) past ∙ e))

  tro_small : (profile : Profile)
      → ((has_default profile ≡ true) × (x.tro ≡ all_ones)) ⊎ (periods profile * (microsecond * x.tro) < frame_length x.rate) → x.tro ≤ 4294967295
  tro_small profile (inl e) = omega (arith, e.1)
  tro_small profile (inr h) = omega (arith, h, mul-le-mul_right (microsecond * x.tro) (periods_some profile), frame_most x.rate)

  udp_small : (x.maxudp ≡ 1460) ⊎ (x.maxudp ≡ 8960) → x.maxudp ≤ 65535
  udp_small (inl e) = omega (arith, e)
  udp_small (inr e) = omega (arith, e)

  profile_small : is_profile x.profile ≡ true → x.profile ≤ 255
  profile_small e = omega (arith, kind_most x.profile e)

  all_fit : stated_refusal (as_given x).stated ≡ 0 → x.offset ≤ 99 → asked_of x ≡ as_given x
  unfolding asked_of
  all_fit e h =
      let stated = stated_fine (as_given x).stated e in
      let profile = profile_of x.profile in
      let fine = in_fine profile (as_given x).stated.parameters x.edition stated.1 in
      let a = accepted profile (as_given x).stated.parameters fine.0 in
      λ j. record {
        stated = record {
          kind = sym (fits 255 255 x.profile (profile_small stated.0)) j;
          parameters = record {
            rate = sym (fits 255 255 x.rate (omega (arith, a.rate_known.1))) j;
            schedule = sym (fits 255 255 x.schedule (omega (arith, a.schedule_known))) j;
            class = sym (fits 255 255 x.class (class_small a.class_fits_schedule)) j;
            height = sym (fits 65535 instead_height x.height a.height_fits.1) j;
            n = sym (fits 4294967295 4294967295 x.n (omega (arith, a.n_fits.1))) j;
            maxudp = sym (fits 65535 65535 x.maxudp (udp_small a.maxudp_is_known)) j;
            tro = sym (fits 4294967295 instead_tro x.tro (tro_small profile a.tro_fits_period)) j;
          };
          edition = sym (fits 4294967295 4294967295 x.edition (omega (arith, fine.1.1))) j;
        };
        port = x.port;
        offset = sym (fits 4294967295 4294967295 x.offset (omega arith)) j;
      }

  -- R18: "The program takes its numbers as they are given.": what it prints is what the rules say of the numbers themselves
  pub output_as_given : (file : List ℕ) → output_of (asked_of x) file ≡ output_of (as_given x) file
  unfolding output_of
  output_as_given file = rw (set_up_as_given, offset_as_given) (go (eqb (stated_refusal (as_given x).stated) 0) (leb x.offset 99) refl refl)
    where
      go : (t u : Bool) → eqb (stated_refusal (as_given x).stated) 0 ≡ t → leb x.offset 99 ≡ u
          → pick t (pick u (output_by (asked_of x) (header_of file) file) (refusal_line 33 0)) (refusal_line (stated_refusal (as_given x).stated) 0)
          ≡ pick t (pick u (output_by (as_given x) (header_of file) file) (refusal_line 33 0)) (refusal_line (stated_refusal (as_given x).stated) 0)
      go false u e f = refl
      go true false e f = refl
      go true true e f =
          let same = all_fit (eqb-true (stated_refusal (as_given x).stated) 0 e) (leb-true x.offset 99 f) in
          ap (λ (a : Asked). output_by a (header_of file) file) same
