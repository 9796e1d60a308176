-- Set-up refuses nothing exactly where each of the seven numbers is in its place, and by 1 exactly where the rate's code is not in the table:
-- each test is its fact, both ways. And what fields ask beside frames.
use Rattle.std.specs.Prelude.{◌≡◌, ◌↔◌, ◌⊎◌, ◌&&◌, ◌||◌, ◌∷◌, ◌*◌, ◌≤◌}
use Rattle.laws.specs.Kit.{refl, sym, ◌∙◌, inl, inr, Bool, true, false, List, [], ℕ, zero, suc}
use Rattle.std.specs.Prelude.{◌%◌, ◌<◌}
use Rattle.laws.specs.Kit.{mod-one, or-true, eq-eqb, arith, leb-true, le-leb, leb-false, eqb-true, ltb-true, lt-ltb, leb, ltb, eqb}
use Rattle.laws.specs.Choose.{pick}
use Rattle.laws.proofs.Choose.{false_true}
use Rattle.laws.proofs.Every.{and_left, and_right}
use Rattle.limits.specs.declared.Parameters.{Parameters}
use Rattle.limits.specs.declared.Profile.{Profile}
use Rattle.limits.specs.declared.Profile.TheVariants.{Video, Interlaced}
use Rattle.limits.specs.Paper.{microsecond, rate_of, frame_length, sender_class, all_ones, periods, has_default}
use Rattle.limits.specs.Paper.{within, class_fits, maxudp_known, packets_fit, tro_fits, first_no, set_up_refusal}
use Rattle.limits.specs.Accepted.{KnownRate, Accepted}
use Rattle.limits.proofs.Laws.{past_rates}
use Rattle.limits.proofs.Rates.{frame_most}

-- tests as facts

one_of : (s t : Bool) → (s || t) ≡ true → (s ≡ true) ⊎ (t ≡ true)
one_of true t e = inl refl
one_of false t e = inr e

within_facts : (low high x : ℕ) → within low high x ≡ true → (low ≤ x) × (x ≤ high)
within_facts low high x e =
    (leb-true low x (and_left (leb low x) (leb x high) e), leb-true x high (and_right (leb low x) (leb x high) e))

facts_within : (low high x : ℕ) → low ≤ x → x ≤ high → within low high x ≡ true
facts_within low high x h k = rw (le-leb low x h, le-leb x high k)

udp_facts : (x : ℕ) → maxudp_known x ≡ true → (x ≡ 1460) ⊎ (x ≡ 8960)
udp_facts x e = go (one_of (eqb x 1460) (eqb x 8960) e)
  where
    go : (eqb x 1460 ≡ true) ⊎ (eqb x 8960 ≡ true) → (x ≡ 1460) ⊎ (x ≡ 8960)
    go (inl f) = inl (eqb-true x 1460 f)
    go (inr f) = inr (eqb-true x 8960 f)

facts_udp : (x : ℕ) → (x ≡ 1460) ⊎ (x ≡ 8960) → maxudp_known x ≡ true
facts_udp x (inl e) = rw e
facts_udp x (inr e) = rw e

module _ (profile : Profile) where
  -- what a TRO that fits is: a default where the profile has one, or below one period
  abbrev TroFact : ℕ → ℕ → Type 0
  TroFact F tro = ((has_default profile ≡ true) × (tro ≡ all_ones)) ⊎ (periods profile * (microsecond * tro) < F)

  tro_facts : (F tro : ℕ) → tro_fits profile F tro ≡ true → TroFact F tro
  unfolding tro_fits
  tro_facts F tro e = go (one_of default below e)
    where
      default : Bool
      default = has_default profile && eqb tro all_ones

      below : Bool
      below = ltb (periods profile * (microsecond * tro)) F

      go : (default ≡ true) ⊎ (below ≡ true) → TroFact F tro
      go (inl f) =
          inl
          (and_left (has_default profile) (eqb tro all_ones) f, eqb-true tro all_ones (and_right (has_default profile) (eqb tro all_ones) f))
      go (inr f) = inr (ltb-true (periods profile * (microsecond * tro)) F f)

  facts_tro : (F tro : ℕ) → TroFact F tro → tro_fits profile F tro ≡ true
  unfolding tro_fits
  facts_tro F tro (inl e) = rw (e.0, e.1)
  facts_tro F tro (inr h) = rw (lt-ltb (periods profile * (microsecond * tro)) F h) (or-true (has_default profile && eqb tro all_ones))

  packets_facts : (n : ℕ) → packets_fit profile n ≡ true → ((1 ≤ n) × (n ≤ 20000)) × (n % periods profile ≡ 0)
  unfolding packets_fit
  packets_facts n e =
      let whole = eqb (n % periods profile) 0 in
      (within_facts 1 20000 n (and_left (within 1 20000 n) whole e), eqb-true _ _ (and_right (within 1 20000 n) whole e))

  facts_packets : (n : ℕ) → (1 ≤ n) × (n ≤ 20000) → n % periods profile ≡ 0 → packets_fit profile n ≡ true
  unfolding packets_fit
  facts_packets n h w = rw (facts_within 1 20000 n h.0 h.1, eq-eqb (n % periods profile) 0 w)

-- a list of questions that stops at no number, counted from one, has no question answered no
answered : (t : Bool) (k r : ℕ) → pick t r (suc k) ≡ 0 → (t ≡ true) × (r ≡ 0)
answered true k r e = (refl, e)
answered false k r e = absurd (omega arith)

module _ (profile : Profile) (p : Parameters) where
  pub accepted : set_up_refusal profile p ≡ 0 → Accepted profile p
  unfolding set_up_refusal first_no
  accepted e0 =
      let e1 = answered (within 1 8 p.rate) 0 _ e0 in
      let e2 = answered (within 0 1 p.schedule) 1 _ e1.1 in
      let e3 = answered (class_fits (sender_class p) p.schedule) 2 _ e2.1 in
      let e4 = answered (within 1 65535 p.height) 3 _ e3.1 in
      let e5 = answered (packets_fit profile p.n) 4 _ e4.1 in
      let e6 = answered (maxudp_known p.maxudp) 5 _ e5.1 in
      let e7 = answered (tro_fits profile (frame_length p.rate) p.tro) 6 _ e6.1 in
      record {
        rate_known = within_facts 1 8 p.rate e1.0;
        schedule_known = (within_facts 0 1 p.schedule e2.0).1;
        class_fits_schedule = e3.0;
        height_fits = within_facts 1 65535 p.height e4.0;
        n_fits = (packets_facts profile p.n e5.0).0;
        n_whole = (packets_facts profile p.n e5.0).1;
        maxudp_is_known = udp_facts p.maxudp e6.0;
        tro_fits_period = tro_facts profile (frame_length p.rate) p.tro e7.0;
      }

  pub accepts : Accepted profile p → set_up_refusal profile p ≡ 0
  unfolding set_up_refusal first_no
  accepts a =
      rw (
        facts_within 1 8 p.rate a.rate_known.0 a.rate_known.1,
        facts_within 0 1 p.schedule (omega arith) a.schedule_known,
        a.class_fits_schedule,
        facts_within 1 65535 p.height a.height_fits.0 a.height_fits.1,
        facts_packets profile p.n a.n_fits a.n_whole,
        facts_udp p.maxudp a.maxudp_is_known,
        facts_tro profile (frame_length p.rate) p.tro a.tro_fits_period,
      )

-- ---- refused by 1

-- a count that starts above a number does not end at it
later : (k j : ℕ) (l : List Bool) → suc j < k → first_no k l ≡ suc j → ⊥
unfolding first_no
later k j [] h e = omega arith
later k j (true ∷ l) h e = later (suc k) j l (omega arith) e
later k j (false ∷ l) h e = omega arith

-- the first question's number is the answer exactly where that question is answered no
first_no_lem : (k : ℕ) (t : Bool) (more : List Bool) → (first_no (suc k) (t ∷ more) ≡ suc k) ↔ (t ≡ false)
unfolding first_no
first_no_lem k true more = (λ e. absurd (later (suc (suc k)) k more (omega arith) e), λ e. absurd (false_true (sym e)))
first_no_lem k false more = (λ e. refl, λ e. refl)

outside : (code : ℕ) → (within 1 8 code ≡ false) ↔ (KnownRate code → ⊥)
outside code = (λ e known. false_true (sym e ∙ facts_within 1 8 code known.0 known.1), λ other. go (within 1 8 code) refl other)
  where
    go : (t : Bool) → within 1 8 code ≡ t → (KnownRate code → ⊥) → within 1 8 code ≡ false
    go false f other = f
    go true f other = absurd (other (within_facts 1 8 code f))

-- G3, N2: 1 refuses exactly the codes outside of the table
pub refused_outside : (profile : Profile) (p : Parameters) → (set_up_refusal profile p ≡ 1) ↔ (KnownRate p.rate → ⊥)
unfolding set_up_refusal
refused_outside profile p =
    let first = first_no_lem 0 (within 1 8 p.rate) _ in
    let out = outside p.rate in
    (λ e. out.0 (first.0 e), λ other. first.1 (out.1 other))

-- G3: and these have no frame
pub no_frame : (code : ℕ) → (KnownRate code → ⊥) → frame_length code ≡ 0
unfolding rate_of frame_length
no_frame zero other = refl
no_frame (suc i) other = go (leb (suc i) 8) refl
  where
    go : (t : Bool) → leb (suc i) 8 ≡ t → frame_length (suc i) ≡ 0
    go true e = absurd (other (omega arith, leb-true (suc i) 8 e))
    go false e = sym (past_rates (suc i) (leb-false (suc i) 8 e))

-- ---- fields

-- what is taken of one profile is taken of another, by what that one asks of n and TRO
as_profile : (q r : Profile) (p : Parameters) → Accepted q p → p.n % periods r ≡ 0 → TroFact r (frame_length p.rate) p.tro → Accepted r p
as_profile q r p a whole tro = record {
  rate_known = a.rate_known;
  schedule_known = a.schedule_known;
  class_fits_schedule = a.class_fits_schedule;
  height_fits = a.height_fits;
  n_fits = a.n_fits;
  n_whole = whole;
  maxudp_is_known = a.maxudp_is_known;
  tro_fits_period = tro;
}

-- S13: set-up takes numbers as interlaced exactly where it takes them as video, n is even, TRO is given, and it lies below half a frame
pub interlaced_takes : (p : Parameters) → (set_up_refusal Interlaced p ≡ 0)
    ↔ ((set_up_refusal Video p ≡ 0) × (p.n % 2 ≡ 0) × ¬ (p.tro ≡ all_ones) × (2 * (microsecond * p.tro) < frame_length p.rate))
interlaced_takes p = (
  λ e. go (accepted Interlaced p e),
  λ x. accepts Interlaced p (as_profile Video Interlaced p (accepted Video p x.0) x.1 (inr x.3)),
)
  where
    given_below : TroFact Interlaced (frame_length p.rate) p.tro → 2 * (microsecond * p.tro) < frame_length p.rate
    given_below (inl f) = absurd (false_true f.0)
    given_below (inr f) = f

    go : Accepted Interlaced p
        → (set_up_refusal Video p ≡ 0) × (p.n % 2 ≡ 0) × ¬ (p.tro ≡ all_ones) × (2 * (microsecond * p.tro) < frame_length p.rate)
    go a =
        let below = given_below a.tro_fits_period in (
          accepts Video p (as_profile Interlaced Video p a (mod-one p.n) (inr (omega (arith, below)))),
          a.n_whole,
          λ e. omega (arith, e, below, frame_most p.rate),
          below,
        )
