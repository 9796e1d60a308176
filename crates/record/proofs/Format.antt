-- How a record is framed, and by which of 21, 22, 23 it is refused, from what stands in front: a scrap, a length of 0, a record that is
-- cut short, or a whole one; and what none of the three says of a record. By the tests, one after the other.
use Rattle.std.specs.Prelude.{◌≡◌, ◌&&◌, ◌+◌, ◌≤◌, ◌<◌}
use Rattle.laws.specs.Kit.{refl, sym, ◌∙◌, Bool, true, false, List, ℕ, arith, ℕ_discrete, dec_le, ltb, eqb, length}
use Rattle.laws.specs.Kit.{lt-ltb, le-ltb, eq-eqb, ne_eqb, ltb-false, eqb-true, eqb-false}
use Rattle.laws.specs.Choose.{pick}
use Rattle.laws.proofs.Choose.{pick_either}
use Rattle.endian.specs.Number.{Room}
use Rattle.limits.proofs.Profiles.{kind_most, no_other}
use Rattle.record.specs.declared.Framed.TheVariants as framed
use Rattle.record.specs.Paper.{parameters_length, packet_length, parameters_bytes, packet_bytes}
use Rattle.record.specs.Paper.{body_length, kind_of, is_parameters, kind_length, lone, is_in_place, format_refusal}
use Rattle.record.specs.Step.{scrap_of, framed_of, Whole}

-- ---- kinds

-- F14: 4 at most, which one byte holds
pub kind_small : (kind : ℕ) → is_parameters kind ≡ true → kind < 256
unfolding is_parameters
kind_small kind e = omega (arith, kind_most kind e)

pub packet_2 : is_parameters 2 ≡ false
unfolding is_parameters
packet_2 = sym (no_other 2 (λ e. omega arith) (λ e. omega arith) (λ e. omega arith))

pub length_16 : (kind : ℕ) → is_parameters kind ≡ true → kind_length kind ≡ parameters_length
unfolding kind_length
length_16 kind e = rw e

pub length_14 : kind_length 2 ≡ packet_length
unfolding kind_length
length_14 = rw packet_2

-- a kind that has a length and holds no parameters is a packet's
pub packet_kind : (kind : ℕ) → is_parameters kind ≡ false → 0 < kind_length kind → kind ≡ 2
unfolding kind_length
packet_kind kind e =
    rw e (pick_either (λ n. 0 < n → kind ≡ 2) (eqb kind 2) (λ q h. eqb-true kind 2 q) (λ q h. absurd (omega arith)))

-- ---- what stands in front

pub data Front (l : List ℕ) : Type 0 where
  scrap : length l < 2 → Front l
  zero_length : 2 ≤ length l → body_length l ≡ 0 → Front l
  short : 2 ≤ length l → 0 < body_length l → length l < 2 + body_length l → Front l
  whole : Whole (body_length l) (kind_of l) l → Front l

pub front : (l : List ℕ) → Front l
front l = go (dec_le 2 (length l)) (ℕ_discrete (body_length l) 0) (dec_le (2 + body_length l) (length l))
  where
    go : Dec (2 ≤ length l) → Dec (body_length l ≡ 0) → Dec (2 + body_length l ≤ length l) → Front l
    go (no t) b d = scrap (omega arith)
    go (yes t) (yes b) d = zero_length t b
    go (yes t) (no b) (no d) = short t (omega arith) (omega arith)
    go (yes t) (no b) (yes d) =
        whole (record { length_read = refl; kind_read = refl; some_body = omega arith; all_there = d })

module _ (w : List ℕ) (last : Bool) where
  pub framed_scrap : length w < 2 → framed_of w last ≡ scrap_of (length w) last
  unfolding framed_of
  framed_scrap h = rw (lt-ltb (length w) 2 h)

  pub framed_zero : 2 ≤ length w → body_length w ≡ 0 → framed_of w last ≡ framed.Cut
  unfolding framed_of
  framed_zero t e = rw (le-ltb (length w) 2 t, eq-eqb (body_length w) 0 e)

  pub framed_short : 2 ≤ length w → 0 < body_length w → length w < 2 + body_length w → framed_of w last ≡ pick last framed.Cut framed.More
  unfolding framed_of
  framed_short t b k =
      rw (le-ltb (length w) 2 t, ne_eqb (body_length w) 0 (λ e. omega arith), lt-ltb (length w) (2 + body_length w) k)

  pub framed_whole : {body kind : ℕ} → Whole body kind w → framed_of w last ≡ framed.Whole body kind
  unfolding framed_of
  framed_whole {body} a =
      rw (
        le-ltb (length w) 2 (omega arith),
        ← a.length_read,
        ← a.kind_read,
        ne_eqb body 0 (λ e. omega arith),
        le-ltb (length w) (2 + body) a.all_there,
      )

-- nothing and a single byte, where no more will come
module _ (l : List ℕ) where
  pub framed_nothing : length l ≡ 0 → framed_of l true ≡ framed.Nothing
  unfolding scrap_of
  framed_nothing e = framed_scrap l true (omega arith) ∙ rw (eq-eqb (length l) 0 e)

  pub framed_byte : (length l ≡ 0 → ⊥) → length l < 2 → framed_of l true ≡ framed.Cut
  unfolding scrap_of
  framed_byte n h = framed_scrap l true h ∙ rw (ne_eqb (length l) 0 n)

-- ---- the number

not_lone : (first : Bool) (l : List ℕ) → 0 < length l → lone first l ≡ false
not_lone first l h = rw (ne_eqb (length l) 0 (λ e. omega arith)) (go first)
  where
    go : (t : Bool) → t && false ≡ false
    go true = refl
    go false = refl

-- F8: the version byte alone
pub lone_23 : (l : List ℕ) → length l ≡ 0 → format_refusal true l ≡ 23
unfolding format_refusal
lone_23 l e = rw (eq-eqb (length l) 0 e)

module _ (first : Bool) (l : List ℕ) where
  pub scrap_21 : 0 < length l → length l < 2 → format_refusal first l ≡ 21
  unfolding format_refusal
  scrap_21 h k = rw (not_lone first l h, lt-ltb (length l) 2 k)

  pub zero_21 : 2 ≤ length l → body_length l ≡ 0 → format_refusal first l ≡ 21
  unfolding format_refusal
  zero_21 h e = rw (not_lone first l (omega arith), le-ltb (length l) 2 h, eq-eqb (body_length l) 0 e)

  pub short_21 : 2 ≤ length l → 0 < body_length l → length l < 2 + body_length l → format_refusal first l ≡ 21
  unfolding format_refusal
  short_21 h b k =
      rw (
        not_lone first l (omega arith),
        le-ltb (length l) 2 h,
        ne_eqb (body_length l) 0 (λ e. omega arith),
        lt-ltb (length l) (2 + body_length l) k,
      )

  -- of a record that is all there
  pub there : {body kind : ℕ} → Whole body kind l
      → format_refusal first l ≡ pick (eqb body (kind_length kind)) (pick (is_in_place first kind) 0 23) 22
  unfolding format_refusal
  there {body} w =
      rw (
        not_lone first l (omega arith),
        le-ltb (length l) 2 (omega arith),
        ← w.length_read,
        ← w.kind_read,
        ne_eqb body 0 (λ e. omega arith),
        le-ltb (length l) (2 + body) w.all_there,
      )

-- the bytes of a whole record whose length fits its kind
module _ {body kind : ℕ} {l : List ℕ} (w : Whole body kind l) (fits : body ≡ kind_length kind) where
  pub parameter_room : is_parameters kind ≡ true → Room parameters_bytes l 0
  parameter_room e = record { inside = omega (arith, w.all_there, fits, length_16 kind e) }

  pub packet_body : is_parameters kind ≡ false → (kind ≡ 2) × (body ≡ packet_length)
  packet_body e =
      let two = packet_kind kind e (omega (arith, w.some_body, fits)) in
      (two, fits ∙ rw two length_14)

  pub packet_room : is_parameters kind ≡ false → Room packet_bytes l 0
  packet_room e = record { inside = omega (arith, w.all_there, (packet_body e).1) }

-- what a record that is not refused is: whole, of the length of its kind, and in its place
pub record Formed (first : Bool) (l : List ℕ) : Type 0 where
  pub length_fits : body_length l ≡ kind_length (kind_of l)
  pub all_there : 2 + body_length l ≤ length l
  pub some_body : 0 < body_length l
  pub in_place : is_in_place first (kind_of l) ≡ true

pub formed : (first : Bool) (l : List ℕ) → format_refusal first l ≡ 0 → Formed first l
unfolding format_refusal
formed first l =
    let P : ℕ → Type 0 = λ n. n ≡ 0 → Formed first l in
    pick_either P (lone first l) (λ h z. absurd (omega arith)) (λ h1.
    pick_either P (ltb (length l) 2) (λ h z. absurd (omega arith)) (λ h2.
    pick_either P (eqb (body_length l) 0) (λ h z. absurd (omega arith)) (λ h3.
    pick_either P (ltb (length l) (2 + body_length l)) (λ h z. absurd (omega arith)) (λ h4.
    pick_either P (eqb (body_length l) (kind_length (kind_of l)))
    (λ h5. pick_either P (is_in_place first (kind_of l)) (λ h6 z. record {
      length_fits = eqb-true _ _ h5;
      all_there = ltb-false _ _ h4;
      some_body = let n = eqb-false (body_length l) 0 h3 in omega arith;
      in_place = h6;
    }) (λ h z. absurd (omega arith)))
    (λ h z. absurd (omega arith))))))
